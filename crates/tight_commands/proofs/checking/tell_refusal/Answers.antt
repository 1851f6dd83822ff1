use Rattle.std.proofs.Common.{refl}
use Rattle.run_status.specs.declared.status.Status.TheVariants.{TightRefused}
use Rattle.tight_commands.specs.Lines.{refused_tight_line}
use Rattle.tight_commands.proofs.checking.tell_refusal.Goals as goal

pub returns-in-Err : goal.returns-in-Err
returns-in-Err g c = record {
  took = λ n cert bytes is. (refused_tight_line c.args.refusal, (TightRefused c.args.refusal, (record { refused = is; own = c.in_default.not-Memory }, refl)), c.in-Err.ensures.wrote);
  told = c.in_default.not-Memory;
  write_fault = λ e. c.in-Err.ensures.failed;
  memory = λ e. absurd (cc);
}
