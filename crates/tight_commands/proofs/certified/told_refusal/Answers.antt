use Rattle.std.proofs.Common.{refl}
use Rattle.printed_lines.specs.Verdicts.{refused_line}
use Rattle.run_status.specs.declared.status.Status.TheVariants.{Refused}
use Rattle.tight_commands.proofs.certified.told_refusal.Goals as goal

pub returns-in-Err : goal.returns-in-Err
returns-in-Err g c = record {
  refused = λ n bytes is. (c.args.refusal, record { refused = is; own = c.in_default.not-Memory });
  took = λ n bytes is. (refused_line c.args.refusal, (Refused c.args.refusal, (record { refused = is; own = c.in_default.not-Memory }, refl)), c.in-Err.ensures.wrote);
  write_fault = λ e. c.in-Err.ensures.failed;
  memory = λ e. absurd (cc);
}
