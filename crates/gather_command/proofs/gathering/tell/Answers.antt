use Rattle.std.proofs.Common.{refl}
use Rattle.gather_command.specs.Brought.{text_of}
use Rattle.run_status.specs.declared.status.Status.TheVariants as statuses
use Rattle.gather_command.proofs.gathering.tell.Goals as goal

pub returns-in-Ok-clause-took : goal.returns-in-Ok-clause-took
returns-in-Ok-clause-took g c = λ n is. (text_of n c.args.gathered.now, (refl, refl), c.in-Ok.ensures.wrote n is)

pub returns-in-Err-clause-took : goal.returns-in-Err-clause-took
returns-in-Err-clause-took g c = λ n is. (text_of n c.args.gathered.now, (statuses.Done, (refl, refl)), c.in-Err.ensures.wrote n is)
