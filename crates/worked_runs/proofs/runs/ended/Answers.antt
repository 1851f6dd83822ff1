use Rattle.std.proofs.Common.{refl}
use Rattle.std.specs.Prelude.{IsTrue, true}
use Rattle.pool_cli.proofs.Admitting.{all_admitted}
use Rattle.worked_runs.proofs.runs.ended.Goals as goal

pub run-requires : goal.run-requires
run-requires g c = λ asked asks. all_admitted (λ name. IsTrue true) (λ name. IsTrue ((g.D.Disk.told c.args.disk.now).admits name)) (λ name. refl) c.requires _ asked
