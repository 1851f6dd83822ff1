use Rattle.std.proofs.Common.{refl}
use Rattle.pool_model.specs.Network.{net_of}
use Rattle.program_text.specs.Programs.{program_text}
use Rattle.run_status.specs.declared.status.Status.TheVariants as statuses
use Rattle.pool_cli.proofs.formulate.formulate_network.Goals as goal

pub returns-in-Err-Write-clause-took : goal.returns-in-Err-Write-clause-took
returns-in-Err-Write-clause-took g c = λ files name reads. (
  program_text (net_of c.args.net.now) c.args.form,
  (statuses.Done, record { network = c.args.net.now; reads = reads; spelled = refl; means = c.network_law.ensures c.args.form }),
  rw c.in-Err-Write.field-0-is at c.in-Err-Write.ensures.wrote,
)
