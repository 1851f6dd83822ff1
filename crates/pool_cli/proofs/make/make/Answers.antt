use Rattle.std.proofs.Common.{refl, subst, ◌∙◌}
use Rattle.edge_io.specs.Writing.{TookFront}
use Rattle.pool_cli.specs.MakeEnds.{made_text}
use Rattle.run_status.specs.declared.status.Status.TheVariants as statuses
use Rattle.pool_cli.proofs.make.make.Goals as goal

pub returns-in-Ok-clause-took : goal.returns-in-Ok-clause-took
returns-in-Ok-clause-took g c = (
  made_text c.args.number,
  (statuses.Done, refl),
  subst (λ text. TookFront (g.K.Sink.taken c.args.out.now) text (g.K.Sink.taken c.write_whole.new.out)) (c.deref.ensures.value ∙ c.in-Ok.ensures) c.in-Err-write_whole.ensures.wrote,
)
