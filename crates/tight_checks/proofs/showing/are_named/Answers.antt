use Rattle.std.proofs.Common.{refl}
use Rattle.std.proofs.lemmas.Bool.{false≢true}
use Rattle.pool_model.specs.Network.{net_of}
use Rattle.relaxation_points.specs.Points.{IsRowOf}
use Rattle.tight_checks.proofs.Fitting.{false_not}
use Rattle.tight_checks.proofs.Naming.{have_all, one_has}
use Rattle.tight_checks.proofs.showing.are_named.Goals as goal

pub returns-then-not-in_form : goal.returns-then-not-in_form
returns-then-not-in_form c = (
  λ t. absurd (false≢true t),
  λ all. absurd (false_not c.in_form.result c.if-not-in_form.true
      (c.in_form.ensures.1 (one_has (IsRowOf (net_of c.args.net.now) c.args.form) c.args.parts.now all c.loop-part.part-index _ c.loop-part-test.true))),
)

pub returns : goal.returns
returns c = (λ t. have_all (IsRowOf (net_of c.args.net.now) c.args.form) c.args.parts.now c.loop-part.part-index c.loop-part-test.false c.loop-part.invariant, λ all. refl)
