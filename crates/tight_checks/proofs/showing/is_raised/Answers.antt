use Rattle.std.proofs.Common.{◌<ℤ◌, FitsSigned, rules, arith}
use Rattle.std.proofs.lemmas.Int.{ints, to_z-of_z}
use mir.Syntax.{w128}
use Rattle.pool_model.specs.Network.{net_of}
use Rattle.box_space.specs.Views.{shown_box, shown_proof}
use Rattle.tight_checks.proofs.Fitting.{raised-by}
use Rattle.tight_checks.proofs.showing.is_raised.Goals as goal

pub returns-then-names_rows-clause-holds : goal.returns-then-names_rows-clause-holds
returns-then-names_rows-clause-holds c =
    let low : FitsSigned w128 c.args.low = search rules in
    let shown : FitsSigned w128 c.in-Ok-Bound.shown = search rules in
    let ok = rw c.in-Ok-Bound.field-0-is at c.in-Ok-Bound.ensures.ok in
    let above : c.args.low <ℤ c.in-Ok-Bound.shown = omega (arith, ints, c.if-shown-low.false) in
    raised-by (net_of c.args.net.now) (shown_box c.args.v.now) (shown_proof c.args.proof.now) c.args.form c.args.low c.args.point.now c.in-Ok-Bound.shown c.is_witness.result ok.0 ok.1 above
    (c.names_rows.ensures.0 c.if-names_rows.true) (simp to_z-of_z at c.is_witness.ensures)
