use Rattle.std.proofs.Common.{ℤ, FitsSigned, rules, sym, subst}
use Rattle.std.proofs.lemmas.Int.{to_z-of_z}
use mir.Syntax.{w128}
use Rattle.pool_model.specs.Network.{net_of}
use Rattle.pool_model.specs.Plan.{plan_of}
use Rattle.box_space.specs.Views.{shown_box}
use Rattle.plan_core.specs.Views.{shown_plan}
use Rattle.relaxation_points.specs.Points.{IsWitness}
use Rattle.relaxation_points.specs.Views.{shown_point}
use Rattle.tight_leaf.proofs.LeafComes.{not_both}
use Rattle.tight_leaf.proofs.PlanDecides.{decides-witness, witness-decides}
use Rattle.tight_leaf.proofs.leaf.witness_of.Goals as goal

pub returns-then-is_witness : goal.returns-then-is_witness
returns-then-is_witness c =
    let n = net_of c.args.net.now in
    let w = shown_plan c.args.plan.now in
    let b = shown_box c.args.v.now in
    let q = shown_point c.in_ok-point.point in
    let lim = c.plan_point.ensures.limited in
    let both = c.is_witness.ensures.0 c.if-is_witness.true in
    let wide : FitsSigned w128 c.args.bound = search rules in
    let witness : IsWitness n c.args.form b c.args.bound q = subst (λ (z : ℤ). IsWitness n c.args.form b z q) (to_z-of_z w128 c.args.bound wide) both.1 in (
      witness-decides n w lim c.requires.written c.requires.obeys c.args.form b c.args.bound q c.in_ok-point.ensures.point (c.cost_law.ensures.cost n (plan_of n w) lim) witness,
      c.in_ok-point.ensures.point,
      record { shape = both.0; point = witness },
    )

pub returns-else-is_witness : goal.returns-else-is_witness
returns-else-is_witness c = λ d.
    let n = net_of c.args.net.now in
    let w = shown_plan c.args.plan.now in
    let b = shown_box c.args.v.now in
    let q = shown_point c.in_ok-point.point in
    let lim = c.plan_point.ensures.limited in
    let witness : IsWitness n c.args.form b c.args.bound q =
    decides-witness n w lim c.requires.written c.requires.obeys c.args.form b c.args.bound q c.in_ok-point.ensures.point (c.cost_law.ensures.cost n (plan_of n w) lim) c.requires.view.proper
    c.plan_point.ensures.few (λ lies v lt. c.ends_law.ensures.low n b (plan_of n w) v lim c.requires.obeys lies lt)
    (λ lies v lt. c.ends_law.ensures.high n b (plan_of n w) v lim c.requires.obeys lies lt) (λ lies id lt. c.row_law.ensures.holds n b (plan_of n w) id lim c.requires.obeys lies lt) d in
    let wide : FitsSigned w128 c.args.bound = search rules in
    not_both c.is_witness.result c.if-is_witness.false
    (c.is_witness.ensures.1 (c.in_ok-point.ensures.shape, subst (λ (z : ℤ). IsWitness n c.args.form b z q) (sym (to_z-of_z w128 c.args.bound wide)) witness))
