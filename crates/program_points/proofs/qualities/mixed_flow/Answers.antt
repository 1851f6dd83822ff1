use Rattle.std.proofs.Common.{ℕ, ℤ, List, ◌≤◌, ◌^◌, get_or, unsigned_abs, FitsSigned, rules, arith, subst, sym}
use mir.Syntax.{w128}
use Rattle.std.proofs.lemmas.Int.{to_z-of_z}
use Rattle.pool_model.specs.Network.{net_of}
use Rattle.plan_core.specs.Views.{shown_plan}
use Rattle.program_points.proofs.WrittenP.{weighed-small, out-small}
use Rattle.program_points.proofs.qualities.mixed_flow.Goals as goal

pub flowing-requires-clause-quality : goal.flowing-requires-clause-quality
flowing-requires-clause-quality c =
    let n = net_of c.args.net.now in
    let fits : FitsSigned w128 c.weighed_quality-held.result = search rules in
    let counts = c.sizes-counts.ensures.counts in
    simp to_z-of_z (subst (λ (z : ℤ). unsigned_abs z ≤ 2 ^ 57) (sym c.weighed_quality-held.ensures.value)
    (weighed-small n (shown_plan c.args.plan.now) c.out-pool.result.0 c.place_of-out.result.1 c.sizes-counts.ensures.limited c.requires.written c.out-pool.ensures.known_pool
    (omega (arith, c.place_of-out.ensures.column_below, counts.qualities))))

pub flowing-requires-clause-flow : goal.flowing-requires-clause-flow
flowing-requires-clause-flow c =
    let n = net_of c.args.net.now in
    let counts = c.sizes-counts.ensures.counts in
    subst (λ (xs : List ℕ). get_or xs c.place_of-out.result.0 0 ≤ 2 ^ 56) (sym c.as_slice.ensures.value)
    (out-small n (shown_plan c.args.plan.now) c.place_of-out.result.0 c.sizes-counts.ensures.limited c.requires.written c.requires.obeys (omega (arith, c.place_of-out.ensures.row_below, counts.outs)))
