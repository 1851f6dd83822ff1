use Rattle.std.proofs.Common.{FitsSigned, pos, ◌*ℤ◌, ◌≤ℤ◌, sym, subst, rules}
use Rattle.std.specs.Int.{w128}
use Rattle.std.proofs.lemmas.Int.{to_z-of_z}
use Rattle.pool_model.specs.Network.{net_of}
use Rattle.plan_core.specs.Views.{shown_plan}
use Rattle.tree_certificate.proofs.Found.{above_bound, small_base}
use Rattle.tree_certificate.proofs.certificate.gap.Goals as goal

pub gap_between-requires-clause-few : goal.gap_between-requires-clause-few
gap_between-requires-clause-few c = small_base (net_of c.args.net.now) (shown_plan c.args.plan) c.cost_of-cost.result c.cost_of-cost.ensures.cost

pub gap_between-requires-clause-above : goal.gap_between-requires-clause-above
gap_between-requires-clause-above c =
    let fits : FitsSigned w128 c.args.bound = search rules in
    subst (λ z. (z *ℤ pos c.cost_of-cost.result.base) ≤ℤ c.cost_of-cost.result.num) (sym (to_z-of_z w128 c.args.bound fits))
    (above_bound (net_of c.args.net.now) (shown_plan c.args.plan) c.cost_of-cost.result c.args.bound c.requires.holds c.cost_of-cost.ensures.cost)
