use Rattle.std.proofs.Common.{◌≤◌, ◌^◌, ◌∙◌, ℤ, unsigned_abs, FitsSigned, rules, sym, subst}
use Rattle.std.proofs.lemmas.Int.{to_z-of_z}
use mir.Syntax.{w128}
use Rattle.pool_model.specs.Network.{net_of}
use Rattle.box_space.specs.Variables.{IsVariable}
use Rattle.box_space.specs.declared.variables.Variable.{Variable}
use Rattle.box_space.specs.declared.variables.Variable.TheVariants.{Mixed}
use Rattle.plan_core.specs.Views.{shown_plan}
use Rattle.tight_leaf.proofs.PlanValues.{out-small}
use Rattle.tight_leaf.proofs.plan_point.value_of.Goals as goal

pub product-requires-clause-second : goal.product-requires-clause-second
product-requires-clause-second c =
    let fits : FitsSigned w128 c.outflow.result = search rules in
    subst (λ (z : ℤ). unsigned_abs z ≤ 2 ^ 56) (sym (to_z-of_z w128 c.outflow.result fits ∙ c.outflow.ensures))
    (out-small (net_of c.args.net.now) (shown_plan c.args.plan.now) c.path-feed.result.1 c.requires.limited c.requires.written c.requires.obeys c.path-feed.ensures.known_out)

pub product-requires-in-Mixed-clause-second : goal.product-requires-in-Mixed-clause-second
product-requires-in-Mixed-clause-second c =
    let fits : FitsSigned w128 c.outflow-in-Mixed.result = search rules in
    let among : IsVariable (net_of c.args.net.now) (Mixed c.in-Mixed.out c.in-Mixed.quality) = subst (λ (x : Variable). IsVariable (net_of c.args.net.now) x) c.in-Mixed.is c.requires.among in
    subst (λ (z : ℤ). unsigned_abs z ≤ 2 ^ 56) (sym (to_z-of_z w128 c.outflow-in-Mixed.result fits ∙ c.outflow-in-Mixed.ensures))
    (out-small (net_of c.args.net.now) (shown_plan c.args.plan.now) c.in-Mixed.out c.requires.limited c.requires.written c.requires.obeys among.0)
