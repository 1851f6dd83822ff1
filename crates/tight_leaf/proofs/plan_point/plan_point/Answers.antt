use Rattle.std.proofs.Common.{◌≡◌, ◌∙◌, ◌+◌, ◌<◌, ◌++◌, ◌∷◌, [], ℕ, pos, ◌*ℤ◌, ℤ, get_or, length, add-one, sym, ap, subst, arith, List, FitsSigned, rules, to_z, of_z}
use Rattle.std.proofs.lemmas.Int.{to_z-of_z}
use mir.Syntax.{w128}
use Rattle.integers.specs.Numbers.{tabulate}
use Rattle.integers.specs.Sums.{product_below}
use Rattle.integers.proofs.Tabulate.{get_or-tabulate, length-tabulate}
use Rattle.pool_model.specs.Network.{net_of}
use Rattle.pool_model.specs.Plan.{factor, plan_of}
use Rattle.row_model.specs.Variables.{by_number, variables}
use Rattle.plan_core.specs.Views.{shown_plan}
use Rattle.tight_leaf.specs.PlanPoints.{plan_values}
use Rattle.tight_leaf.proofs.PlanValues.{values-are}
use Rattle.tight_leaf.proofs.plan_point.plan_point.Goals as goal

push-more : (f : ℕ → ℤ) (xs ys : List ℤ) (i : ℕ) (v : ℤ) → ys ≡ xs ++ v ∷ [] → xs ≡ tabulate f i → v ≡ f i → ys ≡ tabulate f (i + 1)
push-more f xs ys i v e h k = e ∙ ap (λ (l : List ℤ). l ++ v ∷ []) h ∙ ap (λ (z : ℤ). tabulate f i ++ z ∷ []) k ∙ sym (ap (tabulate f) (add-one i))

pub returns-clause-point : goal.returns-clause-point
returns-clause-point c =
    let n = net_of c.args.net.now in
    let w = shown_plan c.args.plan.now in
    let f = by_number n (plan_values n w) in
    record {
      base = c.denominator.ensures;
      value = λ v lt.
          ap (λ (z : ℤ). z *ℤ pos (product_below (factor n (plan_of n w)) n.pools))
          (ap (λ (l : List ℤ). get_or l v (pos 0)) c.loop-var.invariant ∙ get_or-tabulate f c.loop-var.var v (pos 0) (omega (arith, lt, c.vars-var-end.ensures.count)))
          ∙ values-are n w c.vars-var-end.ensures.limited c.requires.written v lt;
    }

pub loop-var-preserved : goal.loop-var-preserved
loop-var-preserved c =
    let n = net_of c.args.net.now in
    let w = shown_plan c.args.plan.now in
    let fits : FitsSigned w128 c.value_of.result = search rules in
    push-more (by_number n (plan_values n w)) c.loop-var.values.items c.push.new.self.items c.loop-var.var (to_z w128 (of_z w128 c.value_of.result))
    c.in_ok-push.ensures.items c.loop-var.invariant (to_z-of_z w128 c.value_of.result fits ∙ c.value_of.ensures ∙ sym (c.variable_at.ensures.same (plan_values n w)))

pub returns-clause-shape : goal.returns-clause-shape
returns-clause-shape c =
    let n = net_of c.args.net.now in
    let w = shown_plan c.args.plan.now in
    let f = by_number n (plan_values n w) in
    let all : c.loop-var.var ≡ variables n = omega (arith, c.vars-var-end.ensures.count) in
    record {
      base = subst (λ (k : ℕ). 0 < k) (sym c.denominator.ensures) c.requires.obeys.denominator;
      values = ap (λ (l : List ℤ). length l) c.loop-var.invariant ∙ length-tabulate f c.loop-var.var ∙ all;
    }
