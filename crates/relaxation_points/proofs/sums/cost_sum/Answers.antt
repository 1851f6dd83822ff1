use Rattle.std.proofs.Common.{◌≡◌, ℕ, ◌<◌, ◌^◌, ℤ, pos, get_or, FitsSigned, arith, rules, ap, ◌∙◌}
use Rattle.std.proofs.lemmas.Int.{to_z-of_z}
use mir.Syntax.{w64, w128}
use Rattle.pool_model.specs.Network.{net_of}
use Rattle.row_model.specs.Variables.{variables, by_number, costs}
use Rattle.relaxation_points.proofs.Adding.{more-value, more-weight, part-weight}
use Rattle.relaxation_points.proofs.Comparing.{on_err}
use Rattle.relaxation_points.proofs.sums.cost_sum.Goals as goal

pub returns-in_err-sum-clause-wide : goal.returns-in_err-sum-clause-wide
returns-in_err-sum-clause-wide c =
    let n = net_of c.args.net.now in
    let i = c.loop-var.var in
    let f : ℕ → ℤ = by_number n (costs n) in
    let g : ℕ → ℤ = λ v. get_or c.args.point.now.values.items v (pos 0) in
    let lt : i < variables n = omega (arith, c.vars-var-end.ensures.count) in
    let small : FitsSigned w64 c.var_cost.result = search rules in
    let cost : FitsSigned w128 c.from-cost.result = search rules in
    let value : FitsSigned w128 (get_or c.as_slice-values.result.now i (pos 0)) = search rules in
    let cost_is : c.from-cost.result ≡ f i = (simp to_z-of_z at c.from-cost.ensures) ∙ c.var_cost.ensures.cost in
    let value_is : get_or c.as_slice-values.result.now i (pos 0) ≡ g i = ap (λ xs. get_or xs i (pos 0)) c.as_slice-values.ensures.value in
    on_err c.from_residual.result (part-weight f g i (variables n) _ (2 ^ 126) _ _ lt c.loop-var.invariant.weight (simp to_z-of_z at c.in_err-sum.ensures.wide) cost_is value_is)

pub loop-var-preserved : goal.loop-var-preserved
loop-var-preserved c =
    let n = net_of c.args.net.now in
    let i = c.loop-var.var in
    let f : ℕ → ℤ = by_number n (costs n) in
    let g : ℕ → ℤ = λ v. get_or c.args.point.now.values.items v (pos 0) in
    let small : FitsSigned w64 c.var_cost.result = search rules in
    let cost : FitsSigned w128 c.from-cost.result = search rules in
    let value : FitsSigned w128 (get_or c.as_slice-values.result.now i (pos 0)) = search rules in
    let sum : FitsSigned w128 c.in_ok-sum.sum = search rules in
    let cost_is : c.from-cost.result ≡ f i = (simp to_z-of_z at c.from-cost.ensures) ∙ c.var_cost.ensures.cost in
    let value_is : get_or c.as_slice-values.result.now i (pos 0) ≡ g i = ap (λ xs. get_or xs i (pos 0)) c.as_slice-values.ensures.value in
    record {
      weight = more-weight f g i _ _ _ _ c.loop-var.invariant.weight (simp to_z-of_z at c.in_ok-sum.ensures.weight) cost_is value_is;
      narrow = c.in_ok-sum.ensures.narrow;
      small = simp to_z-of_z c.in_ok-sum.ensures.small;
      value = simp to_z-of_z (more-value f g i _ _ _ _ c.loop-var.invariant.value (simp to_z-of_z at c.in_ok-sum.ensures.sum) cost_is value_is);
    }
