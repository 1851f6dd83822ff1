use Rattle.std.proofs.Common.{◌≡◌, ◌+◌, ℕ, subst, sym, ◌∙◌, ap, ℤ, pos, ◌+ℤ◌, ◌*ℤ◌, FitsSigned, w64, add-one, arith}
use Rattle.std.proofs.lemmas.Int.{ints, to_z-of_z}
use mir.Syntax.{w128}
use mir.Val.{to_z}
use Rattle.integers.specs.Sums.{int_sum_below}
use Rattle.pool_model.specs.Network.{Network, net_of, IsLimited}
use Rattle.pool_model.specs.Starting.{reach_cost, margin}
use Rattle.blend_network.proofs.Margins.{reach_cost-within}
use Rattle.blend_network.proofs.network.Network.reach_bound.Goals as goal

pub best_margin-margin-requires-clause-cost : goal.best_margin-margin-requires-clause-cost
best_margin-margin-requires-clause-cost c =
    let limited : IsLimited (net_of c.args.self.now) = subst (λ (n : Network). IsLimited (net_of n)) c.self.view_is c.self.invariant.limited in
    λ x is. reach_cost-within (net_of c.args.self.now) c.loop-j.j limited x (sym c.reach_cost.ensures ∙ is)

-- one more product
sum_more : (f : ℕ → ℤ) (j : ℕ) (total part : ℤ) → total ≡ int_sum_below f j → part ≡ f j → total +ℤ part ≡ int_sum_below f (j + 1)
sum_more f j total part e k = rw add-one (ap (λ z. z +ℤ part) e ∙ ap (λ z. int_sum_below f j +ℤ z) k)

pub loop-j-preserved : goal.loop-j-preserved
loop-j-preserved c =
    let size = c.earnings-earned.ensures.size in
    let sofar = c.loop-j.invariant.size in
    let fm : FitsSigned w64 c.product_max.result = omega (arith, ints, c.product_max.type_inv) in
    let fg : FitsSigned w64 c.best_margin-margin.result = omega (arith, ints, c.best_margin-margin.type_inv) in
    let fp : FitsSigned w64 c.product_price.result = omega (arith, ints, c.product_price.type_inv) in
    let fe : FitsSigned w128 c.earnings-earned.result = omega (arith, ints, size) in
    let ft : FitsSigned w128 (to_z w128 c.loop-j.earned-bits +ℤ c.earnings-earned.result) = omega (arith, ints, size, sofar) in
    let e1 = simp to_z-of_z at c.earnings-earned.ensures.earnings in
    let e2 = simp to_z-of_z at c.best_margin-margin.ensures.margin in
    let part : c.earnings-earned.result
    ≡ pos ((net_of c.args.self.now).product_max c.loop-j.j) *ℤ margin (reach_cost (net_of c.args.self.now) c.loop-j.j) ((net_of c.args.self.now).price c.loop-j.j)
    = cc (e1, e2, c.product_max.ensures.value, c.reach_cost.ensures, c.product_price.ensures.value) in
    record { sum = simp to_z-of_z (sum_more _ c.loop-j.j _ _ c.loop-j.invariant.sum part); size = (omega (arith, ints, size, sofar), omega (arith, ints, size, sofar)) }
