use Rattle.std.proofs.Common.{◌≡◌, ℤ, FitsSigned, rules}
use Rattle.std.proofs.lemmas.Int.{to_z-of_z}
use Rattle.std.specs.Int.{int_min, int_max}
use mir.Syntax.{w128}
use Rattle.box_space.proofs.variables.products.Goals as goal

-- a function of the results of two
joined : (f : ℤ → ℤ → ℤ) (a b d e p q r s u v w : ℤ) → p ≡ a → q ≡ b → r ≡ d → s ≡ e → u ≡ f p q → v ≡ f r s → w ≡ f u v → w ≡ f (f a b) (f d e)
joined f a b d e p q r s u v w pa qb rd se uf vf wf = cc

pub returns-clause-low : goal.returns-clause-low
returns-clause-low c =
    let low = c.ranges.a_low in
    let high = c.ranges.a_high in
    let other_low = c.ranges.b_low in
    let other_high = c.ranges.b_high in
    let a : FitsSigned w128 c.product-low_low.result = search rules in
    let b : FitsSigned w128 c.product-low_high.result = search rules in
    let d : FitsSigned w128 c.product-high_low.result = search rules in
    let e : FitsSigned w128 c.product-high_high.result = search rules in
    let f : FitsSigned w128 c.least.result = search rules in
    let g : FitsSigned w128 c.least-2.result = search rules in
    let h : FitsSigned w128 c.least-3.result = search rules in
    let first = simp to_z-of_z at c.least.ensures in
    let second = simp to_z-of_z at c.least-2.ensures in
    let third = simp to_z-of_z at c.least-3.ensures in
    simp to_z-of_z (joined int_min _ _ _ _ _ _ _ _ _ _ _ (simp to_z-of_z at c.product-low_low.ensures) (simp to_z-of_z at c.product-low_high.ensures)
    (simp to_z-of_z at c.product-high_low.ensures) (simp to_z-of_z at c.product-high_high.ensures) first second third)

pub returns-clause-high : goal.returns-clause-high
returns-clause-high c =
    let low = c.ranges.a_low in
    let high = c.ranges.a_high in
    let other_low = c.ranges.b_low in
    let other_high = c.ranges.b_high in
    let a : FitsSigned w128 c.product-low_low.result = search rules in
    let b : FitsSigned w128 c.product-low_high.result = search rules in
    let d : FitsSigned w128 c.product-high_low.result = search rules in
    let e : FitsSigned w128 c.product-high_high.result = search rules in
    let f : FitsSigned w128 c.greatest.result = search rules in
    let g : FitsSigned w128 c.greatest-2.result = search rules in
    let h : FitsSigned w128 c.greatest-3.result = search rules in
    let first = simp to_z-of_z at c.greatest.ensures in
    let second = simp to_z-of_z at c.greatest-2.ensures in
    let third = simp to_z-of_z at c.greatest-3.ensures in
    simp to_z-of_z (joined int_max _ _ _ _ _ _ _ _ _ _ _ (simp to_z-of_z at c.product-low_low.ensures) (simp to_z-of_z at c.product-low_high.ensures)
    (simp to_z-of_z at c.product-high_low.ensures) (simp to_z-of_z at c.product-high_high.ensures) first second third)
