use Rattle.std.proofs.Common.{◌≡◌, ◌+◌, ◌<◌, ℕ, List, length, take, get_or, map, sym, ap, subst, ◌∙◌, ℤ, pos, ◌+ℤ◌, ◌≤ℤ◌, unsigned_abs, FitsSigned, arith}
use Rattle.std.proofs.lemmas.Int.{ints, to_z-of_z}
use Rattle.std.proofs.lemmas.List.{length-map}
use mir.Syntax.{w128}
use Rattle.integers.specs.Sums.{int_sum_by}
use Rattle.integers.proofs.ByList.{int_sum_by_more}
use Rattle.pool_model.specs.Rows.{ProductRow}
use Rattle.network_parts.specs.Parts.{product_row}
use Rattle.network_parts.specs.Faults.{IsProductInRange, no_product_row}
use Rattle.network_parts.proofs.Mapped.{read-map}
use Rattle.blend_network.proofs.network.narrow.stand_in.Goals as goal

more : (f : ProductRow → ℤ) (rows : List ProductRow) (n s : ℕ) (z : ℤ) → n < length rows → pos s ≡ int_sum_by f (take n rows) → f (get_or rows n no_product_row) ≡ z → pos 0 ≤ℤ z
    → pos (s + unsigned_abs z) ≡ int_sum_by f (take (n + 1) rows)
more f rows n s z h e at nonneg =
    let same : pos (s + unsigned_abs z) ≡ pos s +ℤ z = omega (arith, ints) in
    same ∙ ap (λ x. x +ℤ z) e ∙ ap (λ x. int_sum_by f (take n rows) +ℤ x) (sym at) ∙ sym (int_sum_by_more f rows n no_product_row h)

pub loop-row-preserved : goal.loop-row-preserved
loop-row-preserved c =
    let good : IsProductInRange (product_row c.row-item.result)
    = subst (λ r. IsProductInRange (product_row r)) (sym c.row-item.is) (c.requires.ranges c.loop-row.row-index c.row-item.result c.loop-row-test.true) in
    let here : c.loop-row.row-index < length (map product_row c.args.rows.now) = omega (arith, length-map c.args.rows.now product_row, c.loop-row-test.true) in
    let at = read-map product_row c.args.rows.now c.loop-row.row-index c.row-item.result no_product_row here c.row-item.is in
    let fits : FitsSigned w128 c.row-item.result.max = omega (arith, ints, good.max.0, good.max.1) in
    let size = c.loop-row.invariant.size in
    record {
      sum = simp to_z-of_z (more (λ p. p.max) (map product_row c.args.rows.now) c.loop-row.row-index c.loop-row.sum
          c.row-item.result.max here c.loop-row.invariant.sum (ap (λ p. p.max) at) good.max.0);
      size = simp to_z-of_z (omega (arith, ints, good.max.1, size));
    }
