-- Rows as they are written: their terms, and what they weigh.
use Rattle.std.proofs.Common.{◌≡◌, ℕ, ◌+◌, ◌*◌, ◌^◌, ◌<◌, All, ℤ, unsigned_abs, arith, sym, ap, subst, ◌∙◌}
use Rattle.std.specs.List.{sum_by}
use Rattle.pool_model.specs.Network.{Net}
use Rattle.row_model.specs.Boxes.{Box}
use Rattle.row_model.specs.Variables.{variables}
use Rattle.box_space.specs.Lines.{Line}
use Rattle.row_book.specs.Sizes.{end_size, line_weight, coef_in, size_in}
use Rattle.row_book.specs.PartRows.{coef_at, constant_at, IsRow}
use Rattle.row_book.specs.PartSums.{part_weight}
use Rattle.row_book.proofs.Terms.{terms-known, terms-small, coef_in-terms, size_in-terms, weight-terms}

module _ (n : Net) (b : Box) (id : ℕ) (line : Line) (row : IsRow n b id line) where
  pub written-known : All (λ t. t.var < variables n) line.terms
  written-known = subst (λ ts. All (λ t. t.var < variables n) ts) (sym row.terms) (terms-known (coef_at n b id) (variables n))

  pub written-small : All (λ t. unsigned_abs t.coef < 2 ^ 48) line.terms
  written-small = subst (λ ts. All (λ t. unsigned_abs t.coef < 2 ^ 48) ts) (sym row.terms) (terms-small (coef_at n b id) (variables n) (2 ^ 48) row.small)

  pub written-coef : (v : ℕ) → v < variables n → coef_in line.terms v ≡ coef_at n b id v
  written-coef v lt = ap (λ ts. coef_in ts v) row.terms ∙ coef_in-terms (coef_at n b id) (variables n) v lt

  pub written-size : (v : ℕ) → v < variables n → size_in line.terms v < 2 ^ 48
  written-size v lt = omega (arith, ap (λ ts. size_in ts v) row.terms, size_in-terms (coef_at n b id) (variables n) v lt, row.small v lt)

  pub written-weight : (m : ℤ) → line_weight n b m line ≡ part_weight n b record { row = id; mult = m }
  written-weight m =
      ap (λ z. unsigned_abs m * unsigned_abs z + sum_by (λ t. unsigned_abs m * unsigned_abs t.coef * end_size n b t.var) line.terms) row.constant
      ∙ ap (λ ts. unsigned_abs m * unsigned_abs (constant_at n b id) + sum_by (λ t. unsigned_abs m * unsigned_abs t.coef * end_size n b t.var) ts) row.terms
      ∙ ap (λ z. unsigned_abs m * unsigned_abs (constant_at n b id) + z) (weight-terms (unsigned_abs m) (coef_at n b id) (end_size n b) (variables n))
