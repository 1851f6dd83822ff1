-- Numbers that keep the lines of P are a point of P.
use Rattle.std.proofs.Common.{All, ◌≡◌, ℕ, ◌+◌, ◌*◌, ◌/◌, ◌%◌, ◌<◌, ◌++◌, ℤ, pos, ◌*ℤ◌, unsigned_abs, arith, refl, sym, ap, subst, ◌∙◌}
use Rattle.std.proofs.lemmas.Nat.{div-mul-add, mod-mul-add}
use Rattle.integers.specs.Numbers.{tabulate}
use Rattle.integers.proofs.Ring.{linear}
use Rattle.integers.proofs.Grids.{grid-below}
use Rattle.pool_model.specs.Network.{Net}
use Rattle.row_model.specs.Boxes.{root, qual, root_low, root_high, qual_number}
use Rattle.row_model.specs.Variables.{lows, highs}
use Rattle.row_model.specs.Catalogue.{Row, network_families, HoldsOfEach}
use Rattle.row_model.specs.Lift.{MeetsRow}
use Rattle.row_book.specs.declared.catalogue.Group.TheVariants as groups
use Rattle.row_model.proofs.Families.{each-append}
use Rattle.box_space.specs.declared.coordinates.Form.TheVariants.{P}
use Rattle.program_model.specs.Rows.{exact_p_families, quality_values, SolvesP}
use Rattle.program_text.specs.Names.{named}
use Rattle.program_text.specs.declared.names.Symbol.TheVariants as symbols
use Rattle.printed_program.specs.Numbers.{Numbers, Keeps, IsPointOf}
use Rattle.printed_program.specs.Printed.{group_rows, mixed_product, program_lines}
use Rattle.printed_program.specs.Points.{quality_point_at}
use Rattle.printed_program.proofs.Lists.{All-front, All-behind, at-tabulate}
use Rattle.printed_program.proofs.VariableKinds.{quality_number}
use Rattle.printed_program.proofs.Scaling.{AreTimes, times-number, times-nothing, row-times}
use Rattle.printed_program.proofs.Terms.{numbers_of, numbers-named, name-quality, number-quality}
use Rattle.printed_program.proofs.Groups.{group-meets}
use Rattle.printed_program.proofs.Ends.{IsWithin, ends-kept, variables-kept, quality-low, quality-high, unsigned}
use Rattle.printed_program.proofs.Maxima.{maxima-kept}
use Rattle.printed_program.proofs.Parts.{KeepsParts, to_parts, each-both, feed-signed, out-signed, direct-signed}

-- a row of P has no flow along a path and no proportion
pub record IsOfP (r : Row) : Type 0 where
  pub w : (a : ℕ) → r.coefs.w a ≡ pos 0
  pub proportion : (e : ℕ) → r.coefs.proportion e ≡ pos 0

pub network-of_p : (n : Net) → HoldsOfEach IsOfP (network_families n)
network-of_p n = (
  λ i lt. record { w = λ a. refl; proportion = λ e. refl },
  (
    λ i lt. record { w = λ a. refl; proportion = λ e. refl },
    (λ i lt. record { w = λ a. refl; proportion = λ e. refl }, (λ i lt. record { w = λ a. refl; proportion = λ e. refl }, (λ i lt. record { w = λ a. refl; proportion = λ e. refl }, tt))),
  ),
)

pub own-of_p : (n : Net) → HoldsOfEach IsOfP (exact_p_families n)
own-of_p n = (
  λ i lt. record { w = λ a. refl; proportion = λ e. refl },
  (λ i lt. record { w = λ a. refl; proportion = λ e. refl }, (λ i lt. record { w = λ a. refl; proportion = λ e. refl }, tt)),
)

module _ (n : Net) (q : Numbers) (h : KeepsParts n P q) where
  -- the point's numbers are those of the names, times the denominator
  multiples : (r : Row) → IsOfP r → AreTimes n (pos q.base) r.coefs (quality_values (quality_point_at n q)) (numbers_of n q.value)
  multiples r is =
      let k = pos q.base in
      let v = numbers_of n q.value in
      let w = quality_values (quality_point_at n q) in
      record {
        x = λ e lt. times-number k (r.coefs.x e) (w.x e) (v.x e) (ap (λ z. k *ℤ z) (unsigned (v.x e) (feed-signed n P q h.variables e lt refl)));
        y = λ o lt. times-number k (r.coefs.y o) (w.y o) (v.y o) (ap (λ z. k *ℤ z) (unsigned (v.y o) (out-signed n P q h.variables o lt refl)));
        z = λ e lt. times-number k (r.coefs.z e) (w.z e) (v.z e) (ap (λ z. k *ℤ z) (unsigned (v.z e) (direct-signed n P q h.variables e lt refl)));
        w = λ a lt. times-nothing k (r.coefs.w a) (w.w a) (v.w a) (is.w a);
        proportion = λ e lt. times-nothing k (r.coefs.proportion e) (w.proportion e) (v.proportion e) (is.proportion e);
        quality = λ l j lt lj. times-number k (r.coefs.quality l j) (w.quality l j) (v.quality l j) refl;
        mixed = λ o j lt lj. times-number k (r.coefs.mixed o j) (w.mixed o j) (v.mixed o j) refl;
      }

  own_rows : All (Keeps q) (group_rows n groups.P)
  own_rows = All-front (Keeps q) (group_rows n groups.P) (tabulate (mixed_product n) (n.outs * n.qualities)) h.own

  own_products : All (Keeps q) (tabulate (mixed_product n) (n.outs * n.qualities))
  own_products = All-behind (Keeps q) (group_rows n groups.P) (tabulate (mixed_product n) (n.outs * n.qualities)) h.own

  each_row-met : HoldsOfEach (MeetsRow n (quality_values (quality_point_at n q)) (q.base * q.base)) (network_families n ++ exact_p_families n)
  each_row-met =
      let v = numbers_of n q.value in
      let w = quality_values (quality_point_at n q) in
      each-both IsOfP (MeetsRow n v q.base) (MeetsRow n w (q.base * q.base)) (network_families n ++ exact_p_families n)
      (λ r is met. row-times n q.base q.base r w v (multiples r is) met)
      (each-append IsOfP (network_families n) (exact_p_families n) (network-of_p n) (own-of_p n))
      (each-append (MeetsRow n v q.base) (network_families n) (exact_p_families n)
      (group-meets n q v groups.Network (numbers-named n q.value) h.network) (group-meets n q v groups.P (numbers-named n q.value) own_rows))

  product-kept : (o k : ℕ) → o < n.outs → k < n.qualities
      → q.value (named symbols.Mixed (o * n.qualities + k)) *ℤ pos q.base
      ≡ q.value (named symbols.Quality (n.out_pool o * n.qualities + k)) *ℤ pos (unsigned_abs (q.value (named symbols.Out o)))
  product-kept o k lo lk =
      let i = o * n.qualities + k in
      let kept = at-tabulate (Keeps q) (mixed_product n) (n.outs * n.qualities) i own_products (grid-below n.outs n.qualities o k lo lk) in
      let says = λ (x y : ℕ). pos 1 *ℤ q.value (named symbols.Mixed i) *ℤ pos q.base ≡ q.value (named symbols.Quality (n.out_pool x * n.qualities + y)) *ℤ q.value (named symbols.Out x) in
      let there = subst (λ (x : ℕ). says x k) (div-mul-add o n.qualities k lk) (subst (says (i / n.qualities)) (mod-mul-add o n.qualities k lk) kept) in
      ap (λ z. z *ℤ pos q.base) (sym (once (q.value (named symbols.Mixed i))))
      ∙ there
      ∙ ap (λ z. q.value (named symbols.Quality (n.out_pool o * n.qualities + k)) *ℤ z) (sym (unsigned (q.value (named symbols.Out o)) (out-signed n P q h.variables o lo refl)))
    where
      once : (z : ℤ) → pos 1 *ℤ z ≡ z
      once z = omega (arith, linear)

  quality-within : (l k : ℕ) → l < n.pools → k < n.qualities
      → IsWithin q.base (root_low n (qual l k)) (root_high n (qual l k)) (q.value (named symbols.Quality (l * n.qualities + k)))
  quality-within l k ll lk =
      let i = l * n.qualities + k in
      let lt = grid-below n.pools n.qualities l k ll lk in
      let row = div-mul-add l n.qualities k lk in
      let column = mod-mul-add l n.qualities k lk in
      ends-kept n P q (quality_number n i) (named symbols.Quality i) (root_low n (qual l k)) (root_high n (qual l k)) (name-quality n i lt)
      (number-quality n (lows n (root n)) i lt ∙ ap (λ (x : ℕ). (root n).low (qual_number n x (i % n.qualities))) row
      ∙ ap (λ (y : ℕ). (root n).low (qual_number n l y)) column ∙ quality-low n l k ll lk)
      (number-quality n (highs n (root n)) i lt ∙ ap (λ (x : ℕ). (root n).high (qual_number n x (i % n.qualities))) row
      ∙ ap (λ (y : ℕ). (root n).high (qual_number n l y)) column ∙ quality-high n l k ll lk)
      refl (variables-kept n P q (quality_number n i) h.variables (omega (arith, lt)))

pub lines-solve_p : (n : Net) (q : Numbers) → IsPointOf (program_lines n P) q → SolvesP n (quality_point_at n q)
lines-solve_p n q h =
    let parts = to_parts n P q h.keeps in
    record {
      base = h.base;
      qual_base = h.base;
      rows = each_row-met n q parts;
      products = product-kept n q parts;
      low = λ l k ll lk. (quality-within n q parts l k ll lk).low;
      high = λ l k ll lk. (quality-within n q parts l k ll lk).high;
      maxima = maxima-kept n P q parts.variables;
    }
