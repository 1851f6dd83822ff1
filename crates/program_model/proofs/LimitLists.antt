-- Each limit that is set stands in the list of limits.
use Rattle.std.proofs.Common.{◌≡◌, ℕ, zero, suc, ◌<◌, ◌⊎◌, inl, inr, List, [], ◌∷◌, ◌++◌, Option, Some, ℤ, add-one, arith, sym, ap, subst, ◌∙◌}
use Rattle.std.specs.Prelude.{option_map}
use Rattle.std.specs.List.{Contains, filter_map}
use Rattle.std.proofs.lemmas.List.Elements.{Contains-append_left, Contains-append_right, Contains-push, filter_map-append}
use Rattle.integers.specs.Numbers.{tabulate}
use Rattle.pool_model.specs.Limits.{Limit, product_limits, limits}
use Rattle.pool_model.proofs.Limits.{product_limits-some, limits-more}

last_or_below : (k n : ℕ) → k < suc n → (k ≡ n) ⊎ (k < n)
last_or_below k n h = grind arith

product_limits-every : (limit : ℕ → ℕ → Option ℤ) (j q k : ℕ) (u : ℤ) → k < q → limit j k ≡ Some u → Contains (product_limits limit q j) record { product = j; quality = k; limit = u }
product_limits-every limit j zero k u h e = absurd (omega arith)
product_limits-every limit j (suc q) k u h e =
    let found : Limit = record { product = j; quality = k; limit = u } in
    elim (last_or_below k q h) [
      | inl same ↦
          subst (λ (m : ℕ). Contains (product_limits limit (suc m) j) found) same
          (subst (λ (xs : List Limit). Contains xs found) (sym (ap (λ m. product_limits limit m j)
          (sym (add-one k)) ∙ product_limits-some limit j k u e)) (Contains-push (product_limits limit k j) found))
      | inr below ↦
          let kept = λ (i : ℕ). option_map (λ (z : ℤ). let v : Limit = record { product = j; quality = i; limit = z } in v) (limit j i) in
          subst (λ (xs : List Limit). Contains xs found) (sym (filter_map-append kept (tabulate (λ i. i) q) (q ∷ [])))
          (Contains-append_left (product_limits limit q j) (filter_map kept (q ∷ [])) found (product_limits-every limit j q k u below e))
    ]

pub limits-every : (limit : ℕ → ℕ → Option ℤ) (products qualities j k : ℕ) (u : ℤ) → j < products → k < qualities → limit j k ≡ Some u
    → Contains (limits limit products qualities) record { product = j; quality = k; limit = u }
limits-every limit zero qualities j k u h lk e = absurd (omega arith)
limits-every limit (suc m) qualities j k u h lk e =
    let found : Limit = record { product = j; quality = k; limit = u } in
    let more : limits limit (suc m) qualities ≡ limits limit m qualities ++ product_limits limit qualities m = ap (λ i. limits limit i qualities) (sym (add-one m)) ∙ limits-more limit qualities m in
    elim (last_or_below j m h) [
      | inl same ↦
          subst (λ (xs : List Limit). Contains xs found) (sym more)
          (Contains-append_right (limits limit m qualities) (product_limits limit qualities m) found
          (subst (λ (i : ℕ). Contains (product_limits limit qualities i) found) same (product_limits-every limit j qualities k u lk e)))
      | inr below ↦
          subst (λ (xs : List Limit). Contains xs found) (sym more)
          (Contains-append_left (limits limit m qualities) (product_limits limit qualities m) found (limits-every limit m qualities j k u below lk e))
    ]
