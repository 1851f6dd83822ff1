-- The limits that are set: each is on a product and a quality of the network, how many there are, and one more.
use Rattle.std.proofs.Common.{◌≡◌, ℕ, zero, suc, ◌+◌, ◌*◌, ◌<◌, ◌≤◌, [], ◌∷◌, ◌++◌, All, length, get_or, Option, Some, None, ℤ, add-one, arith, refl, sym, ap, subst, ◌∙◌, length-append}
use Rattle.std.specs.Prelude.{option_map}
use Rattle.std.specs.List.{filter_map}
use Rattle.std.proofs.lemmas.List.{append-nil}
use Rattle.std.proofs.lemmas.List.Elements.{All-get_or, filter_map-append}
use Rattle.std.proofs.lemmas.Grind.{flat_map-append}
use Rattle.integers.specs.Numbers.{tabulate}
use Rattle.integers.proofs.Elements.{All-flat_map, All-filter_map, length-filter_map}
use Rattle.integers.proofs.Tabulate.{All-tabulate, length-tabulate}
use Rattle.pool_model.specs.Network.{Net}
use Rattle.pool_model.specs.Limits.{Limit, product_limits, limits, most_limits, least_limits, no_limit}

-- a limit that is set, on a product and a quality of the network
pub record IsSet (limit : ℕ → ℕ → Option ℤ) (products qualities : ℕ) (u : Limit) : Type 0 where
  pub product : u.product < products
  pub quality : u.quality < qualities
  pub set : limit u.product u.quality ≡ Some u.limit

pub product_limits-set : (limit : ℕ → ℕ → Option ℤ) (products qualities j : ℕ) → j < products → All (IsSet limit products qualities) (product_limits limit qualities j)
product_limits-set limit products qualities j lt =
    All-filter_map (λ k. k < qualities) (IsSet limit products qualities) (λ k. option_map (λ u. record { product = j; quality = k; limit = u }) (limit j k)) (tabulate (λ k. k) qualities)
    (λ k y lk e. set k lk y (limit j k) refl e)
    (All-tabulate (λ k. k < qualities) (λ k. k) qualities (λ k lk. lk))
  where
    set : (k : ℕ) → k < qualities → (y : Limit) (o : Option ℤ) → limit j k ≡ o → option_map (λ u. record { product = j; quality = k; limit = u }) o ≡ Some y → IsSet limit products qualities y
    set k lk y None is e = cc
    set k lk y (Some u) is e =
        let same : record { product = j; quality = k; limit = u } ≡ y = cc in
        subst (λ (l : Limit). IsSet limit products qualities l) same record { product = lt; quality = lk; set = is }

pub limits-set : (limit : ℕ → ℕ → Option ℤ) (products qualities : ℕ) → All (IsSet limit products qualities) (limits limit products qualities)
limits-set limit products qualities =
    All-flat_map (IsSet limit products qualities) (product_limits limit qualities) (tabulate (λ j. j) products)
    (All-tabulate (λ j. All (IsSet limit products qualities) (product_limits limit qualities j)) (λ j. j) products (λ j lt. product_limits-set limit products qualities j lt))

pub most_limit-set : (n : Net) (i : ℕ) → i < length (most_limits n) → IsSet n.most n.products n.qualities (get_or (most_limits n) i no_limit)
most_limit-set n i lt = All-get_or (IsSet n.most n.products n.qualities) (most_limits n) i no_limit lt (limits-set n.most n.products n.qualities)

pub least_limit-set : (n : Net) (i : ℕ) → i < length (least_limits n) → IsSet n.least n.products n.qualities (get_or (least_limits n) i no_limit)
least_limit-set n i lt = All-get_or (IsSet n.least n.products n.qualities) (least_limits n) i no_limit lt (limits-set n.least n.products n.qualities)

-- ---- one more quality, and one more product
pub product_limits-none : (limit : ℕ → ℕ → Option ℤ) (j k : ℕ) → limit j k ≡ None → product_limits limit (k + 1) j ≡ product_limits limit k j
product_limits-none limit j k e =
    let kept = λ (q : ℕ). option_map (λ (u : ℤ). let v : Limit = record { product = j; quality = q; limit = u } in v) (limit j q) in
    ap (λ q. product_limits limit q j) (add-one k) ∙ filter_map-append kept (tabulate (λ q. q) k) (k ∷ []) ∙ ap (λ xs. product_limits limit k j ++ xs) (empty e) ∙ append-nil (product_limits limit k j)
  where
    empty : limit j k ≡ None → filter_map {Y = Limit} (λ q. option_map (λ u. record { product = j; quality = q; limit = u }) (limit j q)) (k ∷ []) ≡ []
    empty e = rw e refl

pub product_limits-some : (limit : ℕ → ℕ → Option ℤ) (j k : ℕ) (u : ℤ) → limit j k ≡ Some u
    → product_limits limit (k + 1) j ≡ product_limits limit k j ++ record { product = j; quality = k; limit = u } ∷ []
product_limits-some limit j k u e =
    let kept = λ (q : ℕ). option_map (λ (u : ℤ). let v : Limit = record { product = j; quality = q; limit = u } in v) (limit j q) in
    ap (λ q. product_limits limit q j) (add-one k) ∙ filter_map-append kept (tabulate (λ q. q) k) (k ∷ []) ∙ ap (λ xs. product_limits limit k j ++ xs) (single e)
  where
    single : limit j k ≡ Some u
        → filter_map {Y = Limit} (λ q. option_map (λ u. record { product = j; quality = q; limit = u }) (limit j q)) (k ∷ []) ≡ record { product = j; quality = k; limit = u } ∷ []
    single e = rw e refl

pub limits-more : (limit : ℕ → ℕ → Option ℤ) (qualities j : ℕ) → limits limit (j + 1) qualities ≡ limits limit j qualities ++ product_limits limit qualities j
limits-more limit qualities j =
    ap (λ p. limits limit p qualities) (add-one j)
    ∙ flat_map-append (product_limits limit qualities) (tabulate (λ p. p) j) (j ∷ [])
    ∙ ap (λ xs. limits limit j qualities ++ xs) (append-nil (product_limits limit qualities j))

-- ---- how many there are
length-product_limits : (limit : ℕ → ℕ → Option ℤ) (qualities j : ℕ) → length (product_limits limit qualities j) ≤ qualities
length-product_limits limit qualities j =
    omega (
      arith,
      length-filter_map (λ k. option_map (λ u. let v : Limit = record { product = j; quality = k; limit = u } in v) (limit j k))
          (tabulate (λ k. k) qualities),
      length-tabulate (λ k. k) qualities,
    )

pub length-limits : (limit : ℕ → ℕ → Option ℤ) (products qualities : ℕ) → length (limits limit products qualities) ≤ products * qualities
length-limits limit zero qualities = omega arith
length-limits limit (suc j) qualities =
    omega (
      arith,
      length-limits limit j qualities,
      ap length (ap (λ p. limits limit p qualities) (sym (add-one j)) ∙ limits-more limit qualities j),
      length-append (limits limit j qualities) (product_limits limit qualities j),
      length-product_limits limit qualities j,
    )
