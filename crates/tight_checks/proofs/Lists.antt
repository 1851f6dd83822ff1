-- Lists of what another list is mapped to.
use Rattle.std.proofs.Common.{◌≡◌, ℕ, zero, suc, ◌+◌, ◌<◌, List, [], ◌∷◌, length, map, get_or, All, Bool, if◌then◌else◌, arith, refl, sym, ap, ◌∙◌}
use Rattle.std.specs.List.{AllByRecursion, Contains, count_by}
use Rattle.std.proofs.lemmas.List.{length-map, get_or-map}
use Rattle.std.proofs.lemmas.List.Sums.{sum_by-cons}
use Rattle.std.proofs.lemmas.List.Elements.{All-from_recursion, recursion_from_All}

-- what stands behind a list doesn't matter within it
pub same-at : {X : Type 0} (xs : List X) (k : ℕ) (c d : X) → k < length xs → get_or xs k c ≡ get_or xs k d
same-at [] k c d lt = absurd (omega (arith, lt))
same-at (x ∷ xs) zero c d lt = refl
same-at (x ∷ xs) (suc k) c d lt = same-at xs k c d (omega (arith, lt))

module _ {X Y : Type 0} (f : X → Y) where
  unmapped : (P : Y → Type 0) (xs : List X) → AllByRecursion P (map f xs) → AllByRecursion (λ x. P (f x)) xs
  unmapped P [] h = tt
  unmapped P (x ∷ xs) h = (h.0, unmapped P xs h.1)

  -- what holds of each element that is mapped to
  pub All-unmapped : (P : Y → Type 0) (xs : List X) → All P (map f xs) → All (λ x. P (f x)) xs
  All-unmapped P xs h = All-from_recursion (λ x. P (f x)) xs (unmapped P xs (recursion_from_All P (map f xs) h))

  pub Contains-mapped : (xs : List X) (x : X) → Contains xs x → Contains (map f xs) (f x)
  Contains-mapped xs x h = (h.0, omega (arith, h.1, length-map xs f), get_or-map f xs h.0 x (f x) h.1 ∙ ap f h.2)

  -- an element that is mapped to comes from one
  pub Contains-unmapped : (xs : List X) (y : Y) → Contains (map f xs) y → (x : X) × Contains xs x × (f x ≡ y)
  Contains-unmapped xs y h = found xs h.0 h.1 h.2
    where
      found : (xs : List X) (k : ℕ) → k < length (map f xs) → get_or (map f xs) k y ≡ y → (x : X) × Contains xs x × (f x ≡ y)
      found [] k lt e = absurd (omega (arith, lt))
      found (x ∷ xs) zero lt e = (x, (0, omega arith, refl), e)
      found (x ∷ xs) (suc k) lt e = let rest = found xs k (omega (arith, lt)) e in (rest.0, (suc rest.1.0, omega (arith, rest.1.1), rest.1.2), rest.2)

  -- two ways to map that agree
  pub map-same : (g : X → Y) → ((x : X) → f x ≡ g x) → (xs : List X) → map f xs ≡ map g xs
  map-same g h [] = refl
  map-same g h (x ∷ xs) = ap (λ (y : Y). y ∷ map f xs) (h x) ∙ ap (λ (ys : List Y). g x ∷ ys) (map-same g h xs)

module _ {X Y Z : Type 0} (f : X → Y) (g : Y → Z) where
  pub map-map : (xs : List X) → map g (map f xs) ≡ map (λ x. g (f x)) xs
  map-map [] = refl
  map-map (x ∷ xs) = ap (λ (zs : List Z). g (f x) ∷ zs) (map-map xs)

-- two tests that agree count the same
pub count-mapped : {X Y : Type 0} (f : X → Y) (p : X → Bool) (q : Y → Bool) → ((x : X) → p x ≡ q (f x)) → (xs : List X) → count_by p xs ≡ count_by q (map f xs)
count-mapped f p q h [] = refl
count-mapped f p q h (x ∷ xs) =
    sum_by-cons (λ x. if p x then 1 else 0) x xs
    ∙ ap (λ (b : Bool). (if b then 1 else 0) + count_by p xs) (h x)
    ∙ ap (λ (n : ℕ). (if q (f x) then 1 else 0) + n) (count-mapped f p q h xs)
    ∙ sym (sum_by-cons (λ y. if q y then 1 else 0) (f x) (map f xs))
