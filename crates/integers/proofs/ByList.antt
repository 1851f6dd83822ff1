-- Laws of `int_sum_by`.
use Rattle.std.proofs.Common.{◌≡◌, ℕ, zero, suc, ◌+◌, ◌<◌, length, take, get_or, List, [], ◌∷◌, ◌++◌, ℤ, ◌+ℤ◌, unsigned_abs, ◌≤◌, sum_by, map, add-one, arith, refl}
use Rattle.std.proofs.lemmas.Int.{ints}
use Rattle.std.proofs.lemmas.List.Sums.{sum_by-cons}
use Rattle.integers.proofs.Ring.{additive}
use Rattle.std.specs.List.{flat_map}
use Rattle.integers.specs.Sums.{int_sum_by, int_sum_below}

int_sum_by_suc : {X : Type 0} (f : X → ℤ) (xs : List X) (i : ℕ) (d : X) → i < length xs
    → int_sum_by f (take (suc i) xs) ≡ int_sum_by f (take i xs) +ℤ f (get_or xs i d)
int_sum_by_suc f [] i d h = absurd (omega arith)
int_sum_by_suc f (x ∷ xs) zero d h = omega (arith, additive)
int_sum_by_suc f (x ∷ xs) (suc i) d h = omega (arith, additive, int_sum_by_suc f xs i d (omega arith))

-- one element more
pub int_sum_by_more : {X : Type 0} (f : X → ℤ) (xs : List X) (i : ℕ) (d : X) → i < length xs
    → int_sum_by f (take (i + 1) xs) ≡ int_sum_by f (take i xs) +ℤ f (get_or xs i d)
int_sum_by_more f xs i d h = rw add-one (int_sum_by_suc f xs i d h)

pub abs-int_sum_by : {X : Type 0} (g : X → ℤ) (f : X → ℕ) (xs : List X) → ((x : X) → unsigned_abs (g x) ≤ f x) → unsigned_abs (int_sum_by g xs) ≤ sum_by f xs
abs-int_sum_by g f [] h = omega arith
abs-int_sum_by g f (x ∷ xs) h = omega (arith, ints, h x, abs-int_sum_by g f xs h, sum_by-cons f x xs)

-- ---- sums over lists that are made of lists, and by index
pub int_sum_by-append : {X : Type 0} (f : X → ℤ) (xs ys : List X) → int_sum_by f (xs ++ ys) ≡ int_sum_by f xs +ℤ int_sum_by f ys
int_sum_by-append f [] ys = omega (arith, additive)
int_sum_by-append f (x ∷ xs) ys = omega (arith, additive, int_sum_by-append f xs ys)

pub int_sum_by-map : {X Y : Type 0} (f : Y → ℤ) (g : X → Y) (xs : List X) → int_sum_by f (map g xs) ≡ int_sum_by (λ x. f (g x)) xs
int_sum_by-map f g [] = refl
int_sum_by-map f g (x ∷ xs) = omega (arith, additive, int_sum_by-map f g xs)

pub int_sum_by-flat_map : {X Y : Type 0} (f : Y → ℤ) (g : X → List Y) (xs : List X) → int_sum_by f (flat_map g xs) ≡ int_sum_by (λ x. int_sum_by f (g x)) xs
int_sum_by-flat_map f g [] = refl
int_sum_by-flat_map f g (x ∷ xs) = omega (arith, additive, int_sum_by-append f (g x) (flat_map g xs), int_sum_by-flat_map f g xs)

-- the first term apart
int_sum_below-first : (f : ℕ → ℤ) (n : ℕ) → int_sum_below f (suc n) ≡ f 0 +ℤ int_sum_below (λ i. f (suc i)) n
int_sum_below-first f zero = omega (arith, additive)
int_sum_below-first f (suc n) = omega (arith, additive, int_sum_below-first f n)

-- a sum over a list, by index
pub int_sum_by-index : {X : Type 0} (f : X → ℤ) (xs : List X) (d : X) → int_sum_by f xs ≡ int_sum_below (λ i. f (get_or xs i d)) (length xs)
int_sum_by-index f [] d = refl
int_sum_by-index f (x ∷ xs) d = omega (arith, additive, int_sum_by-index f xs d, int_sum_below-first (λ i. f (get_or (x ∷ xs) i d)) (length xs))
