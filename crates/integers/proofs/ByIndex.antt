-- Laws of `int_sum_below`.
use Rattle.std.proofs.Common.{◌≡◌, ℕ, zero, suc, ◌<◌, ℤ, pos, ◌+ℤ◌, ◌*ℤ◌, ◌≤ℤ◌, ◌+◌, ◌*◌, ◌-◌, nat_lt, if◌then◌else◌, false, arith, refl, sym, ap, ◌∙◌}
use Rattle.std.proofs.Math.IntN.{*ℤ-zero, zero-*ℤ}
use Rattle.std.proofs.lemmas.Bool.Decides.{nat_tests}
use Rattle.integers.proofs.Ring.{additive, mul-add, add-mul}
use Rattle.integers.specs.Sums.{int_sum_below, piece}

pub int_sum_below-add : (f g : ℕ → ℤ) (n : ℕ) → int_sum_below (λ i. f i +ℤ g i) n ≡ int_sum_below f n +ℤ int_sum_below g n
int_sum_below-add f g zero = refl
int_sum_below-add f g (suc n) = omega (arith, additive, int_sum_below-add f g n)

pub int_sum_below-mul : (a : ℤ) (f : ℕ → ℤ) (n : ℕ) → int_sum_below (λ i. a *ℤ f i) n ≡ a *ℤ int_sum_below f n
int_sum_below-mul a f zero = sym (*ℤ-zero a)
int_sum_below-mul a f (suc n) = omega (arith, additive, int_sum_below-mul a f n, mul-add a (int_sum_below f n) (f n))

pub int_sum_below-mul_right : (f : ℕ → ℤ) (a : ℤ) (n : ℕ) → int_sum_below (λ i. f i *ℤ a) n ≡ int_sum_below f n *ℤ a
int_sum_below-mul_right f a zero = refl-at a
  where
    refl-at : (a : ℤ) → pos 0 ≡ pos 0 *ℤ a
    refl-at a = sym (zero-*ℤ a)
int_sum_below-mul_right f a (suc n) = omega (arith, additive, int_sum_below-mul_right f a n, add-mul (int_sum_below f n) (f n) a)

pub int_sum_below-zero : (n : ℕ) → int_sum_below (λ i. pos 0) n ≡ pos 0
int_sum_below-zero zero = refl
int_sum_below-zero (suc n) = omega (arith, additive, int_sum_below-zero n)

pub int_sum_below-same : (f g : ℕ → ℤ) (n : ℕ) → ((i : ℕ) → i < n → f i ≡ g i) → int_sum_below f n ≡ int_sum_below g n
int_sum_below-same f g zero h = refl
int_sum_below-same f g (suc n) h = omega (arith, additive, h n (omega arith), int_sum_below-same f g n (λ i lt. h i (omega arith)))

pub int_sum_below-le : (f g : ℕ → ℤ) (n : ℕ) → ((i : ℕ) → i < n → f i ≤ℤ g i) → int_sum_below f n ≤ℤ int_sum_below g n
int_sum_below-le f g zero h = omega (arith, additive)
int_sum_below-le f g (suc n) h = omega (arith, additive, h n (omega arith), int_sum_below-le f g n (λ i lt. h i (omega arith)))

pub int_sum_below-swap : (f : ℕ → ℕ → ℤ) (m n : ℕ)
    → int_sum_below (λ i. int_sum_below (λ j. f i j) n) m ≡ int_sum_below (λ j. int_sum_below (λ i. f i j) m) n
int_sum_below-swap f zero n = sym (int_sum_below-zero n)
int_sum_below-swap f (suc m) n = omega (arith, additive, int_sum_below-swap f m n, int_sum_below-add (λ j. int_sum_below (λ i. f i j) m) (f m) n)

pub int_sum_below-append : (f : ℕ → ℤ) (m n : ℕ) → int_sum_below f (m + n) ≡ int_sum_below f m +ℤ int_sum_below (λ i. f (m + i)) n
int_sum_below-append f m zero = ap (int_sum_below f) (let e : m + 0 ≡ m = omega arith in e) ∙ omega (arith, additive)
int_sum_below-append f m (suc n) = ap (int_sum_below f) (let e : m + suc n ≡ suc (m + n) = omega arith in e) ∙ omega (arith, additive, int_sum_below-append f m n)

-- a sum over a grid, row by row
pub int_sum_below-grid : (f : ℕ → ℤ) (m n : ℕ) → int_sum_below f (m * n) ≡ int_sum_below (λ i. int_sum_below (λ j. f (i * n + j)) n) m
int_sum_below-grid f zero n = ap (int_sum_below f) (let e : 0 * n ≡ 0 = omega arith in e)
int_sum_below-grid f (suc m) n = ap (int_sum_below f) (let e : suc m * n ≡ m * n + n = omega arith in e) ∙ int_sum_below-append f (m * n) n
    ∙ ap (λ z. z +ℤ int_sum_below (λ j. f (m * n + j)) n) (int_sum_below-grid f m n)

pub piece-first : {X : Type 0} (m : ℕ) (f g : ℕ → X) (i : ℕ) → i < m → piece m f g i ≡ f i
piece-first m f g i lt = grind (arith, nat_tests)

pub piece-rest : {X : Type 0} (m : ℕ) (f g : ℕ → X) (i : ℕ) → piece m f g (m + i) ≡ g i
piece-rest m f g i = let e : m + i - m ≡ i = omega arith in ap (λ b. if b then f (m + i) else g (m + i - m)) (let t : nat_lt (m + i) m ≡ false = grind (arith, nat_tests) in t) ∙ ap g e

-- two vectors in pieces: the sum of their products, piece by piece
pub int_sum_below-piece : (m n : ℕ) (f g a b : ℕ → ℤ) → int_sum_below (λ i. piece m f g i *ℤ piece m a b i) (m + n) ≡ int_sum_below (λ i. f i *ℤ a i) m +ℤ int_sum_below (λ i. g i *ℤ b i) n
int_sum_below-piece m n f g a b =
    int_sum_below-append (λ i. piece m f g i *ℤ piece m a b i) m n
    ∙ omega (
      arith,
      additive,
      int_sum_below-same (λ i. piece m f g i *ℤ piece m a b i) (λ i. f i *ℤ a i) m (λ i lt. ap (λ z. z *ℤ piece m a b i) (piece-first m f g i lt) ∙ ap (λ z. f i *ℤ z) (piece-first m a b i lt)),
      int_sum_below-same (λ i. piece m f g (m + i) *ℤ piece m a b (m + i)) (λ i. g i *ℤ b i) n
          (λ i lt. ap (λ z. z *ℤ piece m a b (m + i)) (piece-rest m f g i) ∙ ap (λ z. g i *ℤ z) (piece-rest m a b i)),
    )
