-- Sums of products: of combined factors, over pieces, and where most terms are nothing.
use Rattle.std.proofs.Common.{◌≡◌, ◌≢◌, ◌∙◌, ap, ℕ, ◌+◌, ◌<◌, ◌==◌, if◌then◌else◌, ℤ, pos, ◌+ℤ◌, ◌*ℤ◌, arith, refl}
use Rattle.std.proofs.Math.IntN.{*ℤ-zero, zero-*ℤ}
use Rattle.integers.specs.Sums.{int_sum_below, int_sum_at, piece}
use Rattle.integers.proofs.Ring.{sorted, additive, mul-add}
use Rattle.integers.proofs.ByIndex.{int_sum_below-add, int_sum_below-mul, int_sum_below-same, int_sum_below-append, piece-first, piece-rest}
use Rattle.integers.proofs.ByNode.{int_sum_below-nothing, int_sum_below-one}
use Rattle.integers.proofs.AtKey.{chosen, passed, sum_by_keys}

-- the sum of products
abbrev pub dot : ℕ → (ℕ → ℤ) → (ℕ → ℤ) → ℤ
dot n f g = int_sum_below (λ i. f i *ℤ g i) n

left_split : (a b f g x : ℤ) → (a *ℤ f +ℤ b *ℤ g) *ℤ x ≡ a *ℤ (f *ℤ x) +ℤ b *ℤ (g *ℤ x)
left_split a b f g x = simp sorted (omega (arith, additive))

right_split : (a b f x y : ℤ) → f *ℤ (a *ℤ x +ℤ b *ℤ y) ≡ a *ℤ (f *ℤ x) +ℤ b *ℤ (f *ℤ y)
right_split a b f x y = simp sorted (omega (arith, additive))

pub dot-combined : (n : ℕ) (a b : ℤ) (f g x : ℕ → ℤ) → dot n (λ i. a *ℤ f i +ℤ b *ℤ g i) x ≡ a *ℤ dot n f x +ℤ b *ℤ dot n g x
dot-combined n a b f g x =
    int_sum_below-same (λ i. (a *ℤ f i +ℤ b *ℤ g i) *ℤ x i) (λ i. a *ℤ (f i *ℤ x i) +ℤ b *ℤ (g i *ℤ x i)) n (λ i lt. left_split a b (f i) (g i) (x i))
    ∙ omega (
      arith,
      additive,
      int_sum_below-add (λ i. a *ℤ (f i *ℤ x i)) (λ i. b *ℤ (g i *ℤ x i)) n,
      int_sum_below-mul a (λ i. f i *ℤ x i) n,
      int_sum_below-mul b (λ i. g i *ℤ x i) n,
    )

pub dot-combined_right : (n : ℕ) (a b : ℤ) (f x y : ℕ → ℤ) → dot n f (λ i. a *ℤ x i +ℤ b *ℤ y i) ≡ a *ℤ dot n f x +ℤ b *ℤ dot n f y
dot-combined_right n a b f x y =
    int_sum_below-same (λ i. f i *ℤ (a *ℤ x i +ℤ b *ℤ y i)) (λ i. a *ℤ (f i *ℤ x i) +ℤ b *ℤ (f i *ℤ y i)) n (λ i lt. right_split a b (f i) (x i) (y i))
    ∙ omega (
      arith,
      additive,
      int_sum_below-add (λ i. a *ℤ (f i *ℤ x i)) (λ i. b *ℤ (f i *ℤ y i)) n,
      int_sum_below-mul a (λ i. f i *ℤ x i) n,
      int_sum_below-mul b (λ i. f i *ℤ y i) n,
    )

pub dot-same_right : (n : ℕ) (f x y : ℕ → ℤ) → ((i : ℕ) → i < n → x i ≡ y i) → dot n f x ≡ dot n f y
dot-same_right n f x y h = int_sum_below-same (λ i. f i *ℤ x i) (λ i. f i *ℤ y i) n (λ i lt. ap (λ (z : ℤ). f i *ℤ z) (h i lt))

-- the first factors in pieces
pub dot-piece : (m n : ℕ) (f g x : ℕ → ℤ) → dot (m + n) (piece m f g) x ≡ dot m f x +ℤ dot n g (λ i. x (m + i))
dot-piece m n f g x =
    int_sum_below-append (λ i. piece m f g i *ℤ x i) m n
    ∙ omega (
      arith,
      additive,
      int_sum_below-same (λ i. piece m f g i *ℤ x i) (λ i. f i *ℤ x i) m (λ i lt. ap (λ (z : ℤ). z *ℤ x i) (piece-first m f g i lt)),
      int_sum_below-same (λ i. piece m f g (m + i) *ℤ x (m + i)) (λ i. g i *ℤ x (m + i)) n (λ i lt. ap (λ (z : ℤ). z *ℤ x (m + i)) (piece-rest m f g i)),
    )

-- the second ones
pub dot-piece_right : (m n : ℕ) (f x y : ℕ → ℤ) → dot (m + n) f (piece m x y) ≡ dot m f x +ℤ dot n (λ i. f (m + i)) y
dot-piece_right m n f x y =
    int_sum_below-append (λ i. f i *ℤ piece m x y i) m n
    ∙ omega (
      arith,
      additive,
      int_sum_below-same (λ i. f i *ℤ piece m x y i) (λ i. f i *ℤ x i) m (λ i lt. ap (λ (z : ℤ). f i *ℤ z) (piece-first m x y i lt)),
      int_sum_below-same (λ i. f (m + i) *ℤ piece m x y (m + i)) (λ i. f (m + i) *ℤ y i) n (λ i lt. ap (λ (z : ℤ). f (m + i) *ℤ z) (piece-rest m x y i)),
    )

-- ---- one term

-- a number at one index, and nothing elsewhere
abbrev pub at_one : ℕ → ℤ → ℕ → ℤ
at_one k z i = if i == k then z else pos 0

pub dot-at_one : (n : ℕ) (f : ℕ → ℤ) (k : ℕ) (z : ℤ) → k < n → dot n f (at_one k z) ≡ f k *ℤ z
dot-at_one n f k z lt =
    int_sum_below-one (λ i. f i *ℤ at_one k z i) k n lt (λ i below ne. ap (λ (x : ℤ). f i *ℤ x) (passed i k z (pos 0) ne) ∙ *ℤ-zero (f i))
    ∙ ap (λ (x : ℤ). f k *ℤ x) (chosen k k z (pos 0) refl)

pub dot-at_one_left : (n : ℕ) (x : ℕ → ℤ) (k : ℕ) (z : ℤ) → k < n → dot n (at_one k z) x ≡ z *ℤ x k
dot-at_one_left n x k z lt =
    int_sum_below-one (λ i. at_one k z i *ℤ x i) k n lt (λ i below ne. ap (λ (y : ℤ). y *ℤ x i) (passed i k z (pos 0) ne) ∙ zero-*ℤ (x i))
    ∙ ap (λ (y : ℤ). y *ℤ x k) (chosen k k z (pos 0) refl)

pub sum-at_one : (n k : ℕ) (z : ℤ) → k < n → int_sum_below (at_one k z) n ≡ z
sum-at_one n k z lt = int_sum_below-one (at_one k z) k n lt (λ i below ne. passed i k z (pos 0) ne) ∙ chosen k k z (pos 0) refl

-- ---- values at keys that are apart

-- the value of the index whose key this is, or nothing
abbrev pub at_keys : (ℕ → ℕ) → (ℕ → ℤ) → ℕ → ℕ → ℤ
at_keys key f n j = int_sum_at key j f n

pub at_keys-of : (key : ℕ → ℕ) (f : ℕ → ℤ) (n q : ℕ) → q < n → ((i : ℕ) → i < n → key i ≡ key q → i ≡ q) → at_keys key f n (key q) ≡ f q
at_keys-of key f n q lt apart =
    int_sum_below-one (λ i. if key i == key q then f i else pos 0) q n lt (λ i below ne. passed (key i) (key q) (f i) (pos 0) (λ e. ne (apart i below e)))
    ∙ chosen (key q) (key q) (f q) (pos 0) refl

pub at_keys-none : (key : ℕ → ℕ) (f : ℕ → ℤ) (n j : ℕ) → ((i : ℕ) → i < n → key i ≢ j) → at_keys key f n j ≡ pos 0
at_keys-none key f n j none = int_sum_below-nothing (λ i. if key i == j then f i else pos 0) n (λ i below. passed (key i) j (f i) (pos 0) (none i below))

-- the sum of products with them
pub dot-at_keys : (m : ℕ) (c : ℕ → ℤ) (key : ℕ → ℕ) (f : ℕ → ℤ) (n : ℕ) → ((i : ℕ) → i < n → key i < m)
    → dot m c (at_keys key f n) ≡ int_sum_below (λ i. c (key i) *ℤ f i) n
dot-at_keys m c key f n h = sum_by_keys c key f m n h

pub dot-added : (n : ℕ) (c x y : ℕ → ℤ) → dot n c (λ i. x i +ℤ y i) ≡ dot n c x +ℤ dot n c y
dot-added n c x y =
    int_sum_below-same (λ i. c i *ℤ (x i +ℤ y i)) (λ i. c i *ℤ x i +ℤ c i *ℤ y i) n (λ i lt. mul-add (c i) (x i) (y i))
    ∙ int_sum_below-add (λ i. c i *ℤ x i) (λ i. c i *ℤ y i) n
