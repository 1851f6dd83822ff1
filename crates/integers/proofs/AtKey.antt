-- Laws of the sums at a key, and of products.
use Rattle.std.proofs.Common.{◌≡◌, ◌≢◌, ℕ, zero, suc, ◌+◌, ◌*◌, ◌<◌, ◌≤◌, ◌⊎◌, inl, inr, Bool, true, false, ◌==◌, if◌then◌else◌, ℤ, pos, ◌+ℤ◌, ◌*ℤ◌, unsigned_abs, add-one, arith, refl, sym, ap, ◌∙◌}
use Rattle.std.proofs.Math.Nat.{mul-le-mul}
use Rattle.std.proofs.Math.IntN.{*ℤ-zero}
use Rattle.std.proofs.lemmas.Int.{ints}
use Rattle.integers.proofs.Ring.{additive, mul-add}
use Rattle.integers.specs.Sums.{int_sum_below, sum_below, product_below, int_sum_at, sum_at, product_but}
use Rattle.integers.proofs.ByIndex.{int_sum_below-same, int_sum_below-mul, int_sum_below-add, int_sum_below-zero}

pub same_or_other : (i j : ℕ) → (i ≡ j) ⊎ (i ≢ j)
same_or_other i j = grind arith

-- a choice by a key, at the key and elsewhere
pub chosen : {X : Type 0} (i j : ℕ) (a b : X) → i ≡ j → (if i == j then a else b) ≡ a
chosen i j a b e = grind arith

pub passed : {X : Type 0} (i j : ℕ) (a b : X) → i ≢ j → (if i == j then a else b) ≡ b
passed i j a b e = grind arith

-- ---- natural numbers
pub sum_below-mul : (a : ℕ) (f : ℕ → ℕ) (n : ℕ) → sum_below (λ i. a * f i) n ≡ a * sum_below f n
sum_below-mul a f zero = omega arith
sum_below-mul a f (suc n) = omega (arith, sum_below-mul a f n)

pub sum_below-same : (f g : ℕ → ℕ) (n : ℕ) → ((i : ℕ) → i < n → f i ≡ g i) → sum_below f n ≡ sum_below g n
sum_below-same f g zero h = refl
sum_below-same f g (suc n) h = omega (arith, h n (omega arith), sum_below-same f g n (λ i lt. h i (omega arith)))

pub term-le-sum_below : (f : ℕ → ℕ) (n i : ℕ) → i < n → f i ≤ sum_below f n
term-le-sum_below f zero i h = absurd (omega arith)
term-le-sum_below f (suc n) i h = elim (last_or_below i n h) [
  | inl e ↦ omega (arith, ap f e)
  | inr l ↦ omega (arith, term-le-sum_below f n i l)
]
  where
    last_or_below : (k n : ℕ) → k < suc n → (k ≡ n) ⊎ (k < n)
    last_or_below k n h = grind arith

pub term-le-sum_at : (key : ℕ → ℕ) (k : ℕ) (f : ℕ → ℕ) (n i : ℕ) → i < n → key i ≡ k → f i ≤ sum_at key k f n
term-le-sum_at key k f n i h e = omega (arith, term-le-sum_below (λ i. if key i == k then f i else 0) n i h, chosen (key i) k (f i) 0 e)

pub sum_at-mul : (key : ℕ → ℕ) (k a : ℕ) (f : ℕ → ℕ) (n : ℕ) → sum_at key k (λ i. a * f i) n ≡ a * sum_at key k f n
sum_at-mul key k a f n = sum_below-same (λ i. if key i == k then a * f i else 0) (λ i. a * (if key i == k then f i else 0)) n (λ i lt. out (key i == k) (f i))
    ∙ sum_below-mul a (λ i. if key i == k then f i else 0) n
  where
    out : (b : Bool) (x : ℕ) → (if b then a * x else 0) ≡ a * (if b then x else 0)
    out true x = refl
    out false x = omega arith

pub positive-product_below : (f : ℕ → ℕ) (n : ℕ) → ((i : ℕ) → 0 < f i) → 0 < product_below f n
positive-product_below f zero h = omega arith
positive-product_below f (suc n) h = omega (arith, mul-le-mul (positive-product_below f n h) (h n))

-- the other factors are the same where k is not among them
but_none : (k : ℕ) (f : ℕ → ℕ) (n : ℕ) → n ≤ k → product_but k f n ≡ product_below f n
but_none k f zero h = refl
but_none k f (suc n) h =
    omega (arith, but_none k f n (omega arith), ap (λ z. product_below f n * z) (passed n k 1 (f n) (omega arith)), ap (λ z. z * (if n == k then 1 else f n)) (but_none k f n (omega arith)))

pub product_but_is : (k : ℕ) (f : ℕ → ℕ) (n : ℕ) → k < n → product_but k f n * f k ≡ product_below f n
product_but_is k f zero h = absurd (omega arith)
product_but_is k f (suc n) h = elim (same_or_other n k) [
  | inl e ↦ omega (
    arith,
    but_none k f n (omega arith),
    ap (λ z. product_but k f n * z * f k) (chosen n k 1 (f n) e),
    ap (λ z. z * f k) (but_none k f n (omega arith)),
    ap (λ j. product_below f n * f j) e,
  )
  | inr n' ↦ omega (arith, ap (λ z. product_but k f n * z * f k) (passed n k 1 (f n) n'), ap (λ z. z * f n) (product_but_is k f n (omega arith)))
]

-- ---- signed numbers
pub int_sum_at-same : (key : ℕ → ℕ) (k : ℕ) (f g : ℕ → ℤ) (n : ℕ) → ((i : ℕ) → i < n → key i ≡ k → f i ≡ g i) → int_sum_at key k f n ≡ int_sum_at key k g n
int_sum_at-same key k f g n h = int_sum_below-same (λ i. if key i == k then f i else pos 0) (λ i. if key i == k then g i else pos 0) n
    (λ i lt. elim (same_or_other (key i) k) [
      | inl e ↦ chosen (key i) k (f i) (pos 0) e ∙ h i lt e ∙ sym (chosen (key i) k (g i) (pos 0) e)
      | inr n' ↦ passed (key i) k (f i) (pos 0) n' ∙ sym (passed (key i) k (g i) (pos 0) n')
    ])

pub int_sum_at-mul : (key : ℕ → ℕ) (k : ℕ) (a : ℤ) (f : ℕ → ℤ) (n : ℕ) → int_sum_at key k (λ i. a *ℤ f i) n ≡ a *ℤ int_sum_at key k f n
int_sum_at-mul key k a f n = int_sum_below-same (λ i. if key i == k then a *ℤ f i else pos 0) (λ i. a *ℤ (if key i == k then f i else pos 0)) n (λ i lt. out (key i == k) (f i))
    ∙ int_sum_below-mul a (λ i. if key i == k then f i else pos 0) n
  where
    out : (b : Bool) (x : ℤ) → (if b then a *ℤ x else pos 0) ≡ a *ℤ (if b then x else pos 0)
    out true x = refl
    out false x = sym (*ℤ-zero a)

-- ---- sizes
pub sum_below-part : (f : ℕ → ℕ) (i n : ℕ) → i < n → sum_below f i + f i ≤ sum_below f n
sum_below-part f i zero h = absurd (omega arith)
sum_below-part f i (suc n) h = elim (last_or_below i n h) [
  | inl e ↦ omega (arith, ap (λ j. sum_below f j + f j) e)
  | inr l ↦ omega (arith, sum_below-part f i n l)
]
  where
    last_or_below : (k n : ℕ) → k < suc n → (k ≡ n) ⊎ (k < n)
    last_or_below k n h = grind arith

pub abs-int_sum_below : (g : ℕ → ℤ) (f : ℕ → ℕ) (n : ℕ) → ((i : ℕ) → unsigned_abs (g i) ≤ f i) → unsigned_abs (int_sum_below g n) ≤ sum_below f n
abs-int_sum_below g f zero h = omega arith
abs-int_sum_below g f (suc n) h = omega (arith, ints, h n, abs-int_sum_below g f n h)

pub sum_below-le : (f g : ℕ → ℕ) (n : ℕ) → ((i : ℕ) → i < n → f i ≤ g i) → sum_below f n ≤ sum_below g n
sum_below-le f g zero h = omega arith
sum_below-le f g (suc n) h = omega (arith, h n (omega arith), sum_below-le f g n (λ i lt. h i (omega arith)))

pub abs-int_sum_below_to : (g : ℕ → ℤ) (f : ℕ → ℕ) (n : ℕ) → ((i : ℕ) → i < n → unsigned_abs (g i) ≤ f i) → unsigned_abs (int_sum_below g n) ≤ sum_below f n
abs-int_sum_below_to g f zero h = omega arith
abs-int_sum_below_to g f (suc n) h = omega (arith, ints, h n (omega arith), abs-int_sum_below_to g f n (λ i lt. h i (omega arith)))

pub int_sum_at-add : (key : ℕ → ℕ) (k : ℕ) (f g : ℕ → ℤ) (n : ℕ) → int_sum_at key k (λ i. f i +ℤ g i) n ≡ int_sum_at key k f n +ℤ int_sum_at key k g n
int_sum_at-add key k f g n =
    int_sum_below-same (λ i. if key i == k then f i +ℤ g i else pos 0) (λ i. (if key i == k then f i else pos 0) +ℤ (if key i == k then g i else pos 0)) n (λ i lt. out (key i == k) (f i) (g i))
    ∙ int_sum_below-add (λ i. if key i == k then f i else pos 0) (λ i. if key i == k then g i else pos 0) n
  where
    out : (b : Bool) (x y : ℤ) → (if b then x +ℤ y else pos 0) ≡ (if b then x else pos 0) +ℤ (if b then y else pos 0)
    out true x y = refl
    out false x y = refl

-- a loop's step
pub int_sum_at-more_yes : (key : ℕ → ℕ) (k : ℕ) (f : ℕ → ℤ) (i : ℕ) → key i ≡ k → int_sum_at key k f (i + 1) ≡ int_sum_at key k f i +ℤ f i
int_sum_at-more_yes key k f i e = rw add-one (ap (λ z. int_sum_at key k f i +ℤ z) (chosen (key i) k (f i) (pos 0) e))

pub int_sum_at-more_no : (key : ℕ → ℕ) (k : ℕ) (f : ℕ → ℤ) (i : ℕ) → key i ≢ k → int_sum_at key k f (i + 1) ≡ int_sum_at key k f i
int_sum_at-more_no key k f i e = rw add-one (omega (arith, additive, passed (key i) k (f i) (pos 0) e))

-- one key among the keys below m
one_key : (c : ℕ → ℤ) (k : ℕ) (x : ℤ) (m : ℕ) → k < m → int_sum_below (λ i. c i *ℤ (if k == i then x else pos 0)) m ≡ c k *ℤ x
one_key c k x zero h = absurd (omega arith)
one_key c k x (suc m) h = elim (same_or_other k m) [
  | inl e ↦ omega (arith, additive, no_key c k x m (omega arith), ap (λ z. c m *ℤ z) (chosen k m x (pos 0) e), ap (λ i. c i *ℤ x) e)
  | inr d ↦ omega (arith, additive, one_key c k x m (omega arith), ap (λ z. c m *ℤ z) (passed k m x (pos 0) d), *ℤ-zero (c m))
]
  where
    no_key : (c : ℕ → ℤ) (k : ℕ) (x : ℤ) (m : ℕ) → m ≤ k → int_sum_below (λ i. c i *ℤ (if k == i then x else pos 0)) m ≡ pos 0
    no_key c k x zero h = refl
    no_key c k x (suc m) h = omega (arith, additive, no_key c k x m (omega arith), ap (λ z. c m *ℤ z) (passed k m x (pos 0) (omega arith)), *ℤ-zero (c m))

-- a sum over the keys, each with its part, is a sum over all
pub sum_by_keys : (c : ℕ → ℤ) (key : ℕ → ℕ) (f : ℕ → ℤ) (m n : ℕ) → ((i : ℕ) → i < n → key i < m)
    → int_sum_below (λ k. c k *ℤ int_sum_at key k f n) m ≡ int_sum_below (λ i. c (key i) *ℤ f i) n
sum_by_keys c key f m zero h = int_sum_below-same (λ k. c k *ℤ pos 0) (λ k. pos 0) m (λ k lt. *ℤ-zero (c k)) ∙ int_sum_below-zero m
sum_by_keys c key f m (suc n) h =
    int_sum_below-same (λ k. c k *ℤ int_sum_at key k f (suc n)) (λ k. c k *ℤ int_sum_at key k f n +ℤ c k *ℤ (if key n == k then f n else pos 0)) m (λ k lt. rw mul-add refl)
    ∙ omega (
      arith,
      additive,
      int_sum_below-add (λ k. c k *ℤ int_sum_at key k f n) (λ k. c k *ℤ (if key n == k then f n else pos 0)) m,
      sum_by_keys c key f m n (λ i lt. h i (omega arith)),
      one_key c (key n) (f n) m (h n (omega arith)),
    )

-- a sum of natural numbers at a key, among the signed ones
pub pos-sum_at : (key : ℕ → ℕ) (k : ℕ) (f : ℕ → ℕ) (n : ℕ) → int_sum_at key k (λ i. pos (f i)) n ≡ pos (sum_at key k f n)
pos-sum_at key k f zero = refl
pos-sum_at key k f (suc n) = elim (same_or_other (key n) k) [
  | inl e ↦ omega (arith, additive, pos-sum_at key k f n, chosen (key n) k (pos (f n)) (pos 0) e, chosen (key n) k (f n) 0 e)
  | inr d ↦ omega (arith, additive, pos-sum_at key k f n, passed (key n) k (pos (f n)) (pos 0) d, passed (key n) k (f n) 0 d)
]

-- what a coefficient of the node weighs is what it weighs arc by arc, for two kinds of arcs
pub two_kinds : (c : ℕ → ℤ) (a b : ℕ → ℕ) (f g : ℕ → ℕ) (k m n : ℕ) → ((i : ℕ) → i < m → a i < k) → ((i : ℕ) → i < n → b i < k)
    → int_sum_below (λ i. c i *ℤ pos (sum_at a i f m + sum_at b i g n)) k ≡ int_sum_below (λ i. c (a i) *ℤ pos (f i)) m +ℤ int_sum_below (λ i. c (b i) *ℤ pos (g i)) n
two_kinds c a b f g k m n ha hb =
    int_sum_below-same (λ i. c i *ℤ pos (sum_at a i f m + sum_at b i g n)) (λ i. c i *ℤ int_sum_at a i (λ j. pos (f j)) m +ℤ c i *ℤ int_sum_at b i (λ j. pos (g j)) n) k
    (λ i lt. mul-add (c i) (pos (sum_at a i f m)) (pos (sum_at b i g n))
    ∙ ap (λ z. c i *ℤ z +ℤ c i *ℤ pos (sum_at b i g n)) (sym (pos-sum_at a i f m)) ∙ ap (λ z. c i *ℤ int_sum_at a i (λ j. pos (f j)) m +ℤ c i *ℤ z) (sym (pos-sum_at b i g n)))
    ∙ omega (
      arith,
      additive,
      int_sum_below-add (λ i. c i *ℤ int_sum_at a i (λ j. pos (f j)) m) (λ i. c i *ℤ int_sum_at b i (λ j. pos (g j)) n) k,
      sum_by_keys c a (λ j. pos (f j)) k m ha,
      sum_by_keys c b (λ j. pos (g j)) k n hb,
    )

-- nothing is nothing, chosen or not
pub none_either : (b : Bool) (z : ℕ) → z ≡ 0 → (if b then z else 0) ≡ 0
none_either true z e = e
none_either false z e = refl

-- one flow alone
pub sum_at-one : (key : ℕ → ℕ) (k e t : ℕ) (n : ℕ) → e < n → sum_at key k (λ i. if i == e then t else 0) n ≡ (if key e == k then t else 0)
sum_at-one key k e t zero h = absurd (omega arith)
sum_at-one key k e t (suc n) h = elim (same_or_other n e) [
  | inl q ↦ omega (arith, before key k e t n (omega arith), ap (λ z. if key n == k then z else 0) (chosen n e t 0 q), ap (λ i. if key i == k then t else 0) q)
  | inr d ↦ omega (arith, sum_at-one key k e t n (omega arith), none_either (key n == k) (if n == e then t else 0) (passed n e t 0 d))
]
  where
    before : (key : ℕ → ℕ) (k e t n : ℕ) → n ≤ e → sum_at key k (λ i. if i == e then t else 0) n ≡ 0
    before key k e t zero h = refl
    before key k e t (suc n) h = omega (arith, before key k e t n (omega arith), none_either (key n == k) (if n == e then t else 0) (passed n e t 0 (omega arith)))

-- no flow at all
pub sum_at-none : (key : ℕ → ℕ) (k n : ℕ) → sum_at key k (λ i. 0) n ≡ 0
sum_at-none key k zero = refl
sum_at-none key k (suc n) = omega (arith, sum_at-none key k n, none_either (key n == k) 0 refl)
