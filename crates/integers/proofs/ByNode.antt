-- Sums of which most terms are nothing, and sums over the arcs of one kind at their nodes.
use Rattle.std.proofs.Common.{◌≡◌, ◌≢◌, ℕ, zero, suc, ◌+◌, ◌*◌, ◌<◌, ◌≤◌, ◌⊎◌, inl, inr, Bool, true, false, ◌==◌, if◌then◌else◌, ℤ, pos, unsigned_abs, ◌*ℤ◌, add-one, arith, refl, sym, ap, ◌∙◌}
use Rattle.std.proofs.Math.IntN.{*ℤ-zero}
use Rattle.integers.proofs.Ring.{additive}
use Rattle.integers.specs.Sums.{int_sum_below, sum_below, int_sum_at, sum_at}
use Rattle.integers.proofs.ByIndex.{int_sum_below-same}
use Rattle.integers.proofs.AtKey.{same_or_other, chosen, passed, sum_by_keys, pos-sum_at}
use Rattle.integers.proofs.AtKey.{sum_below-same, none_either, sum_at-none, sum_at-one, abs-int_sum_below_to}

-- ---- nothing
pub sum_below-nothing : (f : ℕ → ℕ) (n : ℕ) → ((i : ℕ) → i < n → f i ≡ 0) → sum_below f n ≡ 0
sum_below-nothing f zero h = refl
sum_below-nothing f (suc n) h = omega (arith, h n (omega arith), sum_below-nothing f n (λ i lt. h i (omega arith)))

-- no index has the key
pub sum_at-no_key : (key : ℕ → ℕ) (k : ℕ) (f : ℕ → ℕ) (n : ℕ) → ((i : ℕ) → i < n → key i ≢ k) → sum_at key k f n ≡ 0
sum_at-no_key key k f n h = sum_below-nothing (λ i. if key i == k then f i else 0) n (λ i lt. passed (key i) k (f i) 0 (h i lt))

pub int_sum_below-nothing : (f : ℕ → ℤ) (n : ℕ) → ((i : ℕ) → i < n → f i ≡ pos 0) → int_sum_below f n ≡ pos 0
int_sum_below-nothing f zero h = refl
int_sum_below-nothing f (suc n) h = omega (arith, additive, h n (omega arith), int_sum_below-nothing f n (λ i lt. h i (omega arith)))

-- ---- one term alone
pub int_sum_below-one : (f : ℕ → ℤ) (e n : ℕ) → e < n → ((i : ℕ) → i < n → i ≢ e → f i ≡ pos 0) → int_sum_below f n ≡ f e
int_sum_below-one f e zero h others = absurd (omega arith)
int_sum_below-one f e (suc n) h others = elim (same_or_other n e) [
  | inl q ↦ omega (arith, additive, int_sum_below-nothing f n (λ i lt. others i (omega arith) (omega arith)), ap f q)
  | inr d ↦ omega (arith, additive, int_sum_below-one f e n (omega arith) (λ i lt ne. others i (omega arith) ne), others n (omega arith) d)
]

-- an amount at one node alone
pub int_sum_below-alone : (c : ℕ → ℤ) (node amount n : ℕ) → node < n → int_sum_below (λ i. c i *ℤ pos (if node == i then amount else 0)) n ≡ c node *ℤ pos amount
int_sum_below-alone c node amount n h =
    int_sum_below-one (λ i. c i *ℤ pos (if node == i then amount else 0)) node n h
    (λ i lt ne. ap (λ z. c i *ℤ pos z) (passed node i amount 0 (λ e. ne (sym e))) ∙ *ℤ-zero (c i))
    ∙ ap (λ z. c node *ℤ pos z) (chosen node node amount 0 refl)

-- ---- sums of equal terms
pub sum_at-same : (key : ℕ → ℕ) (k : ℕ) (f g : ℕ → ℕ) (n : ℕ) → ((i : ℕ) → i < n → f i ≡ g i) → sum_at key k f n ≡ sum_at key k g n
sum_at-same key k f g n h = sum_below-same (λ i. if key i == k then f i else 0) (λ i. if key i == k then g i else 0) n (λ i lt. ap (λ z. if key i == k then z else 0) (h i lt))

pub sum_at-nothing : (key : ℕ → ℕ) (k : ℕ) (f : ℕ → ℕ) (n : ℕ) → ((i : ℕ) → i < n → f i ≡ 0) → sum_at key k f n ≡ 0
sum_at-nothing key k f n h = sum_at-same key k f (λ i. 0) n h ∙ sum_at-none key k n

pub int_sum_at-nothing : (key : ℕ → ℕ) (k : ℕ) (f : ℕ → ℤ) (n : ℕ) → ((i : ℕ) → i < n → f i ≡ pos 0) → int_sum_at key k f n ≡ pos 0
int_sum_at-nothing key k f n h = int_sum_below-nothing (λ i. if key i == k then f i else pos 0) n (λ i lt. nothing (key i == k) (f i) (h i lt))
  where
    nothing : (b : Bool) (x : ℤ) → x ≡ pos 0 → (if b then x else pos 0) ≡ pos 0
    nothing true x e = e
    nothing false x e = refl

-- a flow on one arc alone, if it is there
pub sum_at-alone : (key : ℕ → ℕ) (k : ℕ) (f : ℕ → ℕ) (arc amount n : ℕ) → (arc < n) ⊎ (amount ≡ 0) → ((i : ℕ) → i < n → f i ≡ (if i == arc then amount else 0))
    → sum_at key k f n ≡ (if key arc == k then amount else 0)
sum_at-alone key k f arc amount n (inl h) is = sum_at-same key k f (λ i. if i == arc then amount else 0) n is ∙ sum_at-one key k arc amount n h
sum_at-alone key k f arc amount n (inr e) is =
    sum_at-nothing key k f n (λ i lt. is i lt ∙ none_either (i == arc) amount e) ∙ sym (none_either (key arc == k) amount e)

pub int_sum_at-alone : (key : ℕ → ℕ) (k : ℕ) (c : ℕ → ℤ) (f : ℕ → ℕ) (arc amount n : ℕ) → (arc < n) ⊎ (amount ≡ 0) → ((i : ℕ) → i < n → f i ≡ (if i == arc then amount else 0))
    → int_sum_at key k (λ i. c i *ℤ pos (f i)) n ≡ c arc *ℤ pos (if key arc == k then amount else 0)
int_sum_at-alone key k c f arc amount n (inl h) is =
    int_sum_below-one (λ i. if key i == k then c i *ℤ pos (f i) else pos 0) arc n h (λ i lt ne. nothing (key i == k) (c i) (f i) (is i lt ∙ passed i arc amount 0 ne))
    ∙ inside (key arc == k) (c arc) (f arc) amount (is arc h ∙ chosen arc arc amount 0 refl)
  where
    nothing : (b : Bool) (x : ℤ) (t : ℕ) → t ≡ 0 → (if b then x *ℤ pos t else pos 0) ≡ pos 0
    nothing true x t e = ap (λ z. x *ℤ pos z) e ∙ *ℤ-zero x
    nothing false x t e = refl

    inside : (b : Bool) (x : ℤ) (t amount : ℕ) → t ≡ amount → (if b then x *ℤ pos t else pos 0) ≡ x *ℤ pos (if b then amount else 0)
    inside true x t amount e = ap (λ z. x *ℤ pos z) e
    inside false x t amount e = sym (*ℤ-zero x)
int_sum_at-alone key k c f arc amount n (inr e) is =
    int_sum_at-nothing key k (λ i. c i *ℤ pos (f i)) n (λ i lt. ap (λ z. c i *ℤ pos z) (is i lt ∙ none_either (i == arc) amount e) ∙ *ℤ-zero (c i))
    ∙ sym (ap (λ z. c arc *ℤ pos z) (none_either (key arc == k) amount e) ∙ *ℤ-zero (c arc))

-- ---- what a coefficient of the node weighs is what it weighs arc by arc
pub one_kind : (c : ℕ → ℤ) (a : ℕ → ℕ) (f : ℕ → ℕ) (k m : ℕ) → ((i : ℕ) → i < m → a i < k)
    → int_sum_below (λ i. c i *ℤ pos (sum_at a i f m)) k ≡ int_sum_below (λ i. c (a i) *ℤ pos (f i)) m
one_kind c a f k m h =
    int_sum_below-same (λ i. c i *ℤ pos (sum_at a i f m)) (λ i. c i *ℤ int_sum_at a i (λ j. pos (f j)) m) k (λ i lt. ap (λ z. c i *ℤ z) (sym (pos-sum_at a i f m)))
    ∙ sum_by_keys c a (λ j. pos (f j)) k m h

pub sum_at-more_yes : (key : ℕ → ℕ) (k : ℕ) (f : ℕ → ℕ) (i : ℕ) → key i ≡ k → sum_at key k f (i + 1) ≡ sum_at key k f i + f i
sum_at-more_yes key k f i e = rw add-one (ap (λ z. sum_at key k f i + z) (chosen (key i) k (f i) 0 e))

pub sum_at-more_no : (key : ℕ → ℕ) (k : ℕ) (f : ℕ → ℕ) (i : ℕ) → key i ≢ k → sum_at key k f (i + 1) ≡ sum_at key k f i
sum_at-more_no key k f i e = rw add-one (omega (arith, passed (key i) k (f i) 0 e))

-- ---- the size of a sum at a key
pub abs-int_sum_at : (key : ℕ → ℕ) (k : ℕ) (f : ℕ → ℤ) (g : ℕ → ℕ) (n : ℕ) → ((i : ℕ) → i < n → unsigned_abs (f i) ≤ g i) → unsigned_abs (int_sum_at key k f n) ≤ sum_at key k g n
abs-int_sum_at key k f g n h = abs-int_sum_below_to (λ i. if key i == k then f i else pos 0) (λ i. if key i == k then g i else 0) n (λ i lt. inside (key i == k) (f i) (g i) (h i lt))
  where
    inside : (b : Bool) (x : ℤ) (y : ℕ) → unsigned_abs x ≤ y → unsigned_abs (if b then x else pos 0) ≤ (if b then y else 0)
    inside true x y h = h
    inside false x y h = omega arith

-- ---- sums of naturals over keys
pub sum_below-add : (f g : ℕ → ℕ) (n : ℕ) → sum_below (λ i. f i + g i) n ≡ sum_below f n + sum_below g n
sum_below-add f g zero = refl
sum_below-add f g (suc n) = omega (arith, sum_below-add f g n)

one_natural_key : (k x m : ℕ) → k < m → sum_below (λ i. if k == i then x else 0) m ≡ x
one_natural_key k x zero h = absurd (omega arith)
one_natural_key k x (suc m) h = elim (same_or_other k m) [
  | inl e ↦ omega (arith, chosen k m x 0 e, sum_below-nothing (λ i. if k == i then x else 0) m (λ i lt. passed k i x 0 (omega arith)))
  | inr d ↦ omega (arith, passed k m x 0 d, one_natural_key k x m (omega arith))
]

-- a sum over the keys is a sum over all
pub sum_keys : (key f : ℕ → ℕ) (m n : ℕ) → ((i : ℕ) → i < n → key i < m) → sum_below (λ k. sum_at key k f n) m ≡ sum_below f n
sum_keys key f m zero h = sum_below-nothing (λ k. 0) m (λ k lt. refl)
sum_keys key f m (suc n) h =
    omega (
      arith,
      sum_below-add (λ k. sum_at key k f n) (λ k. if key n == k then f n else 0) m,
      sum_keys key f m n (λ i lt. h i (omega arith)),
      one_natural_key (key n) (f n) m (h n (omega arith)),
    )

pub sum_at-same_key : (key : ℕ → ℕ) (k : ℕ) (f g : ℕ → ℕ) (n : ℕ) → ((i : ℕ) → i < n → key i ≡ k → f i ≡ g i) → sum_at key k f n ≡ sum_at key k g n
sum_at-same_key key k f g n h = sum_below-same (λ i. if key i == k then f i else 0) (λ i. if key i == k then g i else 0) n (λ i lt. at i lt (same_or_other (key i) k))
  where
    at : (i : ℕ) → i < n → (key i ≡ k) ⊎ (key i ≢ k) → (if key i == k then f i else 0) ≡ (if key i == k then g i else 0)
    at i lt (inl e) = omega (arith, chosen (key i) k (f i) 0 e, chosen (key i) k (g i) 0 e, h i lt e)
    at i lt (inr d) = omega (arith, passed (key i) k (f i) 0 d, passed (key i) k (g i) 0 d)

pub sum_below-most : (f : ℕ → ℕ) (b n : ℕ) → ((i : ℕ) → i < n → f i ≤ b) → sum_below f n ≤ n * b
sum_below-most f b zero h = omega arith
sum_below-most f b (suc n) h = omega (arith, sum_below-most f b n (λ i lt. h i (omega arith)), h n (omega arith))
