-- Sums of coefficients times variables, where most coefficients are 0.
use Rattle.std.proofs.Common.{◌≡◌, ℕ, zero, suc, ◌*◌, ◌<◌, ◌≤◌, inl, inr, unsigned_abs, ◌==◌, if◌then◌else◌, ℤ, pos, neg_ℤ, ◌+ℤ◌, ◌-ℤ◌, ◌*ℤ◌, arith, refl, sym, ap, ◌∙◌}
use Rattle.std.proofs.Math.IntN.{zero-*ℤ}
use Rattle.std.proofs.Math.Nat.{mul-le-mul_right}
use Rattle.integers.specs.Sums.{int_sum_below, int_sum_at, sum_at, sum_below}
use Rattle.integers.proofs.Ring.{additive, linear, sorted, mul_assoc_ℤ, neg-mul}
use Rattle.integers.proofs.ByIndex.{int_sum_below-same, int_sum_below-zero}
use Rattle.integers.proofs.AtKey.{same_or_other, chosen, passed, int_sum_at-same, int_sum_at-mul, int_sum_at-add, pos-sum_at, sum_below-le, sum_below-mul}
use Rattle.integers.proofs.ByNode.{int_sum_below-one}
use Rattle.row_model.specs.Catalogue.{when}

-- no coefficient
pub no_sum : (v : ℕ → ℤ) (n : ℕ) → int_sum_below (λ i. pos 0 *ℤ v i) n ≡ pos 0
no_sum v n = int_sum_below-same (λ i. pos 0 *ℤ v i) (λ i. pos 0) n (λ i lt. zero-*ℤ (v i)) ∙ int_sum_below-zero n

pub no_sums : (v : ℕ → ℕ → ℤ) (m n : ℕ) → int_sum_below (λ i. int_sum_below (λ k. pos 0 *ℤ v i k) n) m ≡ pos 0
no_sums v m n = int_sum_below-same (λ i. int_sum_below (λ k. pos 0 *ℤ v i k) n) (λ i. pos 0) m (λ i lt. no_sum (v i) n) ∙ int_sum_below-zero m

-- coefficients at a key
pub key_sum : (key : ℕ → ℕ) (k : ℕ) (c v : ℕ → ℤ) (n : ℕ) → int_sum_below (λ i. when (key i) k (c i) *ℤ v i) n ≡ int_sum_at key k (λ i. c i *ℤ v i) n
key_sum key k c v n = int_sum_below-same (λ i. when (key i) k (c i) *ℤ v i) (λ i. if key i == k then c i *ℤ v i else pos 0) n
    (λ i lt. elim (same_or_other (key i) k) [
      | inl e ↦ ap (λ z. z *ℤ v i) (chosen (key i) k (c i) (pos 0) e) ∙ sym (chosen (key i) k (c i *ℤ v i) (pos 0) e)
      | inr d ↦ ap (λ z. z *ℤ v i) (passed (key i) k (c i) (pos 0) d) ∙ zero-*ℤ (v i) ∙ sym (passed (key i) k (c i *ℤ v i) (pos 0) d)
    ])

-- one coefficient
pub one_sum : (k : ℕ) (c : ℤ) (v : ℕ → ℤ) (n : ℕ) → k < n → int_sum_below (λ i. when i k c *ℤ v i) n ≡ c *ℤ v k
one_sum k c v n lt =
    int_sum_below-one (λ i. when i k c *ℤ v i) k n lt (λ i li ne. ap (λ z. z *ℤ v i) (passed i k c (pos 0) ne) ∙ zero-*ℤ (v i))
    ∙ ap (λ z. z *ℤ v k) (chosen k k c (pos 0) refl)

-- coefficients at one second index
pub one_sums : (k : ℕ) (c : ℕ → ℤ) (v : ℕ → ℕ → ℤ) (m n : ℕ) → k < n
    → int_sum_below (λ i. int_sum_below (λ h. when h k (c i) *ℤ v i h) n) m ≡ int_sum_below (λ i. c i *ℤ v i k) m
one_sums k c v m n lt = int_sum_below-same (λ i. int_sum_below (λ h. when h k (c i) *ℤ v i h) n) (λ i. c i *ℤ v i k) m (λ i li. one_sum k (c i) (v i) n lt)

-- one coefficient at two indices
pub pair_sum : (i k : ℕ) (c : ℤ) (v : ℕ → ℕ → ℤ) (m n : ℕ) → i < m → k < n
    → int_sum_below (λ j. int_sum_below (λ h. when h k (when j i c) *ℤ v j h) n) m ≡ c *ℤ v i k
pair_sum i k c v m n li lk = one_sums k (λ j. when j i c) v m n lk ∙ one_sum i c (λ j. v j k) m li

-- the coefficient c on m times the flows at a key
pub scaled_at : (key : ℕ → ℕ) (k : ℕ) (c m : ℤ) (f : ℕ → ℕ) (n : ℕ) → int_sum_below (λ i. when (key i) k c *ℤ (m *ℤ pos (f i))) n ≡ c *ℤ (m *ℤ pos (sum_at key k f n))
scaled_at key k c m f n =
    key_sum key k (λ i. c) (λ i. m *ℤ pos (f i)) n
    ∙ int_sum_at-mul key k c (λ i. m *ℤ pos (f i)) n
    ∙ ap (λ z. c *ℤ z) (int_sum_at-mul key k m (λ i. pos (f i)) n ∙ ap (λ z. m *ℤ z) (pos-sum_at key k f n))

-- a coefficient c at a key
pub same_at : (key : ℕ → ℕ) (k : ℕ) (c : ℤ) (v : ℕ → ℤ) (n : ℕ) → int_sum_below (λ i. when (key i) k c *ℤ v i) n ≡ c *ℤ int_sum_at key k v n
same_at key k c v n = key_sum key k (λ i. c) v n ∙ int_sum_at-mul key k c v n

-- opposite coefficients at a key
pub opposite_at : (key : ℕ → ℕ) (k : ℕ) (c v : ℕ → ℤ) (n : ℕ) → int_sum_below (λ i. when (key i) k (neg_ℤ (c i)) *ℤ v i) n ≡ neg_ℤ (int_sum_at key k (λ i. c i *ℤ v i) n)
opposite_at key k c v n =
    key_sum key k (λ i. neg_ℤ (c i)) v n
    ∙ int_sum_at-same key k (λ i. neg_ℤ (c i) *ℤ v i) (λ i. neg_ℤ (pos 1) *ℤ (c i *ℤ v i)) n (λ i lt is. neg-mul (c i) (v i) ∙ minus_one (c i *ℤ v i))
    ∙ int_sum_at-mul key k (neg_ℤ (pos 1)) (λ i. c i *ℤ v i) n
    ∙ sym (minus_one (int_sum_at key k (λ i. c i *ℤ v i) n))
  where
    minus_one : (z : ℤ) → neg_ℤ z ≡ neg_ℤ (pos 1) *ℤ z
    minus_one z = omega (arith, linear)

-- the room below a quality u, and the excess above it, times m and the flows at a key
pub room_at : (key : ℕ → ℕ) (k : ℕ) (u m : ℤ) (quality : ℕ → ℤ) (f : ℕ → ℕ) (n : ℕ)
    → int_sum_below (λ i. when (key i) k (u -ℤ quality i) *ℤ (m *ℤ pos (f i))) n
    ≡ m *ℤ (u *ℤ pos (sum_at key k f n)) -ℤ m *ℤ int_sum_at key k (λ i. quality i *ℤ pos (f i)) n
room_at key k u m quality f n =
    key_sum key k (λ i. u -ℤ quality i) (λ i. m *ℤ pos (f i)) n
    ∙ int_sum_at-same key k (λ i. (u -ℤ quality i) *ℤ (m *ℤ pos (f i))) (λ i. (m *ℤ u) *ℤ pos (f i) +ℤ neg_ℤ m *ℤ (quality i *ℤ pos (f i))) n (λ i lt is. split m (quality i) (pos (f i)) u)
    ∙ omega (
      arith,
      additive,
      int_sum_at-add key k (λ i. (m *ℤ u) *ℤ pos (f i)) (λ i. neg_ℤ m *ℤ (quality i *ℤ pos (f i))) n,
      int_sum_at-mul key k (m *ℤ u) (λ i. pos (f i)) n,
      ap (λ z. (m *ℤ u) *ℤ z) (pos-sum_at key k f n),
      mul_assoc_ℤ m u (pos (sum_at key k f n)),
      int_sum_at-mul key k (neg_ℤ m) (λ i. quality i *ℤ pos (f i)) n,
      neg-mul m (int_sum_at key k (λ i. quality i *ℤ pos (f i)) n),
    )
  where
    split : (m q z u : ℤ) → (u -ℤ q) *ℤ (m *ℤ z) ≡ (m *ℤ u) *ℤ z +ℤ neg_ℤ m *ℤ (q *ℤ z)
    split m q z u = simp sorted (omega (arith, additive))

pub excess_at : (key : ℕ → ℕ) (k : ℕ) (u m : ℤ) (quality : ℕ → ℤ) (f : ℕ → ℕ) (n : ℕ)
    → int_sum_below (λ i. when (key i) k (quality i -ℤ u) *ℤ (m *ℤ pos (f i))) n
    ≡ m *ℤ int_sum_at key k (λ i. quality i *ℤ pos (f i)) n -ℤ m *ℤ (u *ℤ pos (sum_at key k f n))
excess_at key k u m quality f n =
    key_sum key k (λ i. quality i -ℤ u) (λ i. m *ℤ pos (f i)) n
    ∙ int_sum_at-same key k (λ i. (quality i -ℤ u) *ℤ (m *ℤ pos (f i))) (λ i. m *ℤ (quality i *ℤ pos (f i)) +ℤ neg_ℤ (m *ℤ u) *ℤ pos (f i)) n (λ i lt is. split m (quality i) (pos (f i)) u)
    ∙ omega (
      arith,
      additive,
      int_sum_at-add key k (λ i. m *ℤ (quality i *ℤ pos (f i))) (λ i. neg_ℤ (m *ℤ u) *ℤ pos (f i)) n,
      int_sum_at-mul key k m (λ i. quality i *ℤ pos (f i)) n,
      int_sum_at-mul key k (neg_ℤ (m *ℤ u)) (λ i. pos (f i)) n,
      ap (λ z. neg_ℤ (m *ℤ u) *ℤ z) (pos-sum_at key k f n),
      neg-mul (m *ℤ u) (pos (sum_at key k f n)),
      mul_assoc_ℤ m u (pos (sum_at key k f n)),
    )
  where
    split : (m q z u : ℤ) → (q -ℤ u) *ℤ (m *ℤ z) ≡ m *ℤ (q *ℤ z) +ℤ neg_ℤ (m *ℤ u) *ℤ z
    split m q z u = simp sorted (omega (arith, additive))

-- the room below a quality u of two flows together
pub room_of_both : (m u y z : ℤ) → m *ℤ (u *ℤ (y +ℤ z)) ≡ u *ℤ (m *ℤ y) +ℤ m *ℤ (u *ℤ z)
room_of_both m u y z = simp sorted (omega (arith, additive))

-- ---- how much coefficients at a key weigh

size_when : (i k : ℕ) (c : ℤ) (x most : ℕ) → unsigned_abs c ≤ most → unsigned_abs (when i k c) * x ≤ most * (if i == k then x else 0)
size_when i k c x most h = elim (same_or_other i k) [
  | inl e ↦ omega (arith, mul-le-mul_right x h, ap (λ z. unsigned_abs z * x) (chosen i k c (pos 0) e), ap (λ z. most * z) (chosen i k x 0 e))
  | inr d ↦ omega (arith, ap (λ z. unsigned_abs z * x) (passed i k c (pos 0) d), ap (λ z. most * z) (passed i k x 0 d))
]

-- times numbers that are there, no more than the greatest coefficient times the numbers at the key
pub weight_at : (key : ℕ → ℕ) (k : ℕ) (c : ℕ → ℤ) (x : ℕ → ℕ) (most n : ℕ) → ((i : ℕ) → i < n → unsigned_abs (c i) ≤ most)
    → sum_below (λ i. unsigned_abs (when (key i) k (c i)) * x i) n ≤ most * sum_at key k x n
weight_at key k c x most n h =
    omega (
      arith,
      sum_below-le (λ i. unsigned_abs (when (key i) k (c i)) * x i) (λ i. most * (if key i == k then x i else 0)) n (λ i lt. size_when (key i) k (c i) (x i) most (h i lt)),
      sum_below-mul most (λ i. if key i == k then x i else 0) n,
    )

-- the same for coefficients at one second index
pub weights_at : (key : ℕ → ℕ) (j k : ℕ) (c : ℕ → ℤ) (x : ℕ → ℕ → ℕ) (most m n : ℕ) → k < n → ((i : ℕ) → i < m → unsigned_abs (c i) ≤ most)
    → sum_below (λ i. sum_below (λ h. unsigned_abs (when h k (when (key i) j (c i))) * x i h) n) m ≤ most * sum_at key j (λ i. x i k) m
weights_at key j k c x most m n lt h =
    omega (
      arith,
      sum_below-le (λ i. sum_below (λ l. unsigned_abs (when l k (when (key i) j (c i))) * x i l) n) (λ i. unsigned_abs (when (key i) j (c i)) * x i k) m
          (λ i li. one_weight k (when (key i) j (c i)) (x i) n lt),
      weight_at key j c (λ i. x i k) most m h,
    )
  where
    none_below : (x : ℕ → ℕ) (k n : ℕ) → n ≤ k → sum_at (λ l. l) k x n ≡ 0
    none_below x k zero h = refl
    none_below x k (suc n) h = omega (arith, none_below x k n (omega arith), passed n k (x n) 0 (omega arith))

    sum_at-own : (x : ℕ → ℕ) (k n : ℕ) → k < n → sum_at (λ l. l) k x n ≡ x k
    sum_at-own x k zero h = absurd (omega arith)
    sum_at-own x k (suc n) h = elim (same_or_other n k) [
      | inl e ↦ omega (arith, none_below x k n (omega arith), chosen n k (x n) 0 e, ap x e)
      | inr d ↦ omega (arith, sum_at-own x k n (omega arith), passed n k (x n) 0 d)
    ]

    one_weight : (k : ℕ) (c : ℤ) (x : ℕ → ℕ) (n : ℕ) → k < n → sum_below (λ l. unsigned_abs (when l k c) * x l) n ≤ unsigned_abs c * x k
    one_weight k c x n lt =
        omega (
          arith,
          weight_at (λ l. l) k (λ l. c) x (unsigned_abs c) n (λ i li. omega arith),
          ap (λ z. unsigned_abs c * z) (sum_at-own x k n lt),
        )
