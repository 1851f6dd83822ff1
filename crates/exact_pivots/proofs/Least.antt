-- Of finitely many fractions one is least, the first of those.
use Rattle.std.proofs.Common.{◌≡◌, ℕ, zero, suc, ◌+◌, ◌<◌, ◌≤◌, ◌⊎◌, inl, inr, sym, subst, arith, ℤ, pos, ◌*ℤ◌, ◌≤ℤ◌, ◌<ℤ◌}
use Rattle.std.proofs.lemmas.Int.{ints}
use Rattle.integers.proofs.Ring.{sorted, additive}
use Rattle.integers.proofs.Order.{lt-mul, le-mul, lt-cancel, le-cancel}
use Rattle.exact_num.specs.Fraction.{Fraction, IsSame}
use Rattle.exact_run.specs.Steps.{IsBelow, IsAtMost}
use Rattle.exact_pivots.specs.Weighing.{IsFirstLeast}

pub positive : {n : ℕ} → 0 < n → pos 0 <ℤ pos n
positive h = omega (arith, ints)

pub nonneg : (n : ℕ) → pos 0 ≤ℤ pos n
nonneg n = omega (arith, ints)

pub below_or_not : (x y : Fraction) → IsBelow x y ⊎ IsAtMost y x
below_or_not x y = two (x.num *ℤ pos y.den) (y.num *ℤ pos x.den)
  where
    two : (a b : ℤ) → (a <ℤ b) ⊎ (b ≤ℤ a)
    two a b = grind (arith, ints)

-- ---- the order passes on

below_step : (a b c d e f : ℤ) → (f *ℤ (a *ℤ d)) <ℤ (f *ℤ (c *ℤ b)) → (b *ℤ (c *ℤ f)) ≤ℤ (b *ℤ (e *ℤ d)) → (d *ℤ (a *ℤ f)) <ℤ (d *ℤ (e *ℤ b))
below_step a b c d e f h k = simp sorted (omega (arith, additive, simp sorted at h, simp sorted at k))

at_most_step : (a b c d e f : ℤ) → (f *ℤ (a *ℤ d)) ≤ℤ (f *ℤ (c *ℤ b)) → (b *ℤ (c *ℤ f)) ≤ℤ (b *ℤ (e *ℤ d)) → (d *ℤ (a *ℤ f)) ≤ℤ (d *ℤ (e *ℤ b))
at_most_step a b c d e f h k = simp sorted (omega (arith, additive, simp sorted at h, simp sorted at k))

pub below_then : (x y z : Fraction) → 0 < x.den → 0 < y.den → 0 < z.den → IsBelow x y → IsAtMost y z → IsBelow x z
below_then x y z p q r h k =
    lt-cancel (pos y.den) (x.num *ℤ pos z.den) (z.num *ℤ pos x.den) (positive q)
    (below_step x.num (pos x.den) y.num (pos y.den) z.num (pos z.den) (lt-mul (pos z.den) (x.num *ℤ pos y.den) (y.num *ℤ pos x.den) (positive r) h) (le-mul (pos x.den) (y.num *ℤ pos z.den) (z.num *ℤ pos y.den) (nonneg x.den) k))

pub at_most_then : (x y z : Fraction) → 0 < x.den → 0 < y.den → 0 < z.den → IsAtMost x y → IsAtMost y z → IsAtMost x z
at_most_then x y z p q r h k =
    le-cancel (pos y.den) (x.num *ℤ pos z.den) (z.num *ℤ pos x.den) (positive q)
    (at_most_step x.num (pos x.den) y.num (pos y.den) z.num (pos z.den) (le-mul (pos z.den) (x.num *ℤ pos y.den) (y.num *ℤ pos x.den) (nonneg z.den) h) (le-mul (pos x.den) (y.num *ℤ pos z.den) (z.num *ℤ pos y.den) (nonneg x.den) k))

pub below_at_most : (x y : Fraction) → IsBelow x y → IsAtMost x y
below_at_most x y h = one (x.num *ℤ pos y.den) (y.num *ℤ pos x.den) h
  where
    one : (a b : ℤ) → a <ℤ b → a ≤ℤ b
    one a b h = omega (arith, additive)

pub at_most_self : (x : Fraction) → IsAtMost x x
at_most_self x = one (x.num *ℤ pos x.den)
  where
    one : (a : ℤ) → a ≤ℤ a
    one a = omega (arith, additive)

pub same_at_most : (x y : Fraction) → IsSame x y → IsAtMost x y
same_at_most x y h = one (x.num *ℤ pos y.den) (y.num *ℤ pos x.den) h
  where
    one : (a b : ℤ) → a ≡ b → a ≤ℤ b
    one a b h = omega (arith, additive)

-- the order is that of each that is the same
pub below_same : (a b x y : Fraction) → 0 < a.den → 0 < b.den → 0 < x.den → 0 < y.den → IsSame a x → IsSame b y → IsBelow a b → IsBelow x y
below_same a b x y pa pb px py s t h =
    below_first x a y px pa py (same_at_most x a (sym s)) (below_then a b y pa pb py h (same_at_most b y t))
  where
    first_step : (a b c d e f : ℤ) → (f *ℤ (a *ℤ d)) ≤ℤ (f *ℤ (c *ℤ b)) → (b *ℤ (c *ℤ f)) <ℤ (b *ℤ (e *ℤ d)) → (d *ℤ (a *ℤ f)) <ℤ (d *ℤ (e *ℤ b))
    first_step a b c d e f h k = simp sorted (omega (arith, additive, simp sorted at h, simp sorted at k))

    below_first : (x y z : Fraction) → 0 < x.den → 0 < y.den → 0 < z.den → IsAtMost x y → IsBelow y z → IsBelow x z
    below_first x y z p q r h k =
        lt-cancel (pos y.den) (x.num *ℤ pos z.den) (z.num *ℤ pos x.den) (positive q)
        (first_step x.num (pos x.den) y.num (pos y.den) z.num (pos z.den) (le-mul (pos z.den) (x.num *ℤ pos y.den) (y.num *ℤ pos x.den) (nonneg z.den) h) (lt-mul (pos x.den) (y.num *ℤ pos z.den) (z.num *ℤ pos y.den) (positive p) k))

pub at_most_same : (a b x y : Fraction) → 0 < a.den → 0 < b.den → 0 < x.den → 0 < y.den → IsSame a x → IsSame b y → IsAtMost a b → IsAtMost x y
at_most_same a b x y pa pb px py s t h =
    at_most_then x a y px pa py (same_at_most x a (sym s)) (at_most_then a b y pa pb py h (same_at_most b y t))

-- ---- the least of those that a property has

three : (j n : ℕ) → j < n + 1 → (j < n) ⊎ (j ≡ n)
three j n lt = grind arith

under_or_over : (j n : ℕ) → (j < n) ⊎ (n ≤ j)
under_or_over j n = grind arith

module _ (P : ℕ → Type 0) (ratio : ℕ → Fraction) (positives : (j : ℕ) → P j → 0 < (ratio j).den) where
  -- one number more, whose ratio is below the least
  pub least_taken : (n k : ℕ) → IsFirstLeast P ratio n k → P n → IsBelow (ratio n) (ratio k) → IsFirstLeast P ratio (n + 1) n
  least_taken n k h there lt = record {
    below = omega arith;
    has = there;
    least = λ j below pj. elim (three j n below) [
      | inl before ↦ below_at_most (ratio n) (ratio j) (below_then (ratio n) (ratio k) (ratio j) (positives n there) (positives k h.has) (positives j pj) lt (h.least j before pj))
      | inr e ↦ subst (λ (i : ℕ). IsAtMost (ratio n) (ratio i)) (sym e) (at_most_self (ratio n))
    ];
    first = λ j before pj. below_then (ratio n) (ratio k) (ratio j) (positives n there) (positives k h.has) (positives j pj) lt (h.least j before pj);
  }

  -- one whose ratio is not
  pub least_stays : (n k : ℕ) → IsFirstLeast P ratio n k → IsAtMost (ratio k) (ratio n) → IsFirstLeast P ratio (n + 1) k
  least_stays n k h le = record {
    below = omega (arith, h.below);
    has = h.has;
    least = λ j below pj. elim (three j n below) [
      | inl before ↦ h.least j before pj
      | inr e ↦ subst (λ (i : ℕ). IsAtMost (ratio k) (ratio i)) (sym e) le
    ];
    first = h.first;
  }

  least_more : (n k : ℕ) → IsFirstLeast P ratio n k → P n → (m : ℕ) × IsFirstLeast P ratio (n + 1) m
  least_more n k h there = elim (below_or_not (ratio n) (ratio k)) [
    | inl lt ↦ (n, least_taken n k h there lt)
    | inr le ↦ (k, least_stays n k h le)
  ]

  -- numbers more that have it not
  pub least_wider : (n m k : ℕ) → n ≤ m → IsFirstLeast P ratio n k → ((j : ℕ) → n ≤ j → j < m → P j → ⊥) → IsFirstLeast P ratio m k
  least_wider n m k le h none = record {
    below = omega (arith, h.below);
    has = h.has;
    least = λ j below pj. elim (under_or_over j n) [
      | inl before ↦ h.least j before pj
      | inr over ↦ absurd (none j over below pj)
    ];
    first = h.first;
  }

  pub least_kept : (n k : ℕ) → IsFirstLeast P ratio n k → (P n → ⊥) → IsFirstLeast P ratio (n + 1) k
  least_kept n k h none = record {
    below = omega (arith, h.below);
    has = h.has;
    least = λ j below pj. elim (three j n below) [
      | inl before ↦ h.least j before pj
      | inr e ↦ absurd (none (subst P e pj))
    ];
    first = h.first;
  }

  pub least_first : (n : ℕ) → ((j : ℕ) → j < n → P j → ⊥) → P n → IsFirstLeast P ratio (n + 1) n
  least_first n none there = record {
    below = omega arith;
    has = there;
    least = λ j below pj. elim (three j n below) [
      | inl before ↦ absurd (none j before pj)
      | inr e ↦ subst (λ (i : ℕ). IsAtMost (ratio n) (ratio i)) (sym e) (at_most_self (ratio n))
    ];
    first = λ j before pj. absurd (none j before pj);
  }

  at_suc : (n k : ℕ) → IsFirstLeast P ratio (n + 1) k → IsFirstLeast P ratio (suc n) k
  at_suc n k h = record { below = omega (arith, h.below); has = h.has; least = λ j lt pj. h.least j (omega arith) pj; first = h.first }

  pub has_least : ((j : ℕ) → P j ⊎ (P j → ⊥)) → (n : ℕ) → ((j : ℕ) → j < n → P j → ⊥) ⊎ ((k : ℕ) × IsFirstLeast P ratio n k)
  has_least decide zero = inl (λ j lt pj. absurd (omega arith))
  has_least decide (suc n) = elim (has_least decide n) [
    | inl none ↦ elim (decide n) [
      | inl there ↦ inr (n, at_suc n n (least_first n none there))
      | inr not_there ↦ inl (λ j lt pj. elim (three j n (omega arith)) [
        | inl before ↦ none j before pj
        | inr e ↦ not_there (subst P e pj)
      ])
    ]
    | inr found ↦ elim (decide n) [
      | inl there ↦ let more = least_more n found.0 found.1 there in inr (more.0, at_suc n more.0 more.1)
      | inr not_there ↦ inr (found.0, at_suc n found.0 (least_kept n found.0 found.1 not_there))
    ]
  ]
