-- The first of the cheapest starting plans, with one number more.
use Rattle.std.proofs.Common.{◌≡◌, ℕ, ◌+◌, ◌<◌, ◌⊎◌, inl, inr, Bool, true, false, if◌then◌else◌}
use Rattle.std.proofs.Common.{Option, Some, None, ℤ, ◌≤ℤ◌, ◌<ℤ◌, arith, refl, sym, ap, subst}
use Rattle.std.specs.Prelude.{int_lt, IfNone, IfSome}
use Rattle.std.proofs.lemmas.Int.{ints}
use Rattle.integers.proofs.Ring.{additive}
use Rattle.start_ways.specs.Cheapest.{better, is_cheaper, IsFirstLeast, IsFirstLeastAt}
use Rattle.start_ways.specs.declared.choice.Choice.{Choice}

below_or_at : (k n : ℕ) → k < n + 1 → (k < n) ⊎ (k ≡ n)
below_or_at k n h = grind arith

less_or_not : (a b : ℤ) → (int_lt a b ≡ true) ⊎ (int_lt a b ≡ false)
less_or_not a b = elim (int_lt a b) as (λ v. (v ≡ true) ⊎ (v ≡ false)) [ true ↦ inl refl | false ↦ inr refl ]

less_than : (a b : ℤ) → int_lt a b ≡ true → a <ℤ b
less_than a b h = grind (arith, ints)

not_less : (a b : ℤ) → int_lt a b ≡ false → b ≤ℤ a
not_less a b h = grind (arith, ints)

module _ (P : ℕ → Type 0) (cost : ℕ → ℤ) (count : ℕ) where
  -- which doesn't have the property
  least-kept : (best : Option Choice) → IsFirstLeast P cost count best → ¬ P count → IsFirstLeast P cost (count + 1) best
  least-kept None none lacks = λ k lt. elim (below_or_at k count lt) [ inl below ↦ none k below | inr at ↦ subst (λ i. ¬ P i) (sym at) lacks ]
  least-kept (Some best) is lacks = record {
    there = omega (arith, is.there);
    has = is.has;
    is = is.is;
    least = λ k lt has. elim (below_or_at k count lt) [ inl below ↦ is.least k below has | inr at ↦ absurd (lacks (subst P at has)) ];
    first = is.first;
  }

  -- which costs no less
  least-dearer : (best : Choice) (c : ℤ) → IsFirstLeastAt P cost count best → c ≡ cost count → int_lt c best.cost ≡ false → IsFirstLeastAt P cost (count + 1) best
  least-dearer best c is value dear = record {
    there = omega (arith, is.there);
    has = is.has;
    is = is.is;
    least = λ k lt has. elim (below_or_at k count lt) [
      | inl below ↦ is.least k below has
      | inr at ↦ omega (arith, additive, not_less c best.cost dear, value, ap cost at)
    ];
    first = is.first;
  }

  -- which is cheaper
  least-new : (c : ℤ) → ((k : ℕ) → k < count → P k → c <ℤ cost k) → P count → c ≡ cost count → IsFirstLeastAt P cost (count + 1) record { number = count; cost = c }
  least-new c before has value = record {
    there = omega arith;
    has = has;
    is = value;
    least = λ k lt have. elim (below_or_at k count lt) [
      | inl below ↦ omega (arith, additive, before k below have)
      | inr at ↦ omega (arith, additive, value, ap cost at)
    ];
    first = before;
  }

  -- one number more, with its cost where it has the property
  pub least-better : (best : Option Choice) (o : Option ℤ) → IsFirstLeast P cost count best → IfSome o (λ _. P count) → IfSome o (λ c. c ≡ cost count) → IfNone o (¬ P count)
      → IsFirstLeast P cost (count + 1) (better best count o)
  least-better best None is has value lacks = least-kept best is lacks
  least-better None (Some c) none has value lacks = least-new c (λ k lt have. absurd (none k lt have)) has value
  least-better (Some best) (Some c) is has value lacks = elim (less_or_not c best.cost) [
    | inl less ↦ subst (IsFirstLeast P cost (count + 1)) (sym (ap (λ b. if b then Some record { number = count; cost = c } else Some best) less))
        (least-new c (λ k lt have. omega (arith, additive, less_than c best.cost less, is.least k lt have)) has value)
    | inr dear ↦ subst (IsFirstLeast P cost (count + 1)) (sym (ap (λ b. if b then Some record { number = count; cost = c } else Some best) dear)) (least-dearer best c is value dear)
  ]

pub small-better : (small : ℤ → Type 0) (best : Option Choice) (count : ℕ) (o : Option ℤ) → IfSome best (λ b. small b.cost) → IfSome o small → IfSome (better best count o) (λ b. small b.cost)
small-better small best count None kept new = kept
small-better small best count (Some c) kept new = either (is_cheaper best c)
  where
    either : (b : Bool) → IfSome (if b then Some record { number = count; cost = c } else best) (λ b. small b.cost)
    either true = new
    either false = kept
