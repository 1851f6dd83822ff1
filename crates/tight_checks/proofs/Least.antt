-- The least of bounds that may be absent.
use Rattle.std.proofs.Common.{◌≡◌, ◌⊎◌, inl, inr, List, [], ◌∷◌, ◌++◌, Option, None, Some, ℤ, ◌≤ℤ◌, arith, refl, sym, ap, subst, ◌∙◌}
use Rattle.std.specs.Int.{int_min}
use Rattle.std.proofs.lemmas.List.Elements.{All-push, All-weaker, All-contains, Contains-push, Contains-append_left}
use Rattle.std.proofs.lemmas.Int.{clamps}
use Rattle.integers.proofs.Ring.{additive}
use Rattle.pool_model.specs.Starting.{lesser}
use Rattle.tight_checks.specs.Holding.{IsAtLeast, IsLeast}

some_one : (x y : ℤ) → Some x ≡ Some y → x ≡ y
some_one x y e = cc

none_some : (x : ℤ) → None ≡ Some x → ⊥
none_some x e = cc

at_least_none : (low : ℤ) (bound : Option ℤ) → bound ≡ None → IsAtLeast low bound
at_least_none low bound e b h = absurd (none_some b (sym e ∙ h))

at_least_some : (low b : ℤ) → low ≤ℤ b → IsAtLeast low (Some b)
at_least_some low b h c e = subst (λ z. low ≤ℤ z) (some_one b c e) h

lower : (low high : ℤ) (bound : Option ℤ) → low ≤ℤ high → IsAtLeast high bound → IsAtLeast low bound
lower low high bound h k b e = let le = k b e in omega (arith, additive)

-- one bound more
pub least-more : (bounds : List (Option ℤ)) (low bound : Option ℤ) → IsLeast bounds low → IsLeast (bounds ++ bound ∷ []) (lesser low bound)
least-more bounds None None h = All-push (λ bound. bound ≡ None) bounds None h refl
least-more bounds None (Some b) h = (
  Contains-push bounds (Some b),
  All-push (IsAtLeast b) bounds (Some b) (All-weaker (λ bound. bound ≡ None) (IsAtLeast b) (at_least_none b) bounds h) (at_least_some b b (omega (arith, additive))),
)
least-more bounds (Some a) None h = (
  Contains-append_left bounds (None ∷ []) (Some a) h.0,
  All-push (IsAtLeast a) bounds None h.1 (at_least_none a None refl),
)
least-more bounds (Some a) (Some b) h = elim (either a b) [
  | inl e ↦ subst (λ (z : ℤ). IsLeast (bounds ++ Some b ∷ []) (Some z)) (sym e.0) (
    Contains-append_left bounds (Some b ∷ []) (Some a) h.0,
    All-push (IsAtLeast a) bounds (Some b) h.1 (at_least_some a b e.1),
  )
  | inr e ↦ subst (λ (z : ℤ). IsLeast (bounds ++ Some b ∷ []) (Some z)) (sym e.0) (
    Contains-push bounds (Some b),
    All-push (IsAtLeast b) bounds (Some b) (All-weaker (IsAtLeast a) (IsAtLeast b) (λ bound. lower b a bound e.1) bounds h.1) (at_least_some b b (omega (arith, additive))),
  )
]
  where
    either : (a b : ℤ) → ((int_min a b ≡ a) × (a ≤ℤ b)) ⊎ ((int_min a b ≡ b) × (b ≤ℤ a))
    either a b = grind (arith, additive, clamps)

-- there is one least bound
pub least-one : (bounds : List (Option ℤ)) (a b : Option ℤ) → IsLeast bounds a → IsLeast bounds b → a ≡ b
least-one bounds None None h k = refl
least-one bounds None (Some b) h k = absurd (none_some b (sym (All-contains (λ bound. bound ≡ None) bounds (Some b) h k.0)))
least-one bounds (Some a) None h k = absurd (none_some a (sym (All-contains (λ bound. bound ≡ None) bounds (Some a) k h.0)))
least-one bounds (Some a) (Some b) h k =
    let below = All-contains (IsAtLeast a) bounds (Some b) h.1 k.0 b refl in
    let above = All-contains (IsAtLeast b) bounds (Some a) k.1 h.0 a refl in
    let same : a ≡ b = omega (arith, additive) in ap Some same
