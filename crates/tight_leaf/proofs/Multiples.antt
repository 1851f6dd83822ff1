-- Least common multiples of the denominators of fractions that stand at numbers, and of the same fractions in a list.
use Rattle.std.proofs.Common.{◌≡◌, ℕ, ◌^◌, ◌<◌, ◌≤◌, ◌∙◌, ◌⊎◌, inl, inr, sym, subst, refl, arith}
use Rattle.std.specs.Int.{◌∣◌}
use Rattle.std.proofs.Math.Nat.{one-dvd}
use Rattle.std.proofs.lemmas.Nat.Gcd.{dvd_refl, le_of_dvd}
use Rattle.exact_num.specs.Fraction.{Fraction}
use Rattle.common_denominators.specs.Multiples.{HasNoShort, IsCoarseIn, IsCommonMultiple, IsDenominatorOf, IsEither, IsLeastMultiple}

-- two least common multiples of the same numbers are one
pub least-one : (among : ℕ → Type 0) (m k : ℕ) → IsLeastMultiple among m → IsLeastMultiple among k → m ≡ k
least-one among m k h j = omega (arith, le_of_dvd j.positive (h.least k j.common), le_of_dvd h.positive (j.least m h.common))

-- so it is with fractions of which some are whole and the others stand elsewhere too
module _ (all listed : ℕ → Fraction → Type 0)
    (into : (i : ℕ) (x : Fraction) → all i x → (x.den ≡ 1) ⊎ IsDenominatorOf listed x.den)
    (back : (i : ℕ) (x : Fraction) → listed i x → (j : ℕ) × all j x) where
  den-into : (d : ℕ) → IsDenominatorOf all d → (d ≡ 1) ⊎ IsDenominatorOf listed d
  den-into d a = elim (into a.0 a.1 a.2) [
    | inl e ↦ inl (a.3 ∙ e)
    | inr b ↦ inr (b.0, b.1, b.2, a.3 ∙ b.3)
  ]

  den-back : (d : ℕ) → IsDenominatorOf listed d → IsDenominatorOf all d
  den-back d b = let j = back b.0 b.1 b.2 in (j.0, b.1, j.1, b.3)

  divides : (m d : ℕ) → IsCommonMultiple (IsDenominatorOf listed) m → (d ≡ 1) ⊎ IsDenominatorOf listed d → d ∣ m
  divides m d h (inl e) = subst (λ (k : ℕ). k ∣ m) (sym e) (one-dvd m)
  divides m d h (inr b) = h d b

  pub least-of_all : (m : ℕ) → IsLeastMultiple (IsDenominatorOf listed) m → IsLeastMultiple (IsDenominatorOf all) m
  least-of_all m h = record {
    positive = h.positive;
    common = λ d a. divides m d h.common (den-into d a);
    least = λ k c. h.least k (λ d b. c d (den-back d b));
  }

  pub least-of_listed : (m : ℕ) → IsLeastMultiple (IsDenominatorOf all) m → IsLeastMultiple (IsDenominatorOf listed) m
  least-of_listed m h = record {
    positive = h.positive;
    common = λ d b. h.common d (den-back d b);
    least = λ k c. h.least k (λ d a. divides k d c (den-into d a));
  }

  -- what is too coarse among those that are listed is so among all
  pub coarse-of_all : (times : ℕ) (x : Fraction) → IsCoarseIn listed times x → IsCoarseIn all times x
  coarse-of_all times x h = record {
    listed = back h.listed.0 x h.listed.1;
    divides = λ m l. h.divides m (least-of_listed m l);
    whole = λ m l small. h.whole m (least-of_listed m l) small;
  }

-- the least common multiple itself is too coarse only where so many times a fraction is outside
pub coarse-itself : (list : ℕ → Fraction → Type 0) (n i : ℕ) (x : Fraction) → list i x → IsLeastMultiple (IsDenominatorOf list) n → IsCoarseIn list n x
coarse-itself list n i x at h = record {
  listed = (i, at);
  divides = λ m l. h.least m l.common;
  whole = λ m l small. least-one (IsDenominatorOf list) n m h l;
}

-- where no common multiple of a number and one of the denominators is short, that of all is not
pub none-short : (list : ℕ → Fraction → Type 0) (times : ℕ) (x : Fraction) (m : ℕ) → IsCoarseIn list times x → HasNoShort times x.den → IsLeastMultiple (IsDenominatorOf list) m → m < 2 ^ 64 → ⊥
none-short list times x m h large l small =
    let e : times ≡ m = h.whole m l small in
    let le : 2 ^ 64 ≤ m = large m record {
      positive = l.positive;
      common = both e;
      least = λ k c. subst (λ (q : ℕ). q ∣ k) e (c times (inl refl));
    } in omega (arith, le, small)
  where
    both : times ≡ m → (d : ℕ) → IsEither times x.den d → d ∣ m
    both e d (inl f) = subst (λ (q : ℕ). q ∣ m) (sym (f ∙ e)) (dvd_refl m)
    both e d (inr f) = subst (λ (q : ℕ). q ∣ m) (sym f) (l.common x.den (h.listed.0, x, h.listed.1, refl))
