-- Least common multiples of the first denominators of a list, with one more, and of all.
use Rattle.std.proofs.Common.{◌≡◌, ◌∙◌, ℕ, ◌+◌, ◌^◌, ◌<◌, ◌≤◌, List, length, get_or, ◌⊎◌, inl, inr, pos, ap, sym, subst, refl, arith}
use Rattle.std.specs.Int.{◌∣◌}
use Rattle.std.proofs.Math.Nat.{one-dvd}
use Rattle.std.proofs.lemmas.Nat.Gcd.{dvd_trans}
use Rattle.exact_num.specs.Fraction.{Fraction}
use Rattle.common_denominators.specs.Multiples.{IsCommonMultiple, IsCommonBelow, IsCommonOf, IsCoarse, IsCoarseIn, IsEither, IsLeastMultiple, StandsIn}

-- of none it is 1
pub none-below : (xs : List Fraction) → IsCommonBelow xs 0 1
none-below xs = record {
  positive = omega arith;
  common = λ d h. absurd (omega (arith, h.1));
  least = λ k h. one-dvd k;
}

before_or_last : (i k : ℕ) → i < k + 1 → (i < k) ⊎ (i ≡ k)
before_or_last i k h = grind arith

-- with one denominator more
pub more-below : (xs : List Fraction) (k m d n : ℕ) → d ≡ (get_or xs k record { num = pos 0; den = 1 }).den → IsCommonBelow xs k m → IsLeastMultiple (IsEither m d) n
    → IsCommonBelow xs (k + 1) n
more-below xs k m d n e h j = record {
  positive = j.positive;
  common = λ c p. divided c p.0 (before_or_last p.0 k p.1) p.2;
  least = λ c p. j.least c (λ b. either c p b);
}
  where
    divided : (c i : ℕ) → (i < k) ⊎ (i ≡ k) → c ≡ (get_or xs i record { num = pos 0; den = 1 }).den → c ∣ n
    divided c i (inl lt) f = dvd_trans c (h.common c (i, lt, f)) (j.common m (inl refl))
    divided c i (inr is) f = j.common c (inr (f ∙ ap (λ q. (get_or xs q record { num = pos 0; den = 1 }).den) is ∙ sym e))

    either : (c : ℕ) → IsCommonMultiple (λ b. (i : ℕ) × (i < k + 1) × (b ≡ (get_or xs i record { num = pos 0; den = 1 }).den)) c → (b : ℕ) → IsEither m d b → b ∣ c
    either c p b (inl f) = subst (λ q. q ∣ c) (sym f) (h.least c (λ q r. p q (r.0, omega (arith, r.1), r.2)))
    either c p b (inr f) = subst (λ q. q ∣ c) (sym f) (p d (k, omega arith, e))

-- all of them
pub all-below : (xs : List Fraction) (k m : ℕ) → k ≡ length xs → IsCommonBelow xs k m → IsCommonOf xs m
all-below xs k m e h = record {
  positive = h.positive;
  common = λ d p. h.common d (p.0, subst (λ q. p.0 < q) (sym e) p.2.0, p.3 ∙ ap (λ x. x.den) p.2.1);
  least = λ c p. h.least c (λ d r. p d (r.0, get_or xs r.0 record { num = pos 0; den = 1 }, (subst (λ q. r.0 < q) e r.1, refl), r.2));
}

-- the first of them, and the next, where no common multiple of both is below 2^64
pub coarse-next : (m d : ℕ) (x : Fraction) → 0 < m → d ≡ x.den → ((n : ℕ) → 0 < n → IsCommonMultiple (IsEither m d) n → 2 ^ 64 ≤ n) → IsCoarse m x
coarse-next m d x positive e large = record {
  positive = positive;
  coarse = inl (λ n h. large n h.positive (λ b p. h.common b (subst (λ q. IsEither m q b) e p)));
}

pub coarse-in : (xs : List Fraction) (k m d : ℕ) (x : Fraction) → k < length xs → x ≡ get_or xs k record { num = pos 0; den = 1 } → d ≡ x.den → IsCommonBelow xs k m
    → ((n : ℕ) → 0 < n → IsCommonMultiple (IsEither m d) n → 2 ^ 64 ≤ n) → IsCoarseIn (StandsIn xs) m x
coarse-in xs k m d x lt is e h large = record {
  listed = (k, (lt, is));
  divides = λ n p. first n p.common;
  whole = λ n p small. absurd (omega (arith, small, large n p.positive (λ b q. both n p.common b q)));
}
  where
    first : (n : ℕ) → IsCommonMultiple (λ b. (i : ℕ) × (y : Fraction) × StandsIn xs i y × (b ≡ y.den)) n → m ∣ n
    first n p = h.least n (λ b r. p b (r.0, get_or xs r.0 record { num = pos 0; den = 1 }, (omega (arith, lt, r.1), refl), r.2))

    both : (n : ℕ) → IsCommonMultiple (λ b. (i : ℕ) × (y : Fraction) × StandsIn xs i y × (b ≡ y.den)) n → (b : ℕ) → IsEither m d b → b ∣ n
    both n p b (inl f) = subst (λ q. q ∣ n) (sym f) (first n p)
    both n p b (inr f) = p b (k, x, (lt, is), f ∙ e)
