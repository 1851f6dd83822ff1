-- Least common multiples of a number and a denominator, from their quotient in lowest terms.
use Rattle.std.proofs.Common.{◌≡◌, ℕ, ◌*◌, ◌/◌, ◌^◌, ◌<◌, ◌≤◌, ◌∙◌, ap, sym, subst, refl, arith, ◌⊎◌, inl, inr, ℤ, pos, negsuc, neg_ℤ, ◌-ℤ◌, ◌*ℤ◌, ◌≤ℤ◌, ◌<ℤ◌, unsigned_abs, SFits, to_z, of_z, Result, Err, IsErrOf, ◌↔◌}
use Rattle.std.specs.Int.{◌∣◌}
use Rattle.std.proofs.Math.Nat.{div-le_self, dvd-mul_left, dvd-mul_right, div-mul_cancel, mul-dvd-mul_right, mul_comm, mul_left_comm, mul-div_cancel_left}
use Rattle.std.proofs.lemmas.Nat.Gcd.{le_of_dvd}
use Rattle.std.proofs.lemmas.Int.{ints, unsigned_abs-mul}
use lib.Signed.{quot_z}
use mir.Syntax.{w128}
use Rattle.integers.proofs.Order.{lt-mul, le-mul_pos}
use Rattle.integers.proofs.WideSums.{read_wide}
use Rattle.integers.specs.Divisors.{IsCoprime}
use Rattle.integers.proofs.Divides.{IsCoprime-swap, dvd-coprime}
use Rattle.integers.proofs.Ring.{additive, mul_comm_ℤ, sorted}
use Rattle.exact_num.proofs.Cancelling.{positive-product}
use Rattle.exact_num.specs.declared.frac.Frac.{Frac}
use Rattle.exact_num.specs.declared.frac.FracFault.{FracFault}
use Rattle.exact_num.specs.declared.frac.FracFault.TheVariants.{ZeroDivisor, Wide}
use Rattle.exact_num.specs.Fraction.{Fraction, IsSame, LeavesRange, ratio_of}
use Rattle.common_denominators.specs.Multiples.{IsCommonMultiple, IsEither, IsLeastMultiple, IsOutside, IsTimes}

-- a factor above 0 is dropped on both sides
dropped : (n a b : ℕ) → 0 < n → n * a ≡ n * b → a ≡ b
dropped n a b h e = sym (mul-div_cancel_left a h) ∙ ap (λ m. m / n) e ∙ mul-div_cancel_left b h

-- p over q is n over d: what n goes into a times and d goes into b times has these crossed
crossed : (n d p q a b k : ℕ) → 0 < n → p * d ≡ n * q → a * n ≡ k → b * d ≡ k → p * a ≡ q * b
crossed n d p q a b k h e f g = dropped n (p * a) (q * b) h (moved n p a ∙ ap (λ m. p * m) (f ∙ sym g) ∙ turned p b d ∙ ap (λ m. b * m) e ∙ back b n q)
  where
    moved : (n p a : ℕ) → n * (p * a) ≡ p * (a * n)
    moved n p a = simp (mul_comm, mul_left_comm) refl

    turned : (p b d : ℕ) → p * (b * d) ≡ b * (p * d)
    turned p b d = simp mul_left_comm refl

    back : (b n q : ℕ) → b * (n * q) ≡ n * (q * b)
    back b n q = simp (mul_comm, mul_left_comm) refl

common-of : (n d p q m : ℕ) → p * d ≡ n * q → IsEither n d m → m ∣ (n * q)
common-of n d p q m e (inl h) = subst (λ k. k ∣ (n * q)) (sym h) (dvd-mul_right n q)
common-of n d p q m e (inr h) = subst (λ k. k ∣ (n * q)) (sym h) (subst (λ k. d ∣ k) e (dvd-mul_left d p))

divides : (n d p q k : ℕ) → 0 < n → IsCoprime p q → p * d ≡ n * q → n ∣ k → d ∣ k → (n * q) ∣ k
divides n d p q k h lowest e hn hd =
    let same : p * (k / n) ≡ q * (k / d) = crossed n d p q (k / n) (k / d) k h e (div-mul_cancel n hn) (div-mul_cancel d hd) in
    let part : q ∣ (k / n) = dvd-coprime q p (k / n) (IsCoprime-swap p q lowest) (subst (λ m. q ∣ m) (sym same) (dvd-mul_right q (k / d))) in
    subst (λ m. m ∣ k) (mul_comm q n) (subst (λ m. (q * n) ∣ m) (div-mul_cancel n hn) (mul-dvd-mul_right q part n))

-- where p over q is n over d in lowest terms, n times q is the least common multiple of n and d
pub least-of : (n d p q : ℕ) → 0 < n → 0 < q → IsCoprime p q → p * d ≡ n * q → IsLeastMultiple (IsEither n d) (n * q)
least-of n d p q hn hq lowest e = record {
  positive = positive-product n q hn hq;
  common = λ m h. common-of n d p q m e h;
  least = λ k h. divides n d p q k hn lowest e (h n (inl refl)) (h d (inr refl));
}

-- each common multiple above 0 is at least that
pub large-of : (n d p q m : ℕ) → 0 < n → IsCoprime p q → p * d ≡ n * q → 2 ^ 64 ≤ n * q → 0 < m → IsCommonMultiple (IsEither n d) m → 2 ^ 64 ≤ m
large-of n d p q m hn lowest e large positive h =
    let le : n * q ≤ m = le_of_dvd positive (divides n d p q m hn lowest e (h n (inl refl)) (h d (inr refl))) in omega (arith, large, le)

-- the same as code reads them
pub joined-least : (n d p q m f : ℕ) (z : ℤ) → 0 < n → 0 < q → IsCoprime p q → p * d ≡ n * q → f ≡ n → z ≡ pos q → m ≡ f * unsigned_abs z → IsLeastMultiple (IsEither n d) m
joined-least n d p q m f z hn hq lowest e fe ze me =
    subst (λ (k : ℕ). IsLeastMultiple (IsEither n d) k) (sym (me ∙ ap (λ (k : ℕ). k * unsigned_abs z) fe ∙ ap (λ (y : ℤ). n * unsigned_abs y) ze)) (least-of n d p q hn hq lowest e)

pub joined-large : (n d p q f : ℕ) (z : ℤ) → 0 < n → IsCoprime p q → p * d ≡ n * q → f ≡ n → z ≡ pos q → 2 ^ 64 ≤ f * unsigned_abs z
    → (m : ℕ) → 0 < m → IsCommonMultiple (IsEither n d) m → 2 ^ 64 ≤ m
joined-large n d p q f z hn lowest e fe ze large m positive h =
    large-of n d p q m hn lowest e (subst (λ (k : ℕ). 2 ^ 64 ≤ k) (ap (λ (k : ℕ). k * unsigned_abs z) fe ∙ ap (λ (y : ℤ). n * unsigned_abs y) ze) large) positive h

pub not-below : (a b c : ℕ) → c ≤ b → (a < b → ⊥) → c ≤ a
not-below a b c le h = omega (arith, h)

-- a numerator times what the denominator goes into a number is so many times the fraction
pub times-of : (x : Fraction) (count factor : ℕ) → factor * x.den ≡ count → IsTimes count x (x.num *ℤ pos factor)
times-of x count factor e = subst (λ k. (x.num *ℤ pos factor) *ℤ pos x.den ≡ pos k *ℤ x.num) e (regroup x.num (pos factor) (pos x.den))
  where
    regroup : (z a b : ℤ) → (z *ℤ a) *ℤ b ≡ (a *ℤ b) *ℤ z
    regroup z a b = simp sorted refl

-- what is less is less over a denominator above 0
over-less : (d : ℕ) (a b : ℤ) → 0 < d → a <ℤ b → (a *ℤ pos d) <ℤ (b *ℤ pos d)
over-less d a b h lt = omega (arith, additive, lt-mul (pos d) a b (omega (arith, additive)) lt, mul_comm_ℤ (pos d) a, mul_comm_ℤ (pos d) b)

-- so many times the fraction is outside so many bits where the whole number is
pub outside-of : (bits count : ℕ) (x : Fraction) (z : ℤ) → 0 < x.den → IsTimes count x z → (z <ℤ neg_ℤ (pos (2 ^ bits))) ⊎ ((pos (2 ^ bits) -ℤ pos 1) <ℤ z) → IsOutside bits count x
outside-of bits count x z h t (inl lt) = inl (subst (λ y. y <ℤ (neg_ℤ (pos (2 ^ bits)) *ℤ pos x.den)) t (over-less x.den z (neg_ℤ (pos (2 ^ bits))) h lt))
outside-of bits count x z h t (inr lt) = inr (subst (λ y. ((pos (2 ^ bits) -ℤ pos 1) *ℤ pos x.den) <ℤ y) t (over-less x.den (pos (2 ^ bits) -ℤ pos 1) z h lt))

lower : (n b c : ℤ) (k : ℕ) → b ≤ℤ c → n <ℤ (b *ℤ pos k) → n <ℤ (c *ℤ pos k)
lower n b c k le lt = omega (arith, additive, le-mul_pos k b c le)

upper : (n b c : ℤ) (k : ℕ) → c ≤ℤ b → (b *ℤ pos k) <ℤ n → (c *ℤ pos k) <ℤ n
upper n b c k le lt = omega (arith, additive, le-mul_pos k c b le)

-- what is outside 127 bits is outside 63
pub outside-fewer : (count : ℕ) (x : Fraction) → IsOutside 127 count x → IsOutside 63 count x
outside-fewer count x (inl lt) = inl (lower (pos count *ℤ x.num) (neg_ℤ (pos (2 ^ 127))) (neg_ℤ (pos (2 ^ 63))) x.den (omega (arith, ints)) lt)
outside-fewer count x (inr lt) = inr (upper (pos count *ℤ x.num) (pos (2 ^ 127) -ℤ pos 1) (pos (2 ^ 63) -ℤ pos 1) x.den (omega (arith, ints)) lt)

-- ---- the same as code reads them

quotient-is : (s y : ℤ) (a b : ℕ) → s ≡ pos a → y ≡ pos b → quot_z s y ≡ pos (a / b)
quotient-is s y a b e f = ap (λ (z : ℤ). quot_z z y) e ∙ ap (λ (z : ℤ). quot_z (pos a) z) f

pub product-is : (x : Fraction) (count : ℕ) (s y n : ℤ) → count < 2 ^ 64 → s ≡ pos count → y ≡ pos x.den → n ≡ x.num
    → n *ℤ to_z w128 (of_z w128 (quot_z s y)) ≡ x.num *ℤ pos (count / x.den)
product-is x count s y n short se ye ne =
    ap (λ (z : ℤ). z *ℤ to_z w128 (of_z w128 (quot_z s y))) ne
    ∙ ap (λ (z : ℤ). x.num *ℤ to_z w128 (of_z w128 z)) (quotient-is s y count x.den se ye)
    ∙ ap (λ (z : ℤ). x.num *ℤ z) (read_wide (pos (count / x.den)) count (div-le_self count x.den) (omega (arith, short)))

pub times-value : (x : Fraction) (count : ℕ) (s y n z : ℤ) → count < 2 ^ 64 → x.den ∣ count → s ≡ pos count → y ≡ pos x.den → n ≡ x.num
    → z ≡ n *ℤ to_z w128 (of_z w128 (quot_z s y)) → IsTimes count x z
times-value x count s y n z short h se ye ne ze =
    subst (λ (k : ℤ). IsTimes count x k) (sym (ze ∙ product-is x count s y n short se ye ne)) (times-of x count (count / x.den) (div-mul_cancel x.den h))

unfitting : (z : ℤ) → (SFits w128 z → ⊥) → (z <ℤ neg_ℤ (pos (2 ^ 127))) ⊎ ((pos (2 ^ 127) -ℤ pos 1) <ℤ z)
unfitting (pos a) h = inr (let le = not-below a (2 ^ 127) (2 ^ 127) (omega arith) (λ lt. h record { sfits = lt }) in omega (arith, ints, le))
unfitting (negsuc a) h = inl (let le = not-below a (2 ^ 127) (2 ^ 127) (omega arith) (λ lt. h record { sfits = lt }) in omega (arith, ints, le))

pub times-outside : (x : Fraction) (count : ℕ) (s y n : ℤ) → count < 2 ^ 64 → 0 < x.den → x.den ∣ count → s ≡ pos count → y ≡ pos x.den → n ≡ x.num
    → (SFits w128 (n *ℤ to_z w128 (of_z w128 (quot_z s y))) → ⊥) → IsOutside 127 count x
times-outside x count s y n short positive h se ye ne out =
    outside-of 127 count x (x.num *ℤ pos (count / x.den)) positive (times-of x count (count / x.den) (div-mul_cancel x.den h))
    (unfitting (x.num *ℤ pos (count / x.den)) (subst (λ (k : ℤ). SFits w128 k → ⊥) (product-is x count s y n short se ye ne) out))

-- ---- a number over a denominator

-- what is the same as a number over a denominator has these sizes
pub sizes-of : (z s r : ℤ) (n d q : ℕ) → s ≡ pos n → r ≡ pos d → IsSame record { num = z; den = q } (ratio_of s r) → unsigned_abs z * d ≡ n * q
sizes-of z s r n d q f e h =
    let same : z *ℤ pos d ≡ pos n *ℤ pos q = subst (λ y. IsSame record { num = z; den = q } (ratio_of (pos n) y)) e (subst (λ x. IsSame record { num = z; den = q } (ratio_of x r)) f h) in
    sym (unsigned_abs-mul z (pos d)) ∙ ap unsigned_abs same

IsErr-here : (r : Result Frac FracFault) (e : FracFault) → r ≡ Err e → IsErrOf r e
IsErr-here r e is = subst (λ (s : Result Frac FracFault). IsErrOf s e) (sym is) refl

-- a short number over a short denominator is not refused
pub never-refused : (r : Result Frac FracFault) (e : FracFault) (n d : ℕ) (s y : ℤ) → r ≡ Err e → s ≡ pos n → y ≡ pos d → n < 2 ^ 64 → 0 < d → d < 2 ^ 127
    → (IsErrOf r ZeroDivisor ↔ (y ≡ pos 0)) → (IsErrOf r Wide → LeavesRange (ratio_of s y)) → ⊥
never-refused r ZeroDivisor n d s y is f g hn positive hd none wide = above positive (sym g ∙ none.0 (IsErr-here r ZeroDivisor is))
  where
    above : {d : ℕ} → 0 < d → pos d ≡ pos 0 → ⊥
    above h e = omega (arith, ints, h, e)
never-refused r Wide n d s y is f g hn positive hd none wide =
    subst (λ b. LeavesRange (ratio_of (pos n) b)) g (subst (λ a. LeavesRange (ratio_of a y)) f (wide (IsErr-here r Wide is)))
    record { num = pos n; den = d } record { num = omega (arith, hn); den = hd; positive = positive } refl
