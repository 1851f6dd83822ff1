-- Fractions in lowest terms.
use Rattle.std.proofs.Common.{◌≡◌, ◌≢◌, ◌∙◌, sym, ap, subst, refl, ℕ, zero, suc, ◌*◌, ◌^◌, ◌<◌, ℤ, pos, negsuc, ◌+ℤ◌, ◌*ℤ◌, neg_ℤ, unsigned_abs, arith, of_z, lit<, Result, Err, ◌↔◌}
use Rattle.std.specs.Int.{◌∣◌}
use Rattle.std.proofs.Math.Nat.{eq-zero_of_zero-dvd}
use Rattle.std.proofs.lemmas.Nat.Gcd.{le_of_dvd}
use Rattle.std.proofs.lemmas.Int.{ints, unsigned_abs-mul}
use Rattle.integers.proofs.Ring.{sorted, additive, linear, mul_comm_ℤ}
use Rattle.integers.proofs.Order.{same-cancel}
use Rattle.std.specs.Result.{IsErrOf}
use Rattle.exact_num.specs.Views.{shown_frac}
use Rattle.exact_num.specs.declared.frac.Frac.{Frac}
use Rattle.exact_num.specs.declared.frac.FracFault.{FracFault}
use Rattle.exact_num.specs.declared.frac.FracFault.TheVariants.{ZeroDivisor, Wide}
use Rattle.exact_num.specs.Fraction.{IsShort, LeavesRange, Fraction, IsSame, IsLowest, sum_of, negative_of, difference_of, product_of, quotient_of, turned}
use Rattle.exact_num.proofs.Cancelling.{positive-product}
use mir.Syntax.{w128}
use Rattle.exact_num.proofs.Signs.{positive-size}
use Rattle.exact_num.proofs.Laws.{IsSame-trans, least_terms}
use Rattle.exact_run.specs.Operations.{whole, IsReduced}

-- a fraction in lowest terms is itself in lowest terms
pub reduced-self : (x : Fraction) → 0 < x.den → IsLowest x → IsReduced x x
reduced-self x p h = record { positive = p; lowest = h; same = refl }

-- what stands for a fraction stands for each that is the same
pub reduced-same : (e f x : Fraction) → 0 < e.den → IsSame e f → IsReduced e x → IsReduced f x
reduced-same e f x p s h = record { positive = h.positive; lowest = h.lowest; same = IsSame-trans x e f p h.same s }

by_sizes : (m n : ℤ) (e d : ℕ) → m *ℤ pos d ≡ n *ℤ pos e → unsigned_abs m * d ≡ unsigned_abs n * e
by_sizes m n e d h = sym (unsigned_abs-mul m (pos d)) ∙ ap unsigned_abs h ∙ unsigned_abs-mul n (pos e)

-- two fractions in lowest terms that are the same are one
pub lowest-unique : (x y : Fraction) → 0 < x.den → 0 < y.den → IsLowest x → IsLowest y → IsSame x y → x ≡ y
lowest-unique x y p q h k s =
    let a = least_terms (unsigned_abs x.num) x.den (unsigned_abs y.num) y.den h q (by_sizes x.num y.num x.den y.den s) in
    let b = least_terms (unsigned_abs y.num) y.den (unsigned_abs x.num) x.den k p (sym (by_sizes x.num y.num x.den y.den s)) in
    let d : x.den ≡ y.den = omega (arith, a, b) in
    let n : x.num ≡ y.num = by_cancel x.num y.num x.den y.den p d s in
    ap (λ (z : ℤ). make z x.den) n ∙ ap (λ (m : ℕ). make y.num m) d
  where
    make : ℤ → ℕ → Fraction
    make z m = record { num = z; den = m }

    by_cancel : (a b : ℤ) (d e : ℕ) → 0 < d → d ≡ e → a *ℤ pos e ≡ b *ℤ pos d → a ≡ b
    by_cancel a b d e p h s = same-cancel (pos d) a b (omega (arith, ints)) (mul_comm_ℤ (pos d) a ∙ ap (λ (n : ℕ). a *ℤ pos n) h ∙ s ∙ mul_comm_ℤ b (pos d))

pub reduced-unique : (e x y : Fraction) → 0 < e.den → IsReduced e x → IsReduced e y → x ≡ y
reduced-unique e x y p h k = lowest-unique x y h.positive k.positive h.lowest k.lowest (IsSame-trans x e y p h.same (sym k.same))

-- a whole number is in lowest terms
pub whole-lowest : (z : ℤ) → IsLowest (whole z)
whole-lowest z d h k = one_divisor d k
  where
    one_divisor : (d : ℕ) → d ∣ 1 → d ≡ 1
    one_divisor zero k = absurd (omega (arith, eq-zero_of_zero-dvd k))
    one_divisor (suc d) k = omega (arith, le_of_dvd (lit< tt) k)

pub whole-reduced : (z : ℤ) → IsReduced (whole z) (whole z)
whole-reduced z = reduced-self (whole z) (lit< tt) (whole-lowest z)

pub frac-self : (f : Frac) → IsReduced (shown_frac f) (shown_frac f)
frac-self f = reduced-self (shown_frac f) f.positive f.lowest

pub whole_is : (f : Frac) (z : ℤ) → IsSame (shown_frac f) (whole z) → shown_frac f ≡ whole z
whole_is f z s = lowest-unique (shown_frac f) (whole z) f.positive (lit< tt) f.lowest (whole-lowest z) s

pub zero_times : (z : ℤ) → pos 0 *ℤ z ≡ pos 0
zero_times z = omega (arith, linear)

-- a fraction of numerator 0 is 0
pub zero_is : (f : Frac) → (shown_frac f).num ≡ pos 0 → shown_frac f ≡ whole (pos 0)
zero_is f h = whole_is f (pos 0) (by_zero (shown_frac f).num (shown_frac f).den h)
  where
    by_zero : (n : ℤ) (d : ℕ) → n ≡ pos 0 → n *ℤ pos 1 ≡ pos 0 *ℤ pos d
    by_zero n d h = ap (λ (z : ℤ). z *ℤ pos 1) h ∙ zero_times (pos 1) ∙ sym (zero_times (pos d))

one_is_not_zero : pos 1 ≡ pos 0 → ⊥
one_is_not_zero h = cc

IsErr-here : (r : Result Frac FracFault) (e : FracFault) → r ≡ Err e → IsErrOf r e
IsErr-here r e is = subst (λ (s : Result Frac FracFault). IsErrOf s e) (sym is) refl

-- a short number over 1 is not refused
pub never_refused : (r : Result Frac FracFault) (e : FracFault) (z : ℤ) → r ≡ Err e → IsShort z
    → (IsErrOf r ZeroDivisor ↔ (pos 1 ≡ pos 0)) → (IsErrOf r Wide → LeavesRange (whole z)) → ⊥
never_refused r ZeroDivisor z is short none wide = absurd (one_is_not_zero (none.0 (IsErr-here r ZeroDivisor is)))
never_refused r Wide z is short none wide = wide (IsErr-here r Wide is) (whole z) record { num = short; den = lit< tt; positive = lit< tt } refl

-- ---- sums

plus_zero : (z : ℤ) → z ≡ z +ℤ pos 0
plus_zero z = omega (arith, additive)

zero_plus : (z : ℤ) → z ≡ pos 0 +ℤ z
zero_plus z = omega (arith, additive)

regroup : (n d q : ℤ) → n *ℤ (d *ℤ q) ≡ (n *ℤ q) *ℤ d
regroup n d q = simp sorted refl

regroup-last : (n d q : ℤ) → n *ℤ (d *ℤ q) ≡ (n *ℤ d) *ℤ q
regroup-last n d q = simp sorted refl

nothing_added : (n d p q : ℤ) → p ≡ pos 0 → n *ℤ (d *ℤ q) ≡ (n *ℤ q +ℤ p *ℤ d) *ℤ d
nothing_added n d p q h = regroup n d q ∙ ap (λ (z : ℤ). z *ℤ d) (plus_zero (n *ℤ q)) ∙ ap (λ (z : ℤ). (n *ℤ q +ℤ z) *ℤ d) (sym (ap (λ (z : ℤ). z *ℤ d) h ∙ zero_times d))

pub added_to_nothing : (n d p q : ℤ) → n ≡ pos 0 → p *ℤ (d *ℤ q) ≡ (n *ℤ q +ℤ p *ℤ d) *ℤ q
added_to_nothing n d p q h = regroup-last p d q ∙ ap (λ (z : ℤ). z *ℤ q) (zero_plus (p *ℤ d)) ∙ ap (λ (z : ℤ). (z +ℤ p *ℤ d) *ℤ q) (sym (ap (λ (z : ℤ). z *ℤ q) h ∙ zero_times q))

same_added : (n d x y u v : ℤ) → x *ℤ v ≡ u *ℤ y → (n *ℤ y +ℤ x *ℤ d) *ℤ (d *ℤ v) ≡ (n *ℤ v +ℤ u *ℤ d) *ℤ (d *ℤ y)
same_added n d x y u v h = simp sorted (omega (arith, additive, simp sorted at (ap (λ (z : ℤ). (d *ℤ d) *ℤ z) h)))

-- a sum with nothing
pub sum-no_part : (b e : Fraction) → 0 < b.den → IsLowest b → e.num ≡ pos 0 → IsReduced (sum_of b e) b
sum-no_part b e p l h = record { positive = p; lowest = l; same = nothing_added b.num (pos b.den) e.num (pos e.den) h }

-- nothing with a sum
pub sum-no_before : (b e x : Fraction) → 0 < e.den → b.num ≡ pos 0 → IsReduced e x → IsReduced (sum_of b e) x
sum-no_before b e x p h r = reduced-same e (sum_of b e) x p (added_to_nothing b.num (pos b.den) e.num (pos e.den) h) r

-- a sum with what stands for a fraction
pub sum-of_reduced : (b e x y : Fraction) → 0 < b.den → IsReduced e x → IsReduced (sum_of b x) y → IsReduced (sum_of b e) y
sum-of_reduced b e x y p r s = reduced-same (sum_of b x) (sum_of b e) y (positive-product b.den x.den p r.positive) (same_added b.num (pos b.den) x.num (pos x.den) e.num (pos e.den) r.same) s

-- no part times the scale is nothing
pub no_product : (s e : Fraction) → e.num ≡ pos 0 → (product_of s e).num ≡ pos 0
no_product s e h = ap (λ (z : ℤ). s.num *ℤ z) h ∙ mul_comm_ℤ s.num (pos 0) ∙ zero_times s.num

-- ---- what code finds of a numerator

pub zero_from_bits : (z n : ℤ) → z ≡ n → unsigned_abs n < 2 ^ 127 → of_z w128 z ≡ 0 → n ≡ pos 0
zero_from_bits (pos m) n e s h = sym e ∙ ap pos h
zero_from_bits (negsuc m) n e s h = let size : suc m < 2 ^ 127 = subst (λ (k : ℤ). unsigned_abs k < 2 ^ 127) (sym e) s in absurd (omega (arith, size, h))

pub other_from_bits : (z n : ℤ) → z ≡ n → (of_z w128 z ≡ 0 → ⊥) → n ≢ pos 0
other_from_bits z n e h is = h (ap (of_z w128) (e ∙ is))

-- ---- negatives and quotients

-- 0 less a fraction is its negative
pub less-reduced : (x y : Fraction) → 0 < x.den → IsReduced (difference_of (whole (pos 0)) x) y → IsReduced (negative_of x) y
less-reduced x y p r = reduced-same (difference_of (whole (pos 0)) x) (negative_of x) y (positive-product 1 x.den (lit< tt) p) (less-same x.num x.den) r
  where
    times_one : (m : ℤ) → m *ℤ pos 1 ≡ m
    times_one m = omega (arith, linear)

    one_times : (d : ℕ) → d ≡ 1 * d
    one_times d = omega arith

    less-same : (n : ℤ) (d : ℕ) → (pos 0 *ℤ pos d +ℤ neg_ℤ n *ℤ pos 1) *ℤ pos d ≡ neg_ℤ n *ℤ pos (1 * d)
    less-same n d =
        ap (λ (z : ℤ). (z +ℤ neg_ℤ n *ℤ pos 1) *ℤ pos d) (zero_times (pos d)) ∙ ap (λ (z : ℤ). z *ℤ pos d) (sym (zero_plus (neg_ℤ n *ℤ pos 1)))
        ∙ ap (λ (z : ℤ). z *ℤ pos d) (times_one (neg_ℤ n)) ∙ ap (λ (k : ℕ). neg_ℤ n *ℤ pos k) (one_times d)

same_divided : (m d e n k : ℤ) (a b : ℤ) → a *ℤ e ≡ m *ℤ d → (a *ℤ n) *ℤ (e *ℤ k) ≡ (m *ℤ n) *ℤ (d *ℤ k)
same_divided m d e n k a b h = simp sorted (omega (arith, additive, simp sorted at (ap (λ (z : ℤ). (n *ℤ k) *ℤ z) h)))

-- a quotient of what stands for a fraction
pub quotient-of_reduced : (e x by y : Fraction) → by.num ≢ pos 0 → IsReduced e x → IsReduced (quotient_of x by) y → IsReduced (quotient_of e by) y
quotient-of_reduced e x by y nz r s =
    reduced-same (quotient_of x by) (quotient_of e by) y (positive-product x.den (unsigned_abs by.num) r.positive (positive-size by.num nz))
    (same_divided e.num (pos x.den) (pos e.den) (turned by.num (pos by.den)) (pos (unsigned_abs by.num)) x.num e.num r.same) s
