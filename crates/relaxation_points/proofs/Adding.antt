-- One product more in a sum, and in what it weighs.
use Rattle.std.proofs.Common.{◌≡◌, ℕ, ◌+◌, ◌*◌, ◌<◌, List, length, get_or, take, ℤ, ◌+ℤ◌, ◌*ℤ◌, unsigned_abs, add-one, arith, ap, ◌∙◌}
use Rattle.std.specs.List.{sum_by}
use Rattle.std.proofs.lemmas.List.Sums.{sum_by_more, sum_by_more_le}
use Rattle.integers.specs.Sums.{int_sum_below, sum_below}
use Rattle.integers.proofs.Ring.{additive}
use Rattle.integers.proofs.AtKey.{sum_below-part}
use Rattle.integers.proofs.ByList.{int_sum_by_more}
use Rattle.linear_program.specs.declared.terms.Term.{Term}
use Rattle.relaxation_points.specs.Points.{Point}
use Rattle.relaxation_points.specs.Lines.{terms_value, terms_weight}

-- factors that are read, and what they are
module _ (x y a b : ℤ) (left : x ≡ a) (right : y ≡ b) where
  same_product : x *ℤ y ≡ a *ℤ b
  same_product = ap (λ z. z *ℤ y) left ∙ ap (λ z. a *ℤ z) right

  same_size : unsigned_abs x * unsigned_abs y ≡ unsigned_abs a * unsigned_abs b
  same_size = ap (λ z. unsigned_abs z * unsigned_abs y) left ∙ ap (λ z. unsigned_abs a * unsigned_abs z) right

-- ---- by number
pub more-value : (f g : ℕ → ℤ) (i : ℕ) (s x y z : ℤ) → s ≡ int_sum_below (λ v. f v *ℤ g v) i → z ≡ s +ℤ x *ℤ y → x ≡ f i → y ≡ g i
    → z ≡ int_sum_below (λ v. f v *ℤ g v) (i + 1)
more-value f g i s x y z e h p q = rw add-one (h ∙ ap (λ t. t +ℤ x *ℤ y) e ∙ ap (λ t. int_sum_below (λ v. f v *ℤ g v) i +ℤ t) (same_product x y (f i) (g i) p q))

pub more-weight : (f g : ℕ → ℤ) (i w m : ℕ) (x y : ℤ) → w ≡ sum_below (λ v. unsigned_abs (f v) * unsigned_abs (g v)) i → m ≡ w + unsigned_abs x * unsigned_abs y → x ≡ f i → y ≡ g i
    → m ≡ sum_below (λ v. unsigned_abs (f v) * unsigned_abs (g v)) (i + 1)
more-weight f g i w m x y e h p q = rw add-one (omega (arith, e, h, same_size x y (f i) (g i) p q))

pub part-weight : (f g : ℕ → ℤ) (i n w most : ℕ) (x y : ℤ) → i < n → w ≡ sum_below (λ v. unsigned_abs (f v) * unsigned_abs (g v)) i → most < w + unsigned_abs x * unsigned_abs y
    → x ≡ f i → y ≡ g i → most < sum_below (λ v. unsigned_abs (f v) * unsigned_abs (g v)) n
part-weight f g i n w most x y lt e h p q = omega (arith, e, h, same_size x y (f i) (g i) p q, sum_below-part (λ v. unsigned_abs (f v) * unsigned_abs (g v)) i n lt)

-- ---- term by term
pub more-terms : (p : Point) (ts : List Term) (i : ℕ) (d : Term) (c s x y z : ℤ) → i < length ts → s ≡ c +ℤ terms_value p (take i ts) → z ≡ s +ℤ x *ℤ y
    → x ≡ (get_or ts i d).coef → y ≡ p.value (get_or ts i d).var → z ≡ c +ℤ terms_value p (take (i + 1) ts)
more-terms p ts i d c s x y z lt e h q r =
    omega (arith, additive, e, h, same_product x y (get_or ts i d).coef (p.value (get_or ts i d).var) q r, int_sum_by_more (λ (t : Term). t.coef *ℤ p.value t.var) ts i d lt)

pub more-sizes : (p : Point) (ts : List Term) (i : ℕ) (d : Term) (c w m : ℕ) (x y : ℤ) → i < length ts → w ≡ c + terms_weight p (take i ts) → m ≡ w + unsigned_abs x * unsigned_abs y
    → x ≡ (get_or ts i d).coef → y ≡ p.value (get_or ts i d).var → m ≡ c + terms_weight p (take (i + 1) ts)
more-sizes p ts i d c w m x y lt e h q r =
    omega (arith, e, h, same_size x y (get_or ts i d).coef (p.value (get_or ts i d).var) q r, sum_by_more (λ (t : Term). unsigned_abs t.coef * unsigned_abs (p.value t.var)) ts i d lt)

pub part-sizes : (p : Point) (ts us : List Term) (i : ℕ) (d : Term) (c w most : ℕ) (x y : ℤ) → i < length ts → ts ≡ us → w ≡ c + terms_weight p (take i ts) → most < w + unsigned_abs x * unsigned_abs y
    → x ≡ (get_or ts i d).coef → y ≡ p.value (get_or ts i d).var → most < terms_weight p us + c
part-sizes p ts us i d c w most x y lt same e h q r =
    let g : Term → ℕ = λ t. unsigned_abs t.coef * unsigned_abs (p.value t.var) in
    omega (arith, e, h, same_size x y (get_or ts i d).coef (p.value (get_or ts i d).var) q r, sum_by_more_le g ts i d lt, ap (sum_by g) same)
