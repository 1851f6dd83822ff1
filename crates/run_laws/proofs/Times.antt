-- Whole numbers that are so many times a fraction: of sums, products, quotients, fractions in lowest terms, and their signs.
use Rattle.std.proofs.Common.{◌≡◌, ◌≢◌, ◌∙◌, sym, ap, ℕ, zero, suc, ◌*◌, ◌<◌, ℤ, pos, negsuc, ◌+ℤ◌, ◌-ℤ◌, ◌*ℤ◌, neg_ℤ, ◌≤ℤ◌, ◌<ℤ◌, unsigned_abs, arith, refl}
use Rattle.std.proofs.Math.IntN.{*ℤ-zero}
use Rattle.std.proofs.lemmas.Int.{ints}
use Rattle.integers.proofs.Ring.{sorted, additive, linear, mul_comm_ℤ, mul-neg, neg-mul}
use Rattle.integers.proofs.Order.{same-cancel, le-cancel, lt-cancel, le-mul, lt-mul, pos-mul}
use Rattle.exact_num.specs.Fraction.{Fraction, sum_of, negative_of, difference_of, product_of, quotient_of, turned}
use Rattle.exact_run.specs.Operations.{whole, IsReduced}
use Rattle.run_laws.specs.Points.{IsTimes}

pub positive : {n : ℕ} → 0 < n → pos 0 <ℤ pos n
positive h = omega (arith, ints)

pub times_one : (z : ℤ) → z *ℤ pos 1 ≡ z
times_one z = omega (arith, linear)

pub one_times : (z : ℤ) → pos 1 *ℤ z ≡ z
one_times z = omega (arith, linear)

-- ---- sums and products

sum_step : (d m n a b p q : ℤ) → m *ℤ p ≡ d *ℤ a → n *ℤ q ≡ d *ℤ b → (m +ℤ n) *ℤ (p *ℤ q) ≡ d *ℤ (a *ℤ q +ℤ b *ℤ p)
sum_step d m n a b p q h k = simp sorted (omega (arith, additive, simp sorted at (ap (λ (z : ℤ). z *ℤ q) h), simp sorted at (ap (λ (z : ℤ). z *ℤ p) k)))

pub times-sum : (d : ℤ) (x y : Fraction) (m n : ℤ) → IsTimes d x m → IsTimes d y n → IsTimes d (sum_of x y) (m +ℤ n)
times-sum d x y m n h k = sum_step d m n x.num y.num (pos x.den) (pos y.den) h k

pub times-negative : (d : ℤ) (x : Fraction) (m : ℤ) → IsTimes d x m → IsTimes d (negative_of x) (neg_ℤ m)
times-negative d x m h = neg-mul m (pos x.den) ∙ ap neg_ℤ h ∙ sym (mul-neg d x.num)

pub times-difference : (d : ℤ) (x y : Fraction) (m n : ℤ) → IsTimes d x m → IsTimes d y n → IsTimes d (difference_of x y) (m -ℤ n)
times-difference d x y m n h k = times-sum d x (negative_of y) m (neg_ℤ n) h (times-negative d y n k)

four : (m n p q : ℤ) → (m *ℤ n) *ℤ (p *ℤ q) ≡ (m *ℤ p) *ℤ (n *ℤ q)
four m n p q = simp sorted refl

pub times-product : (d e : ℤ) (x y : Fraction) (m n : ℤ) → IsTimes d x m → IsTimes e y n → IsTimes (d *ℤ e) (product_of x y) (m *ℤ n)
times-product d e x y m n h k =
    four m n (pos x.den) (pos y.den) ∙ ap (λ (z : ℤ). z *ℤ (n *ℤ pos y.den)) h ∙ ap (λ (z : ℤ). (d *ℤ x.num) *ℤ z) k ∙ four d x.num e y.num

last_out : (m c p : ℤ) → (m *ℤ c) *ℤ p ≡ c *ℤ (m *ℤ p)
last_out m c p = simp sorted refl

pub times-scaled : (d c : ℤ) (x : Fraction) (m : ℤ) → IsTimes d x m → IsTimes (d *ℤ c) x (m *ℤ c)
times-scaled d c x m h = last_out m c (pos x.den) ∙ ap (λ (z : ℤ). c *ℤ z) h ∙ sym (last_out d c x.num)

pub times-whole : (d z : ℤ) → IsTimes d (whole z) (z *ℤ d)
times-whole d z = omega (arith, linear)

-- what is so many times a whole number
pub times-of_whole : (d z m : ℤ) → IsTimes d (whole z) m → m ≡ z *ℤ d
times-of_whole d z m h = omega (arith, linear, h)

-- ---- quotients

quotient_left : (d n p b : ℤ) → d *ℤ (n *ℤ (p *ℤ b)) ≡ (n *ℤ p) *ℤ (d *ℤ b)
quotient_left d n p b = simp sorted refl

quotient_right : (d a m q : ℤ) → (d *ℤ m) *ℤ (a *ℤ q) ≡ d *ℤ (a *ℤ (m *ℤ q))
quotient_right d a m q = simp sorted refl

quotient_step : (d n a m b p q : ℤ) → pos 0 <ℤ d → n *ℤ p ≡ d *ℤ m → a *ℤ q ≡ d *ℤ b → n *ℤ (p *ℤ b) ≡ a *ℤ (m *ℤ q)
quotient_step d n a m b p q positive h k =
    same-cancel d (n *ℤ (p *ℤ b)) (a *ℤ (m *ℤ q)) positive
    (quotient_left d n p b ∙ ap (λ (z : ℤ). (n *ℤ p) *ℤ z) (sym k) ∙ ap (λ (z : ℤ). z *ℤ (a *ℤ q)) h ∙ quotient_right d a m q)

-- both numbers of the divisor with the other sign
turned_step : (n a m b p q : ℤ) → n *ℤ (p *ℤ b) ≡ a *ℤ (m *ℤ q) → n *ℤ (p *ℤ neg_ℤ b) ≡ a *ℤ (m *ℤ neg_ℤ q)
turned_step n a m b p q h =
    ap (λ (z : ℤ). n *ℤ z) (mul-neg p b) ∙ mul-neg n (p *ℤ b) ∙ ap neg_ℤ h ∙ sym (mul-neg a (m *ℤ q)) ∙ ap (λ (z : ℤ). a *ℤ z) (sym (mul-neg m q))

quotient_by : (d n a m : ℤ) (p : ℕ) (b : ℤ) (q : ℕ) → pos 0 <ℤ d → n *ℤ pos p ≡ d *ℤ m → a *ℤ pos q ≡ d *ℤ b → n *ℤ pos (p * unsigned_abs b) ≡ a *ℤ (m *ℤ turned b (pos q))
quotient_by d n a m p (pos b) q positive h k = quotient_step d n a m (pos b) (pos p) (pos q) positive h k
quotient_by d n a m p (negsuc b) q positive h k = turned_step n a m (negsuc b) (pos p) (pos q) (quotient_step d n a m (negsuc b) (pos p) (pos q) positive h k)

pub times-quotient : (d : ℤ) (x y : Fraction) (n a : ℤ) → pos 0 <ℤ d → IsTimes d x n → IsTimes d y a → IsTimes a (quotient_of x y) n
times-quotient d x y n a positive h k = quotient_by d n a x.num x.den y.num y.den positive h k

-- ---- lowest terms, and other forms

first_in : (e n p : ℤ) → e *ℤ (n *ℤ p) ≡ (n *ℤ e) *ℤ p
first_in e n p = simp sorted refl

last_in : (d m p : ℤ) → (d *ℤ m) *ℤ p ≡ d *ℤ (m *ℤ p)
last_in d m p = simp sorted refl

turn_in : (d a e : ℤ) → d *ℤ (a *ℤ e) ≡ e *ℤ (d *ℤ a)
turn_in d a e = simp sorted refl

-- so many times what a fraction is in lowest terms
pub times-reduced : (d : ℤ) (e x : Fraction) (n : ℤ) → 0 < e.den → IsTimes d e n → IsReduced e x → IsTimes d x n
times-reduced d e x n p h r =
    same-cancel (pos e.den) (n *ℤ pos x.den) (d *ℤ x.num) (positive p)
    (first_in (pos e.den) n (pos x.den) ∙ ap (λ (z : ℤ). z *ℤ pos x.den) h ∙ last_in d e.num (pos x.den) ∙ ap (λ (z : ℤ). d *ℤ z) (sym r.same) ∙ turn_in d x.num (pos e.den))

-- two multiples of one fraction
cross_left : (p m e : ℤ) → p *ℤ (m *ℤ e) ≡ (m *ℤ p) *ℤ e
cross_left p m e = simp sorted refl

cross_between : (d a e : ℤ) → (d *ℤ a) *ℤ e ≡ (e *ℤ a) *ℤ d
cross_between d a e = simp sorted refl

pub times-cross : (d e : ℤ) (x : Fraction) (m n : ℤ) → 0 < x.den → IsTimes d x m → IsTimes e x n → m *ℤ e ≡ n *ℤ d
times-cross d e x m n p h k =
    same-cancel (pos x.den) (m *ℤ e) (n *ℤ d) (positive p)
    (cross_left (pos x.den) m e ∙ ap (λ (z : ℤ). z *ℤ e) h ∙ cross_between d x.num e ∙ ap (λ (z : ℤ). z *ℤ d) (sym k) ∙ sym (cross_left (pos x.den) n d))

-- what stands to one multiple as two numbers is the other one
pub times-from_cross : (d e : ℤ) (x : Fraction) (m n : ℤ) → pos 0 <ℤ d → IsTimes d x m → m *ℤ e ≡ n *ℤ d → IsTimes e x n
times-from_cross d e x m n p h k =
    same-cancel d (n *ℤ pos x.den) (e *ℤ x.num) p
    (first_in d n (pos x.den) ∙ ap (λ (z : ℤ). z *ℤ pos x.den) (sym k) ∙ swapped m e (pos x.den) ∙ ap (λ (z : ℤ). e *ℤ z) h ∙ turn_out e d x.num)
  where
    swapped : (m e q : ℤ) → (m *ℤ e) *ℤ q ≡ e *ℤ (m *ℤ q)
    swapped m e q = simp sorted refl

    turn_out : (e d a : ℤ) → e *ℤ (d *ℤ a) ≡ d *ℤ (e *ℤ a)
    turn_out e d a = simp sorted refl

-- ---- signs

-- of two products that are the same, the other factors being above 0
pub same_sign : (d p z a : ℤ) → pos 0 <ℤ d → pos 0 <ℤ p → z *ℤ p ≡ d *ℤ a → pos 0 ≤ℤ a → pos 0 ≤ℤ z
same_sign d p z a pd pp e h =
    le-cancel p (pos 0) z pp (omega (arith, additive, *ℤ-zero p, *ℤ-zero d, mul_comm_ℤ p z, e, le-mul d (pos 0) a (omega (arith, additive)) h))

pub same_sign_strictly : (d p z a : ℤ) → pos 0 <ℤ d → pos 0 <ℤ p → z *ℤ p ≡ d *ℤ a → pos 0 <ℤ a → pos 0 <ℤ z
same_sign_strictly d p z a pd pp e h =
    lt-cancel p (pos 0) z pp (omega (arith, additive, *ℤ-zero p, *ℤ-zero d, mul_comm_ℤ p z, e, lt-mul d (pos 0) a pd h))

-- the other way round
pub sides_turned : (d p z a : ℤ) → z *ℤ p ≡ d *ℤ a → a *ℤ d ≡ p *ℤ z
sides_turned d p z a e = mul_comm_ℤ a d ∙ sym e ∙ mul_comm_ℤ z p

-- a factor that is not 0 is dropped
pub square-positive : (m : ℤ) → m ≢ pos 0 → pos 0 <ℤ (m *ℤ m)
square-positive (pos zero) h = absurd (h refl)
square-positive (pos (suc n)) h = pos-mul (pos (suc n)) (pos (suc n)) (omega (arith, additive)) (omega (arith, additive))
square-positive (negsuc n) h = omega (arith, linear)

pub factor-dropped : (m z : ℤ) → m ≢ pos 0 → m *ℤ z ≡ pos 0 → z ≡ pos 0
factor-dropped m z nz h =
    same-cancel (m *ℤ m) z (pos 0) (square-positive m nz) (last_in m m z ∙ ap (λ (x : ℤ). m *ℤ x) h ∙ *ℤ-zero m ∙ sym (*ℤ-zero (m *ℤ m)))
