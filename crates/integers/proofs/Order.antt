-- Order on ℤ with products, least and greatest of products over an interval, absolute values.
use Rattle.std.proofs.Common.{◌≡◌, ℕ, zero, suc, ◌*◌, ◌≤◌, ◌<◌, ◌⊎◌, inl, inr, min, max, ap, ℤ, pos, negsuc, ◌-ℤ◌, ◌*ℤ◌, neg_ℤ, ◌≤ℤ◌, ◌<ℤ◌, unsigned_abs, arith, refl}
use Rattle.std.proofs.Math.Nat.{mul-le-mul, div-mul-le_self, lt-div-mul-add}
use Rattle.std.proofs.lemmas.Int.{ints, clamps, by_lt_z, unsigned_abs-mul}
use Rattle.std.specs.Int.{int_min, int_max, int_div_euclid}
use Rattle.integers.proofs.Ring.{linear, sorted, additive, mul_comm_ℤ, neg-mul}

pub nonneg-mul : (a b : ℤ) → pos 0 ≤ℤ a → pos 0 ≤ℤ b → pos 0 ≤ℤ (a *ℤ b)
nonneg-mul (pos a) (pos b) h k = omega (arith, linear)
nonneg-mul (pos a) (negsuc b) h k = absurd k.le
nonneg-mul (negsuc a) b h k = absurd h.le

pub pos-mul : (a b : ℤ) → pos 0 <ℤ a → pos 0 <ℤ b → pos 0 <ℤ (a *ℤ b)
pos-mul (pos zero) b h k = absurd h.lt
pos-mul (pos (suc a)) (pos zero) h k = absurd k.lt
pos-mul (pos (suc a)) (pos (suc b)) h k = omega (arith, linear)
pos-mul (pos (suc a)) (negsuc b) h k = absurd k.lt
pos-mul (negsuc a) b h k = absurd h.lt

pub gap-mul : (a b c d : ℤ) → a ≤ℤ b → c ≤ℤ d → pos 0 ≤ℤ ((b -ℤ a) *ℤ (d -ℤ c))
gap-mul a b c d h k = nonneg-mul (b -ℤ a) (d -ℤ c) (omega (arith, additive)) (omega (arith, additive))

pub mul_out : (m a b : ℤ) → m *ℤ (a -ℤ b) ≡ m *ℤ a -ℤ m *ℤ b
mul_out m a b = simp sorted (omega (arith, additive))

pub le-mul : (r a b : ℤ) → pos 0 ≤ℤ r → a ≤ℤ b → (r *ℤ a) ≤ℤ (r *ℤ b)
le-mul r a b h k = omega (arith, additive, rw mul_out at (nonneg-mul r (b -ℤ a) h (omega (arith, additive))))

pub le-mul_neg : (r a b : ℤ) → r ≤ℤ pos 0 → a ≤ℤ b → (r *ℤ b) ≤ℤ (r *ℤ a)
le-mul_neg r a b h k = omega (arith, additive, rw (neg-mul, mul_out) at (nonneg-mul (neg_ℤ r) (b -ℤ a) (omega (arith, additive)) (omega (arith, additive))))

pub le_trans_ℤ : (a b c : ℤ) → a ≤ℤ b → b ≤ℤ c → a ≤ℤ c
le_trans_ℤ a b c h k = omega (arith, additive)

-- a positive factor is dropped
pub le-cancel : (m a b : ℤ) → pos 0 <ℤ m → (m *ℤ a) ≤ℤ (m *ℤ b) → a ≤ℤ b
le-cancel m a b p h = by_lt_z b a
    (λ w. let bad : pos 0 <ℤ (m *ℤ (a -ℤ b)) = pos-mul m (a -ℤ b) p (omega (arith, additive)) in absurd (omega (arith, additive, rw mul_out at bad)))
    (λ w. w)

pub lt-mul : (m a b : ℤ) → pos 0 <ℤ m → a <ℤ b → (m *ℤ a) <ℤ (m *ℤ b)
lt-mul m a b p h = by_lt_z (m *ℤ a) (m *ℤ b) (λ l. l) (λ g. absurd (let back = le-cancel m b a p g in omega (arith, additive)))

pub lt-cancel : (m a b : ℤ) → pos 0 <ℤ m → (m *ℤ a) <ℤ (m *ℤ b) → a <ℤ b
lt-cancel m a b p h = by_lt_z a b (λ l. l) (λ g. absurd (let back = le-mul m b a (omega (arith, additive)) g in omega (arith, additive)))

pub same-cancel : (m a b : ℤ) → pos 0 <ℤ m → m *ℤ a ≡ m *ℤ b → a ≡ b
same-cancel m a b p e =
    let h = le-cancel m a b p (omega (arith, additive)) in
    let k = le-cancel m b a p (omega (arith, additive)) in omega (arith, additive)

-- the least value of r * v for v from low to high stands at an end
pub min-le-mul : (r low v high : ℤ) → low ≤ℤ v → v ≤ℤ high → int_min (r *ℤ low) (r *ℤ high) ≤ℤ (r *ℤ v)
min-le-mul (pos n) low v high h k = omega (arith, ints, clamps, le-mul (pos n) low v (omega (arith, linear)) h)
min-le-mul (negsuc n) low v high h k = omega (arith, ints, clamps, le-mul_neg (negsuc n) v high (omega (arith, linear)) k)

-- the same with v over a denominator
pub min-le-mul_over : (d r low v high : ℤ) → pos 0 ≤ℤ d → (low *ℤ d) ≤ℤ v → v ≤ℤ (high *ℤ d) → (int_min (r *ℤ low) (r *ℤ high) *ℤ d) ≤ℤ (r *ℤ v)
min-le-mul_over d (pos n) low v high p h k =
    let m = int_min (pos n *ℤ low) (pos n *ℤ high) in
    let below : m ≤ℤ (pos n *ℤ low) = omega (arith, additive, clamps) in
    omega (arith, additive, le-mul (pos n) (low *ℤ d) v (omega (arith, linear)) h, le-mul d m (pos n *ℤ low) p below, mul_comm_ℤ d m, four d n low)
  where
    four : (d : ℤ) (n : ℕ) (low : ℤ) → d *ℤ (pos n *ℤ low) ≡ pos n *ℤ (low *ℤ d)
    four d n low = simp sorted refl
min-le-mul_over d (negsuc n) low v high p h k =
    let m = int_min (negsuc n *ℤ low) (negsuc n *ℤ high) in
    let below : m ≤ℤ (negsuc n *ℤ high) = omega (arith, additive, clamps) in
    omega (arith, additive, le-mul_neg (negsuc n) v (high *ℤ d) (omega (arith, linear)) k, le-mul d m (negsuc n *ℤ high) p below, mul_comm_ℤ d m, four d n high)
  where
    four : (d : ℤ) (n : ℕ) (low : ℤ) → d *ℤ (negsuc n *ℤ low) ≡ negsuc n *ℤ (low *ℤ d)
    four d n low = simp sorted refl

-- absolute values
pub abs-min : (a b : ℤ) → unsigned_abs (int_min a b) ≤ max (unsigned_abs a) (unsigned_abs b)
abs-min a b = omega (arith, ints, clamps)

pub abs-mul-le : (a b : ℤ) (m n : ℕ) → unsigned_abs a ≤ m → unsigned_abs b ≤ n → unsigned_abs (a *ℤ b) ≤ m * n
abs-mul-le a b m n h k = rw unsigned_abs-mul (mul-le-mul h k)

-- rounded down: the floor times the divisor is at most the number
pub floor-le : (z : ℤ) (k : ℕ) → 0 < k → (int_div_euclid z (pos k) *ℤ pos k) ≤ℤ z
floor-le (pos a) k h = omega (arith, linear, div-mul-le_self a k)
floor-le (negsuc a) k h = omega (arith, linear, lt-div-mul-add {a = a} h)

-- a product of two numbers in intervals lies between the least and the greatest of the four products of the ends
pub four_products : (pL p pH yL y yH : ℤ) → pL ≤ℤ p → p ≤ℤ pH → yL ≤ℤ y → y ≤ℤ yH
    → int_min (int_min (pL *ℤ yL) (pL *ℤ yH)) (int_min (pH *ℤ yL) (pH *ℤ yH)) ≤ℤ (p *ℤ y)
four_products pL p pH yL y yH a b c d =
    omega (
      arith,
      additive,
      clamps,
      min-le-mul p yL y yH c d,
      min-le-mul yL pL p pH a b,
      min-le-mul yH pL p pH a b,
      mul_comm_ℤ yL pL,
      mul_comm_ℤ yL pH,
      mul_comm_ℤ yH pL,
      mul_comm_ℤ yH pH,
      mul_comm_ℤ yL p,
      mul_comm_ℤ yH p,
    )

-- the same with p over d and y over e
pub four_products-over : (d e pL p pH yL y yH : ℤ) → pos 0 ≤ℤ d → pos 0 ≤ℤ e → (pL *ℤ d) ≤ℤ p → p ≤ℤ (pH *ℤ d) → (yL *ℤ e) ≤ℤ y → y ≤ℤ (yH *ℤ e)
    → (int_min (int_min (pL *ℤ yL) (pL *ℤ yH)) (int_min (pH *ℤ yL) (pH *ℤ yH)) *ℤ (d *ℤ e)) ≤ℤ (p *ℤ y)
four_products-over d e pL p pH yL y yH hd he a b c f =
    let least = int_min (int_min (pL *ℤ yL) (pL *ℤ yH)) (int_min (pH *ℤ yL) (pH *ℤ yH)) in
    omega (
      arith,
      additive,
      four_products (pL *ℤ d) p (pH *ℤ d) (yL *ℤ e) y (yH *ℤ e) a b c f,
      clamps,
      corner pL yL d e,
      corner pL yH d e,
      corner pH yL d e,
      corner pH yH d e,
      le-mul_right (d *ℤ e) least (pL *ℤ yL) (nonneg-mul d e hd he) (omega (arith, additive, clamps)),
      le-mul_right (d *ℤ e) least (pL *ℤ yH) (nonneg-mul d e hd he) (omega (arith, additive, clamps)),
      le-mul_right (d *ℤ e) least (pH *ℤ yL) (nonneg-mul d e hd he) (omega (arith, additive, clamps)),
      le-mul_right (d *ℤ e) least (pH *ℤ yH) (nonneg-mul d e hd he) (omega (arith, additive, clamps)),
    )
  where
    corner : (p y d e : ℤ) → (p *ℤ d) *ℤ (y *ℤ e) ≡ (p *ℤ y) *ℤ (d *ℤ e)
    corner p y d e = simp sorted refl

    le-mul_right : (r a b : ℤ) → pos 0 ≤ℤ r → a ≤ℤ b → (a *ℤ r) ≤ℤ (b *ℤ r)
    le-mul_right r a b h k = omega (arith, additive, le-mul r a b h k, mul_comm_ℤ r a, mul_comm_ℤ r b)

-- ---- products with a lesser or a greatest
-- the lesser of two numbers, times a number
pub le-mul_min : (x base a b : ℕ) → x ≤ base * a → x ≤ base * b → x ≤ base * min a b
le-mul_min x base a b h k = elim (either a b) [
  | inl e ↦ rw e h
  | inr e ↦ rw e k
]
  where
    either : (a b : ℕ) → (min a b ≡ a) ⊎ (min a b ≡ b)
    either a b = grind arith

pub le-mul_pos : (k : ℕ) (a b : ℤ) → a ≤ℤ b → (a *ℤ pos k) ≤ℤ (b *ℤ pos k)
le-mul_pos k a b h = omega (arith, additive, le-mul (pos k) a b (omega (arith, additive)) h, mul_comm_ℤ a (pos k), mul_comm_ℤ b (pos k))

-- the lesser of two numbers, times a number
pub le-mul_int_min : (v d a b : ℤ) → v ≤ℤ (a *ℤ d) → v ≤ℤ (b *ℤ d) → v ≤ℤ (int_min a b *ℤ d)
le-mul_int_min v d a b h k = by_lt_z a b
    (λ lt. let e : int_min a b ≡ a = omega (arith, additive, clamps) in omega (arith, additive, ap (λ z. z *ℤ d) e))
    (λ le. let e : int_min a b ≡ b = omega (arith, additive, clamps) in omega (arith, additive, ap (λ z. z *ℤ d) e))

-- a product of two numbers in intervals, p over d and y over e, is at most the greatest of the four products of the ends
pub four_products-over_high : (d e pL p pH yL y yH : ℤ) → pos 0 ≤ℤ d → pos 0 ≤ℤ e → (pL *ℤ d) ≤ℤ p → p ≤ℤ (pH *ℤ d) → (yL *ℤ e) ≤ℤ y → y ≤ℤ (yH *ℤ e)
    → (p *ℤ y) ≤ℤ (int_max (int_max (pL *ℤ yL) (pL *ℤ yH)) (int_max (pH *ℤ yL) (pH *ℤ yH)) *ℤ (d *ℤ e))
four_products-over_high d e pL p pH yL y yH hd he a b c f =
    let greatest = int_max (int_max (pL *ℤ yL) (pL *ℤ yH)) (int_max (pH *ℤ yL) (pH *ℤ yH)) in
    let turned = int_min (int_min (neg_ℤ pH *ℤ yL) (neg_ℤ pH *ℤ yH)) (int_min (neg_ℤ pL *ℤ yL) (neg_ℤ pL *ℤ yH)) in
    let same : turned ≡ neg_ℤ greatest = omega (arith, additive, clamps, neg-mul pH yL, neg-mul pH yH, neg-mul pL yL, neg-mul pL yH) in
    omega (
      arith,
      additive,
      four_products-over d e (neg_ℤ pH) (neg_ℤ p) (neg_ℤ pL) yL y yH hd he (omega (arith, additive, neg-mul pH d)) (omega (arith, additive, neg-mul pL d)) c f,
      ap (λ z. z *ℤ (d *ℤ e)) same,
      neg-mul greatest (d *ℤ e),
      neg-mul p y,
    )

-- signed numbers that are equal where they count the same
pub same_pos : (a b : ℕ) → pos a ≡ pos b → a ≡ b
same_pos a b e = cc
