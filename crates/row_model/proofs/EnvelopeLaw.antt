-- Each side of the envelope of a product holds for every product of two numbers between their ends (McCormick 1976). The
-- numbers may be fractions: a over t, b over d, and w over t times d.
use Rattle.std.proofs.Common.{◌≡◌, ℕ, inl, inr, ◌==◌, if◌then◌else◌, ℤ, pos, neg_ℤ, ◌+ℤ◌, ◌-ℤ◌, ◌*ℤ◌, ◌≤ℤ◌, arith, sym, subst}
use Rattle.integers.proofs.Ring.{additive, sorted, neg-mul}
use Rattle.integers.proofs.Order.{gap-mul, nonneg-mul}
use Rattle.integers.proofs.AtKey.{same_or_other, chosen, passed}
use Rattle.row_model.specs.Envelopes.{Ends, Side, first_side, second_side, third_side, fourth_side, side}

-- two numbers between their ends, and a product
pub record IsProduct (scale : ℤ) (e : Ends) (w a t b d : ℤ) : Type 0 where
  pub a_low : (e.a_low *ℤ t) ≤ℤ a
  pub a_high : a ≤ℤ (e.a_high *ℤ t)
  pub b_low : (e.b_low *ℤ d) ≤ℤ b
  pub b_high : b ≤ℤ (e.b_high *ℤ d)
  pub product : scale *ℤ w ≡ a *ℤ b

-- a side's value, over t times d
abbrev pub side_value : Side → ℤ → ℤ → ℤ → ℤ → ℤ → ℤ
side_value s w a t b d = s.of_w *ℤ w +ℤ s.of_a *ℤ (a *ℤ d) +ℤ s.of_b *ℤ (b *ℤ t) +ℤ s.constant *ℤ (t *ℤ d)

-- each side's value is a product of two gaps
first-gaps : (a t b d low below : ℤ) → (a -ℤ low *ℤ t) *ℤ (b -ℤ below *ℤ d) ≡ a *ℤ b +ℤ neg_ℤ below *ℤ (a *ℤ d) +ℤ neg_ℤ low *ℤ (b *ℤ t) +ℤ (low *ℤ below) *ℤ (t *ℤ d)
first-gaps a t b d low below = simp sorted (omega (arith, additive))

second-gaps : (a t b d high above : ℤ) → (high *ℤ t -ℤ a) *ℤ (above *ℤ d -ℤ b) ≡ a *ℤ b +ℤ neg_ℤ above *ℤ (a *ℤ d) +ℤ neg_ℤ high *ℤ (b *ℤ t) +ℤ (high *ℤ above) *ℤ (t *ℤ d)
second-gaps a t b d high above = simp sorted (omega (arith, additive))

third-gaps : (a t b d high below : ℤ) → (high *ℤ t -ℤ a) *ℤ (b -ℤ below *ℤ d) ≡ neg_ℤ (a *ℤ b) +ℤ below *ℤ (a *ℤ d) +ℤ high *ℤ (b *ℤ t) +ℤ neg_ℤ (high *ℤ below) *ℤ (t *ℤ d)
third-gaps a t b d high below = simp sorted (omega (arith, additive))

fourth-gaps : (a t b d low above : ℤ) → (a -ℤ low *ℤ t) *ℤ (above *ℤ d -ℤ b) ≡ neg_ℤ (a *ℤ b) +ℤ above *ℤ (a *ℤ d) +ℤ low *ℤ (b *ℤ t) +ℤ neg_ℤ (low *ℤ above) *ℤ (t *ℤ d)
fourth-gaps a t b d low above = simp sorted (omega (arith, additive))

first_side-holds : (scale : ℤ) (e : Ends) (w a t b d : ℤ) → IsProduct scale e w a t b d → pos 0 ≤ℤ side_value (first_side scale e) w a t b d
first_side-holds scale e w a t b d h = omega (arith, additive, h.product, first-gaps a t b d e.a_low e.b_low, gap-mul (e.a_low *ℤ t) a (e.b_low *ℤ d) b h.a_low h.b_low)

second_side-holds : (scale : ℤ) (e : Ends) (w a t b d : ℤ) → IsProduct scale e w a t b d → pos 0 ≤ℤ side_value (second_side scale e) w a t b d
second_side-holds scale e w a t b d h = omega (arith, additive, h.product, second-gaps a t b d e.a_high e.b_high, gap-mul a (e.a_high *ℤ t) b (e.b_high *ℤ d) h.a_high h.b_high)

third_side-holds : (scale : ℤ) (e : Ends) (w a t b d : ℤ) → IsProduct scale e w a t b d → pos 0 ≤ℤ side_value (third_side scale e) w a t b d
third_side-holds scale e w a t b d h = omega (arith, additive, h.product, neg-mul scale w, third-gaps a t b d e.a_high e.b_low, gap-mul a (e.a_high *ℤ t) (e.b_low *ℤ d) b h.a_high h.b_low)

fourth_side-holds : (scale : ℤ) (e : Ends) (w a t b d : ℤ) → IsProduct scale e w a t b d → pos 0 ≤ℤ side_value (fourth_side scale e) w a t b d
fourth_side-holds scale e w a t b d h = omega (arith, additive, h.product, neg-mul scale w, fourth-gaps a t b d e.a_low e.b_high, gap-mul (e.a_low *ℤ t) a b (e.b_high *ℤ d) h.a_low h.b_high)

-- what holds of each of two sides holds of the one that a number chooses
either_side : (P : Side → Type 0) (number k : ℕ) (s r : Side) → P s → P r → P (if number == k then s else r)
either_side P number k s r h g = elim (same_or_other number k) [
  | inl e ↦ subst P (sym (chosen number k s r e)) h
  | inr d ↦ subst P (sym (passed number k s r d)) g
]

pub side-holds : (number : ℕ) (scale : ℤ) (e : Ends) (w a t b d : ℤ) → IsProduct scale e w a t b d → pos 0 ≤ℤ side_value (side number scale e) w a t b d
side-holds number scale e w a t b d h =
    let P : Side → Type 0 = λ s. pos 0 ≤ℤ side_value s w a t b d in
    either_side P number 1 (first_side scale e) (if number == 2 then second_side scale e else (if number == 3 then third_side scale e else fourth_side scale e))
    (first_side-holds scale e w a t b d h)
    (either_side P number 2 (second_side scale e) (if number == 3 then third_side scale e else fourth_side scale e)
    (second_side-holds scale e w a t b d h)
    (either_side P number 3 (third_side scale e) (fourth_side scale e) (third_side-holds scale e w a t b d h) (fourth_side-holds scale e w a t b d h)))

-- a side's value times a number that is not below 0, as it stands at the point of a plan
lifted-value : (s : Side) (o w a t b d : ℤ)
    → o *ℤ side_value s w a t b d ≡ s.of_b *ℤ ((o *ℤ t) *ℤ b) +ℤ s.of_w *ℤ (o *ℤ w) +ℤ s.of_a *ℤ (d *ℤ o *ℤ a) +ℤ s.constant *ℤ (d *ℤ (o *ℤ t))
lifted-value s o w a t b d = out s.of_w s.of_a s.of_b s.constant o w a t b d
  where
    out : (x y z c o w a t b d : ℤ) → o *ℤ (x *ℤ w +ℤ y *ℤ (a *ℤ d) +ℤ z *ℤ (b *ℤ t) +ℤ c *ℤ (t *ℤ d)) ≡ z *ℤ ((o *ℤ t) *ℤ b) +ℤ x *ℤ (o *ℤ w) +ℤ y *ℤ (d *ℤ o *ℤ a) +ℤ c *ℤ (d *ℤ (o *ℤ t))
    out x y z c o w a t b d = simp sorted (omega (arith, additive))

pub lifted_side-holds : (number : ℕ) (scale : ℤ) (e : Ends) (o w a t b d : ℤ) → pos 0 ≤ℤ o → IsProduct scale e w a t b d
    → let s = side number scale e in
    pos 0 ≤ℤ (s.of_b *ℤ ((o *ℤ t) *ℤ b) +ℤ s.of_w *ℤ (o *ℤ w) +ℤ s.of_a *ℤ (d *ℤ o *ℤ a) +ℤ s.constant *ℤ (d *ℤ (o *ℤ t)))
lifted_side-holds number scale e o w a t b d positive h =
    rw (← lifted-value (side number scale e) o w a t b d) (nonneg-mul o (side_value (side number scale e) w a t b d) positive (side-holds number scale e w a t b d h))
