-- The flows of a plan that obeys lie between the ends that are printed, over any second denominator.
use Rattle.std.proofs.Common.{◌≡◌, ℕ, ◌*◌, ◌<◌, ℤ, pos, ◌*ℤ◌, ◌≤ℤ◌, ◌<ℤ◌, arith, refl, subst}
use Rattle.integers.specs.Sums.{product_below}
use Rattle.integers.proofs.Ring.{additive, linear, sorted}
use Rattle.integers.proofs.Order.{le-mul, le-cancel}
use Rattle.pool_model.specs.Network.{Net}
use Rattle.pool_model.specs.Plan.{Plan, factor}
use Rattle.row_model.specs.Boxes.{root}
use Rattle.row_model.specs.Variables.{variables, by_number, highs}
use Rattle.row_model.specs.Lift.{lift, lift_base}
use Rattle.program_model.proofs.Means.{positive-factors}
use Rattle.printed_program.proofs.VariableKinds.{out_number, direct_number}
use Rattle.printed_program.proofs.Terms.{number-feed, number-out, number-direct}
use Rattle.printed_program.proofs.Ends.{IsWithin}

-- ---- over a second denominator

pub scaled_up : (second base : ℕ) (high x : ℤ) → x ≤ℤ (high *ℤ pos base) → (pos second *ℤ x) ≤ℤ (high *ℤ pos (base * second))
scaled_up second base high x h = omega (arith, additive, le-mul (pos second) x (high *ℤ pos base) (omega (arith, additive)) h, turned (pos second) high (pos base))
  where
    turned : (a l b : ℤ) → a *ℤ (l *ℤ b) ≡ l *ℤ (b *ℤ a)
    turned a l b = simp sorted refl

pub scaled_down : (second base : ℕ) (low x : ℤ) → (low *ℤ pos base) ≤ℤ x → (low *ℤ pos (base * second)) ≤ℤ (pos second *ℤ x)
scaled_down second base low x h = omega (arith, additive, le-mul (pos second) (low *ℤ pos base) x (omega (arith, additive)) h, turned (pos second) low (pos base))
  where
    turned : (a l b : ℤ) → a *ℤ (l *ℤ b) ≡ l *ℤ (b *ℤ a)
    turned a l b = simp sorted refl

-- a number that is not below 0
pub natural-within : (second base x : ℕ) (high : ℤ) → pos x ≤ℤ (high *ℤ pos base) → IsWithin (base * second) (pos 0) high (pos second *ℤ pos x)
natural-within second base x high h = record { low = omega (arith, linear); high = scaled_up second base high (pos x) h }

-- ---- flows, by where the plan's point lies

module _ (n : Net) (p : Plan) (fits : (v : ℕ) → v < variables n → by_number n (lift n p) v ≤ℤ (by_number n (highs n (root n)) v *ℤ pos (lift_base n p))) where
  cancelled : (m base : ℕ) (x high : ℤ) → 0 < m → (pos m *ℤ x) ≤ℤ (high *ℤ pos (base * m)) → x ≤ℤ (high *ℤ pos base)
  cancelled m base x high h up = le-cancel (pos m) x (high *ℤ pos base) (positive m h) (omega (arith, additive, up, turned (pos m) high (pos base)))
    where
      positive : (m : ℕ) → 0 < m → pos 0 <ℤ pos m
      positive m h = omega (arith, linear)

      turned : (a l b : ℤ) → a *ℤ (l *ℤ b) ≡ l *ℤ (b *ℤ a)
      turned a l b = simp sorted refl

  under : (v x : ℕ) (high : ℤ) → v < variables n → by_number n (lift n p) v ≡ pos (product_below (factor n p) n.pools) *ℤ pos x → by_number n (highs n (root n)) v ≡ high
      → pos x ≤ℤ (high *ℤ pos p.base)
  under v x high lt is_x is_high =
      let all = product_below (factor n p) n.pools in
      cancelled all p.base (pos x) high (positive-factors n p)
      (subst (λ z. (pos all *ℤ pos x) ≤ℤ (z *ℤ pos (lift_base n p))) is_high (subst (λ z. z ≤ℤ (by_number n (highs n (root n)) v *ℤ pos (lift_base n p))) is_x (fits v lt)))

  pub feed-under : (e : ℕ) → e < n.feeds → pos (p.feed e) ≤ℤ ((highs n (root n)).x e *ℤ pos p.base)
  feed-under e lt = under e (p.feed e) ((highs n (root n)).x e) (omega arith) (number-feed n (lift n p) e lt) (number-feed n (highs n (root n)) e lt)

  pub out-under : (o : ℕ) → o < n.outs → pos (p.out o) ≤ℤ ((highs n (root n)).y o *ℤ pos p.base)
  out-under o lt = under (out_number n o) (p.out o) ((highs n (root n)).y o) (omega arith) (number-out n (lift n p) o lt) (number-out n (highs n (root n)) o lt)

  pub direct-under : (e : ℕ) → e < n.directs → pos (p.direct e) ≤ℤ ((highs n (root n)).z e *ℤ pos p.base)
  direct-under e lt = under (direct_number n e) (p.direct e) ((highs n (root n)).z e) (omega arith) (number-direct n (lift n p) e lt) (number-direct n (highs n (root n)) e lt)
