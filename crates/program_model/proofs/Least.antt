-- No written plan with the same flows has smaller bases.
use Rattle.std.proofs.Common.{◌≡◌, ℕ, ◌*◌, ◌≤◌, pos, arith, sym, ap, subst, ◌∙◌}
use Rattle.std.proofs.Math.Nat.{dvd-mul_right}
use Rattle.std.specs.Int.{◌∣◌}
use Rattle.integers.proofs.Ring.{linear}
use Rattle.integers.proofs.Order.{same-cancel, same_pos}
use Rattle.integers.proofs.AtKey.{sum_at-mul}
use Rattle.integers.proofs.ByNode.{sum_at-same}
use Rattle.pool_model.specs.Network.{Net}
use Rattle.pool_model.specs.Plan.{Plan, Written, weight, written_out, written_direct, written_outflow, IsWritten, plan_of, outflow}
use Rattle.program_model.specs.Points.{SameFlows}
use Rattle.program_model.specs.LeastBases.{AreWholeFlows, AreWholeParts}

cancel : (m a b : ℕ) → 1 ≤ m → m * a ≡ m * b → a ≡ b
cancel m a b h e = same_pos a b (same-cancel (pos m) (pos a) (pos b) (omega (arith, linear)) (ap pos e))

-- a flow that is written is whole over the flow base
unscaled : (r y b f d : ℕ) → 1 ≤ r → r * y * b ≡ f * (d * r) → b * y ≡ d * f
unscaled r y b f d h e = cancel r (b * y) (d * f) h (omega (arith, e))

divides : (b y z : ℕ) → b * y ≡ z → b ∣ z
divides b y z e = subst (λ (x : ℕ). b ∣ x) e (dvd-mul_right b y)

pub written-whole_flows : (n : Net) (p : Plan) (w : Written) → IsWritten n w → SameFlows n (plan_of n w) p → AreWholeFlows n p w.flow_base
written-whole_flows n p w written same = record {
  out = λ o lt. divides p.base (written_out w o) (w.flow_base * p.out o) (unscaled w.base (written_out w o) p.base (p.out o) w.flow_base written.base.0 (same.out o lt));
  direct = λ e lt. divides p.base (written_direct w e) (w.flow_base * p.direct e) (unscaled w.base (written_direct w e) p.base (p.direct e) w.flow_base written.base.0 (same.direct e lt));
}

-- what a pool sends, as it is written
outflow-written : (n : Net) (p : Plan) (w : Written) (l : ℕ) → IsWritten n w → SameFlows n (plan_of n w) p → p.base * written_outflow n w l ≡ w.flow_base * outflow n p l
outflow-written n p w l written same =
    sym (sum_at-mul n.out_pool l p.base (written_out w) n.outs)
    ∙ sum_at-same n.out_pool l (λ o. p.base * written_out w o) (λ o. w.flow_base * p.out o) n.outs
    (λ o lt. unscaled w.base (written_out w o) p.base (p.out o) w.flow_base written.base.0 (same.out o lt))
    ∙ sum_at-mul n.out_pool l w.flow_base p.out n.outs

-- a weight that is written is a part over the base
part : (x t b f d r s : ℕ) → 1 ≤ d → b * t ≡ d * s → x * t * b ≡ f * (d * r) → s * x ≡ r * f
part x t b f d r s h e g = cancel d (s * x) (r * f) h (omega (arith, ap (λ z. x * z) e, g))

pub written-whole_parts : (n : Net) (p : Plan) (w : Written) → IsWritten n w → SameFlows n (plan_of n w) p → AreWholeParts n p w.base
written-whole_parts n p w written same = λ e lt.
    divides (outflow n p (n.feed_pool e)) (weight w e) (w.base * p.feed e)
    (part (weight w e) (written_outflow n w (n.feed_pool e)) p.base (p.feed e) w.flow_base w.base (outflow n p (n.feed_pool e)) written.flow_base.0
    (outflow-written n p w (n.feed_pool e) written same) (same.feed e lt))
