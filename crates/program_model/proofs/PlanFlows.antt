-- The written plan of a point: its flows are the point's, and it obeys.
use Rattle.std.proofs.Common.{◌≡◌, ◌≢◌, ℕ, ◌*◌, ◌<◌, ◌≤◌, max, inl, inr, pos, arith, sym, ap, ◌∙◌}
use Rattle.std.proofs.Math.Nat.{mul-le-mul}
use Rattle.integers.specs.Sums.{sum_at}
use Rattle.integers.proofs.Ring.{linear}
use Rattle.integers.proofs.Order.{same-cancel, same_pos}
use Rattle.integers.proofs.AtKey.{same_or_other, sum_at-mul}
use Rattle.integers.proofs.ByNode.{sum_at-same, sum_at-same_key}
use Rattle.pool_model.specs.Network.{Net, IsLimited}
use Rattle.pool_model.specs.Plan.{Plan, Written, weight, written_out, written_direct, written_outflow, IsWritten, plan_of, Obeys, outflow}
use Rattle.row_model.proofs.Shares.{no_feed, share-first, share-sum}
use Rattle.row_model.specs.Boxes.{share}
use Rattle.program_model.specs.Points.{ProportionPoint, QualityPoint, proportion_flows, quality_flows, SameFlows}
use Rattle.program_model.specs.Programs.{IsPointOfP, IsPointOfQ}
use Rattle.program_model.proofs.FormQ.{feed-of_q}
use Rattle.program_model.proofs.SameFlows.{obeys-same}
use Rattle.program_model.specs.Plans.{HasFlowsOf, IsPlanOfProportions, IsPlanOfQualities}

-- ---- flows

-- what a pool sends, as it is written
pub outflow-ratio : (n : Net) (p : Plan) (w : Written) (l : ℕ) → HasFlowsOf n p w → p.base * written_outflow n w l ≡ w.flow_base * outflow n p l
outflow-ratio n p w l h =
    sym (sum_at-mul n.out_pool l p.base (written_out w) n.outs)
    ∙ sum_at-same n.out_pool l (λ o. p.base * written_out w o) (λ o. w.flow_base * p.out o) n.outs (λ o lt. omega (arith, h.out o lt))
    ∙ sum_at-mul n.out_pool l w.flow_base p.out n.outs

-- each feed's weight is its part
pub record HasParts (n : Net) (p : Plan) (w : Written) : Type 0 where
  pub each : (e : ℕ) → e < n.feeds → weight w e * outflow n p (n.feed_pool e) ≡ p.feed e * w.base

scaled_up : (r y b f d : ℕ) → y * b ≡ f * d → r * y * b ≡ f * (d * r)
scaled_up r y b f d e = omega (arith, ap (λ z. r * z) e)

through : (w t b f d r s : ℕ) → b * t ≡ d * s → w * s ≡ f * r → w * t * b ≡ f * (d * r)
through w t b f d r s e g = omega (arith, ap (λ z. w * z) e, ap (λ z. d * z) g)

pub plan-same : (n : Net) (p : Plan) (w : Written) → HasFlowsOf n p w → HasParts n p w → SameFlows n (plan_of n w) p
plan-same n p w h parts = record {
  feed = λ e lt.
      through (weight w e) (written_outflow n w (n.feed_pool e)) p.base (p.feed e) w.flow_base w.base (outflow n p (n.feed_pool e)) (outflow-ratio n p w (n.feed_pool e) h) (parts.each e lt);
  out = λ o lt. scaled_up w.base (written_out w o) p.base (p.out o) w.flow_base (h.out o lt);
  direct = λ e lt. scaled_up w.base (written_direct w e) p.base (p.direct e) w.flow_base (h.straight e lt);
}

pub same-back : (n : Net) (a b : Plan) → SameFlows n a b → SameFlows n b a
same-back n a b h = record { feed = λ e lt. sym (h.feed e lt); out = λ o lt. sym (h.out o lt); direct = λ e lt. sym (h.direct e lt) }

-- it obeys and costs as much
pub plan-obeys : (n : Net) (p : Plan) (w : Written) → IsLimited n → Obeys n p → 0 < w.base → HasFlowsOf n p w → HasParts n p w → Obeys n (plan_of n w)
plan-obeys n p w lim o more h parts =
    obeys-same n p (plan_of n w) lim (mul-le-mul h.flow_base.positive more) (same-back n (plan_of n w) p (plan-same n p w h parts)) o

-- ---- of points of Q
pub proportions-parts : (n : Net) (q : ProportionPoint) (w : Written) → IsLimited n → IsPointOfQ n q → IsPlanOfProportions n q w → HasParts n (proportion_flows q) w
proportions-parts n q w lim point h = record {
  each = λ e lt.
      let t = outflow n (proportion_flows q) (n.feed_pool e) in
      ap (λ z. z * t) (h.weight e lt) ∙ sym (feed-of_q n q e lim point lt) ∙ turned q.prop_base (q.feed e) ∙ ap (λ z. q.feed e * z) (sym h.base);
}
  where
    turned : (r f : ℕ) → r * f ≡ f * r
    turned r f = omega arith

pub proportions-written : (n : Net) (q : ProportionPoint) (w : Written) → IsPointOfQ n q → IsPlanOfProportions n q w → q.prop_base ≤ 1048576 → w.flow_base ≤ 65536 → IsWritten n w
proportions-written n q w point h small narrow = record {
  base = (omega (arith, h.base, point.prop_base), omega (arith, h.base, small));
  flow_base = (h.flows.flow_base.positive, narrow);
  weights = h.flows.weights;
  outflows = h.flows.outflows;
  direct = h.flows.direct;
  weight_sums = λ l lt. sum_at-same n.feed_pool l (weight w) q.proportion n.feeds h.weight ∙ point.proportions l lt ∙ sym h.base;
}

-- ---- of points of P
pub qualities-parts : (n : Net) (q : QualityPoint) (w : Written) → IsLimited n → IsPointOfP n q → IsPlanOfQualities n q w → HasParts n (quality_flows q) w
qualities-parts n q w lim point h = record {
  each = λ e lt.
      let p = quality_flows q in
      elim (same_or_other (outflow n p (n.feed_pool e)) 0) [
        | inl z ↦
            let none = no_feed n p e lim point.carries lt z in
            ap (λ t. weight w e * t) z ∙ nothing (weight w e) w.base ∙ ap (λ f. f * w.base) (sym none)
        | inr d ↦ h.part e lt d
      ];
}
  where
    nothing : (w r : ℕ) → w * 0 ≡ 0 * r
    nothing w r = omega arith

cancel : (m a b : ℕ) → 0 < m → m * a ≡ m * b → a ≡ b
cancel m a b h e = same_pos a b (same-cancel (pos m) (pos a) (pos b) (omega (arith, linear)) (ap pos e))

weights-full : (n : Net) (q : QualityPoint) (w : Written) (l : ℕ) → IsLimited n → IsPointOfP n q → IsPlanOfQualities n q w → l < n.pools → outflow n (quality_flows q) l ≢ 0
    → sum_at n.feed_pool l (weight w) n.feeds ≡ w.base
weights-full n q w l lim point h lt d =
    let p = quality_flows q in
    let t = outflow n p l in
    cancel t (sum_at n.feed_pool l (weight w) n.feeds) w.base (omega arith)
    (sym (sum_at-mul n.feed_pool l t (weight w) n.feeds)
    ∙ sum_at-same_key n.feed_pool l (λ e. t * weight w e) (λ e. w.base * q.feed e) n.feeds
    (λ e le is. turned t (weight w e) ∙ ap (λ i. weight w e * outflow n p i) (sym is) ∙ h.part e le (λ z. d (sym (ap (outflow n p) is) ∙ z)) ∙ turned (q.feed e) w.base)
    ∙ sum_at-mul n.feed_pool l w.base q.feed n.feeds
    ∙ ap (λ z. w.base * z) (point.carries.balanced l lt)
    ∙ turned w.base t)
  where
    turned : (a b : ℕ) → a * b ≡ b * a
    turned a b = omega arith

weights-empty : (n : Net) (q : QualityPoint) (w : Written) (l : ℕ) → IsLimited n → IsPointOfP n q → IsPlanOfQualities n q w → l < n.pools → outflow n (quality_flows q) l ≡ 0
    → sum_at n.feed_pool l (weight w) n.feeds ≡ w.base
weights-empty n q w l lim point h lt z =
    let p = quality_flows q in
    sum_at-same_key n.feed_pool l (weight w) (λ e. w.base * share n p e) n.feeds
    (λ e le is. let none = ap (outflow n p) is ∙ z in h.empty e le none ∙ ap (λ s. w.base * s) (sym (share-first n p e none)))
    ∙ sum_at-mul n.feed_pool l w.base (share n p) n.feeds
    ∙ ap (λ s. w.base * s) (share-sum n p l lim point.carries lt)
    ∙ whole (outflow n p l) w.base z
  where
    whole : (t r : ℕ) → t ≡ 0 → r * max t 1 ≡ r
    whole t r e = omega (arith, ap (λ s. r * max s 1) e)

pub qualities-written : (n : Net) (q : QualityPoint) (w : Written) → IsLimited n → IsPointOfP n q → IsPlanOfQualities n q w → w.base ≤ 1048576 → w.flow_base ≤ 65536 → IsWritten n w
qualities-written n q w lim point h small narrow = record {
  base = (h.base.positive, small);
  flow_base = (h.flows.flow_base.positive, narrow);
  weights = h.flows.weights;
  outflows = h.flows.outflows;
  direct = h.flows.direct;
  weight_sums = λ l lt. elim (same_or_other (outflow n (quality_flows q) l) 0) [
    | inl z ↦ weights-empty n q w l lim point h lt z
    | inr d ↦ weights-full n q w l lim point h lt d
  ];
}
