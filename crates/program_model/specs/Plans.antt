-- The written plan of a point.
use Rattle.std.specs.Prelude.{◌≡◌, ◌≢◌, ℕ, ◌*◌, ◌<◌, length}
use Rattle.pool_model.specs.Network.{Net}
use Rattle.pool_model.specs.Plan.{Plan, Written, weight, written_out, written_direct, outflow}
use Rattle.pool_model.specs.Starting.{first_weight}
use Rattle.program_model.specs.Points.{ProportionPoint, QualityPoint, proportion_flows, quality_flows}
use Rattle.program_model.specs.LeastBases.{IsLeastFlowBase, IsLeastPartBase}

-- a number for each arc, and the flows of outs and directs over the least base that makes them whole
pub record HasFlowsOf (n : Net) (p : Plan) (w : Written) : Type 0 where
  pub flow_base : IsLeastFlowBase n p w.flow_base
  pub weights : length w.weights ≡ n.feeds
  pub outflows : length w.outflows ≡ n.outs
  pub direct : length w.direct ≡ n.directs
  pub out : (o : ℕ) → o < n.outs → written_out w o * p.base ≡ p.out o * w.flow_base
  pub straight : (e : ℕ) → e < n.directs → written_direct w e * p.base ≡ p.direct e * w.flow_base

-- the plan of a point of Q or Pq: its proportions are the weights
pub record IsPlanOfProportions (n : Net) (q : ProportionPoint) (w : Written) : Type 0 where
  pub flows : HasFlowsOf n (proportion_flows q) w
  pub base : w.base ≡ q.prop_base
  pub weight : (e : ℕ) → e < n.feeds → weight w e ≡ q.proportion e

-- The plan of a point of P: a feed's weight is its part of what its pool sends, over the least base that makes all parts whole.
-- All weight of a pool that sends nothing stands on its first feed.
pub record IsPlanOfQualities (n : Net) (q : QualityPoint) (w : Written) : Type 0 where
  pub flows : HasFlowsOf n (quality_flows q) w
  pub base : IsLeastPartBase n (quality_flows q) w.base
  pub part : (e : ℕ) → e < n.feeds → outflow n (quality_flows q) (n.feed_pool e) ≢ 0 → weight w e * outflow n (quality_flows q) (n.feed_pool e) ≡ q.feed e * w.base
  pub empty : (e : ℕ) → e < n.feeds → outflow n (quality_flows q) (n.feed_pool e) ≡ 0 → weight w e ≡ w.base * first_weight n e
