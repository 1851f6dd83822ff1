-- How large the numbers of points are.
use Rattle.std.proofs.Common.{◌≡◌, ℕ, ◌*◌, ◌<◌, ◌≤◌, ◌^◌, arith, refl}
use Rattle.std.proofs.Math.Nat.{mul-le-mul_left, le_of_mul-le-mul_left}
use Rattle.integers.proofs.AtKey.{term-le-sum_at}
use Rattle.pool_model.specs.Network.{Net, IsLimited}
use Rattle.pool_model.specs.Plan.{Plan, Carries, product_inflow}
use Rattle.row_model.specs.Variables.{path_count, path_feed, path_out}
use Rattle.row_model.proofs.PathSums.{path_feed-below}
use Rattle.program_model.specs.Points.{ProportionPoint}
use Rattle.program_model.specs.Programs.{IsPointOfQ}
use Rattle.program_model.specs.Bounds.{IsBounded}

inflow-bounded : (n : Net) (p : Plan) (j : ℕ) → IsLimited n → Carries n p → j < n.products → product_inflow n p j ≤ p.base * 10 ^ 12
inflow-bounded n p j lim carries lt = omega (arith, carries.at_most j lt, mul-le-mul_left p.base (lim.product_maxima j lt))

pub carries-bounded : (n : Net) (p : Plan) → IsLimited n → Carries n p → IsBounded n p
carries-bounded n p lim carries = record {
  feed = λ e lt.
      let i = n.feed_source e in
      let part = term-le-sum_at n.feed_source i p.feed n.feeds e lt refl in
      let most = carries.sources i (lim.feed_sources e lt) in
      omega (arith, part, most, mul-le-mul_left p.base (lim.source_maxima i (lim.feed_sources e lt)));
  out = λ o lt.
      let j = n.out_product o in
      omega (arith, term-le-sum_at n.out_product j p.out n.outs o lt refl, inflow-bounded n p j lim carries (lim.out_products o lt));
  direct = λ e lt.
      let j = n.direct_product e in
      omega (arith, term-le-sum_at n.direct_product j p.direct n.directs e lt refl, inflow-bounded n p j lim carries (lim.direct_products e lt));
  inflow = λ j lt. inflow-bounded n p j lim carries lt;
}

pub proportion-le : (n : Net) (q : ProportionPoint) (e : ℕ) → IsLimited n → IsPointOfQ n q → e < n.feeds → q.proportion e ≤ q.prop_base
proportion-le n q e lim point lt =
    let l = n.feed_pool e in
    omega (arith, term-le-sum_at n.feed_pool l q.proportion n.feeds e lt refl, point.proportions l (lim.feed_pools e lt))

-- a part of a flow is at most that flow
pub part-le : (x r p y : ℕ) → x * r ≡ p * y → p ≤ r → 0 < r → x ≤ y
part-le x r p y e le positive = le_of_mul-le-mul_left {m = x} {n = y} {k = r} (omega (arith, e, mul-le-mul_left y le)) positive

pub path-le : (n : Net) (q : ProportionPoint) (a : ℕ) → IsLimited n → IsPointOfQ n q → a < path_count n → q.path a ≤ q.out (path_out n a)
path-le n q a lim point lt =
    part-le (q.path a) q.prop_base (q.proportion (path_feed n a)) (q.out (path_out n a)) (point.products a lt) (proportion-le n q (path_feed n a) lim point (path_feed-below n a lt)) point.prop_base
