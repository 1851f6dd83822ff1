-- What the tests of a point of Q show of it, and how large its numbers are.
use Rattle.std.proofs.Common.{ℕ, ◌<◌, arith}
use Rattle.pool_model.specs.Network.{Net, IsLimited}
use Rattle.pool_model.specs.Plan.{Carries}
use Rattle.row_model.specs.Variables.{path_count, path_out}
use Rattle.row_model.proofs.PathSums.{path_out-below}
use Rattle.program_model.specs.Points.{proportion_flows}
use Rattle.program_model.proofs.Bounds.{carries-bounded, path-le, proportion-le}
use Rattle.program_model.proofs.FormQ.{paths_into}
use Rattle.point_checks.specs.PropSlices.{seen}
use Rattle.point_checks.specs.ProportionTests.{HasPropShape, IsPropPoint, FitsProps, AreSmallProps, SumsToOne, ComesFrom, IsProduct, KeepsLimits}
use Rattle.point_checks.specs.declared.prop_slices.PropSlices.{PropSlices}

-- the sizes of a point hold by themselves
pub point-fits : (n : Net) (s : PropSlices) → IsLimited n → IsPropPoint n s → FitsProps n s
point-fits n s lim h =
    let bounded = carries-bounded n (proportion_flows (seen s)) lim h.point.carries in
    record {
      flows = record {
        feeds = λ e lt. bounded.feed e (omega (arith, h.shape.x));
        outs = λ o lt. omega (arith, bounded.out o (omega (arith, h.shape.y)));
        directs = λ e lt. omega (arith, bounded.direct e (omega (arith, h.shape.z)));
        arcs = h.point.carries.arcs;
      };
      paths = λ a lt.
          let within : a < path_count n = omega (arith, h.shape.paths) in
          omega (arith, path-le n (seen s) a lim h.point within, bounded.out (path_out n a) (path_out-below n a within));
      proportions = λ e lt. proportion-le n (seen s) e lim h.point (omega (arith, h.shape.props));
    }

-- how large its numbers are where flows carry and go along paths by proportions that sum to 1: what flows along paths to a product is
-- what its outs carry
pub small-point : (n : Net) (s : PropSlices) → IsLimited n → HasPropShape n s → ((a : ℕ) → a < path_count n → IsProduct n (seen s) a) → ((l : ℕ) → l < n.pools → SumsToOne n (seen s) l)
    → Carries n (proportion_flows (seen s)) → AreSmallProps n s
small-point n s lim shape products sums carries =
    let bounded = carries-bounded n (proportion_flows (seen s)) lim carries in
    record {
      outs = λ o lt. omega (arith, bounded.out o (omega (arith, shape.y)), shape.bases.base_most);
      directs = λ e lt. omega (arith, bounded.direct e (omega (arith, shape.z)), shape.bases.base_most);
      paths = λ j lt. omega (arith, paths_into n (seen s) j lim shape.bases.second sums products, bounded.inflow j lt, shape.bases.base_most);
      inflow = λ j lt. omega (arith, bounded.inflow j lt, shape.bases.base_most);
    }

-- the tests together
pub all-point : (n : Net) (s : PropSlices) → HasPropShape n s → ((a : ℕ) → a < path_count n → IsProduct n (seen s) a) → ((l : ℕ) → l < n.pools → SumsToOne n (seen s) l)
    → ((e : ℕ) → e < n.feeds → ComesFrom n (seen s) e) → Carries n (proportion_flows (seen s))
    → ((j : ℕ) → j < n.products → (k : ℕ) → k < n.qualities → KeepsLimits n (seen s) j k) → IsPropPoint n s
all-point n s shape products sums feeds carries limits = record {
  shape = shape;
  point = record {
    base = shape.bases.base;
    prop_base = shape.bases.second;
    carries = carries;
    proportions = sums;
    feeds = feeds;
    at_most = λ j k u product quality set. (limits j product k quality).at_most u set;
    at_least = λ j k u product quality set. (limits j product k quality).at_least u set;
    products = products;
  };
}

pub point-limits : (n : Net) (s : PropSlices) → IsPropPoint n s → (j : ℕ) → j < n.products → (k : ℕ) → k < n.qualities → KeepsLimits n (seen s) j k
point-limits n s h j product k quality = record { at_most = λ u set. h.point.at_most j k u product quality set; at_least = λ u set. h.point.at_least j k u product quality set }
