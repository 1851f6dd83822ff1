-- What the tests of a point of P show of it, and how large its numbers are.
use Rattle.std.proofs.Common.{◌≡◌, ℕ, ◌*◌, ◌<◌, ◌≤◌, ◌^◌, ◌↔◌, Bool, IsTrue, ℤ, pos, neg_ℤ, ◌*ℤ◌, ◌≤ℤ◌, unsigned_abs, arith, sym, ap, subst, ◌∙◌}
use Rattle.std.proofs.Math.Nat.{mul-le-mul, mul-le-mul_right, le_of_mul-le-mul_left}
use Rattle.std.proofs.lemmas.Int.{ints, unsigned_abs-mul}
use Rattle.integers.proofs.Ring.{neg-mul}
use Rattle.integers.proofs.Order.{le_trans_ℤ, le-mul_pos}
use Rattle.pool_model.specs.Network.{Net, IsLimited, IsWithin}
use Rattle.pool_model.specs.Plan.{Plan, Carries, outflow}
use Rattle.row_model.specs.Boxes.{qual, root_low, root_high}
use Rattle.program_model.specs.Points.{quality_flows}
use Rattle.program_model.proofs.Bounds.{carries-bounded}
use Rattle.point_checks.specs.Flows.{FlowsFit}
use Rattle.point_checks.specs.QualSlices.{seen}
use Rattle.point_checks.specs.QualityTests.{HasQualShape, IsQualPoint, AreSmallQuals, LiesBetween, HasQuality, KeepsQuality, KeepsLimits}
use Rattle.point_checks.specs.declared.qual_slices.QualSlices.{QualSlices}
use Rattle.point_checks.proofs.RootEnds.{root_low-within, root_high-within}

-- the sizes of a point hold by themselves
pub point-fits : (n : Net) (s : QualSlices) → IsLimited n → IsQualPoint n s → FlowsFit n s.flows.base s.flows.feeds.now s.flows.outs.now s.flows.directs.now
point-fits n s lim h =
    let bounded = carries-bounded n (quality_flows (seen n s)) lim h.point.carries in
    record {
      feeds = λ e lt. bounded.feed e (omega (arith, h.shape.x));
      outs = λ o lt. omega (arith, bounded.out o (omega (arith, h.shape.y)));
      directs = λ e lt. omega (arith, bounded.direct e (omega (arith, h.shape.z)));
      arcs = h.point.carries.arcs;
    }

-- a number between ends over a base
between-small : (low high q : ℤ) (r size : ℕ) → IsWithin size low → IsWithin size high → (low *ℤ pos r) ≤ℤ q → q ≤ℤ (high *ℤ pos r) → unsigned_abs q ≤ size * r
between-small low high q r size a b h k =
    let under : (neg_ℤ (pos size) *ℤ pos r) ≤ℤ q = le_trans_ℤ (neg_ℤ (pos size) *ℤ pos r) (low *ℤ pos r) q (le-mul_pos r (neg_ℤ (pos size)) low a.0) h in
    let over : q ≤ℤ (pos size *ℤ pos r) = le_trans_ℤ q (high *ℤ pos r) (pos size *ℤ pos r) k (le-mul_pos r high (pos size) b.1) in
    bound q (size * r) (subst (λ z. z ≤ℤ q) (neg-mul (pos size) (pos r)) under) over
  where
    bound : (q : ℤ) (m : ℕ) → neg_ℤ (pos m) ≤ℤ q → q ≤ℤ pos m → unsigned_abs q ≤ m
    bound q m h k = omega (arith, ints)

-- a product of a small number and a flow
product-small : (v q : ℤ) (r y size : ℕ) → 0 < r → v *ℤ pos r ≡ q *ℤ pos y → unsigned_abs q ≤ size * r → unsigned_abs v ≤ size * y
product-small v q r y size positive e small =
    let left : unsigned_abs v * r ≡ unsigned_abs q * y = sym (unsigned_abs-mul v (pos r)) ∙ ap unsigned_abs e ∙ unsigned_abs-mul q (pos y) in
    let right : unsigned_abs q * y ≤ (size * r) * y = mul-le-mul_right y small in
    le_of_mul-le-mul_left {m = unsigned_abs v} {n = size * y} {k = r} (omega (arith, left, right)) positive

-- what a pool sends where flows carry
sent-small : (n : Net) (p : Plan) (l : ℕ) → IsLimited n → Carries n p → p.base ≤ 2 ^ 36 → l < n.pools → outflow n p l ≤ 2 ^ 83
sent-small n p l lim carries small lt = omega (arith, carries.pools l lt, mul-le-mul small (lim.pool_maxima l lt))

-- how large its numbers are where flows carry and outs have their pools' qualities
pub small-point : (n : Net) (s : QualSlices) → IsLimited n → HasQualShape n s → ((l : ℕ) → l < n.pools → (k : ℕ) → k < n.qualities → LiesBetween n (seen n s) l k)
    → ((o : ℕ) → o < n.outs → (k : ℕ) → k < n.qualities → HasQuality n (seen n s) o k) → Carries n (quality_flows (seen n s)) → AreSmallQuals n s
small-point n s lim shape between products carries =
    let p = quality_flows (seen n s) in
    let bounded = carries-bounded n p lim carries in
    record {
      outs = λ o lt. omega (arith, bounded.out o (omega (arith, shape.y)), shape.bases.base_most);
      directs = λ e lt. omega (arith, bounded.direct e (omega (arith, shape.z)), shape.bases.base_most);
      mixed = λ o k lo lk.
          let l = n.out_pool o in
          let q = (seen n s).quality l k in
          let ends = between l (lim.out_pools o lo) k lk in
          let held = between-small (root_low n (qual l k)) (root_high n (qual l k)) q s.qual_base (10 ^ 11) (root_low-within n l k lim lk) (root_high-within n l k lim lk) ends.low ends.high in
          product-small ((seen n s).mixed o k) q s.qual_base ((seen n s).out o) (10 ^ 11) shape.bases.second (products o lo k lk) held;
      fed = λ l lt. omega (arith, carries.balanced l lt, sent-small n p l lim carries shape.bases.base_most lt);
      sent = λ l lt. sent-small n p l lim carries shape.bases.base_most lt;
      inflow = λ j lt. omega (arith, bounded.inflow j lt, shape.bases.base_most);
    }

-- the tests together
pub all-point : (n : Net) (s : QualSlices) → HasQualShape n s → ((l : ℕ) → l < n.pools → (k : ℕ) → k < n.qualities → LiesBetween n (seen n s) l k)
    → ((o : ℕ) → o < n.outs → (k : ℕ) → k < n.qualities → HasQuality n (seen n s) o k) → Carries n (quality_flows (seen n s))
    → ((l : ℕ) → l < n.pools → (k : ℕ) → k < n.qualities → KeepsQuality n (seen n s) l k)
    → ((j : ℕ) → j < n.products → (k : ℕ) → k < n.qualities → KeepsLimits n (seen n s) j k) → IsQualPoint n s
all-point n s shape between products carries keeps limits = record {
  shape = shape;
  point = record {
    base = shape.bases.base;
    qual_base = shape.bases.second;
    carries = carries;
    mixing = λ l k pool quality. keeps l pool k quality;
    at_most = λ j k u product quality set. (limits j product k quality).at_most u set;
    at_least = λ j k u product quality set. (limits j product k quality).at_least u set;
    products = λ o k out quality. products o out k quality;
    low = λ l k pool quality. (between l pool k quality).low;
    high = λ l k pool quality. (between l pool k quality).high;
  };
}

pub point-limits : (n : Net) (s : QualSlices) → IsQualPoint n s → (j : ℕ) → j < n.products → (k : ℕ) → k < n.qualities → KeepsLimits n (seen n s) j k
point-limits n s h j product k quality = record { at_most = λ u set. h.point.at_most j k u product quality set; at_least = λ u set. h.point.at_least j k u product quality set }

pub point-keeps : (n : Net) (s : QualSlices) → IsQualPoint n s → (l : ℕ) → l < n.pools → (k : ℕ) → k < n.qualities → KeepsQuality n (seen n s) l k
point-keeps n s h l pool k quality = h.point.mixing l k pool quality

-- the test of one product, by its numbers
pub has-same : (n : Net) (s : QualSlices) (o k : ℕ) (b : Bool) (v q : ℤ) → v ≡ (seen n s).mixed o k → q ≡ (seen n s).quality (n.out_pool o) k
    → (IsTrue b ↔ (v *ℤ pos s.qual_base ≡ q *ℤ pos ((seen n s).out o))) → IsTrue b ↔ HasQuality n (seen n s) o k
has-same n s o k b v q e f h =
    subst (λ (z : ℤ). IsTrue b ↔ (z *ℤ pos s.qual_base ≡ (seen n s).quality (n.out_pool o) k *ℤ pos ((seen n s).out o))) e
    (subst (λ (z : ℤ). IsTrue b ↔ (v *ℤ pos s.qual_base ≡ z *ℤ pos ((seen n s).out o))) f h)

-- the test of one quality, by its numbers
pub between-same : (n : Net) (s : QualSlices) (l k : ℕ) (b : Bool) (held low high : ℤ) → held ≡ (seen n s).quality l k → low ≡ root_low n (qual l k) → high ≡ root_high n (qual l k)
    → (IsTrue b ↔ (((low *ℤ pos s.qual_base) ≤ℤ held) × (held ≤ℤ (high *ℤ pos s.qual_base)))) → IsTrue b ↔ LiesBetween n (seen n s) l k
between-same n s l k b held low high e f g h = (
  λ t.
      let both = h.0 t in
      record {
        low = subst (λ (z : ℤ). (z *ℤ pos s.qual_base) ≤ℤ (seen n s).quality l k) f (subst (λ (z : ℤ). (low *ℤ pos s.qual_base) ≤ℤ z) e both.0);
        high = subst (λ (z : ℤ). (seen n s).quality l k ≤ℤ (z *ℤ pos s.qual_base)) g (subst (λ (z : ℤ). z ≤ℤ (high *ℤ pos s.qual_base)) e both.1);
      },
  λ m. h.1 (
    subst (λ (z : ℤ). (z *ℤ pos s.qual_base) ≤ℤ held) (sym f) (subst (λ (z : ℤ). (root_low n (qual l k) *ℤ pos s.qual_base) ≤ℤ z) (sym e) m.low),
    subst (λ (z : ℤ). held ≤ℤ (z *ℤ pos s.qual_base)) (sym g) (subst (λ (z : ℤ). z ≤ℤ (root_high n (qual l k) *ℤ pos s.qual_base)) (sym e) m.high),
  ),
)
