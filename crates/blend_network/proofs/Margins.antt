-- How large a margin is, and the costs that it is taken over.
use Rattle.std.proofs.Common.{◌≡◌, ℕ, ◌<◌, ◌≤◌, ◌^◌, ◌*◌, ◌*ℤ◌, Option, Some, None, ℤ, pos, ◌+◌, ◌≤ℤ◌, ◌+ℤ◌, ◌-ℤ◌, option_map, ◌==◌, if◌then◌else◌, zero, suc, Bool, true, false, refl, FitsSigned, w64, arith}
use Rattle.std.specs.Option.{ForSome}
use Rattle.std.specs.Int.{int_min, int_max}
use Rattle.std.proofs.lemmas.Int.{ints, clamps}
use Rattle.pool_model.specs.Network.{Net, IsWithin, IsLimited, feed_delivered, direct_delivered}
use Rattle.std.proofs.Math.Nat.{mul_comm}
use Rattle.integers.proofs.Ring.{mul_comm_ℤ}
use Rattle.integers.proofs.Order.{nonneg-mul, le-mul, le_trans_ℤ}
use Rattle.network_parts.specs.Faults.{IsUpTo}
use Rattle.pool_model.specs.Starting.{lesser, least_below, pool_cost, out_delivered, reach_cost}

pub margin_above : (cost price : ℤ) → cost ≤ℤ price → int_max (pos 0) (price -ℤ cost) ≡ price -ℤ cost
margin_above cost price h = omega (arith, ints, clamps)

min-within : (size : ℕ) (x y z : ℤ) → IsWithin size x → IsWithin size y → int_min x y ≡ z → IsWithin size z
min-within size x y z hx hy e = (omega (arith, ints, clamps), omega (arith, ints, clamps))

-- a bound on two costs is one on the lesser
pub lesser-within : (size : ℕ) (a b : Option ℤ) → ForSome a (IsWithin size) → ForSome b (IsWithin size) → ForSome (lesser a b) (IsWithin size)
lesser-within size None b ha hb = hb
lesser-within size (Some x) None ha hb = ha
lesser-within size (Some x) (Some y) ha hb = λ z is. min-within size x y z (ha x refl) (hb y refl) cc

pub least_below-within : (size : ℕ) (f : ℕ → Option ℤ) (n : ℕ) → ((i : ℕ) → i < n → ForSome (f i) (IsWithin size)) → ForSome (least_below f n) (IsWithin size)
least_below-within size f zero h = λ x is. cc
least_below-within size f (suc n) h =
    lesser-within size (least_below f n) (f n) (least_below-within size f n (λ i k. h i (omega arith))) (h n (omega arith))

chosen-within : (size : ℕ) (b : Bool) (o : Option ℤ) → ForSome o (IsWithin size) → ForSome (if b then o else None) (IsWithin size)
chosen-within size true o h = h
chosen-within size false o h = λ x is. cc

some-within : (size : ℕ) (z : ℤ) → IsWithin size z → ForSome (Some z) (IsWithin size)
some-within size z h x is = let e : z ≡ x = cc in (omega (arith, ints), omega (arith, ints))

sum-within : (a b : ℕ) (x y : ℤ) → IsWithin a x → IsWithin b y → IsWithin (a + b) (x +ℤ y)
sum-within a b x y (xl, xh) (yl, yh) = (omega (arith, ints), omega (arith, ints))

-- what reaches a pool or a product costs no more than a source and two arcs may
pub pool_cost-below : (n : Net) (l count : ℕ) → IsLimited n → count ≤ n.feeds
    → ForSome (least_below (λ e. if n.feed_pool e == l then Some (feed_delivered n e) else None) count) (IsWithin (2 * 10 ^ 12))
pool_cost-below n l count limited few = least_below-within (2 * 10 ^ 12) (λ e. if n.feed_pool e == l then Some (feed_delivered n e) else None) count
    (λ e lt. let h : e < n.feeds = omega (arith, lt, few) in chosen-within (2 * 10 ^ 12) (n.feed_pool e == l) (Some (feed_delivered n e))
    (some-within (2 * 10 ^ 12) (feed_delivered n e)
    (sum-within (10 ^ 12) (10 ^ 12) (n.source_cost (n.feed_source e)) (n.feed_cost e) (limited.source_costs (n.feed_source e) (limited.feed_sources e h)) (limited.feed_costs e h))))

pool_cost-within : (n : Net) (l : ℕ) → IsLimited n → ForSome (pool_cost n l) (IsWithin (2 * 10 ^ 12))
pool_cost-within n l limited = pool_cost-below n l n.feeds limited (omega arith)

out_delivered-within : (n : Net) (o : ℕ) → IsLimited n → o < n.outs → ForSome (out_delivered n o) (IsWithin (3 * 10 ^ 12))
out_delivered-within n o limited h = carried (pool_cost n (n.out_pool o)) (pool_cost-within n (n.out_pool o) limited)
  where
    carried : (c : Option ℤ) → ForSome c (IsWithin (2 * 10 ^ 12)) → ForSome (option_map (λ z. z +ℤ n.out_cost o) c) (IsWithin (3 * 10 ^ 12))
    carried None within = λ z is. cc
    carried (Some c) within = some-within (3 * 10 ^ 12) (c +ℤ n.out_cost o) (sum-within (2 * 10 ^ 12) (10 ^ 12) c (n.out_cost o) (within c refl) (limited.out_costs o h))

wider : (small large : ℕ) (x : ℤ) → small ≤ large → IsWithin small x → IsWithin large x
wider small large x h (low, high) = (omega (arith, ints), omega (arith, ints))

pub reach_cost-within : (n : Net) (j : ℕ) → IsLimited n → ForSome (reach_cost n j) (IsWithin (3 * 10 ^ 12))
reach_cost-within n j limited =
    lesser-within (3 * 10 ^ 12)
    (least_below (λ e. if n.direct_product e == j then Some (direct_delivered n e) else None) n.directs)
    (least_below (λ o. if n.out_product o == j then out_delivered n o else None) n.outs)
    (least_below-within (3 * 10 ^ 12) (λ e. if n.direct_product e == j then Some (direct_delivered n e) else None) n.directs
    (λ e h. chosen-within (3 * 10 ^ 12) (n.direct_product e == j) (Some (direct_delivered n e))
    (some-within (3 * 10 ^ 12) (direct_delivered n e) (wider (2 * 10 ^ 12) (3 * 10 ^ 12) (direct_delivered n e) (omega arith)
    (sum-within (10 ^ 12) (10 ^ 12) (n.source_cost (n.direct_source e)) (n.direct_cost e) (limited.source_costs (n.direct_source e) (limited.direct_sources e h)) (limited.direct_costs e h))))))
    (least_below-within (3 * 10 ^ 12) (λ o. if n.out_product o == j then out_delivered n o else None) n.outs
    (λ o h. chosen-within (3 * 10 ^ 12) (n.out_product o == j) (out_delivered n o) (out_delivered-within n o limited h)))

-- ---- fits and sizes of the sums

pub difference-fits : (price cost : ℤ) → IsWithin (10 ^ 12) price → IsWithin (3 * 10 ^ 12) cost → FitsSigned w64 (price -ℤ cost)
difference-fits price cost hp hc = omega (arith, ints)

pub product-up_to : (m n : ℕ) (a b : ℤ) → IsUpTo m a → IsUpTo n b → IsUpTo (m * n) (a *ℤ b)
product-up_to m n a b ha hb = (
  nonneg-mul a b ha.0 hb.0,
  le_trans_ℤ (a *ℤ b) (a *ℤ pos n) (pos (m * n)) (le-mul a b (pos n) ha.0 hb.1)
      (rw (mul_comm_ℤ a (pos n)) (rw (mul_comm m n) (le-mul (pos n) a (pos m) (omega (arith, ints)) ha.1))),
)
