-- The ends of the root box, and so those of each proper box, are at most 10^12 in size.
use Rattle.std.proofs.Common.{ℕ, zero, suc, ◌^◌, ◌<◌, ◌≤◌, min, Bool, true, false, ◌==◌, if◌then◌else◌, Option, Some, None, ℤ, pos, ◌≤ℤ◌, unsigned_abs, arith}
use Rattle.std.specs.Prelude.{unwrap_or}
use Rattle.std.proofs.lemmas.Int.{ints, clamps}
use Rattle.pool_model.specs.Network.{Net, IsLimited, IsWithin, capped}
use Rattle.pool_model.proofs.Capped.{capped-le}
use Rattle.pool_model.specs.Starting.{lesser, least_below}
use Rattle.row_model.specs.Boxes.{Box, Coord, coords, coord_at, root_low, root_high, IsProper, greater, greatest_below, fed_quality}
use Rattle.row_model.proofs.Numbering.{at_coord}

pub within : (size : ℕ) (z : ℤ) → size ≤ 10 ^ 12 → IsWithin size z → unsigned_abs z ≤ 10 ^ 12
within size z h (low, high) = omega (arith, ints)

between : (low z high : ℤ) → unsigned_abs low ≤ 10 ^ 12 → unsigned_abs high ≤ 10 ^ 12 → low ≤ℤ z → z ≤ℤ high → unsigned_abs z ≤ 10 ^ 12
between low z high a b h k = omega (arith, ints)

-- a number that there is is at most so large
abbrev pub IsFew : ℕ → Option ℤ → Type 0
IsFew most None = Unit {0}
IsFew most (Some z) = unsigned_abs z ≤ most

few_lesser : (most : ℕ) (a b : Option ℤ) → IsFew most a → IsFew most b → IsFew most (lesser a b)
few_lesser most None b h k = k
few_lesser most (Some a) None h k = h
few_lesser most (Some a) (Some b) h k = omega (arith, ints, clamps)

few_greater : (most : ℕ) (a b : Option ℤ) → IsFew most a → IsFew most b → IsFew most (greater a b)
few_greater most None b h k = k
few_greater most (Some a) None h k = h
few_greater most (Some a) (Some b) h k = omega (arith, ints, clamps)

pub few_least : (most : ℕ) (f : ℕ → Option ℤ) (n : ℕ) → ((i : ℕ) → i < n → IsFew most (f i)) → IsFew most (least_below f n)
few_least most f zero h = tt
few_least most f (suc n) h = few_lesser most (least_below f n) (f n) (few_least most f n (λ i lt. h i (omega arith))) (h n (omega arith))

few_greatest : (most : ℕ) (f : ℕ → Option ℤ) (n : ℕ) → ((i : ℕ) → i < n → IsFew most (f i)) → IsFew most (greatest_below f n)
few_greatest most f zero h = tt
few_greatest most f (suc n) h = few_greater most (greatest_below f n) (f n) (few_greatest most f n (λ i lt. h i (omega arith))) (h n (omega arith))

pub few_unwrapped : (most : ℕ) (a : Option ℤ) → IsFew most a → unsigned_abs (unwrap_or a (pos 0)) ≤ most
few_unwrapped most None h = omega arith
few_unwrapped most (Some z) h = h

pub few_if : (most : ℕ) (test : Bool) (z : ℤ) → unsigned_abs z ≤ most → IsFew most (if test then Some z else None)
few_if most true z h = h
few_if most false z h = tt

-- both ends are at most 10^12 in size
pub record AreNear (least greatest : ℤ) : Type 0 where
  pub low : unsigned_abs least ≤ 10 ^ 12
  pub high : unsigned_abs greatest ≤ 10 ^ 12

pub quality-few : (n : Net) (e k : ℕ) → IsLimited n → e < n.feeds → k < n.qualities → unsigned_abs (n.source_quality (n.feed_source e) k) ≤ 10 ^ 12
quality-few n e k limited lt hk = within (10 ^ 11) (n.source_quality (n.feed_source e) k) (omega arith) (limited.source_qualities (n.feed_source e) k (limited.feed_sources e lt) hk)

pub root-near : (n : Net) → IsLimited n → (c : ℕ) → c < coords n → AreNear (root_low n (coord_at n c)) (root_high n (coord_at n c))
root-near n limited = at_coord n (λ (c : Coord). AreNear (root_low n c) (root_high n c))
    (λ e lt. record { low = omega arith; high = omega arith })
    (λ l k hl hk. record {
      low = few_unwrapped (10 ^ 12) (least_below (fed_quality n l k) n.feeds)
          (few_least (10 ^ 12) (fed_quality n l k) n.feeds (λ e lt. few_if (10 ^ 12) (n.feed_pool e == l) (n.source_quality (n.feed_source e) k) (quality-few n e k limited lt hk)));
      high = few_unwrapped (10 ^ 12) (greatest_below (fed_quality n l k) n.feeds)
          (few_greatest (10 ^ 12) (fed_quality n l k) n.feeds (λ e lt. few_if (10 ^ 12) (n.feed_pool e == l) (n.source_quality (n.feed_source e) k) (quality-few n e k limited lt hk)));
    })
    (λ o lt. record { low = omega arith; high = lesser_of (n.out_max o) (n.pool_max (n.out_pool o)) (n.product_max (n.out_product o)) (limited.product_maxima (n.out_product o) (limited.out_products o lt)) })
  where
    lesser_of : (m : Option ℕ) (a b : ℕ) → b ≤ 10 ^ 12 → capped m (min a b) ≤ 10 ^ 12
    lesser_of m a b h = omega (arith, capped-le m (min a b))

pub ends-near : (n : Net) (b : Box) → IsLimited n → IsProper n b → (c : ℕ) → c < coords n → AreNear (b.low c) (b.high c)
ends-near n b limited proper c lt =
    let r = root-near n limited c lt in
    let a = proper.in_order c lt in
    let d = proper.low c lt in
    let e = proper.high c lt in
    record {
      low = between (root_low n (coord_at n c)) (b.low c) (root_high n (coord_at n c)) r.low r.high d (omega (arith, ints));
      high = between (root_low n (coord_at n c)) (b.high c) (root_high n (coord_at n c)) r.low r.high (omega (arith, ints)) e;
    }
