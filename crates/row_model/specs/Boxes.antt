-- Boxes: for each coordinate of a plan the least and the greatest that it may be.
use Rattle.std.specs.Prelude.{◌≡◌, ℕ, zero, suc, ◌+◌, ◌-◌, ◌*◌, ◌/◌, ◌%◌, ◌<◌, min, nat_lt, ◌==◌, if◌then◌else◌, Option, None, Some, unwrap_or, ℤ, pos, ◌*ℤ◌, ◌≤ℤ◌}
use Rattle.std.specs.Int.{int_max}
use Rattle.integers.specs.Sums.{int_sum_at}
use Rattle.pool_model.specs.Network.{Net, capped}
use Rattle.pool_model.specs.Plan.{Plan, outflow, factor}
use Rattle.pool_model.specs.Starting.{first_weight, least_below}

-- ---- coordinates

-- how many parts a proportion is counted in
abbrev pub grain : ℕ
grain = 1048576

-- a feed's proportion in its pool, a pool's quality, an out's flow
pub data Coord : Type 0 where
  prop : (feed : ℕ) → Coord
  qual : (pool quality : ℕ) → Coord
  flow : (out : ℕ) → Coord

-- how many there are: by feed, then by pool and quality, then by out
abbrev pub coords : Net → ℕ
coords n = n.feeds + (n.pools * n.qualities + n.outs)

abbrev pub prop_number : Net → ℕ → ℕ
prop_number n e = e

abbrev pub qual_number : Net → ℕ → ℕ → ℕ
qual_number n l k = n.feeds + (l * n.qualities + k)

abbrev pub flow_number : Net → ℕ → ℕ
flow_number n o = n.feeds + (n.pools * n.qualities + o)

-- the coordinate of a number
abbrev pub coord_at : Net → ℕ → Coord
coord_at n c =
    if nat_lt c n.feeds then prop c
    else (if nat_lt (c - n.feeds) (n.pools * n.qualities) then qual ((c - n.feeds) / n.qualities) ((c - n.feeds) % n.qualities)
    else flow (c - n.feeds - n.pools * n.qualities))

-- ---- boxes

-- by coordinate: parts of `grain`, millionths of quality, millionths of flow
pub record Box : Type 0 where
  pub low : ℕ → ℤ
  pub high : ℕ → ℤ

-- the greater of two qualities that may be absent, and the greatest below a count
abbrev pub greater : Option ℤ → Option ℤ → Option ℤ
greater None b = b
greater (Some a) None = Some a
greater (Some a) (Some b) = Some (int_max a b)

abbrev pub greatest_below : (ℕ → Option ℤ) → ℕ → Option ℤ
greatest_below f zero = None
greatest_below f (suc n) = greater (greatest_below f n) (f n)

-- the quality of a feed's source, where the feed goes to a pool
abbrev pub fed_quality : Net → ℕ → ℕ → ℕ → Option ℤ
fed_quality n l k e = if n.feed_pool e == l then Some (n.source_quality (n.feed_source e) k) else None

-- the ends that every plan lies between
abbrev pub root_low : Net → Coord → ℤ
root_low n (prop e) = pos 0
root_low n (qual l k) = unwrap_or (least_below (fed_quality n l k) n.feeds) (pos 0)
root_low n (flow o) = pos 0

abbrev pub root_high : Net → Coord → ℤ
root_high n (prop e) = pos grain
root_high n (qual l k) = unwrap_or (greatest_below (fed_quality n l k) n.feeds) (pos 0)
root_high n (flow o) = pos (capped (n.out_max o) (min (n.pool_max (n.out_pool o)) (n.product_max (n.out_product o))))

-- the box of all plans that obey
abbrev pub root : Net → Box
root n = record { low = λ c. root_low n (coord_at n c); high = λ c. root_high n (coord_at n c) }

-- the ends are in order and lie within those of the root
pub record IsProper (n : Net) (b : Box) : Type 0 where
  pub in_order : (c : ℕ) → c < coords n → b.low c ≤ℤ b.high c
  pub low : (c : ℕ) → c < coords n → root_low n (coord_at n c) ≤ℤ b.low c
  pub high : (c : ℕ) → c < coords n → b.high c ≤ℤ root_high n (coord_at n c)

-- two boxes have the same ends at each coordinate
pub record Agree (n : Net) (a b : Box) : Type 0 where
  pub low : (c : ℕ) → c < coords n → a.low c ≡ b.low c
  pub high : (c : ℕ) → c < coords n → a.high c ≡ b.high c

-- the two halves of a box that is cut at a coordinate
abbrev pub left_of : Box → ℕ → ℤ → Box
left_of b coord cut = record { low = b.low; high = λ c. if c == coord then cut else b.high c }

abbrev pub right_of : Box → ℕ → ℤ → Box
right_of b coord cut = record { low = λ c. if c == coord then cut else b.low c; high = b.high }

-- ---- where a plan lies

-- A feed's part of its pool's factor: its flow; a pool that sends nothing stands at its first feed.
abbrev pub share : Net → Plan → ℕ → ℕ
share n p e = if outflow n p (n.feed_pool e) == 0 then first_weight n e else p.feed e

-- the place of a plan on a coordinate, over `place_base`
abbrev pub place : Net → Plan → Coord → ℤ
place n p (prop e) = pos grain *ℤ pos (share n p e)
place n p (qual l k) = int_sum_at n.feed_pool l (λ e. n.source_quality (n.feed_source e) k *ℤ pos (share n p e)) n.feeds
place n p (flow o) = pos (p.out o)

abbrev pub place_base : Net → Plan → Coord → ℕ
place_base n p (prop e) = factor n p (n.feed_pool e)
place_base n p (qual l k) = factor n p l
place_base n p (flow o) = p.base

-- a plan's place on each coordinate lies between the ends, the ends included
pub record LiesIn (n : Net) (p : Plan) (b : Box) : Type 0 where
  pub low : (c : ℕ) → c < coords n → (b.low c *ℤ pos (place_base n p (coord_at n c))) ≤ℤ place n p (coord_at n c)
  pub high : (c : ℕ) → c < coords n → place n p (coord_at n c) ≤ℤ (b.high c *ℤ pos (place_base n p (coord_at n c)))
