-- The starting plans, which the solver tries first, and the bound that margins alone give.
use Rattle.std.specs.Prelude.{◌≡◌, ℕ, zero, suc, ◌+◌, ◌-◌, ◌<◌, ◌≤◌, nat_lt, min, length, Bool, true, ◌&&◌, ◌==◌, if◌then◌else◌, ◌⊎◌, Option, Some, None, option_map, ℤ, pos, neg_ℤ, ◌+ℤ◌, ◌-ℤ◌, ◌*ℤ◌, ◌≤ℤ◌, ◌<ℤ◌, int_le}
use Rattle.std.specs.Int.{int_min, int_max}
use Rattle.integers.specs.Sums.{int_sum_below, sum_at}
use Rattle.integers.specs.Numbers.{tabulate}
use Rattle.pool_model.specs.Network.{Net, feed_delivered, direct_delivered, capped}
use Rattle.pool_model.specs.Paths.{paths_of, path_at}
use Rattle.pool_model.specs.Plan.{Written, plan_of, Obeys, cost_of}

-- no product must take anything
abbrev pub HasNoMinima : Net → Type 0
HasNoMinima n = (j : ℕ) → j < n.products → n.product_min j ≡ 0

-- ---- the zero plan

-- how many feeds of its pool stand before a feed
abbrev pub feeds_before : Net → ℕ → ℕ
feeds_before n e = sum_at n.feed_pool (n.feed_pool e) (λ _. 1) e

-- all of a pool's weight stands on its first feed
abbrev pub first_weight : Net → ℕ → ℕ
first_weight n e = if feeds_before n e == 0 then 1 else 0

-- nothing flows
abbrev pub zero_plan : Net → Written
zero_plan n = record {
  base = 1;
  flow_base = 1;
  weights = tabulate (first_weight n) n.feeds;
  outflows = tabulate (λ _. 0) n.outs;
  direct = tabulate (λ _. 0) n.directs;
}

-- ---- simple plans: one way alone, as far as it carries

-- a way from a source to a product: through a pool, by a feed and an out, or direct
pub data Way : Type 0 where
  through : (feed out : ℕ) → Way
  straight : (direct : ℕ) → Way

abbrev pub IsWay : Net → Way → Type 0
IsWay n (through e o) = (e < n.feeds) × (o < n.outs) × (n.feed_pool e ≡ n.out_pool o)
IsWay n (straight e) = e < n.directs

-- what a way brings of a quality, in parts of the scale: a path what its pool retains
abbrev pub way_quality : Net → Way → ℕ → ℤ
way_quality n (through e o) k = pos (n.retained (n.out_pool o) k) *ℤ n.source_quality (n.feed_source e) k
way_quality n (straight e) k = pos n.scale *ℤ n.source_quality (n.direct_source e) k

-- whether a quality in parts of a scale lies between two limits, where they are set
abbrev pub is_above : ℤ → Option ℤ → ℤ → Bool
is_above scale None q = true
is_above scale (Some least) q = int_le (scale *ℤ least) q

abbrev pub is_below : ℤ → Option ℤ → ℤ → Bool
is_below scale None q = true
is_below scale (Some most) q = int_le q (scale *ℤ most)

-- whether a test passes at each number below a count
abbrev pub all_below : (ℕ → Bool) → ℕ → Bool
all_below test zero = true
all_below test (suc n) = all_below test n && test n

-- whether each of these qualities lies between a product's limits
abbrev pub suits : Net → (ℕ → ℤ) → ℕ → Bool
suits n quality j = all_below (λ k. is_above (pos n.scale) (n.least j k) (quality k) && is_below (pos n.scale) (n.most j k) (quality k)) n.qualities

-- the least of the maxima along a way: those of its nodes and of its arcs
abbrev pub direct_room : Net → ℕ → ℕ
direct_room n e = capped (n.direct_max e) (min (n.source_max (n.direct_source e)) (n.product_max (n.direct_product e)))

abbrev pub path_room : Net → ℕ → ℕ → ℕ
path_room n e o =
    capped (n.out_max o) (capped (n.feed_max e) (min (n.source_max (n.feed_source e)) (min (n.pool_max (n.out_pool o)) (n.product_max (n.out_product o)))))

-- how much a way alone carries: the least of the maxima along it, or nothing where a quality breaks a limit
abbrev pub direct_flow : Net → ℕ → ℕ
direct_flow n e = if suits n (way_quality n (straight e)) (n.direct_product e) then direct_room n e else 0

abbrev pub path_flow : Net → ℕ → ℕ → ℕ
path_flow n e o = if suits n (way_quality n (through e o)) (n.out_product o) then path_room n e o else 0

-- an amount at one number, and 0 at all others
abbrev pub alone : ℕ → ℕ → ℕ → ℕ
alone at amount i = if i == at then amount else 0

-- the zero plan, with what the way carries along it, and all weight of its pool on its feed
abbrev pub simple_plan : Net → Way → Written
simple_plan n (through e o) = record {
  base = 1;
  flow_base = 1;
  weights = tabulate (λ f. if n.feed_pool f == n.feed_pool e then alone e 1 f else first_weight n f) n.feeds;
  outflows = tabulate (alone o (path_flow n e o)) n.outs;
  direct = tabulate (λ _. 0) n.directs;
}
simple_plan n (straight e) = record {
  base = 1;
  flow_base = 1;
  weights = tabulate (first_weight n) n.feeds;
  outflows = tabulate (λ _. 0) n.outs;
  direct = tabulate (alone e (direct_flow n e)) n.directs;
}

-- the source and the product at the ends of a way
abbrev pub way_source : Net → Way → ℕ
way_source n (through e o) = n.feed_source e
way_source n (straight e) = n.direct_source e

abbrev pub way_product : Net → Way → ℕ
way_product n (through e o) = n.out_product o
way_product n (straight e) = n.direct_product e

-- how much a way alone carries
abbrev pub way_flow : Net → Way → ℕ
way_flow n (through e o) = path_flow n e o
way_flow n (straight e) = direct_flow n e

-- what a unit along the arcs of a way costs
abbrev pub way_carriage : Net → Way → ℤ
way_carriage n (through e o) = n.feed_cost e +ℤ n.out_cost o
way_carriage n (straight e) = n.direct_cost e

-- what the simple plan of a way costs, in picos: for each unit that it carries the costs of the source and the arcs less the
-- product's price
abbrev pub way_cost : Net → Way → ℤ
way_cost n way = (n.source_cost (way_source n way) +ℤ way_carriage n way -ℤ n.price (way_product n way)) *ℤ pos (way_flow n way)

-- each product takes what it must, where so much flows to this product and nothing to the others
abbrev pub MeetsMinima : Net → ℕ → ℕ → Type 0
MeetsMinima n product flow = (j : ℕ) → j < n.products → n.product_min j ≤ (if product == j then flow else 0)

-- the plans that the solver tries first
abbrev pub IsStarting : Net → Written → Type 0
IsStarting n w = (w ≡ zero_plan n) ⊎ ((way : Way) × IsWay n way × (w ≡ simple_plan n way))

-- the ways in order: the paths, then the directs
abbrev pub way_at : Net → ℕ → Way
way_at n a = if nat_lt a (length (paths_of n)) then through (path_at n a).feed (path_at n a).out else straight (a - length (paths_of n))

-- the starting plans in order: the zero plan, then the simple plan of each way
abbrev pub start_at : Net → ℕ → Written
start_at n zero = zero_plan n
start_at n (suc a) = simple_plan n (way_at n a)

abbrev pub starts : Net → ℕ
starts n = 1 + length (paths_of n) + n.directs

-- the starting plan of a number obeys, and what it costs
abbrev pub StartObeys : Net → ℕ → Type 0
StartObeys n k = Obeys n (plan_of n (start_at n k))

abbrev pub start_cost : Net → ℕ → ℤ
start_cost n k = cost_of n (plan_of n (start_at n k))

-- A starting plan that obeys. No starting plan that obeys costs less, and those before it in order cost more.
pub record IsCheapestStart (n : Net) (w : Written) : Type 0 where
  pub number : ℕ
  pub there : number < starts n
  pub is : w ≡ start_at n number
  pub obeys : Obeys n (plan_of n w)
  pub no_dearer : (v : Written) → IsStarting n v → Obeys n (plan_of n v) → cost_of n (plan_of n w) ≤ℤ cost_of n (plan_of n v)
  pub first : (k : ℕ) → k < number → StartObeys n k → cost_of n (plan_of n w) <ℤ start_cost n k

-- ---- the reach bound

-- the lesser of two costs that may be absent
abbrev pub lesser : Option ℤ → Option ℤ → Option ℤ
lesser None b = b
lesser (Some a) None = Some a
lesser (Some a) (Some b) = Some (int_min a b)

-- the least of those that are there, below a count
abbrev pub least_below : (ℕ → Option ℤ) → ℕ → Option ℤ
least_below f zero = None
least_below f (suc n) = lesser (least_below f n) (f n)

-- the least that a unit costs that feeds bring to a pool
abbrev pub pool_cost : Net → ℕ → Option ℤ
pool_cost n l = least_below (λ e. if n.feed_pool e == l then Some (feed_delivered n e) else None) n.feeds

-- the least that a unit costs that reaches a product along an out
abbrev pub out_delivered : Net → ℕ → Option ℤ
out_delivered n o = option_map (λ c. c +ℤ n.out_cost o) (pool_cost n (n.out_pool o))

-- the least that a unit costs that reaches a product, by a direct or through a pool
abbrev pub reach_cost : Net → ℕ → Option ℤ
reach_cost n j =
    lesser
    (least_below (λ e. if n.direct_product e == j then Some (direct_delivered n e) else None) n.directs)
    (least_below (λ o. if n.out_product o == j then out_delivered n o else None) n.outs)

-- what a unit at this price earns at the most, where it costs at least that
abbrev pub margin : Option ℤ → ℤ → ℤ
margin None price = pos 0
margin (Some cost) price = int_max (pos 0) (price -ℤ cost)

-- No plan costs less: each product full, at its best margin. In picos.
abbrev pub reach_bound : Net → ℤ
reach_bound n = neg_ℤ (int_sum_below (λ j. pos (n.product_max j) *ℤ margin (reach_cost n j) (n.price j)) n.products)
