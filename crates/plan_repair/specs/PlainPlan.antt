-- The plain plan of a point: its flows rounded down, and proportions as its flows into the pools have them.
use Rattle.std.specs.Prelude.{ℕ, ◌+◌, ◌-◌, ◌*◌, ◌/◌, min, nat_lt, List, get_or, Bool, ◌==◌, ◌&&◌, ◌||◌, not, if◌then◌else◌, ℤ, pos, negsuc}
use Rattle.integers.specs.Sums.{sum_at}
use Rattle.integers.specs.Numbers.{tabulate}
use Rattle.pool_model.specs.Network.{Net, capped}
use Rattle.pool_model.specs.Plan.{Written}
use Rattle.pool_model.specs.Starting.{all_below, direct_room}
use Rattle.row_model.specs.Boxes.{grain}

-- A point has a number for each variable, the feeds first, then the outs and then the directs. It counts parts of a
-- millionth of flow, so many to the millionth.
abbrev pub parts : ℕ
parts = 4294967296

-- a number, or 0 where it is below
abbrev pub above_zero : ℤ → ℕ
above_zero (pos n) = n
above_zero (negsuc _) = 0

-- a number of the point, brought between 0 and the most that may flow, in millionths
abbrev pub within : ℕ → ℤ → ℕ
within most number = min (above_zero number) (parts * most)

-- ---- the most that each arc may carry in the box of all plans, and what flows along it, brought within that

abbrev pub feed_room : Net → ℕ → ℕ
feed_room n e = capped (n.feed_max e) (min (n.source_max (n.feed_source e)) (n.pool_max (n.feed_pool e)))

abbrev pub out_room : Net → ℕ → ℕ
out_room n o = capped (n.out_max o) (min (n.pool_max (n.out_pool o)) (n.product_max (n.out_product o)))

abbrev pub feed_flow : Net → List ℤ → ℕ → ℕ
feed_flow n point e = within (feed_room n e) (get_or point e (pos 0))

abbrev pub out_flow : Net → List ℤ → ℕ → ℕ
out_flow n point o = within (out_room n o) (get_or point (n.feeds + o) (pos 0))

abbrev pub direct_flow : Net → List ℤ → ℕ → ℕ
direct_flow n point e = within (direct_room n e) (get_or point (n.feeds + n.outs + e) (pos 0))

-- ---- weights, from the flows of the feeds

-- a feed's part of what flows into its pool, over the grain and rounded down; none where nothing flows into the pool
abbrev pub rounded_weight : Net → (ℕ → ℕ) → ℕ → ℕ
rounded_weight n flow e = grain * flow e / sum_at n.feed_pool (n.feed_pool e) flow n.feeds

-- what rounding leaves of a pool's grain
abbrev pub rest : Net → (ℕ → ℕ) → ℕ → ℕ
rest n flow l = grain - sum_at n.feed_pool l (rounded_weight n flow) n.feeds

-- whether a feed goes before another one: more flows along it, or as much and it stands before it
abbrev pub goes_before : (ℕ → ℕ) → ℕ → ℕ → Bool
goes_before flow d e = nat_lt (flow e) (flow d) || (flow d == flow e && nat_lt d e)

-- whether a feed is the first of the greatest flow in its pool
abbrev pub leads : Net → (ℕ → ℕ) → ℕ → Bool
leads n flow e = all_below (λ d. not (n.feed_pool d == n.feed_pool e && goes_before flow d e)) n.feeds

-- the rest stands on the pool's first feed of the greatest flow
abbrev pub weight_of : Net → (ℕ → ℕ) → ℕ → ℕ
weight_of n flow e = rounded_weight n flow e + (if leads n flow e then rest n flow (n.feed_pool e) else 0)

-- ---- the plan

abbrev pub plain_plan : Net → List ℤ → Written
plain_plan n point = record {
  base = grain;
  flow_base = 1;
  weights = tabulate (weight_of n (feed_flow n point)) n.feeds;
  outflows = tabulate (λ o. out_flow n point o / parts) n.outs;
  direct = tabulate (λ e. direct_flow n point e / parts) n.directs;
}
