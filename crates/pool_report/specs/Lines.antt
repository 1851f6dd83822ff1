-- The lines of a report, each with one line feed.
use Rattle.std.specs.Prelude.{ℕ, ◌*◌, ◌^◌, List, [], ◌∷◌, codes, ℤ, ◌==◌, if◌then◌else◌}
use Rattle.pool_model.specs.Network.{Network, net_of}
use Rattle.pool_model.specs.Plan.{Plan, outflow, source_outflow, product_inflow}
use Rattle.text_pieces.specs.Rounding.{rounded_down, rounded_up}
use Rattle.text_pieces.specs.Decimals.{decimal_text, column_text}
use Rattle.text_pieces.specs.Pieces.{joined, each_below}
use Rattle.pool_report.specs.Names.{source_name, pool_name, product_name, quality_name}
use Rattle.pool_report.specs.Amounts.{units, slack, mean_of}

-- ---- what is claimed, in money: picos over a base are millionths of money over a million times that base

abbrev pub cost_text : ℤ → ℕ → List ℕ
cost_text cost base = decimal_text (rounded_up cost (base * 10 ^ 6))

abbrev pub bound_text : ℤ → List ℕ
bound_text bound = decimal_text (rounded_down bound (10 ^ 6))

-- the kind, the cost and the gap rounded up, and between them the bound rounded down
abbrev pub gap_lines : ℤ → ℕ → ℤ → ℤ → List ℕ
gap_lines cost base bound gap =
    joined (codes "kind gap\ncost " ∷ cost_text cost base ∷ codes "\nbound " ∷ bound_text bound ∷ codes "\ngap " ∷ cost_text gap base ∷ codes "\n" ∷ [])

abbrev pub bound_lines : ℤ → List ℕ
bound_lines bound = joined (codes "kind bound\nbound " ∷ bound_text bound ∷ codes "\n" ∷ [])

-- ---- flows

-- how much flows from a node to a node
abbrev pub flow_line : ℤ → List ℕ → List ℕ → List ℕ
flow_line flow from to = joined (codes "flow " ∷ column_text flow ∷ codes " " ∷ from ∷ codes " -> " ∷ to ∷ codes "\n" ∷ [])

abbrev pub feed_line : Network → Plan → ℕ → List ℕ
feed_line n p e = flow_line (units p (p.feed e)) (source_name n ((net_of n).feed_source e)) (pool_name n ((net_of n).feed_pool e))

abbrev pub out_line : Network → Plan → ℕ → List ℕ
out_line n p o = flow_line (units p (p.out o)) (pool_name n ((net_of n).out_pool o)) (product_name n ((net_of n).out_product o))

abbrev pub direct_line : Network → Plan → ℕ → List ℕ
direct_line n p e = flow_line (units p (p.direct e)) (source_name n ((net_of n).direct_source e)) (product_name n ((net_of n).direct_product e))

-- ---- means

-- a product's mean of a quality
abbrev pub mean_line : Network → Plan → ℕ → ℕ → List ℕ
mean_line n p j k = joined (codes "quality " ∷ column_text (mean_of (net_of n) p j k) ∷ codes " " ∷ product_name n j ∷ codes ": " ∷ quality_name n k ∷ codes "\n" ∷ [])

-- a product's means of all qualities, where something flows into it
abbrev pub mean_lines : Network → Plan → ℕ → List ℕ
mean_lines n p j = if product_inflow (net_of n) p j == 0 then [] else each_below (mean_line n p j) (net_of n).qualities

-- ---- slacks

-- how much more could flow through a node
abbrev pub slack_line : ℤ → List ℕ → List ℕ
slack_line more name = joined (codes "slack " ∷ column_text more ∷ codes " " ∷ name ∷ codes "\n" ∷ [])

abbrev pub source_slack_line : Network → Plan → ℕ → List ℕ
source_slack_line n p i = slack_line (slack p ((net_of n).source_max i) (source_outflow (net_of n) p i)) (source_name n i)

abbrev pub pool_slack_line : Network → Plan → ℕ → List ℕ
pool_slack_line n p l = slack_line (slack p ((net_of n).pool_max l) (outflow (net_of n) p l)) (pool_name n l)

abbrev pub product_slack_line : Network → Plan → ℕ → List ℕ
product_slack_line n p j = slack_line (slack p ((net_of n).product_max j) (product_inflow (net_of n) p j)) (product_name n j)
