-- The report of a certificate, and which certificates are reported.
use Rattle.std.specs.Prelude.{◌≡◌, ℕ, ◌*◌, List, ◌++◌, codes, ℤ}
use Rattle.pool_model.specs.Network.{Network, Net, net_of}
use Rattle.pool_model.specs.Plan.{Plan, Written, IsWritten, Obeys, plan_of, cost_of}
use Rattle.pool_model.specs.Claim.{Claimed, with_gap, with_bound, no_plan}
use Rattle.text_pieces.specs.Pieces.{each_below}
use Rattle.pool_report.specs.Lines.{gap_lines, bound_lines, feed_line, out_line, direct_line, mean_lines, source_slack_line, pool_slack_line, product_slack_line}

-- ---- the text

-- a line for each feed, then for each out, then for each direct
abbrev pub flow_lines : Network → Plan → List ℕ
flow_lines n p = each_below (feed_line n p) (net_of n).feeds ++ (each_below (out_line n p) (net_of n).outs ++ each_below (direct_line n p) (net_of n).directs)

-- a line for each product with inflow and each quality
abbrev pub quality_lines : Network → Plan → List ℕ
quality_lines n p = each_below (mean_lines n p) (net_of n).products

-- a line for each source, then for each pool, then for each product
abbrev pub slack_lines : Network → Plan → List ℕ
slack_lines n p =
    each_below (source_slack_line n p) (net_of n).sources ++ (each_below (pool_slack_line n p) (net_of n).pools ++ each_below (product_slack_line n p) (net_of n).products)

abbrev pub plan_lines : Network → Plan → List ℕ
plan_lines n p = flow_lines n p ++ (quality_lines n p ++ slack_lines n p)

-- the report of what is claimed
abbrev pub report_text : Network → Claimed → List ℕ
report_text n (with_gap w cost base bound gap) = gap_lines cost base bound gap ++ plan_lines n (plan_of (net_of n) w)
report_text n (with_bound bound) = bound_lines bound
report_text n no_plan = codes "kind none\n"

-- ---- what it asks for

-- the written plan obeys, and this is its cost
pub record IsCosted (n : Net) (w : Written) (cost : ℤ) (base : ℕ) : Type 0 where
  pub written : IsWritten n w
  pub obeys : Obeys n (plan_of n w)
  pub cost_is : cost ≡ cost_of n (plan_of n w)
  pub base_is : base ≡ w.flow_base * w.base

-- the plan that is claimed, if there is one, obeys and costs what is claimed
abbrev pub IsReported : Net → Claimed → Type 0
IsReported n (with_gap w cost base bound gap) = IsCosted n w cost base
IsReported n (with_bound bound) = Unit {0}
IsReported n no_plan = Unit {0}
