-- How many steps a search has left, at the most.
use Rattle.std.specs.Prelude.{ℕ, ◌+◌, ◌-◌, ◌*◌, length, Bool, if◌then◌else◌, Option, Some, None}
use Rattle.plan_core.specs.declared.plan.Cost.{Cost}
use Rattle.row_model.specs.Multipliers.{Proof}
use Rattle.row_model.specs.Trees.{is_cut}
use Rattle.plan_repair.specs.Choices.{is_less}
use Rattle.search_core.specs.Searches.{Costed, Searching, searched}

abbrev pub counted : Bool → ℕ
counted b = if b then 1 else 0

-- the starting plan, where it is cheaper than the best one
abbrev pub start_left : Option Costed → Option Cost → ℕ
start_left None best = 0
start_left (Some start) None = 1
start_left (Some start) (Some best) = counted (is_less start.cost best)

-- a proof of the root, where it has none and is not cut
abbrev pub unproved : Option Proof → ℕ
unproved None = 1
unproved (Some proof) = 0

abbrev pub root_left : Bool → Option Proof → ℕ
root_left cut proof = if cut then 0 else unproved proof

-- A repaired plan, unless there was one since the last proof or split.
abbrev pub repair_left : Bool → ℕ
repair_left repaired = if repaired then 0 else 1

-- A split and a proof of the root each count for two, since a repaired plan may follow.
abbrev pub left : Searching → ℕ
left s =
    2 * (s.options.nodes - length s.tree.kept.splits.list)
    + (2 * root_left (is_cut s.tree.kept.splits.list 0) ((searched s).tree.proof 0)
    + (repair_left s.repaired + start_left s.start s.tree.kept.cost))
