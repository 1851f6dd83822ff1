-- What a search holds, and when it is a network's.
use Rattle.std.specs.Prelude.{◌≤◌, ◌^◌, Bool, Option, Some, None, pos, ◌≤ℤ◌}
use Rattle.pool_model.specs.Network.{IsLimited, Net}
use Rattle.pool_model.specs.Plan.{Written, plan_of, Obeys}
use Rattle.pool_model.specs.Starting.{IsStarting, IsCheapestStart}
use Rattle.plan_core.specs.Faults.{IsCostOf}
use Rattle.plan_core.specs.Views.{shown_plan}
use Rattle.plan_core.specs.declared.cheapest.Start.{Start}
use Rattle.plan_core.specs.declared.plan.Cost.{Cost}
use Rattle.row_model.specs.Entries.{Searched}
use Rattle.row_model.specs.Trees.{most_splits}
use Rattle.box_tree.specs.Kept.{Held, searched_of, IsOf}
use Rattle.search_core.specs.declared.options.Options.{Options}

-- a starting plan, and what it costs
pub record Costed : Type 0 where
  pub plan : Written
  pub cost : Cost

abbrev pub shown_start : Start → Costed
shown_start s = record { plan = shown_plan s.plan; cost = s.cost }

-- what is asked for, the tree, the cheapest starting plan that obeys, where one does, and whether a plan was repaired since the
-- last proof or split
pub record Searching : Type 0 where
  pub options : Options
  pub tree : Held
  pub start : Option Costed
  pub repaired : Bool

-- the tree and the plan that it stands for
abbrev pub searched : Searching → Searched
searched s = searched_of s.tree.kept

-- no more splits are asked for than there may be, and the gap is from 0 to 10^24 picos
pub record IsAsked (o : Options) : Type 0 where
  pub few : o.nodes ≤ most_splits
  pub least : pos 0 ≤ℤ o.gap
  pub most : o.gap ≤ℤ pos (10 ^ 24)

-- this is the cheapest starting plan that obeys, with its cost; none where none obeys
abbrev pub IsStartOf : Net → Option Costed → Type 0
IsStartOf n None = (w : Written) → IsStarting n w → ¬ Obeys n (plan_of n w)
IsStartOf n (Some s) = IsCheapestStart n s.plan × IsCostOf n s.plan s.cost

-- the search is the network's, which keeps within its limits
pub record IsSearchOf (n : Net) (s : Searching) : Type 0 where
  pub limited : IsLimited n
  pub tree : IsOf n s.tree
  pub start : IsStartOf n s.start
