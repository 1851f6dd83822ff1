-- A run: steps one after another, and an end.
use Rattle.std.specs.Prelude.{◌≡◌, ◌⊎◌, ◌<◌, length, List, [], ◌∷◌, None}
use Rattle.pool_model.specs.Network.{Net}
use Rattle.row_model.specs.Trees.{tree_bound}
use Rattle.row_model.specs.Entries.{Entry, Searched, after, made_from}
use Rattle.search_core.specs.Cases.{HasNoBetterStart, HasPlan, IsClosed, IsSpent, IsStuck}
use Rattle.search_core.specs.Next.{IsRooted}
use Rattle.search_run.specs.Orders.{options_of}
use Rattle.search_run.specs.Steps.{IsStep}
use Rattle.search_run.specs.declared.orders.Orders.{Orders}
use Rattle.search_core.specs.declared.ended.Ended.{Ended}
use Rattle.search_core.specs.declared.ended.Ended.TheVariants.{Closed, Stopped, Stuck, Infeasible, Undecided}

-- each entry is a step after those before it
abbrev pub AreSteps : Net → Orders → Searched → List Entry → Type 0
AreSteps n o s [] = Unit {0}
AreSteps n o s (e ∷ es) = IsStep n o s e × AreSteps n o (after s e) es

-- a step leads from one tree to the other
pub record IsNextStep (n : Net) (o : Orders) (s t : Searched) : Type 0 where
  pub entry : Entry
  pub step : IsStep n o s entry
  pub made : t ≡ after s entry

-- what ended the run holds of the tree and the plan
abbrev pub IsEnd : Net → Orders → Searched → Ended → Type 0
IsEnd n o s Infeasible = HasNoBetterStart n s × (tree_bound n s.tree ≡ None)
IsEnd n o s Closed = HasNoBetterStart n s × IsClosed n o.gap s
IsEnd n o s Stopped = IsRooted n (options_of o) s × IsSpent (options_of o) s × HasPlan s
IsEnd n o s Stuck = IsRooted n (options_of o) s × (length s.tree.splits < o.nodes) × IsStuck n o.form s × HasPlan s
IsEnd n o s Undecided = IsRooted n (options_of o) s × (IsSpent (options_of o) s ⊎ IsStuck n o.form s) × (s.best ≡ None)

-- the steps that lead from one tree to another, and the end there
pub record IsRun (n : Net) (o : Orders) (begun found : Searched) (ended : Ended) : Type 0 where
  pub entries : List Entry
  pub steps : AreSteps n o begun entries
  pub made : found ≡ made_from begun entries
  pub end : IsEnd n o found ended
