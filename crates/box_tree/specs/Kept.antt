-- What a tree holds, and when it is a network's.
use Rattle.std.specs.Prelude.{◌≡◌, ℕ, ◌+◌, ◌*◌, ◌<◌, ◌≤◌, List, length, get_or, Option, None, Some, ℤ}
use Rattle.pool_model.specs.Network.{Net}
use Rattle.pool_model.specs.Plan.{Written}
use Rattle.plan_core.specs.Faults.{IsCostOf}
use Rattle.plan_core.specs.declared.plan.Cost.{Cost}
use Rattle.row_model.specs.Multipliers.{Proof}
use Rattle.row_model.specs.Trees.{nodes, most_splits, node_bound}
use Rattle.row_model.specs.Entries.{Searched, IsSearched}
use Rattle.row_book.specs.Fitting.{Fits}
use Rattle.row_book.specs.declared.scratch.Scratch.{Scratch}
use Rattle.split_tree.specs.Splits.{Splits, IsOf as AreCut}
use Rattle.box_tree.specs.Counts.{AreCounts}
use Rattle.box_tree.specs.Open.{bound_at}

-- The splits, and for each coordinate how many are on it; for each node its proof, and its bound, None where it holds no plan; the best
-- plan, and what it costs.
pub record Kept : Type 0 where
  pub splits : Splits
  pub cuts : List ℕ
  pub proofs : List (Option Proof)
  pub bounds : List (Option ℤ)
  pub best : Option Written
  pub cost : Option Cost

-- the tree and the plan that it stands for
abbrev pub searched_of : Kept → Searched
searched_of k = record { tree = record { splits = k.splits.list; proof = λ node. get_or k.proofs node None }; best = k.best }

-- what it keeps, and the memory that proofs are valued in
pub record Held : Type 0 where
  pub kept : Kept
  pub scratch : Scratch

-- a node's bound as it is kept, and nothing for a node that is cut
abbrev pub kept_leaf_bound : Kept → ℕ → Option ℤ
kept_leaf_bound k node = bound_at k.splits.list k.bounds node

-- there is a cost exactly where there is a plan, and it is the plan's
abbrev pub IsKeptCost : Net → Option Written → Option Cost → Type 0
IsKeptCost n None None = Unit {0}
IsKeptCost n None (Some cost) = ⊥
IsKeptCost n (Some plan) None = ⊥
IsKeptCost n (Some plan) (Some cost) = IsCostOf n plan cost

-- What is kept is a network's: splits, proofs and plan are in order there, and counts, bounds and cost are
-- the ones that they stand for.
pub record IsKeptOf (n : Net) (k : Kept) : Type 0 where
  pub searched : IsSearched n (searched_of k)
  pub splits : AreCut n k.splits
  pub counted : AreCounts n k.splits.list k.cuts
  pub proved : length k.proofs ≡ nodes k.splits.list
  pub bounded : length k.bounds ≡ nodes k.splits.list
  pub bounds : (node : ℕ) → node < nodes k.splits.list → get_or k.bounds node None ≡ node_bound n (searched_of k).tree node
  pub cost : IsKeptCost n k.best k.cost

-- the tree is the network's
pub record IsOf (n : Net) (t : Held) : Type 0 where
  pub kept : IsKeptOf n t.kept
  pub scratch : Fits n t.scratch

-- there are as many proofs and bounds as nodes, and no more splits than there may be
pub record AreSized (splits proofs bounds : ℕ) : Type 0 where
  pub few : splits ≤ most_splits
  pub proved : proofs ≡ 2 * splits + 1
  pub bounded : bounds ≡ 2 * splits + 1
