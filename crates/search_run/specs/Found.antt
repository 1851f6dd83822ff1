-- What a run leaves, said of the tree that it began with and of the one that it found.
use Rattle.std.specs.Prelude.{◌≡◌, ◌≢◌, ◌⊎◌, ◌<◌, ◌≤◌, ℕ, max, length, Option, Some, None, ◌≤ℤ◌}
use Rattle.std.specs.Option.{ForSome}
use Rattle.pool_model.specs.Network.{Net}
use Rattle.pool_model.specs.Plan.{Written, plan_of, Obeys}
use Rattle.pool_model.specs.Starting.{IsStarting, reach_bound}
use Rattle.row_model.specs.Multipliers.{Proof}
use Rattle.row_model.specs.Trees.{Tree, split_at, nodes, box_of, node_bound, tree_bound}
use Rattle.row_model.specs.Entries.{Searched, IsCheaper, IsSearched}
use Rattle.dual_rounding.specs.Price.{IsPriced}
use Rattle.raised_splits.specs.Raising.{IsBestAt}
use Rattle.search_core.specs.Cases.{IsRootOpen}
use Rattle.search_run.specs.Steps.{IsOfForm}
use Rattle.search_run.specs.declared.orders.Orders.{Orders}
use Rattle.search_core.specs.declared.ended.Ended.{Ended}
use Rattle.search_core.specs.declared.ended.Ended.TheVariants.{Closed}

-- no starting plan obeys
abbrev pub HasNoStart : Net → Type 0
HasNoStart n = (w : Written) → IsStarting n w → ¬ Obeys n (plan_of n w)

-- no starting plan that obeys is cheaper than the best plan, and where there is no best plan none obeys
abbrev pub CoversStarts : Net → Option Written → Type 0
CoversStarts n None = HasNoStart n
CoversStarts n (Some plan) = (w : Written) → IsStarting n w → Obeys n (plan_of n w) → ¬ IsCheaper n w plan

-- a node holds no plan, or its bound is at least what the price proof shows of its box
abbrev pub IsPricedAt : Net → Tree → ℕ → Type 0
IsPricedAt n tree node = IsPriced n (box_of n tree.splits node) (node_bound n tree node)

-- The splits and proofs that were there stand. What was added: no splits beyond those that were asked for; proofs by rows of the form
-- alone; and each node that was added holds no plan, or its bound is at least what the price proof shows of its box. Where halves are raised,
-- its bound is the best that the rows of the form allow there, or the run of its box gives a reason.
pub record IsGrown (n : Net) (o : Orders) (begun found : Tree) : Type 0 where
  pub more : length begun.splits ≤ length found.splits
  pub begins : (t : ℕ) → t < length begun.splits → split_at found.splits t ≡ split_at begun.splits t
  pub kept : (node : ℕ) (p : Proof) → begun.proof node ≡ Some p → found.proof node ≡ Some p
  -- Promise: The tree has no more cuts than `--nodes` asks for, or than the run began with
  pub few : length found.splits ≤ max o.nodes (length begun.splits)
  -- Promise: Each proof that the run added names rows of the form alone
  pub named : (node : ℕ) (p : Proof) → found.proof node ≡ Some p → (begun.proof node ≡ Some p) ⊎ IsOfForm n o.form p
  -- Promise: Each node that was added holds no plan, or its bound is at least what the price proof shows of its box; so does the root under
  --   10 to 13, unless the run began with a tree that has a proof or a cut there
  pub priced : (node : ℕ) → nodes begun.splits ≤ node → node < nodes found.splits → IsPricedAt n found node
  -- Promise: With `--raise N`, N above 0, each node that was added holds no plan, or a light point meets its box and the form's rows at a cost of
  --   less than one pico above its bound, or the exact run of its box with N pivots gives a reason
  pub best : 0 < o.raise → (node : ℕ) → nodes begun.splits ≤ node → node < nodes found.splits → IsBestAt n o.form o.raise found node

-- The tree is in order and the plan obeys; no starting plan is better; the bound is at least the reach bound. Where the gap is not
-- closed, and the root had neither a proof nor a cut, it holds no plan, or its bound is at least what the price proof shows.
pub record IsFound (n : Net) (o : Orders) (begun found : Searched) (ended : Ended) : Type 0 where
  pub searched : IsSearched n found
  -- Promise: No starting plan that obeys is cheaper than the printed plan; where none is printed none of them obeys
  pub starts : CoversStarts n found.best
  -- Promise: The printed bound is at least the reach bound
  pub reached : ForSome (tree_bound n found.tree) (λ z. reach_bound n ≤ℤ z)
  pub grown : IsGrown n o begun.tree found.tree
  -- Promise: Each node that was added holds no plan, or its bound is at least what the price proof shows of its box; so does the root under
  --   10 to 13, unless the run began with a tree that has a proof or a cut there
  pub rooted : IsRootOpen begun → ended ≢ Closed → IsPricedAt n found.tree 0
