-- What a desk stands for, and what it began with.
use Rattle.std.specs.Prelude.{◌≡◌, ℕ, ◌<◌, ◌↔◌, ◌⊎◌, List, length, map, get_or, Bool, true, false}
use Rattle.std.specs.List.{Contains, AllPairs}
use Rattle.std.specs.Prelude.{◌≢◌}
use Rattle.pool_model.specs.Network.{Net}
use Rattle.row_model.specs.Trees.{Split, is_cut}
use Rattle.row_model.specs.Entries.{Entry, Searched, made_from, AreInOrderFrom, IsSearched}
use Rattle.box_tree.specs.Kept.{Held, searched_of}
use Rattle.work_units.specs.Units.{Answer, AreJobs, node_of, Splits}
use Rattle.work_units.specs.declared.job.Job.{Job}

-- what a desk keeps: a tree, the jobs by number, and the answers that were taken, in the order in which they came
pub record Kept : Type 0 where
  pub tree : Held
  pub jobs : List Job
  pub taken : List Answer

-- the same, with what its tree stands for
pub record Desk : Type 0 where
  pub searched : Searched
  pub jobs : List Job
  pub taken : List Answer

abbrev pub desk_of : Kept → Desk
desk_of k = record { searched = searched_of k.tree.kept; jobs = k.jobs; taken = k.taken }

-- whether the node of a job is cut
abbrev pub is_answered : Desk → ℕ → Bool
is_answered d number = is_cut d.searched.tree.splits (node_of d.jobs number)

-- what answers bring
abbrev pub entries_of : List Answer → List Entry
entries_of answers = map (λ a. a.entry) answers

-- The desk began with this tree. The answers that were taken have different numbers, each brought a split of its job's node, and the tree
-- is the one that these make of the first, each in order. A job is answered where its node was cut at the start or its answer was taken.
pub record IsFrom (n : Net) (s : Searched) (d : Desk) : Type 0 where
  pub began : IsSearched n s
  pub jobs : AreJobs s.tree.splits d.jobs
  pub apart : AllPairs (λ a b. a.number ≢ b.number) d.taken
  pub known : (a : Answer) → Contains d.taken a → a.number < length d.jobs
  pub splits : (a : Answer) → Contains d.taken a → Splits (node_of d.jobs a.number) a.entry
  pub in_order : AreInOrderFrom n s (entries_of d.taken)
  pub made : d.searched ≡ made_from s (entries_of d.taken)
  pub answered : (k : ℕ) → k < length d.jobs
      → (is_answered d k ≡ true) ↔ ((is_cut s.tree.splits (node_of d.jobs k) ≡ true) ⊎ ((a : Answer) × Contains d.taken a × (a.number ≡ k)))

-- there are jobs on nodes of the tree of these splits, and for each a flag that says whether its node is cut
pub record AreFlagged (splits : List Split) (jobs : List Job) (answered : List Bool) : Type 0 where
  pub are : AreJobs splits jobs
  pub many : length answered ≡ length jobs
  pub flags : (k : ℕ) → k < length jobs → get_or answered k false ≡ is_cut splits (node_of jobs k)
