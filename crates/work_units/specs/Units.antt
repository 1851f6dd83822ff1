-- Jobs on nodes of a tree, and answers to them.
use Rattle.std.specs.Prelude.{◌≡◌, ℕ, ◌<◌, List, length, get_or}
use Rattle.row_model.specs.Trees.{Split, nodes}
use Rattle.row_model.specs.Entries.{Entry, root_proof, split_of, improve}
use Rattle.work_units.specs.declared.job.Job.{Job}

-- an answer: the number of a job, and what it brings
pub record Answer : Type 0 where
  pub number : ℕ
  pub entry : Entry

-- what stands behind the end of a list of jobs
abbrev pub no_job : Job
no_job = record { number = 0; node = 0 }

-- the node of the job at a place
abbrev pub node_of : List Job → ℕ → ℕ
node_of jobs k = (get_or jobs k no_job).node

-- The jobs are numbered from 0 in order, and are on different nodes of the tree of these splits.
pub record AreJobs (splits : List Split) (jobs : List Job) : Type 0 where
  pub numbered : (k : ℕ) → k < length jobs → (get_or jobs k no_job).number ≡ k
  pub there : (k : ℕ) → k < length jobs → node_of jobs k < nodes splits
  pub apart : (j k : ℕ) → j < length jobs → k < length jobs → node_of jobs j ≡ node_of jobs k → j ≡ k

-- the entry is a split of this node
abbrev pub Splits : ℕ → Entry → Type 0
Splits node (split_of split left right) = split.leaf ≡ node
Splits node (root_proof proof) = ⊥
Splits node (improve plan) = ⊥

-- the entry is a split
abbrev pub IsSplit : Entry → Type 0
IsSplit e = (node : ℕ) × Splits node e
