-- When the jobs of a text fit a network.
use Rattle.std.specs.Prelude.{◌≡◌, ℕ, ◌<◌, ◌≤◌, List, length, get_or, None}
use Rattle.pool_model.specs.Network.{Net, counts_of}
use Rattle.row_model.specs.Trees.{Split, most_splits, IsLeaf, IsSplitInOrder}
use Rattle.row_model.specs.Entries.{Entry, split_of}
use Rattle.work_units.specs.Units.{no_job, node_of, AreJobs}
use Rattle.work_units.specs.declared.job.Job.{Job}
use Rattle.job_texts.specs.Texts.{Jobs}

-- a split without proofs
abbrev pub bare : Split → Entry
bare s = split_of s None None

-- The jobs are numbered from 0 in order, and are on different leaves of the tree of these splits.
pub record AreOnLeaves (splits : List Split) (jobs : List Job) : Type 0 where
  pub are : AreJobs splits jobs
  pub leaves : (k : ℕ) → k < length jobs → IsLeaf splits (node_of jobs k)

-- The shape is the network's counts; each split is in order after those before it, and there are no more than there may be; the jobs are
-- numbered from 0 in order, each is on a leaf of the tree of the splits, and no two are on the same one.
pub record Fits (n : Net) (j : Jobs) : Type 0 where
  pub shape : j.shape ≡ counts_of n
  pub in_order : (t : ℕ) → t < length j.splits → IsSplitInOrder n j.splits t
  pub few : length j.splits ≤ most_splits
  pub numbered : (k : ℕ) → k < length j.jobs → (get_or j.jobs k no_job).number ≡ k
  pub leaves : (k : ℕ) → k < length j.jobs → IsLeaf j.splits (node_of j.jobs k)
  pub apart : (i k : ℕ) → i < length j.jobs → k < length j.jobs → node_of j.jobs i ≡ node_of j.jobs k → i ≡ k
