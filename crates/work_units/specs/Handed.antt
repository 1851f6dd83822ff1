-- Leaves that are handed out as jobs.
use Rattle.std.specs.Prelude.{◌≡◌, ℕ, ◌<◌, List, length, get_or}
use Rattle.pool_model.specs.Network.{Net}
use Rattle.row_model.specs.Trees.{Tree}
use Rattle.box_tree.specs.Open.{AreFirstOpen}
use Rattle.work_units.specs.Units.{no_job}
use Rattle.work_units.specs.declared.job.Job.{Job}

-- one job for each of these nodes, numbered in their order
pub record AreJobsOn (nodes : List ℕ) (jobs : List Job) : Type 0 where
  pub many : length jobs ≡ length nodes
  pub each : (k : ℕ) → k < length nodes → get_or jobs k no_job ≡ record { number = k; node = get_or nodes k 0 }

-- one job for each of the first so many leaves that may hold a plan
pub record AreFirstJobs (n : Net) (tree : Tree) (most : ℕ) (jobs : List Job) : Type 0 where
  pub leaves : List ℕ
  pub first : AreFirstOpen n tree most leaves
  pub each : AreJobsOn leaves jobs
