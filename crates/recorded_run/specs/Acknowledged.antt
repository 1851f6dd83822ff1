-- That no acknowledged entry is lost, at any moment of a run.
use Rattle.std.specs.Prelude.{◌≡◌, ◌+◌, ◌≤◌, ◌⊎◌, ℕ, List, length}
use Rattle.disk_calls.specs.Disks.{DiskTold}
use Rattle.pool_model.specs.Network.{Net}
use Rattle.row_model.specs.Entries.{Entry}
use Rattle.recorded_run.specs.Recorded.{BeginsWith, IsNetworksOwn}

-- The file is the network's own, for the first entries of a list: so many at least, and so many at most.
pub record HoldsFront (n : Net) (text : List ℕ) (all : List Entry) (least most : ℕ) (file : List ℕ) : Type 0 where
  pub list : List Entry
  pub own : IsNetworksOwn n text list file
  pub front : BeginsWith all list
  pub no_fewer : least ≤ length list
  pub no_more : length list ≤ most

-- In a run from the first list to the last ever more entries of the last list are acknowledged: from those of the first on, and at no
-- later moment fewer than at an earlier one. What was acknowledged at a moment, each crash since then leaves; and until then at most one
-- entry more was there.
pub record KeepsAcknowledged (n : Net) (text : List ℕ) (first last : List Entry) (old new : DiskTold) : Type 0 where
  -- how many entries of the last list are acknowledged at a moment
  pub acknowledged : ℕ → ℕ
  pub begins : (t : ℕ) → length first ≤ acknowledged t
  pub ends : (t : ℕ) → acknowledged t ≤ length last
  pub grows : (t u : ℕ) → t ≤ u → acknowledged t ≤ acknowledged u
  -- Promise: No acknowledged entry is lost: at each moment of a run the entries that are acknowledged by then are in each file that a crash
  --   since that moment leaves; only before the first is acknowledged may it leave a file from before the run
  pub since : (t : ℕ) (c : List ℕ) → old.moment ≤ t → t ≤ new.moment → new.left_since t c →
      (old.may_leave c × (acknowledged t ≡ length first)) ⊎ HoldsFront n text last (acknowledged t) (length last) c
  -- Promise: At each moment of a run every crash up to then left a file from before the run, or the entries that are acknowledged by then,
  --   or a front of them, or one entry more
  pub until : (t : ℕ) (c : List ℕ) → new.left_until t c → old.left_until old.moment c ⊎ HoldsFront n text last (length first) (acknowledged t + 1) c
