use Rattle.std.proofs.Common.{ℕ, List}
use Rattle.disk_calls.specs.Disks.{IsSameDisk}
use Rattle.pool_model.specs.Network.{net_of}
use Rattle.row_model.specs.Entries.{Entry}
use Rattle.search_core.specs.Searches.{searched}
use Rattle.search_run.specs.Left.{left}
use Rattle.search_run.proofs.Stepping.{IsWay}
use Rattle.recorded_run.specs.Recorded.{IsRecorded}
use Rattle.recorded_run.specs.Sessions.{IsOrdered}
use Rattle.recorded_run.proofs.Acknowledging.{SoFar}
use Rattle.recorded_run.proofs.driving.drive.Given as goal

abbrev pub invariant-steps : goal.invariant-steps
invariant-steps g l = record {
  ordered : IsOrdered (net_of l.net) l.orders l.search;
  way : IsWay (net_of l.net) l.orders (searched l.fn.search) (searched l.search);
  takes : g.R.Recorder.takes (net_of l.net) l.recorder l.disk;
  so_far : (text : List ℕ) (first : List Entry) → IsRecorded (net_of l.net) text first (g.R.Recorder.next l.fn.recorder) (searched l.fn.search) (g.R.Recorder.told l.fn.disk)
      → SoFar (net_of l.net) text l.orders first (g.R.Recorder.told l.fn.disk) (g.R.Recorder.told l.disk) (g.R.Recorder.next l.recorder) (searched l.search);
  same_disk : IsSameDisk (g.R.Recorder.told l.fn.disk) (g.R.Recorder.told l.disk);
}

abbrev pub decreases-steps : goal.decreases-steps
decreases-steps g l = left l.search
