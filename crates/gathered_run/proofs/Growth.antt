-- Lists that grow, and what a crash leaves meanwhile.
use Rattle.std.proofs.Common.{◌⊎◌, inr, ℕ, List, [], ◌∷◌, ◌++◌}
use Rattle.disk_calls.specs.Disks.{DiskTold, LeavesOnly}
use Rattle.disk_calls.proofs.Moments.{goes_further, leaves-weaker}
use Rattle.pool_model.specs.Network.{Net}
use Rattle.row_model.specs.Entries.{Entry, Searched, AreInOrder}
use Rattle.journal_format.specs.Records.{Place}
use Rattle.node_journal.specs.Journals.{IsBeforeOrAfter}
use Rattle.recorded_run.specs.Recorded.{BeginsWith, IsBetween, IsRecorded}
use Rattle.recorded_run.specs.Sessions.{IsGrownFrom}
use Rattle.recorded_run.proofs.Recording.{begins-same, begins-more, begins-then, between-recorded, between-wider, grown-moments}
use Rattle.recorded_run.proofs.Acknowledging.{still-moments, still-keeps, keeps-more, keeps-then, recorded-front, opening-keeps, run-keeps}
use Rattle.gathered_run.specs.Steps.{Grows}

-- where nothing is called
pub grows-still : (n : Net) (text : List ℕ) (list : List Entry) (place : Place) (s : Searched) (d : DiskTold) → IsRecorded n text list place s d → Grows n text list list d d
grows-still n text list place s d is = record {
  begins = begins-same list;
  any_moment = still-moments n text list place s d is;
  acknowledged = still-keeps n text list place s d is;
}

-- an entry more is recorded, or not
pub grows-one : (n : Net) (text : List ℕ) (list : List Entry) (e : Entry) (place : Place) (s : Searched) (old new : DiskTold) → IsRecorded n text list place s old
    → AreInOrder n (list ++ e ∷ []) → LeavesOnly old new (IsBeforeOrAfter text list e) → Grows n text list (list ++ e ∷ []) old new
grows-one n text list e place s old new held are step = record {
  begins = begins-more list list e (begins-same list);
  any_moment = leaves-weaker old new (IsBeforeOrAfter text list e) (IsBetween n text list (list ++ e ∷ []))
      (λ c is. between-recorded n text list list e c (begins-same list) held.in_order are is) step;
  acknowledged = keeps-more n text list list e place s old old new held are (still-keeps n text list place s old held) step;
}

-- a list that began earlier
between-earlier : (n : Net) (text : List ℕ) (first middle last : List Entry) (file : List ℕ) → BeginsWith middle first → IsBetween n text middle last file → IsBetween n text first last file
between-earlier n text first middle last file on is = record {
  list = is.list;
  own = is.own;
  begins = begins-then is.list middle first is.begins on;
  goes_on = is.goes_on;
}

-- one list after another
pub grows-then : (n : Net) (text : List ℕ) (first middle last : List Entry) (place : Place) (s : Searched) (old mid new : DiskTold) → IsRecorded n text middle place s mid
    → Grows n text first middle old mid → Grows n text middle last mid new → Grows n text first last old new
grows-then n text first middle last place s old mid new held a b = record {
  begins = begins-then last middle first b.begins a.begins;
  any_moment = goes_further old mid new (IsBetween n text first last)
      (leaves-weaker old mid (IsBetween n text first middle) (IsBetween n text first last) (λ c is. between-wider n text first middle last c b.begins is) a.any_moment)
      (leaves-weaker mid new (IsBetween n text middle last) (IsBetween n text first last) (λ c is. between-earlier n text first middle last c a.begins is) b.any_moment);
  acknowledged = keeps-then n text first middle last old mid new b.begins a.acknowledged b.acknowledged
      (leaves-weaker mid new (IsBetween n text middle last) (λ c. mid.may_leave c ⊎ IsBetween n text middle last c) (λ c is. inr is) b.any_moment)
      (λ c now. inr (recorded-front n text middle place s mid held c now));
}

-- from the file that is attached on
pub grown-from : (n : Net) (text : List ℕ) (first last : List Entry) (place : Place) (s : Searched) (old mid new : DiskTold) (IsKnown : List Entry → Type 0)
    → IsRecorded n text first place s mid → LeavesOnly old mid (λ c. old.may_leave c ⊎ IsBetween n text first first c) → Grows n text first last mid new → IsKnown last
    → IsGrownFrom n text first old new IsKnown
grown-from n text first last place s old mid new IsKnown held opening run known = record {
  last = last;
  begins = run.begins;
  any_moment = grown-moments n text first last old mid new run.begins opening run.any_moment;
  acknowledged = run-keeps n text first last place s old mid new run.begins held opening run.any_moment run.acknowledged;
  known = known;
}

-- where nothing is recorded
pub grown-none : (n : Net) (text : List ℕ) (first : List Entry) (old new : DiskTold) (IsKnown : List Entry → Type 0)
    → LeavesOnly old new (λ c. old.may_leave c ⊎ IsBetween n text first first c) → IsKnown first → IsGrownFrom n text first old new IsKnown
grown-none n text first old new IsKnown opening known = record {
  last = first;
  begins = begins-same first;
  any_moment = opening;
  acknowledged = opening-keeps n text first old new opening;
  known = known;
}
