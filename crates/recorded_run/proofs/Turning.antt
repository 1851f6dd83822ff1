-- An entry that is put into a journal, behind a Turn or not.
use Rattle.std.proofs.Common.{◌≡◌, inl, ℕ, List, refl, sym, subst}
use Rattle.disk_calls.specs.Disks.{DiskTold, LeavesOnly}
use Rattle.disk_calls.proofs.Moments.{started, goes_further, leaves-weaker}
use Rattle.row_model.specs.Entries.{Entry}
use Rattle.journal_format.specs.Files.{IsKept}
use Rattle.journal_format.specs.Records.{Place, IsKeptAt}
use Rattle.journal_format.specs.declared.version.Version.{Version}
use Rattle.journal_format.specs.declared.version.Version.TheVariants.{One, Two}
use Rattle.journal_format.proofs.OwnFiles.{kept_of}
use Rattle.node_journal.specs.Journals.{IsBeforeOrAfter}
use Rattle.node_journal.specs.Settled.{IsOnDisk}

-- there are two versions
pub other_version : (v : Version) → ¬ (v ≡ One) → v ≡ Two
other_version One other = absurd (other refl)
other_version Two other = refl

-- where nothing is called a crash leaves the file
pub kept-still : (place : Place) (text file : List ℕ) (list : List Entry) (d : DiskTold) → IsOnDisk file d → IsKeptAt place text list file → LeavesOnly d d (IsKept text list)
kept-still place text file list d on_disk kept =
    started d (IsKept text list) (λ c now. subst (IsKept text list) (sym (on_disk.only c now)) (kept_of place text file list kept))

-- what a crash leaves before an entry, and while it is recorded
pub kept-before : (text : List ℕ) (list : List Entry) (e : Entry) (old mid : DiskTold) → LeavesOnly old mid (IsKept text list) → LeavesOnly old mid (IsBeforeOrAfter text list e)
kept-before text list e old mid run = leaves-weaker old mid (IsKept text list) (IsBeforeOrAfter text list e) (λ c at. inl at) run

pub kept-then : (text : List ℕ) (list : List Entry) (e : Entry) (old mid new : DiskTold) → LeavesOnly old mid (IsKept text list) → LeavesOnly mid new (IsBeforeOrAfter text list e)
    → LeavesOnly old new (IsBeforeOrAfter text list e)
kept-then text list e old mid new run more = goes_further old mid new (IsBeforeOrAfter text list e) (kept-before text list e old mid run) more
