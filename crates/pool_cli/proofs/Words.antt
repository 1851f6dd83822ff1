-- A run on words that no request was read from.
use Rattle.std.proofs.Common.{◌≡◌, ◌≢◌, ℕ, List, Option, inl, inr, refl}
use Rattle.cli_words.specs.Requests.{Asked, solve, check, report, formulate, make, trial, jobs, work, gather, tight, checktight}
use Rattle.cli_words.specs.declared.request.WordsFault.{WordsFault}
use Rattle.cli_words.specs.declared.request.WordsFault.TheVariants as faults
use Rattle.run_status.specs.Reads.{Files}
use Rattle.run_status.specs.Took.{Took}
use Rattle.run_status.specs.declared.status.Status.{Status}
use Rattle.run_status.specs.declared.status.Status.TheVariants as statuses
use Rattle.disk_calls.specs.Disks.{DiskTold}
use Rattle.node_journal.proofs.Runs.{quiet-start}
use Rattle.journal_status.specs.JournalEnds.{CameToNoFile}
use Rattle.pool_cli.specs.Ends.{EndsAs, IsUnanswered, LeavesAs, words_status}

pub words_took : (Answer : Status → List ℕ → Type 0) (fault : WordsFault) (taken : Option (List ℕ)) → Took Answer (words_status fault) taken taken
words_took Answer faults.Usage taken = refl
words_took Answer faults.Memory taken = refl

pub words_unanswered : (fault : WordsFault) → IsUnanswered (words_status fault)
words_unanswered faults.Usage = tt
words_unanswered faults.Memory = tt

-- usage is told where the words ask nothing, and only there
pub words_usage : (fault : WordsFault) → words_status fault ≡ statuses.Usage → fault ≡ faults.Usage
words_usage faults.Usage e = refl
words_usage faults.Memory e = cc

-- no fault of the words is told as one of shelf, sink or disk
pub no_words_fault : (fault : WordsFault) → (words_status fault ≢ statuses.ReadFault) × (words_status fault ≢ statuses.WriteFault) × (words_status fault ≢ statuses.DiskFault)
no_words_fault faults.Usage = (λ e. cc, λ e. cc, λ e. cc)
no_words_fault faults.Memory = (λ e. cc, λ e. cc, λ e. cc)

-- words that ask for something fail for want of memory alone
pub words_ends : (files : Option Files) (before after : ℕ) (fault : WordsFault) (asked : Asked) → fault ≢ faults.Usage → EndsAs files before after asked (words_status fault)
words_ends files before after faults.Usage asked h = absurd (h refl)
words_ends files before after faults.Memory (solve s) h = tt
words_ends files before after faults.Memory (check net cert) h = tt
words_ends files before after faults.Memory (report net cert) h = tt
words_ends files before after faults.Memory (formulate net form) h = tt
words_ends files before after faults.Memory (make number) h = tt
words_ends files before after faults.Memory (trial number) h = tt
words_ends files before after faults.Memory (jobs net journal count) h = tt
words_ends files before after faults.Memory (work net file form) h = tt
words_ends files before after faults.Memory (gather net file answers journal) h = tt
words_ends files before after faults.Memory (tight net cert form pivots) h = inr refl
words_ends files before after faults.Memory (checktight net cert marks) h = tt

-- and leave disk and sink as they were
nothing_done : (d : DiskTold) → CameToNoFile d d statuses.OutOfMemory
nothing_done d = record { unopened = tt; quiet = quiet-start d; none_attached = refl }

pub words_leave : (files : Option Files) (d : DiskTold) (taken : Option (List ℕ)) (fault : WordsFault) (asked : Asked) → fault ≢ faults.Usage
    → LeavesAs files d d taken taken asked (words_status fault)
words_leave files d taken faults.Usage asked h = absurd (h refl)
words_leave files d taken faults.Memory (solve s) h = λ file is. inl (nothing_done d)
words_leave files d taken faults.Memory (jobs net journal count) h = inl (nothing_done d)
words_leave files d taken faults.Memory (gather net file answers journal) h = inl (nothing_done d)
words_leave files d taken faults.Memory asked h = tt
