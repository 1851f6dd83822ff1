-- Which status is told of which fault.
use Rattle.std.proofs.Common.{◌≡◌, ◌≢◌, ℕ, List, Option, refl}
use Rattle.run_status.specs.Took.{Took, unread_status}
use Rattle.journal_format.specs.declared.fault.JournalFault.TheVariants as journal_faults
use Rattle.recorded_run.specs.declared.fault.RunFault.{RunFault}
use Rattle.recorded_run.specs.declared.fault.RunFault.TheVariants as faults
use Rattle.run_status.specs.declared.reading.Unread.{Unread}
use Rattle.run_status.specs.declared.reading.Unread.TheVariants as unread
use Rattle.journal_status.specs.JournalEnds.{IsUnopened, fault_status}
use Rattle.run_status.specs.declared.status.Status.{Status}
use Rattle.run_status.specs.declared.status.Status.TheVariants as statuses

-- nothing was printed
pub took_nothing : (Answer : Status → List ℕ → Type 0) (fault : RunFault) (taken : Option (List ℕ)) → Took Answer (fault_status fault) taken taken
took_nothing Answer (faults.Journal journal_faults.Disk) taken = refl
took_nothing Answer (faults.Journal journal_faults.NotAJournal) taken = refl
took_nothing Answer (faults.Journal (journal_faults.UnknownVersion version)) taken = refl
took_nothing Answer (faults.Journal journal_faults.OtherNetwork) taken = refl
took_nothing Answer (faults.Journal (journal_faults.BadRecord number)) taken = refl
took_nothing Answer (faults.Journal journal_faults.Memory) taken = refl
took_nothing Answer (faults.OutOfOrder number) taken = refl

-- only a failed disk is told as such, and no fault is told as one of shelf or sink
pub disk_fault_is : (fault : RunFault) → fault_status fault ≡ statuses.DiskFault → fault ≡ faults.Journal journal_faults.Disk
disk_fault_is (faults.Journal journal_faults.Disk) e = refl
disk_fault_is (faults.Journal journal_faults.NotAJournal) e = cc
disk_fault_is (faults.Journal (journal_faults.UnknownVersion version)) e = cc
disk_fault_is (faults.Journal journal_faults.OtherNetwork) e = cc
disk_fault_is (faults.Journal (journal_faults.BadRecord number)) e = cc
disk_fault_is (faults.Journal journal_faults.Memory) e = cc
disk_fault_is (faults.OutOfOrder number) e = cc

pub no_read_fault : (fault : RunFault) → fault_status fault ≢ statuses.ReadFault
no_read_fault (faults.Journal journal_faults.Disk) e = cc
no_read_fault (faults.Journal journal_faults.NotAJournal) e = cc
no_read_fault (faults.Journal (journal_faults.UnknownVersion version)) e = cc
no_read_fault (faults.Journal journal_faults.OtherNetwork) e = cc
no_read_fault (faults.Journal (journal_faults.BadRecord number)) e = cc
no_read_fault (faults.Journal journal_faults.Memory) e = cc
no_read_fault (faults.OutOfOrder number) e = cc

pub no_write_fault : (fault : RunFault) → fault_status fault ≢ statuses.WriteFault
no_write_fault (faults.Journal journal_faults.Disk) e = cc
no_write_fault (faults.Journal journal_faults.NotAJournal) e = cc
no_write_fault (faults.Journal (journal_faults.UnknownVersion version)) e = cc
no_write_fault (faults.Journal journal_faults.OtherNetwork) e = cc
no_write_fault (faults.Journal (journal_faults.BadRecord number)) e = cc
no_write_fault (faults.Journal journal_faults.Memory) e = cc
no_write_fault (faults.OutOfOrder number) e = cc

-- only want of memory is told as such
pub memory_fault_is : (fault : RunFault) → fault_status fault ≡ statuses.OutOfMemory → fault ≡ faults.Journal journal_faults.Memory
memory_fault_is (faults.Journal journal_faults.Disk) e = cc
memory_fault_is (faults.Journal journal_faults.NotAJournal) e = cc
memory_fault_is (faults.Journal (journal_faults.UnknownVersion version)) e = cc
memory_fault_is (faults.Journal journal_faults.OtherNetwork) e = cc
memory_fault_is (faults.Journal (journal_faults.BadRecord number)) e = cc
memory_fault_is (faults.Journal journal_faults.Memory) e = refl
memory_fault_is (faults.OutOfOrder number) e = cc

-- ---- a run that read no network

pub unread_memory_is : (why : Unread) → unread_status why ≡ statuses.OutOfMemory → why ≡ unread.Memory
unread_memory_is (unread.Refused cause) e = cc
unread_memory_is unread.Failed e = cc
unread_memory_is unread.Memory e = refl

pub no_unread_disk : (why : Unread) → unread_status why ≢ statuses.DiskFault
no_unread_disk (unread.Refused cause) e = cc
no_unread_disk unread.Failed e = cc
no_unread_disk unread.Memory e = cc

pub unread_unopened : (why : Unread) → IsUnopened (unread_status why)
unread_unopened (unread.Refused cause) = tt
unread_unopened unread.Failed = tt
unread_unopened unread.Memory = tt
