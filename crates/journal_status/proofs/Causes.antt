-- The causes of faults and those of statuses.
use Rattle.std.proofs.Common.{◌≡◌, ◌⊎◌, inl, inr, ℕ, List, [], ◌∷◌, ◌++◌, refl, sym, ap, subst, ◌∙◌}
use Rattle.disk_calls.specs.Disks.{DiskTold}
use Rattle.pool_model.specs.Network.{Net}
use Rattle.row_model.specs.Entries.{Entry, AreInOrder}
use Rattle.journal_format.specs.Files.{Stands}
use Rattle.journal_format.specs.declared.fault.JournalFault.{JournalFault}
use Rattle.journal_format.specs.declared.fault.JournalFault.TheVariants as journal_faults
use Rattle.node_journal.specs.Settled.{IsQuiet}
use Rattle.node_journal.proofs.Runs.{quiet-then}
use Rattle.recorded_run.specs.Recorded.{IsCause, IsFreeFault, IsLeftAlone}
use Rattle.recorded_run.specs.declared.fault.RunFault.{RunFault}
use Rattle.recorded_run.specs.declared.fault.RunFault.TheVariants as faults
use Rattle.recorded_run.proofs.Causes.{no_cause}
use Rattle.journal_status.specs.JournalEnds.{IsJournalRefused, IsForeign, IsFailed, IsJournalCause, IsAttachedTo, fault_status}
use Rattle.run_status.specs.declared.status.Status.{Status}
use Rattle.run_status.specs.declared.status.Status.TheVariants as statuses

-- the cause of a fault is that of its status
status-cause : (n : Net) (text file : List ℕ) (fault : RunFault) → IsCause n text file fault → IsJournalCause n text file (fault_status fault)
status-cause n text file (faults.Journal journal_faults.Disk) h = absurd h
status-cause n text file (faults.Journal journal_faults.NotAJournal) h = h
status-cause n text file (faults.Journal (journal_faults.UnknownVersion version)) h = h
status-cause n text file (faults.Journal journal_faults.OtherNetwork) h = h
status-cause n text file (faults.Journal (journal_faults.BadRecord number)) h = inl h
status-cause n text file (faults.Journal journal_faults.Memory) h = absurd h
status-cause n text file (faults.OutOfOrder number) h = inr h

-- a cause of a status is that of a fault
pub cause-fault : (n : Net) (text file : List ℕ) (status : Status) → IsJournalCause n text file status → (fault : RunFault) × (fault_status fault ≡ status) × IsCause n text file fault
cause-fault n text file statuses.OtherNetwork h = (faults.Journal journal_faults.OtherNetwork, refl, h)
cause-fault n text file (statuses.BadJournal number) (inl h) = (faults.Journal (journal_faults.BadRecord number), refl, h)
cause-fault n text file (statuses.BadJournal number) (inr h) = (faults.OutOfOrder number, refl, h)
cause-fault n text file (statuses.UnknownVersion version) h = (faults.Journal (journal_faults.UnknownVersion version), refl, h)
cause-fault n text file statuses.NotAJournal h = (faults.Journal journal_faults.NotAJournal, refl, h)
cause-fault n text file status h = absurd h

-- disk or memory failed
pub failed-status : (fault : RunFault) → IsFreeFault fault → IsFailed (fault_status fault)
failed-status (faults.Journal fault) (inl e) = subst (λ (f : JournalFault). IsFailed (fault_status (faults.Journal f))) (sym e) tt
failed-status (faults.Journal fault) (inr e) = subst (λ (f : JournalFault). IsFailed (fault_status (faults.Journal f))) (sym e) tt
failed-status (faults.OutOfOrder number) h = absurd h

failed-not-refused : (status : Status) → IsFailed status → ¬ IsJournalRefused status
failed-not-refused statuses.DiskFault h r = r
failed-not-refused statuses.OutOfMemory h r = r
failed-not-refused status h r = h

pub foreign-refused : (status : Status) → IsForeign status → IsJournalRefused status
foreign-refused statuses.OtherNetwork h = tt
foreign-refused (statuses.UnknownVersion version) h = tt
foreign-refused statuses.NotAJournal h = tt
foreign-refused status h = absurd h

-- a file that stands for entries in order is not refused
no-refusal : (n : Net) (text file : List ℕ) (status : Status) → (IsJournalRefused status → IsJournalCause n text file status) → (list : List Entry) → Stands file text list → AreInOrder n list → ¬ IsJournalRefused status
no-refusal n text file status caused list stands are refused =
    let cause = cause-fault n text file status (caused refused) in
    no_cause n text file list cause.0 stands are cause.2

-- ---- a file that was attached

-- a refused status is told of a cause, where disk and memory did not fail
caused-by : (n : Net) (text file : List ℕ) (fault : RunFault) → IsFreeFault fault ⊎ IsCause n text file fault → IsJournalRefused (fault_status fault) → IsJournalCause n text file (fault_status fault)
caused-by n text file fault (inl free) r = absurd (failed-not-refused (fault_status fault) (failed-status fault free) r)
caused-by n text file fault (inr cause) r = status-cause n text file fault cause

-- a foreign file that a run left alone behind an attach is left as it was before
left-alone : (old mid new : DiskTold) → IsQuiet old mid → (fault : RunFault) → IsForeign (fault_status fault) → IsLeftAlone fault (IsQuiet mid new) → IsQuiet old new
left-alone old mid new attach (faults.Journal fault) foreign (inl free) = absurd (failed-not-refused (fault_status (faults.Journal fault))
    (failed-status (faults.Journal fault) free) (foreign-refused (fault_status (faults.Journal fault)) foreign))
left-alone old mid new attach (faults.Journal fault) foreign (inr left) = quiet-then old mid new attach left
left-alone old mid new attach (faults.OutOfOrder number) foreign h = absurd foreign

module _ (n : Net) (text file : List ℕ) (old mid new : DiskTold) (image : old.may_leave file) (found : new.attached ≡ old.attached ++ file ∷ []) where
  -- the run behind the attach gave no answer
  pub attached-fault : IsQuiet old mid → (fault : RunFault) → IsFreeFault fault ⊎ IsCause n text file fault
      → ((cause : RunFault) → IsCause n text file cause → IsFreeFault fault ⊎ (fault ≡ cause)) → IsLeftAlone fault (IsQuiet mid new)
      → IsAttachedTo n text file old new (fault_status fault)
  attached-fault attach fault refused decided alone = record {
    image = image;
    found = found;
    caused = caused-by n text file fault refused;
    decided = λ other has.
        let cause = cause-fault n text file other has in
        elim (decided cause.0 cause.2) [ inl free ↦ inr (failed-status fault free) | inr e ↦ inl (ap fault_status e ∙ cause.1) ];
    taken = no-refusal n text file (fault_status fault) (caused-by n text file fault refused);
    untouched = λ foreign. left-alone old mid new attach fault foreign alone;
  }

  -- it came to another end, and the file is no cause
  pub attached-sound : (status : Status) → ¬ IsJournalRefused status → ((cause : RunFault) → ¬ IsCause n text file cause) → IsAttachedTo n text file old new status
  attached-sound status sound causeless = record {
    image = image;
    found = found;
    caused = λ r. absurd (sound r);
    decided = λ other has. let cause = cause-fault n text file other has in absurd (causeless cause.0 cause.2);
    taken = λ list stands are r. sound r;
    untouched = λ foreign. absurd (sound (foreign-refused status foreign));
  }
