-- What an outcome of `gather` tells of the files.
use Rattle.std.proofs.Common.{◌≡◌, ◌≢◌, ◌⊎◌, inl, inr, ℕ, List, Option, refl, sym, subst}
use Rattle.edge_io.specs.Counts.{Rose}
use Rattle.shelf_calls.specs.Told.{ShelfTold}
use Rattle.shelf_calls.specs.declared.fault.ShelfFault.{ShelfFault}
use Rattle.shelf_calls.specs.declared.fault.ShelfFault.TheVariants as shelf
use Rattle.journal_format.specs.declared.fault.JournalFault.TheVariants as journal_faults
use Rattle.recorded_run.specs.declared.fault.RunFault.TheVariants as run_faults
use Rattle.gathered_run.specs.declared.fault.GatherFault.TheVariants as gather_faults
use Rattle.job_commands.specs.Handed.{unhanded_status}
use Rattle.job_commands.specs.declared.handed.Unhanded.{Unhanded}
use Rattle.job_commands.specs.declared.handed.Unhanded.TheVariants as unhanded
use Rattle.journal_status.specs.JournalEnds.{IsUnopened}
use Rattle.run_status.specs.Reads.{Files}
use Rattle.run_status.specs.Took.{Took, unread_status}
use Rattle.run_status.specs.declared.reading.Unread.{Unread}
use Rattle.run_status.specs.declared.reading.Unread.TheVariants as unread
use Rattle.gather_command.specs.Brought.{IsUnbrought, IsBrought}
use Rattle.gather_command.specs.Journaled.{IsAllTold}
use Rattle.gather_command.specs.GatherEnds.{GatherEnds, IsBeforeJournal, IsTried, Named, ReadUnder, WantsUnder, gather_status, unsaid_status}
use Rattle.gather_command.specs.declared.brought.Brought.{Brought}
use Rattle.gather_command.specs.declared.outcome.GatherOutcome.{GatherOutcome}
use Rattle.gather_command.specs.declared.outcome.GatherOutcome.TheVariants as outcomes
use Rattle.run_status.specs.declared.status.Status.{Status}
use Rattle.run_status.specs.declared.status.Status.TheVariants as statuses

-- ---- all were gathered

pub told_tried : (status : Status) → IsAllTold status → IsTried status
told_tried statuses.Done told = inl tt
told_tried statuses.WriteFault told = inl tt
told_tried status told = absurd told

pub told_disk : (status : Status) → IsAllTold status → status ≢ statuses.DiskFault
told_disk status told e = subst IsAllTold e told

pub told_memory : (status : Status) → IsAllTold status → status ≢ statuses.OutOfMemory
told_memory status told e = subst IsAllTold e told

-- ---- all were read

module _ (files : Option Files) (w : Named) (before after : ℕ) where
  tried : (status : Status) → ReadUnder files w → IsTried status → GatherEnds files w before after status
  tried statuses.Done read h = read
  tried statuses.WriteFault read h = read
  tried statuses.OtherTree read h = read
  tried statuses.DiskFault read h = read
  tried statuses.OtherNetwork read h = read
  tried (statuses.BadJournal number) read h = read
  tried (statuses.UnknownVersion version) read h = read
  tried statuses.NotAJournal read h = read
  tried status read h = elim h [ inl told ↦ absurd told | inr ended ↦ absurd ended ]

  pub tried_ends : (status : Status) → ReadUnder files w → IsTried status ⊎ (status ≡ statuses.OutOfMemory) → GatherEnds files w before after status
  tried_ends status read (inl h) = tried status read h
  tried_ends status read (inr e) = subst (GatherEnds files w before after) (sym e) tt

not_before : (status : Status) → IsTried status → ¬ IsBeforeJournal status
not_before (statuses.NetworkRefused cause) h b = elim h [ inl told ↦ told | inr ended ↦ ended ]
not_before statuses.CertTooLong h b = elim h [ inl told ↦ told | inr ended ↦ ended ]
not_before (statuses.JobsRefused line) h b = elim h [ inl told ↦ told | inr ended ↦ ended ]
not_before statuses.ReadFault h b = elim h [ inl told ↦ told | inr ended ↦ ended ]
not_before status h b = b

pub tried_behind : (status : Status) → IsTried status ⊎ (status ≡ statuses.OutOfMemory) → ¬ IsBeforeJournal status
tried_behind status (inl h) b = not_before status h b
tried_behind status (inr e) b = subst IsBeforeJournal e b

pub behind_read : (status : Status) → IsTried status ⊎ (status ≡ statuses.OutOfMemory) → status ≢ statuses.ReadFault
behind_read status h e = tried_behind status h (subst IsBeforeJournal (sym e) tt)

-- ---- not all were read

unread_took : (Answer : Status → List ℕ → Type 0) (why : Unread) (taken : Option (List ℕ)) → Took Answer (unread_status why) taken taken
unread_took Answer (unread.Refused cause) taken = refl
unread_took Answer unread.Failed taken = refl
unread_took Answer unread.Memory taken = refl

unhanded_took : (Answer : Status → List ℕ → Type 0) (why : Unhanded) (taken : Option (List ℕ)) → Took Answer (unhanded_status why) taken taken
unhanded_took Answer unhanded.TooLong taken = refl
unhanded_took Answer (unhanded.Refused line) taken = refl
unhanded_took Answer unhanded.Failed taken = refl
unhanded_took Answer unhanded.Memory taken = refl

unsaid_took : (Answer : Status → List ℕ → Type 0) (fault : ShelfFault) (taken : Option (List ℕ)) → Took Answer (unsaid_status fault) taken taken
unsaid_took Answer shelf.Failed taken = refl
unsaid_took Answer shelf.TooLong taken = refl
unsaid_took Answer shelf.Memory taken = refl

module _ (w : Named) (before after : ShelfTold) where
  abbrev Unbrought : GatherOutcome → Type 0
  Unbrought outcome = IsUnbrought w.net w.jobs w.answers before after outcome

  pub unbrought_took : (Answer : Status → List ℕ → Type 0) (outcome : GatherOutcome) (taken : Option (List ℕ)) → Unbrought outcome → Took Answer (gather_status outcome) taken taken
  unbrought_took Answer (outcomes.Unread why) taken h = unread_took Answer why taken
  unbrought_took Answer (outcomes.Unhanded why) taken h = unhanded_took Answer why taken
  unbrought_took Answer (outcomes.Unsaid fault) taken h = unsaid_took Answer fault taken
  unbrought_took Answer outcomes.Done taken h = absurd h
  unbrought_took Answer (outcomes.Ungathered fault) taken h = absurd h
  unbrought_took Answer outcomes.WriteFault taken h = absurd h

  pub unbrought_ends : (outcome : GatherOutcome) → Unbrought outcome → GatherEnds before.files w before.taken after.taken (gather_status outcome)
  unbrought_ends (outcomes.Unread (unread.Refused cause)) h = h
  unbrought_ends (outcomes.Unread unread.Failed) h = tt
  unbrought_ends (outcomes.Unread unread.Memory) h = tt
  unbrought_ends (outcomes.Unhanded unhanded.TooLong) h = inl record { network = h.network; reads = h.reads; more = h.unhanded }
  unbrought_ends (outcomes.Unhanded (unhanded.Refused line)) h = record { network = h.network; reads = h.reads; refused = h.unhanded }
  unbrought_ends (outcomes.Unhanded unhanded.Failed) h = tt
  unbrought_ends (outcomes.Unhanded unhanded.Memory) h = tt
  unbrought_ends (outcomes.Unsaid shelf.Failed) h = tt
  unbrought_ends (outcomes.Unsaid shelf.TooLong) h = inr record { handed = h.0; name = h.1.name; one = h.1.one; more = h.1.unsaid }
  unbrought_ends (outcomes.Unsaid shelf.Memory) h = tt
  unbrought_ends outcomes.Done h = absurd h
  unbrought_ends (outcomes.Ungathered fault) h = absurd h
  unbrought_ends outcomes.WriteFault h = absurd h

  pub unbrought_unopened : (outcome : GatherOutcome) → Unbrought outcome → IsUnopened (gather_status outcome)
  unbrought_unopened (outcomes.Unread (unread.Refused cause)) h = tt
  unbrought_unopened (outcomes.Unread unread.Failed) h = tt
  unbrought_unopened (outcomes.Unread unread.Memory) h = tt
  unbrought_unopened (outcomes.Unhanded unhanded.TooLong) h = tt
  unbrought_unopened (outcomes.Unhanded (unhanded.Refused line)) h = tt
  unbrought_unopened (outcomes.Unhanded unhanded.Failed) h = tt
  unbrought_unopened (outcomes.Unhanded unhanded.Memory) h = tt
  unbrought_unopened (outcomes.Unsaid shelf.Failed) h = tt
  unbrought_unopened (outcomes.Unsaid shelf.TooLong) h = tt
  unbrought_unopened (outcomes.Unsaid shelf.Memory) h = tt
  unbrought_unopened outcomes.Done h = absurd h
  unbrought_unopened (outcomes.Ungathered fault) h = absurd h
  unbrought_unopened outcomes.WriteFault h = absurd h

  pub unbrought_read : (outcome : GatherOutcome) → Unbrought outcome → gather_status outcome ≡ statuses.ReadFault → Rose before.faults after.faults
  unbrought_read (outcomes.Unread (unread.Refused cause)) h e = absurd (cc)
  unbrought_read (outcomes.Unread unread.Failed) h e = h
  unbrought_read (outcomes.Unread unread.Memory) h e = absurd (cc)
  unbrought_read (outcomes.Unhanded unhanded.TooLong) h e = absurd (cc)
  unbrought_read (outcomes.Unhanded (unhanded.Refused line)) h e = absurd (cc)
  unbrought_read (outcomes.Unhanded unhanded.Failed) h e = h.unhanded
  unbrought_read (outcomes.Unhanded unhanded.Memory) h e = absurd (cc)
  unbrought_read (outcomes.Unsaid shelf.Failed) h e = h.1.unsaid
  unbrought_read (outcomes.Unsaid shelf.TooLong) h e = absurd (cc)
  unbrought_read (outcomes.Unsaid shelf.Memory) h e = absurd (cc)
  unbrought_read outcomes.Done h e = absurd h
  unbrought_read (outcomes.Ungathered fault) h e = absurd h
  unbrought_read outcomes.WriteFault h e = absurd h

  pub unbrought_wants : (outcome : GatherOutcome) → Unbrought outcome → gather_status outcome ≡ statuses.OutOfMemory → WantsUnder before.files w outcome
  unbrought_wants (outcomes.Unread (unread.Refused cause)) h e = absurd (cc)
  unbrought_wants (outcomes.Unread unread.Failed) h e = absurd (cc)
  unbrought_wants (outcomes.Unread unread.Memory) h e = refl
  unbrought_wants (outcomes.Unhanded unhanded.TooLong) h e = absurd (cc)
  unbrought_wants (outcomes.Unhanded (unhanded.Refused line)) h e = absurd (cc)
  unbrought_wants (outcomes.Unhanded unhanded.Failed) h e = absurd (cc)
  unbrought_wants (outcomes.Unhanded unhanded.Memory) h e = (refl, record { network = h.network; reads = h.reads })
  unbrought_wants (outcomes.Unsaid shelf.Failed) h e = absurd (cc)
  unbrought_wants (outcomes.Unsaid shelf.TooLong) h e = absurd (cc)
  unbrought_wants (outcomes.Unsaid shelf.Memory) h e = (refl, h.0)
  unbrought_wants outcomes.Done h e = absurd h
  unbrought_wants (outcomes.Ungathered fault) h e = absurd h
  unbrought_wants outcomes.WriteFault h e = absurd h

  -- no such outcome is told as a failure of sink or disk
  pub unbrought_own : (outcome : GatherOutcome) → Unbrought outcome → (gather_status outcome ≢ statuses.WriteFault) × (gather_status outcome ≢ statuses.DiskFault)
  unbrought_own (outcomes.Unread (unread.Refused cause)) h = (λ e. cc, λ e. cc)
  unbrought_own (outcomes.Unread unread.Failed) h = (λ e. cc, λ e. cc)
  unbrought_own (outcomes.Unread unread.Memory) h = (λ e. cc, λ e. cc)
  unbrought_own (outcomes.Unhanded unhanded.TooLong) h = (λ e. cc, λ e. cc)
  unbrought_own (outcomes.Unhanded (unhanded.Refused line)) h = (λ e. cc, λ e. cc)
  unbrought_own (outcomes.Unhanded unhanded.Failed) h = (λ e. cc, λ e. cc)
  unbrought_own (outcomes.Unhanded unhanded.Memory) h = (λ e. cc, λ e. cc)
  unbrought_own (outcomes.Unsaid shelf.Failed) h = (λ e. cc, λ e. cc)
  unbrought_own (outcomes.Unsaid shelf.TooLong) h = (λ e. cc, λ e. cc)
  unbrought_own (outcomes.Unsaid shelf.Memory) h = (λ e. cc, λ e. cc)
  unbrought_own outcomes.Done h = absurd h
  unbrought_own (outcomes.Ungathered fault) h = absurd h
  unbrought_own outcomes.WriteFault h = absurd h

-- what was brought was read
abbrev pub brought_read : (files : Option Files) (w : Named) (b : Brought) → IsBrought files w.net w.jobs w.answers b → ReadUnder files w
brought_read files w b h = record { network = b.network; jobs = h.jobs_text; jobs_under = h.under; said = b.files.items; say = h.say }
