-- From what a gathering leaves of the file that was attached to what the command leaves.
use Rattle.std.proofs.Common.{◌≡◌, ◌≢◌, ◌⊎◌, inl, inr, ℕ, List, [], ◌∷◌, ◌++◌, Option, Some, Result, Ok, Err, refl, sym, ap, ap₂, subst, ◌∙◌}
use Rattle.std.specs.Prelude.{IfOk, IfErr, IsErrAnd, IsErrOf, MatchResult}
use Rattle.disk_calls.specs.Disks.{DiskTold}
use Rattle.pool_model.specs.Network.{Net, net_of}
use Rattle.row_model.specs.Trees.{Split}
use Rattle.row_model.specs.Entries.{Entry}
use Rattle.journal_format.specs.Files.{Stands}
use Rattle.journal_format.specs.declared.fault.JournalFault.TheVariants as journal_faults
use Rattle.journal_format.proofs.OwnFiles.{one_standing}
use Rattle.node_journal.specs.Settled.{IsQuiet}
use Rattle.recorded_run.specs.Recorded.{IsNetworksOwn, StandsNow}
use Rattle.recorded_run.specs.Sessions.{IsGrownFrom}
use Rattle.recorded_run.specs.declared.fault.RunFault.{RunFault}
use Rattle.recorded_run.specs.declared.fault.RunFault.TheVariants as run_faults
use Rattle.work_units.specs.Desks.{Desk}
use Rattle.work_units.specs.declared.job.Job.{Job}
use Rattle.gathered_run.specs.Files.{Item, items_of}
use Rattle.gathered_run.specs.Events.{Event}
use Rattle.gathered_run.specs.Gatherings.{IsGathered, IsGrownByTaken, IsBrokenOff}
use Rattle.gathered_run.specs.Causes.{IsCause, IsFreeFault, IsLeftAlone}
use Rattle.gathered_run.specs.declared.told.Gathered.{Gathered}
use Rattle.gathered_run.specs.declared.fault.GatherFault.{GatherFault}
use Rattle.gathered_run.specs.declared.fault.GatherFault.TheVariants.{Run, OtherTree}
use Rattle.journal_status.specs.JournalEnds.{IsFailed, IsJournalRefused, IsUnopened, fault_status}
use Rattle.journal_status.proofs.Attaching.{grown-behind}
use Rattle.journal_status.proofs.Causes.{attached-fault, attached-sound, failed-status}
use Rattle.journal_status.proofs.Faults.{memory_fault_is}
use Rattle.network_text.specs.Canonical.{canonical_text}
use Rattle.run_status.specs.Reads.{Files}
use Rattle.run_status.specs.Took.{Took, printed_by}
use Rattle.run_status.proofs.Parts.{took-part}
use Rattle.gather_command.proofs.Outcomes.{brought_read}
use Rattle.gather_command.specs.Told.{told_text}
use Rattle.gather_command.specs.Journaled.{IsAllTold, IsToldOf, IsGatheredTo, IsGatheringOf}
use Rattle.gather_command.specs.Brought.{IsBrought, IsLeft, IsToldBy, WritesAs, text_of}
use Rattle.gather_command.specs.GatherEnds.{GatherJournaled, GathersAs, Named, ungathered_status}
use Rattle.gather_command.specs.declared.brought.Brought.{Brought}
use Rattle.run_status.specs.declared.status.Status.{Status}
use Rattle.run_status.specs.declared.status.Status.TheVariants as statuses

-- ---- statuses

told-not-refused : (status : Status) → IsAllTold status → ¬ IsJournalRefused status
told-not-refused statuses.Done told r = r
told-not-refused statuses.WriteFault told r = r
told-not-refused status told r = told

told-not-failed : (status : Status) → IsAllTold status → ¬ IsFailed status
told-not-failed statuses.Done told h = h
told-not-failed statuses.WriteFault told h = h
told-not-failed status told h = told

told-not-other : (status : Status) → IsAllTold status → status ≢ statuses.OtherTree
told-not-other status told e = subst IsAllTold e told

fault-not-told : (fault : RunFault) → ¬ IsAllTold (fault_status fault)
fault-not-told (run_faults.Journal journal_faults.Disk) h = h
fault-not-told (run_faults.Journal journal_faults.NotAJournal) h = h
fault-not-told (run_faults.Journal (journal_faults.UnknownVersion version)) h = h
fault-not-told (run_faults.Journal journal_faults.OtherNetwork) h = h
fault-not-told (run_faults.Journal (journal_faults.BadRecord number)) h = h
fault-not-told (run_faults.Journal journal_faults.Memory) h = h
fault-not-told (run_faults.OutOfOrder number) h = h

fault-not-other : (fault : RunFault) → fault_status fault ≢ statuses.OtherTree
fault-not-other (run_faults.Journal journal_faults.Disk) e = cc
fault-not-other (run_faults.Journal journal_faults.NotAJournal) e = cc
fault-not-other (run_faults.Journal (journal_faults.UnknownVersion version)) e = cc
fault-not-other (run_faults.Journal journal_faults.OtherNetwork) e = cc
fault-not-other (run_faults.Journal (journal_faults.BadRecord number)) e = cc
fault-not-other (run_faults.Journal journal_faults.Memory) e = cc
fault-not-other (run_faults.OutOfOrder number) e = cc

-- a run that came to no file for want of disk or memory
pub failed-unopened : (status : Status) → IsFailed status → IsUnopened status
failed-unopened statuses.DiskFault h = tt
failed-unopened statuses.OutOfMemory h = tt
failed-unopened status h = absurd h

-- ---- what is told

module _ (n : Net) (text : List ℕ) (splits : List Split) (jobs : List Job) (items : List Item) where
  -- what was gathered is told
  pub told-gathered : (d : DiskTold) (g : Gathered) (h : IsGathered n text splits jobs items d g) → IsToldOf n splits jobs items h.first h.events (text_of n g)
  told-gathered d g h = record {
    in_order = h.in_order;
    same_tree = h.same_tree;
    of_files = h.of_files;
    judged = h.judged;
    tree = ap (λ (k : Desk). k.searched) (sym h.desk) ∙ h.tree;
    spelled = ap₂ (λ lines k. told_text n lines k) h.lines h.desk;
  }

  module _ (file : List ℕ) (old mid new : DiskTold) (image : old.may_leave file) (found : new.attached ≡ old.attached ++ file ∷ []) (attach : IsQuiet old mid) where
    -- the gathering came to its end
    pub left-gathered : (g : Gathered) → mid.reads ≡ Some file → IsGathered n text splits jobs items mid g → ((cause : GatherFault) → ¬ IsCause n text splits file cause)
        → ((first : List Entry) → IsNetworksOwn n text first file → IsGrownFrom n text first mid new (λ last. IsGrownByTaken n text first last new g))
        → (status : Status) → IsAllTold status → IsGatheringOf n text splits jobs items old new status (λ t. t ≡ text_of n g)
    left-gathered g is h causeless goes status told = record {
      file = file;
      attached = attached-sound n text file old mid new image found status (told-not-refused status told) (λ cause has. causeless (Run cause) has);
      other = λ e. absurd (told-not-other status told e);
      decided = λ other. absurd (causeless OtherTree other);
      unchanged = λ e. absurd (told-not-other status told e);
      resumed = λ _. record { first = h.first; stands = h.stands file is; events = h.events; told = text_of n g; is_told = told-gathered mid g h; prints = refl };
      own = λ first own.
          let same : h.first ≡ first = one_standing file text h.first first (h.stands file is) own.stands in
          let told_of : IsToldOf n splits jobs items first h.events (text_of n g) = subst (λ (l : List Entry). IsToldOf n splits jobs items l h.events (text_of n g)) same (told-gathered mid g h) in
          grown-behind n text first old mid new (λ last. IsGrownByTaken n text first last new g) (λ last. IsGatheredTo n text splits jobs items first last new status (λ t. t ≡ text_of n g)) attach
          (λ last known. record {
            whole = λ _. record {
              events = h.events;
              told = text_of n g;
              is_told = told_of;
              prints = refl;
              grown = known.grown ∙ ap (λ (l : List Entry). first ++ l) h.taken;
              held = record { file = known.ends.file; on_disk = known.ends.on_disk; own = known.ends.own };
            };
            part = λ failed. absurd (told-not-failed status told failed);
            same = λ e. absurd (told-not-other status told e);
            stands = λ e. elim e [ inl other ↦ absurd (told-not-other status told other) | inr memory ↦ absurd (told-not-failed status told (subst IsFailed (sym memory) tt)) ];
          })
          (goes first own);
    }

    -- it gave no answer
    pub left-ungathered : (fault : GatherFault) → IsFreeFault fault ⊎ IsCause n text splits file fault
        → ((cause : GatherFault) → IsCause n text splits file cause → IsFreeFault fault ⊎ (fault ≡ cause)) → IsLeftAlone fault (IsQuiet mid new)
        → (fault ≡ OtherTree → (list : List Entry) → Stands file text list → StandsNow n text list new)
        → ((first : List Entry) → IsNetworksOwn n text first file → IsGrownFrom n text first mid new (λ last. IsBrokenOff n text jobs items first last new fault))
        → IsGatheringOf n text splits jobs items old new (ungathered_status fault) (λ _. ⊥)
    left-ungathered (Run fault) refused decided alone unchanged goes = record {
      file = file;
      attached = attached-fault n text file old mid new image found attach fault refused
          (λ cause has. elim (decided (Run cause) has) [ inl free ↦ inl free | inr e ↦ inr (same-fault fault cause e) ]) alone;
      other = λ e. absurd (fault-not-other fault e);
      decided = λ other. elim (decided OtherTree other) [ inl free ↦ inr (failed-status fault free) | inr e ↦ absurd (not-other fault e) ];
      unchanged = λ e. absurd (fault-not-other fault e);
      resumed = λ told. absurd (fault-not-told fault told);
      own = λ first own.
          grown-behind n text first old mid new (λ last. IsBrokenOff n text jobs items first last new (Run fault)) (λ last. IsGatheredTo n text splits jobs items first last new (fault_status fault) (λ _. ⊥)) attach
          (λ last known. record {
            whole = λ told. absurd (fault-not-told fault told);
            part = λ _. known.reached;
            same = λ e. absurd (fault-not-other fault e);
            stands = λ e. elim e [ inl other ↦ absurd (fault-not-other fault other) | inr memory ↦ known.stands (inr (ap (λ f. Run f) (memory_fault_is fault memory))) ];
          })
          (goes first own);
    }
      where
        same-fault : (a b : RunFault) → (◌≡◌ {A = GatherFault} (Run a) (Run b)) → a ≡ b
        same-fault a b e = cc

        not-other : (a : RunFault) → (◌≡◌ {A = GatherFault} (Run a) OtherTree) → ⊥
        not-other a e = cc
    left-ungathered OtherTree refused decided alone unchanged goes = record {
      file = file;
      attached = attached-sound n text file old mid new image found statuses.OtherTree (λ h. h)
          (λ cause has. elim (decided (Run cause) has) [ inl free ↦ free | inr e ↦ not-run cause e ]);
      other = λ _. elim refused [ inl free ↦ absurd free | inr cause ↦ cause ];
      decided = λ _. inl refl;
      unchanged = λ _. unchanged refl;
      resumed = λ told. absurd told;
      own = λ first own.
          grown-behind n text first old mid new (λ last. IsBrokenOff n text jobs items first last new OtherTree) (λ last. IsGatheredTo n text splits jobs items first last new statuses.OtherTree (λ _. ⊥)) attach
          (λ last known. record {
            whole = λ told. absurd told;
            part = λ failed. absurd failed;
            same = λ _. known.unchanged refl;
            stands = λ _. known.stands (inl refl);
          })
          (goes first own);
    }
      where
        not-run : (a : RunFault) → (◌≡◌ {A = GatherFault} OtherTree (Run a)) → ⊥
        not-run a e = cc

    -- either of both, by what the inner call says
    pub left-result : (result : Result Gathered GatherFault) → mid.reads ≡ Some file → IfOk result (IsGathered n text splits jobs items mid)
        → IfErr result (λ f. (at : List ℕ) → mid.reads ≡ Some at → IsFreeFault f ⊎ IsCause n text splits at f)
        → ((at : List ℕ) (cause : GatherFault) → mid.reads ≡ Some at → IsCause n text splits at cause → IsErrAnd result (λ f. IsFreeFault f ⊎ (f ≡ cause)))
        → IfErr result (λ f. IsLeftAlone f (IsQuiet mid new))
        → (IsErrOf result OtherTree → (at : List ℕ) (list : List Entry) → mid.reads ≡ Some at → Stands at text list → StandsNow n text list new)
        → ((at : List ℕ) (first : List Entry) → mid.reads ≡ Some at → IsNetworksOwn n text first at
        → IsGrownFrom n text first mid new (λ last. MatchResult result (IsGrownByTaken n text first last new) (IsBrokenOff n text jobs items first last new)))
        → IsLeft n text splits jobs items old new result
    left-result (Ok g) is gathered refused decided alone unchanged goes = left-gathered g is gathered (λ cause has. decided file cause is has) (λ first own. goes file first is own)
    left-result (Err fault) is gathered refused decided alone unchanged goes =
        inr (left-ungathered fault (refused file is) (λ cause has. decided file cause is has) alone (λ e list stands. unchanged (ap (λ f. Err f) e) file list is stands)
        (λ first own. goes file first is own))

  pub told-result : (d : DiskTold) (result : Result Gathered GatherFault) → IfOk result (IsGathered n text splits jobs items d) → IfOk result (IsToldBy n splits jobs items)
  told-result d (Ok g) h = record { first = h.first; events = h.events; told = told-gathered d g h }
  told-result d (Err fault) h = tt

  -- the same of what is written in place of what was gathered
  pub gathering-as : (old new : DiskTold) (status : Status) (Found Prints : List ℕ → Type 0) → ((t : List ℕ) → IsAllTold status → Found t → Prints t)
      → IsGatheringOf n text splits jobs items old new status Found → IsGatheringOf n text splits jobs items old new status Prints
  gathering-as old new status Found Prints to h = record {
    file = h.file;
    attached = h.attached;
    other = h.other;
    decided = h.decided;
    unchanged = h.unchanged;
    resumed = λ told.
        let from = h.resumed told in
        record { first = from.first; stands = from.stands; events = from.events; told = from.told; is_told = from.is_told; prints = to from.told told from.prints };
    own = λ first own.
        let goes = h.own first own in
        record {
          last = goes.last;
          begins = goes.begins;
          any_moment = goes.any_moment;
          acknowledged = goes.acknowledged;
          known = record {
            whole = λ told.
                let grown = goes.known.whole told in
                record { events = grown.events; told = grown.told; is_told = grown.is_told; prints = to grown.told told grown.prints; grown = grown.grown; held = grown.held };
            part = goes.known.part;
            same = goes.known.same;
            stands = goes.known.stands;
          };
        };
  }

-- ---- from what was gathered to what was written

module _ (files : Option Files) (w : Named) (b : Brought) (is : IsBrought files w.net w.jobs w.answers b) where
  abbrev network : Net
  network = net_of b.network

  abbrev items : List Item
  items = items_of b.files.items

  -- what is told of the jobs that were handed out is told of those of the text
  told-text : (g : Gathered) (first : List Entry) (events : List Event) → IsToldOf network b.handed.tree.kept.splits.list b.handed.jobs.items items first events (text_of network g)
      → IsToldOf network is.jobs_text.splits is.jobs_text.jobs items first events (text_of network g)
  told-text g first events h =
      subst (λ (js : List Job). IsToldOf network is.jobs_text.splits js items first events (text_of network g)) is.handed.jobs
      (subst (λ (xs : List Split). IsToldOf network xs b.handed.jobs.items items first events (text_of network g)) is.handed.splits h)

  gathering-text : (old new : DiskTold) (status : Status) (Prints : List ℕ → Type 0)
      → IsGatheringOf network (canonical_text b.network) b.handed.tree.kept.splits.list b.handed.jobs.items items old new status Prints
      → GatherJournaled files w old new status Prints
  gathering-text old new status Prints h = inr record {
    read = brought_read files w b is;
    gathering =
        subst (λ (js : List Job). IsGatheringOf network (canonical_text b.network) is.jobs_text.splits js items old new status Prints) is.handed.jobs
        (subst (λ (xs : List Split). IsGatheringOf network (canonical_text b.network) xs b.handed.jobs.items items old new status Prints) is.handed.splits h);
  }

  -- what was written answers
  pub took-told : (g : Gathered) → IsToldBy network b.handed.tree.kept.splits.list b.handed.jobs.items items g → (status : Status) (old new : Option (List ℕ))
      → Took (WritesAs network g) status old new → Took (GathersAs files w) status old new
  took-told g h status old new took =
      took-part (WritesAs network g) (GathersAs files w)
      (λ s t is_written.
      subst (λ (x : Status). GathersAs files w x t) (sym is_written.0)
      record {
        read = brought_read files w b is;
        first = h.first;
        events = h.events;
        told = subst (λ (u : List ℕ). IsToldOf network is.jobs_text.splits is.jobs_text.jobs items h.first h.events u) (sym is_written.1) (told-text g h.first h.events h.told);
      })
      (printed_by status) status old new took

  -- what is left of the journal, where all was told
  pub journaled-told : (g : Gathered) (old new : DiskTold) → IsLeft network (canonical_text b.network) b.handed.tree.kept.splits.list b.handed.jobs.items items old new (Ok g)
      → (status : Status) → IsAllTold status → (before after : Option (List ℕ)) → Took (WritesAs network g) status before after
      → GatherJournaled files w old new status (λ text. Took (λ _ t. t ≡ text) status before after)
  journaled-told g old new left status told before after took =
      gathering-text old new status (λ text. Took (λ _ t. t ≡ text) status before after)
      (gathering-as network (canonical_text b.network) b.handed.tree.kept.splits.list b.handed.jobs.items items old new status (λ t. t ≡ text_of network g)
      (λ text. Took (λ _ t. t ≡ text) status before after)
      (λ text _ e. took-part (WritesAs network g) (λ _ t. t ≡ text) (λ s t h. h.1 ∙ sym e) (printed_by status) status before after took) (left status told))

  -- and where nothing was gathered
  pub journaled-untold : (fault : GatherFault) (old new : DiskTold) → IsLeft network (canonical_text b.network) b.handed.tree.kept.splits.list b.handed.jobs.items items old new (Err fault)
      → (Prints : List ℕ → Type 0) → GatherJournaled files w old new (ungathered_status fault) Prints
  journaled-untold fault old new (inl none) Prints = inl none
  journaled-untold fault old new (inr h) Prints =
      gathering-text old new (ungathered_status fault) Prints
      (gathering-as network (canonical_text b.network) b.handed.tree.kept.splits.list b.handed.jobs.items items old new (ungathered_status fault) (λ _. ⊥) Prints
      (λ text told none. absurd none) h)
