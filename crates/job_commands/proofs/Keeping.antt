-- From a journal that is recovered to the jobs that are printed of it.
use Rattle.std.proofs.Common.{◌≡◌, ◌≢◌, ◌⊎◌, inl, inr, ℕ, ◌<◌, ◌≤◌, ◌^◌, List, [], ◌∷◌, ◌++◌, length, map, Option, Some, Ok, Err, refl, sym, ap, subst, ◌∙◌, arith}
use Rattle.std.proofs.lemmas.List.{append-nil, length-map, length-take}
use Rattle.std.proofs.Math.ListN.{length-append}
use Rattle.disk_calls.specs.Disks.{DiskTold, LeavesOnly}
use Rattle.disk_calls.proofs.Moments.{leaves-weaker}
use Rattle.edge_io.specs.Writing.{behind}
use Rattle.pool_model.specs.Network.{Net, Network, counts_of, net_of}
use Rattle.row_model.specs.Trees.{Split, Tree}
use Rattle.row_model.specs.Entries.{Entry, Searched, made_by}
use Rattle.box_space.specs.Views.{shown_split}
use Rattle.box_tree.specs.Kept.{Held, IsOf, searched_of}
use Rattle.network_text.specs.Canonical.{canonical_text}
use Rattle.journal_format.specs.Records.{Place}
use Rattle.journal_format.specs.declared.fault.JournalFault.TheVariants as journal_faults
use Rattle.node_journal.specs.Settled.{IsQuiet}
use Rattle.recorded_run.specs.Recorded.{BeginsWith, IsBetween, IsCause, IsFreeFault, IsLeftAlone, IsNetworksOwn, IsRecorded, IsRecovered, StandsNow}
use Rattle.recorded_run.specs.declared.fault.RunFault.{RunFault}
use Rattle.recorded_run.specs.declared.fault.RunFault.TheVariants as faults
use Rattle.recorded_run.proofs.Recording.{recorded-ends, recovered-held}
use Rattle.journal_status.specs.JournalEnds.{IsJournalCause, fault_status}
use Rattle.journal_status.proofs.Attaching.{behind-attach}
use Rattle.journal_status.proofs.Causes.{attached-fault, attached-sound}
use Rattle.journal_status.proofs.Faults.{memory_fault_is}
use Rattle.work_units.specs.Units as units
use Rattle.work_units.specs.Handed.{AreFirstJobs}
use Rattle.work_units.specs.declared.job.Job as job
use Rattle.box_space.specs.declared.coordinates.Split as split
use Rattle.job_texts.specs.Texts.{Jobs, jobs_text}
use Rattle.job_texts.specs.Views.{shown_jobs}
use Rattle.job_texts.specs.declared.jobs.JobsText.{JobsText}
use Rattle.job_trees.specs.Fitting.{Fits}
use Rattle.job_work.proofs.OnLeaves.{first-on-leaves}
use Rattle.run_status.specs.Reads.{Files, ReadsSome, ReadsUnder}
use Rattle.run_status.specs.declared.status.Status.{Status}
use Rattle.run_status.specs.declared.status.Status.TheVariants as statuses
use Rattle.job_commands.specs.Handed.{IsWritten}
use Rattle.job_commands.specs.JobsEnds.{AreJobsOf, JobsEnds}
use Rattle.job_commands.specs.Kept.{ArePrintedOf, IsAttachedFor, IsOpened, JobsJournaled}

-- ---- the jobs on a tree

-- the jobs on a tree that is made of entries are jobs of these
pub tree-jobs : (n : Net) (count : ℕ) (tree : Held) (t : JobsText) → IsOf n tree → t.shape ≡ counts_of n → map shown_split t.splits.items ≡ tree.kept.splits.list
    → units.AreJobs tree.kept.splits.list t.jobs.items → AreFirstJobs n (searched_of tree.kept).tree count t.jobs.items
    → (list : List Entry) → searched_of tree.kept ≡ made_by list → AreJobsOf n count list (shown_jobs t)
tree-jobs n count tree t is shape splits are first list made = record {
  shape = shape;
  splits = splits ∙ ap (λ (s : Searched). s.tree.splits) made;
  first = subst (λ (s : Searched). AreFirstJobs n s.tree count t.jobs.items) made first;
  fits = subst (λ (xs : List Split). Fits n record { shape = t.shape; splits = xs; jobs = t.jobs.items }) (sym splits) record {
    shape = shape;
    in_order = is.kept.searched.tree.splits;
    few = is.kept.searched.tree.few;
    numbered = are.numbered;
    leaves = first-on-leaves n (searched_of tree.kept).tree count t.jobs.items first;
    apart = are.apart;
  };
}

-- there are no more of them than were asked for
pub few-jobs : (n : Net) (tree : Tree) (count : ℕ) (jobs : List job.Job) → AreFirstJobs n tree count jobs → length jobs ≤ count
few-jobs n tree count jobs is =
    omega (arith, is.each.many, ap (λ (xs : List ℕ). length xs) is.first.first, length-take count is.first.all)

-- the splits of a tree can be counted in 32 bits
pub few-splits : (n : Net) (tree : Held) (xs : List split.Split) → IsOf n tree → map shown_split xs ≡ tree.kept.splits.list → length xs < 2 ^ 32
few-splits n tree xs is same =
    omega (arith, is.kept.searched.tree.few, ap (λ (ys : List Split). length ys) same, length-map xs shown_split)

-- ---- what a crash leaves

no-rest : (r : List Entry) → length r ≡ 0 → r ≡ []
no-rest [] e = refl
no-rest (x ∷ xs) e = absurd (omega arith)

-- two lists that begin with each other are one
same-list : (xs ys : List Entry) → BeginsWith xs ys → BeginsWith ys xs → xs ≡ ys
same-list xs ys b c =
    let none : b.0 ≡ [] = no-rest b.0 (omega (arith, ap (λ (l : List Entry). length l) b.1, ap (λ (l : List Entry). length l) c.1, length-append ys b.0, length-append xs c.0)) in
    b.1 ∙ ap (λ (l : List Entry). ys ++ l) none ∙ append-nil ys

-- a file between a list and itself is the network's own for that list
kept-moments : (n : Net) (text : List ℕ) (list : List Entry) (old new : DiskTold) → LeavesOnly old new (λ c. old.may_leave c ⊎ IsBetween n text list list c)
    → LeavesOnly old new (λ c. old.may_leave c ⊎ IsNetworksOwn n text list c)
kept-moments n text list old new leaves =
    let P : List ℕ → Type 0 = λ c. old.may_leave c ⊎ IsBetween n text list list c in
    let Q : List ℕ → Type 0 = λ c. old.may_leave c ⊎ IsNetworksOwn n text list c in
    leaves-weaker old new P Q (λ c h. elim h [
      | inl before ↦ inl before
      | inr at ↦ inr (subst (λ (l : List Entry). IsNetworksOwn n text l c) (same-list at.list list at.begins at.goes_on) at.own)
    ]) leaves

-- ---- a file that was read

pub fault-not-written : (fault : RunFault) → ¬ IsWritten (fault_status fault)
fault-not-written (faults.Journal journal_faults.Disk) h = h
fault-not-written (faults.Journal journal_faults.NotAJournal) h = h
fault-not-written (faults.Journal (journal_faults.UnknownVersion version)) h = h
fault-not-written (faults.Journal journal_faults.OtherNetwork) h = h
fault-not-written (faults.Journal (journal_faults.BadRecord number)) h = h
fault-not-written (faults.Journal journal_faults.Memory) h = h
fault-not-written (faults.OutOfOrder number) h = h

fault-not-done : (fault : RunFault) → fault_status fault ≢ statuses.Done
fault-not-done fault e = fault-not-written fault (subst IsWritten (sym e) tt)

module _ (n : Net) (text : List ℕ) (count : ℕ) (file : List ℕ) (old mid new : DiskTold) (image : old.may_leave file) (noted : new.attached ≡ old.attached ++ file ∷ [])
    (attach : IsQuiet old mid) where
  -- what recovering the journal behind the attach leaves of an own file
  abbrev Leaves : Type 0
  Leaves = (list : List Entry) → IsNetworksOwn n text list file → LeavesOnly mid new (λ c. mid.may_leave c ⊎ IsBetween n text list list c)

  moments : Leaves → (list : List Entry) → IsNetworksOwn n text list file → LeavesOnly old new (λ c. old.may_leave c ⊎ IsNetworksOwn n text list c)
  moments leaves list own = kept-moments n text list old new (behind-attach old mid new (IsBetween n text list list) attach (leaves list own))

  -- no jobs were made
  pub attached-unmade : (fault : RunFault) (Prints : Jobs → Type 0) → IsFreeFault fault ⊎ IsCause n text file fault
      → ((cause : RunFault) → IsCause n text file cause → IsFreeFault fault ⊎ (fault ≡ cause)) → IsLeftAlone fault (IsQuiet mid new) → Leaves
      → (fault ≡ faults.Journal journal_faults.Memory → (list : List Entry) → IsNetworksOwn n text list file → StandsNow n text list new)
      → IsAttachedFor n text count old new (fault_status fault) Prints
  attached-unmade fault Prints refused decided alone leaves kept = record {
    file = file;
    attached = attached-fault n text file old mid new image noted attach fault refused decided alone;
    handed = λ e. absurd (fault-not-done fault e);
    own = λ list own. record {
      any_moment = moments leaves list own;
      held = λ w. absurd (fault-not-written fault w);
      stands = λ e. kept (memory_fault_is fault e) list own;
      printed = λ e. absurd (fault-not-done fault e);
    };
  }

  -- jobs were made of the tree that was recovered
  pub attached-made : (place : Place) (s : Searched) (j : Jobs) (Prints : Jobs → Type 0) → mid.reads ≡ Some file → ((cause : RunFault) → ¬ IsCause n text file cause)
      → IsRecovered n text place s mid new → ((list : List Entry) → s ≡ made_by list → AreJobsOf n count list j) → Prints j → Leaves
      → IsAttachedFor n text count old new statuses.Done Prints
  attached-made place s j Prints is sound found are prints leaves = record {
    file = file;
    attached = attached-sound n text file old mid new image noted statuses.Done (λ r. r) sound;
    handed = λ e. record { list = found.first; stands = found.stands file is; in_order = found.in_order; printed = (j, are found.first found.made, prints) };
    own = λ list own.
        let held : IsRecorded n text list place s new = recovered-held n text list place s file mid new found is own.stands in
        let ends = recorded-ends n text list place s new held in
        record {
          any_moment = moments leaves list own;
          held = λ w. record { file = ends.file; on_disk = ends.on_disk; own = ends.own };
          stands = λ e. absurd (cc);
          printed = λ e. (j, are list held.made, prints);
        };
  }

-- ---- from jobs that were made to what was printed

module _ (n : Net) (text : List ℕ) (count : ℕ) (old new : DiskTold) (Found Prints : Jobs → Type 0) where
  printed-as : (list : List Entry) → ((j : Jobs) → Found j → Prints j) → ArePrintedOf n count list Found → ArePrintedOf n count list Prints
  printed-as list to p = (p.0, p.1, to p.0 p.2)

  -- the same of what is printed in place of what was made
  attached-as : (status : Status) → IsAttachedFor n text count old new status Found → (status ≡ statuses.Done → (j : Jobs) → Found j → Prints j)
      → IsAttachedFor n text count old new status Prints
  attached-as status at prints = record {
    file = at.file;
    attached = at.attached;
    handed = λ e. let from = at.handed e in record { list = from.list; stands = from.stands; in_order = from.in_order; printed = printed-as from.list (prints e) from.printed };
    own = λ list own.
        let run = at.own list own in
        record { any_moment = run.any_moment; held = run.held; stands = run.stands; printed = λ e. printed-as list (prints e) (run.printed e) };
  }

  -- jobs were made, and the sink failed
  attached-cut : IsAttachedFor n text count old new statuses.Done Found → IsAttachedFor n text count old new statuses.WriteFault Prints
  attached-cut at = record {
    file = at.file;
    attached = record {
      image = at.attached.image;
      found = at.attached.found;
      caused = λ r. absurd r;
      decided = λ cause has. elim (at.attached.decided cause has) [
        | inl is ↦ absurd (subst (λ (s : Status). IsJournalCause n text at.file s) (sym is) has)
        | inr failed ↦ absurd failed
      ];
      taken = λ list stands are r. r;
      untouched = λ foreign. absurd foreign;
    };
    handed = λ e. absurd (cc);
    own = λ list own.
        let run = at.own list own in
        record { any_moment = run.any_moment; held = λ w. run.held tt; stands = λ e. absurd (cc); printed = λ e. absurd (cc) };
  }

module _ (files : Option Files) (net : List ℕ) (count : ℕ) (network : Network) (reads : ReadsUnder files net network) (old new : DiskTold) where
  pub journaled-done : (t : JobsText) (before after : Option (List ℕ)) → IsOpened (net_of network) (canonical_text network) count old new (Ok t) → after ≡ behind before (jobs_text (shown_jobs t))
      → JobsJournaled files net count old new statuses.Done (λ j. after ≡ behind before (jobs_text j))
  journaled-done t before after (inl none) printed = absurd none.unopened
  journaled-done t before after (inr at) printed = inr record {
    network = network;
    reads = reads;
    attached = attached-as (net_of network) (canonical_text network) count old new (λ j. shown_jobs t ≡ j) (λ j. after ≡ behind before (jobs_text j)) statuses.Done at
        (λ e j same. subst (λ (k : Jobs). after ≡ behind before (jobs_text k)) same printed);
  }

  pub journaled-cut : (t : JobsText) (Prints : Jobs → Type 0) → IsOpened (net_of network) (canonical_text network) count old new (Ok t)
      → JobsJournaled files net count old new statuses.WriteFault Prints
  journaled-cut t Prints (inl none) = absurd none.unopened
  journaled-cut t Prints (inr at) = inr record {
    network = network;
    reads = reads;
    attached = attached-cut (net_of network) (canonical_text network) count old new (λ j. shown_jobs t ≡ j) Prints at;
  }

  pub journaled-fault : (fault : RunFault) (Prints : Jobs → Type 0) → IsOpened (net_of network) (canonical_text network) count old new (Err fault)
      → JobsJournaled files net count old new (fault_status fault) Prints
  journaled-fault fault Prints (inl none) = inl none
  journaled-fault fault Prints (inr at) = inr record {
    network = network;
    reads = reads;
    attached = attached-as (net_of network) (canonical_text network) count old new (λ j. ⊥) Prints (fault_status fault) at (λ e j none. absurd none);
  }

-- ---- when each status comes

-- it ended at the journal of a network that was read, or memory ran out
pub fault-ends : (files : Option Files) (net : List ℕ) (before after : ℕ) (fault : RunFault) → ReadsSome files net → JobsEnds files net before after (fault_status fault)
fault-ends files net before after (faults.Journal journal_faults.Disk) reads = reads
fault-ends files net before after (faults.Journal journal_faults.NotAJournal) reads = reads
fault-ends files net before after (faults.Journal (journal_faults.UnknownVersion version)) reads = reads
fault-ends files net before after (faults.Journal journal_faults.OtherNetwork) reads = reads
fault-ends files net before after (faults.Journal (journal_faults.BadRecord number)) reads = reads
fault-ends files net before after (faults.Journal journal_faults.Memory) reads = tt
fault-ends files net before after (faults.OutOfOrder number) reads = reads
