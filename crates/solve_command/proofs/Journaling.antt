-- A run with a journal: from what the search with it leaves to what the program leaves.
use Rattle.std.proofs.Common.{◌≡◌, ◌⊎◌, inl, inr, ℕ, List, [], ◌∷◌, ◌++◌, length, Option, Some, Ok, Err, refl, sym, subst, ◌∙◌}
use Rattle.disk_calls.specs.Disks.{DiskTold}
use Rattle.edge_io.specs.Writing.{behind}
use Rattle.pool_model.specs.Network.{Net, Network, IsLimited, net_of}
use Rattle.row_model.specs.Entries.{Entry, Searched, made_by, AreInOrder}
use Rattle.cert_format.specs.Cert.{Cert}
use Rattle.cert_format.specs.Valid.{IsValid}
use Rattle.cert_format.specs.Views.{shown_cert}
use Rattle.cert_format.specs.Text.{text_of}
use Rattle.cli_words.specs.Requests.{Solving}
use Rattle.network_text.specs.Canonical.{canonical_text}
use Rattle.cert_lengths.specs.Lengths.{HasFewRows}
use Rattle.cert_lengths.proofs.ValidTexts.{few_rows-grown}
use Rattle.tree_certificate.specs.Certificates.{cert_of}
use Rattle.journal_format.specs.declared.fault.JournalFault.TheVariants as journal_faults
use Rattle.journal_format.proofs.OwnFiles.{one_standing}
use Rattle.node_journal.specs.Settled.{IsQuiet}
use Rattle.search_run.specs.Runs.{IsRun}
use Rattle.search_run.specs.Found.{IsFound}
use Rattle.search_run.specs.declared.orders.Orders.{Orders}
use Rattle.search_core.specs.declared.ended.Ended.{Ended}
use Rattle.search_core.specs.declared.ended.Ended.TheVariants as ends
use Rattle.recorded_run.specs.Recorded.{BeginsWith, IsBetween, IsCause, IsFreeFault, IsLeftAlone, IsNetworksOwn, StandsNow, Ends}
use Rattle.recorded_run.specs.Acknowledged.{KeepsAcknowledged}
use Rattle.recorded_run.specs.Sessions.{IsResumed, IsRunFrom}
use Rattle.recorded_run.specs.declared.fault.RunFault.{RunFault}
use Rattle.recorded_run.specs.declared.fault.RunFault.TheVariants as faults
use Rattle.recorded_run.proofs.Acknowledging.{behind-keeps}
use Rattle.journal_status.specs.JournalEnds.{IsJournalRefused, IsFailed, IsUnopened, HoldsOnDisk, fault_status}
use Rattle.journal_status.proofs.Attaching.{behind-attach}
use Rattle.journal_status.proofs.Causes.{attached-fault, attached-sound, cause-fault}
use Rattle.journal_status.proofs.Faults.{memory_fault_is}
use Rattle.solve_command.specs.Journaled.{IsPrintOf, IsAttached, Journaled}
use Rattle.run_status.specs.Reads.{Files, ReadsUnder}
use Rattle.solve_command.specs.Recorded.{IsOpened}
use Rattle.solve_command.specs.Solution.{status_of}
use Rattle.solve_command.specs.SolveEnds.{EndsWith, IsEnded, IsPrinted, IsWithinBudget, orders_of}
use Rattle.solve_command.specs.declared.solution.Solution.{Solution}
use Rattle.run_status.specs.declared.status.Status.{Status}
use Rattle.run_status.specs.declared.status.Status.TheVariants as statuses
use Rattle.solve_command.proofs.Resuming.{no_worse}
use Rattle.solve_command.proofs.Solutions.{solved-from}

-- a search that ended is neither refused nor failed
ended-not-refused : (ended : Ended) → ¬ IsJournalRefused (status_of ended)
ended-not-refused ends.Closed h = h
ended-not-refused ends.Stopped h = h
ended-not-refused ends.Stuck h = h
ended-not-refused ends.Infeasible h = h
ended-not-refused ends.Undecided h = h

ended-not-failed : (ended : Ended) → ¬ IsFailed (status_of ended)
ended-not-failed ends.Closed h = h
ended-not-failed ends.Stopped h = h
ended-not-failed ends.Stuck h = h
ended-not-failed ends.Infeasible h = h
ended-not-failed ends.Undecided h = h

ended-not-unopened : (ended : Ended) → ¬ IsUnopened (status_of ended)
ended-not-unopened ends.Closed h = h
ended-not-unopened ends.Stopped h = h
ended-not-unopened ends.Stuck h = h
ended-not-unopened ends.Infeasible h = h
ended-not-unopened ends.Undecided h = h

ended-whole : (ended : Ended) → IsEnded (status_of ended)
ended-whole ends.Closed = tt
ended-whole ends.Stopped = tt
ended-whole ends.Stuck = tt
ended-whole ends.Infeasible = tt
ended-whole ends.Undecided = tt

-- ---- a file that was read

-- what is printed of a search that went on from these entries
print-from : (n : Net) (o : Orders) (first : List Entry) → IsLimited n → AreInOrder n first → (found : Searched) (ended : Ended) (Prints : Cert → Type 0)
    → IsRun n o (made_by first) found ended → IsFound n o (made_by first) found ended → IsValid n (cert_of n found) → Prints (cert_of n found)
    → IsPrintOf n o (made_by first) found (status_of ended) Prints
print-from n o first limited are found ended Prints run search valid prints = record {
  prints = prints;
  solution = solved-from n o (made_by first) found ended (cert_of n found) limited run search refl valid;
  grown = search.grown;
  no_worse = no_worse n limited o first found ended are run;
}

-- what is printed of the last list
module _ (n : Net) (text : List ℕ) (o : Orders) (first : List Entry) (file : List ℕ) (limited : IsLimited n) (own : IsNetworksOwn n text first file) where
  print-of : (mid : DiskTold) (found : Searched) (ended : Ended) (last : List Entry) (Prints : Cert → Type 0) → mid.reads ≡ Some file → IsResumed n o text mid found ended → found ≡ made_by last
      → IsValid n (cert_of n found) → Prints (cert_of n found) → IsPrintOf n o (made_by first) (made_by last) (status_of ended) Prints
  print-of mid found ended last Prints is resumed made valid prints =
      let same = one_standing file text resumed.first first (resumed.stands file is) own.stands in
      let run : IsRun n o (made_by first) found ended = subst (λ (l : List Entry). IsRun n o (made_by l) found ended) same resumed.run in
      let search : IsFound n o (made_by first) found ended = subst (λ (l : List Entry). IsFound n o (made_by l) found ended) same resumed.search in
      subst (λ (s : Searched). IsPrintOf n o (made_by first) s (status_of ended) Prints) made (print-from n o first limited own.in_order found ended Prints run search valid prints)

  ends-holds : (last : List Entry) (s : Searched) (d : DiskTold) → Ends n text last s d → HoldsOnDisk n text last d
  ends-holds last s d at = record { file = at.file; on_disk = at.on_disk; own = at.own }

fault-not-ended : (fault : RunFault) → ¬ IsPrinted (fault_status fault)
fault-not-ended (faults.Journal journal_faults.Disk) h = h
fault-not-ended (faults.Journal journal_faults.NotAJournal) h = h
fault-not-ended (faults.Journal (journal_faults.UnknownVersion version)) h = h
fault-not-ended (faults.Journal journal_faults.OtherNetwork) h = h
fault-not-ended (faults.Journal (journal_faults.BadRecord number)) h = h
fault-not-ended (faults.Journal journal_faults.Memory) h = h
fault-not-ended (faults.OutOfOrder number) h = h

ended-printed : (status : Status) → IsEnded status → IsPrinted status
ended-printed statuses.Closed h = tt
ended-printed statuses.Stopped h = tt
ended-printed statuses.Stuck h = tt
ended-printed statuses.Infeasible h = tt
ended-printed statuses.Undecided h = tt
ended-printed status h = absurd h

module _ (n : Net) (text : List ℕ) (o : Orders) (file : List ℕ) (old mid new : DiskTold) (image : old.may_leave file) (found_is : new.attached ≡ old.attached ++ file ∷ [])
    (attach : IsQuiet old mid) where
  -- what the run behind the attach leaves of an own file
  abbrev Goes : List Entry → (List Entry → Type 0) → Type 0
  Goes first IsKnown = IsRunFrom n text o first mid new IsKnown

  goes-keeps : (first : List Entry) (IsKnown : List Entry → Type 0) (goes : Goes first IsKnown) → KeepsAcknowledged n text first goes.last old new
  goes-keeps first IsKnown goes = behind-keeps n text first goes.last old mid new attach goes.begins goes.any_moment goes.acknowledged

  goes-few : (first : List Entry) (IsKnown : List Entry → Type 0) (goes : Goes first IsKnown) → HasFewRows n o.nodes → HasFewRows n (length (made_by first).tree.splits)
      → (list : List Entry) → BeginsWith goes.last list → HasFewRows n (length (made_by list).tree.splits)
  goes-few first IsKnown goes asked there list begins =
      few_rows-grown n (length (made_by list).tree.splits) o.nodes (length (made_by first).tree.splits) (goes.known.0 list begins) asked there

  abbrev Attached : Status → (Cert → Type 0) → Type 0
  Attached status Prints = IsAttached n text o old new status Prints

  -- the run gave no answer
  pub attached-unsolved : (fault : RunFault) (Prints : Cert → Type 0) → IsFreeFault fault ⊎ IsCause n text file fault →
      ((cause : RunFault) → IsCause n text file cause → IsFreeFault fault ⊎ (fault ≡ cause))
      → IsLeftAlone fault (IsQuiet mid new) →
      ((first : List Entry) → IsNetworksOwn n text first file → Goes first (λ last. fault ≡ faults.Journal journal_faults.Memory → StandsNow n text last new)) →
      Attached (fault_status fault) Prints
  attached-unsolved fault Prints refused decided alone own =
      let status = fault_status fault in
      record {
        file = file;
        attached = attached-fault n text file old mid new image found_is attach fault refused decided alone;
        resumed = λ ended. absurd (fault-not-ended fault (ended-printed status ended));
        own = λ first is.
            let goes = own first is in
            record {
              last = goes.last;
              begins = goes.begins;
              any_moment = behind-attach old mid new (IsBetween n text first goes.last) attach goes.any_moment;
              acknowledged = goes-keeps first _ goes;
              few = goes-few first _ goes;
              held = λ printed. absurd (fault-not-ended fault printed);
              stands = λ memory. goes.known.1 (memory_fault_is fault memory);
              printed = λ ended. absurd (fault-not-ended fault (ended-printed status ended));
            };
      }

  -- the run came to its end
  pub attached-solved : (limited : IsLimited n) (found : Searched) (ended : Ended) (Prints : Cert → Type 0) → mid.reads ≡ Some file → ((cause : RunFault) → ¬ IsCause n text file cause)
      → IsResumed n o text mid found ended → IsValid n (cert_of n found) → Prints (cert_of n found)
      → ((first : List Entry) → IsNetworksOwn n text first file → Goes first (λ last. Ends n text last found new)) → Attached (status_of ended) Prints
  attached-solved limited found ended Prints is sound resumed valid prints own = record {
    file = file;
    attached = attached-sound n text file old mid new image found_is (status_of ended) (ended-not-refused ended) sound;
    resumed = λ whole. record {
      first = resumed.first;
      stands = resumed.stands file is;
      in_order = resumed.in_order;
      found = found;
      print = print-from n o resumed.first limited resumed.in_order found ended Prints resumed.run resumed.search valid prints;
    };
    own = λ first at.
        let goes = own first at in
        record {
          last = goes.last;
          begins = goes.begins;
          any_moment = behind-attach old mid new (IsBetween n text first goes.last) attach goes.any_moment;
          acknowledged = goes-keeps first _ goes;
          few = goes-few first _ goes;
          held = λ printed. ends-holds n text o first file limited at goes.last found new goes.known.1;
          stands = λ memory. absurd (ended-not-failed ended (subst IsFailed (sym memory) tt));
          printed = λ whole. print-of n text o first file limited at mid found ended goes.last Prints is resumed goes.known.1.made valid prints;
        };
  }

-- ---- from what was found to what was printed

module _ (n : Net) (text : List ℕ) (o : Orders) (old new : DiskTold) (Found Prints : Cert → Type 0) where
  print-as : (begun found : Searched) (status : Status) → (IsEnded status → (c : Cert) → Found c → Prints c) → IsEnded status → IsPrintOf n o begun found status Found
      → IsPrintOf n o begun found status Prints
  print-as begun found status prints whole print = record {
    prints = prints whole (cert_of n found) print.prints;
    solution = print.solution;
    grown = print.grown;
    no_worse = print.no_worse;
  }

  -- the same of what is printed in place of what was found
  attached-as : (status : Status) → IsAttached n text o old new status Found → (IsEnded status → (c : Cert) → Found c → Prints c) →
      IsAttached n text o old new status Prints
  attached-as status at prints = record {
    file = at.file;
    attached = at.attached;
    resumed = λ whole.
        let from = at.resumed whole in
        record {
          first = from.first;
          stands = from.stands;
          in_order = from.in_order;
          found = from.found;
          print = print-as (made_by from.first) from.found status prints whole from.print;
        };
    own = λ first is.
        let run = at.own first is in
        record {
          last = run.last;
          begins = run.begins;
          any_moment = run.any_moment;
          acknowledged = run.acknowledged;
          few = run.few;
          held = run.held;
          stands = run.stands;
          printed = λ whole. print-as (made_by first) (made_by run.last) status prints whole (run.printed whole);
        };
  }

  -- the search ended so, and the sink failed
  attached-cut : (ended : Ended) → IsAttached n text o old new (status_of ended) Found → IsAttached n text o old new statuses.WriteFault Prints
  attached-cut ended at = record {
    file = at.file;
    attached = record {
      image = at.attached.image;
      found = at.attached.found;
      caused = λ r. absurd r;
      decided = λ cause has. elim (at.attached.decided cause has) [
        | inl is ↦ let fault = cause-fault n text at.file cause has in absurd (fault-not-ended fault.0 (subst IsPrinted (is ∙ sym fault.1) (ended-printed (status_of ended) (ended-whole ended))))
        | inr failed ↦ absurd (ended-not-failed ended failed)
      ];
      taken = λ list stands are r. r;
      untouched = λ foreign. absurd foreign;
    };
    resumed = λ whole. absurd whole;
    own = λ first is.
        let run = at.own first is in
        record {
          last = run.last;
          begins = run.begins;
          any_moment = run.any_moment;
          acknowledged = run.acknowledged;
          few = run.few;
          held = λ printed. run.held (ended-printed (status_of ended) (ended-whole ended));
          stands = λ memory. absurd (cc);
          printed = λ whole. absurd whole;
        };
  }

-- what is printed of a solution
module _ (files : Option Files) (s : Solving) (network : Network) (read : ReadsUnder files s.net network) (within : IsWithinBudget (net_of network) s.nodes s.raise)
    (old new : DiskTold) (before after : Option (List ℕ)) where
  abbrev Prints : Cert → Type 0
  Prints c = after ≡ behind before (text_of c)

  pub journaled-printed : (solution : Solution) (status : Status) → EndsWith (status_of solution.ended) status → (IsEnded status → Prints (shown_cert solution.certificate))
      → IsOpened (net_of network) (canonical_text network) (orders_of s) old new (Ok solution) → Journaled files s old new status Prints
  journaled-printed solution status ends whole (inl none) = absurd (ended-not-unopened solution.ended none.unopened)
  journaled-printed solution status (inl e) whole (inr at) = inr record {
    network = network;
    read = read;
    within = within;
    attached = subst (λ (t : Status). IsAttached (net_of network) (canonical_text network) (orders_of s) old new t Prints) (sym e)
        (attached-as (net_of network) (canonical_text network) (orders_of s) old new (λ c. shown_cert solution.certificate ≡ c) Prints (status_of solution.ended) at
        (λ ended c found. subst Prints found (whole (subst IsEnded (sym e) ended))));
  }
  journaled-printed solution status (inr e) whole (inr at) = inr record {
    network = network;
    read = read;
    within = within;
    attached = subst (λ (t : Status). IsAttached (net_of network) (canonical_text network) (orders_of s) old new t Prints) (sym e)
        (attached-cut (net_of network) (canonical_text network) (orders_of s) old new (λ c. shown_cert solution.certificate ≡ c) Prints solution.ended at);
  }

  pub journaled-unsolved : (fault : RunFault) → IsOpened (net_of network) (canonical_text network) (orders_of s) old new (Err fault)
      → Journaled files s old new (fault_status fault) Prints
  journaled-unsolved fault (inl none) = inl none
  journaled-unsolved fault (inr at) = inr record {
    network = network;
    read = read;
    within = within;
    attached = attached-as (net_of network) (canonical_text network) (orders_of s) old new (λ c. ⊥) Prints (fault_status fault) at (λ ended c found. absurd found);
  }
