-- What the told files decide of `solve`.
use Rattle.std.proofs.Common.{◌≡◌, ℕ, inl, inr, Option, Some, refl, subst}
use Rattle.pool_model.specs.Network.{Network, net_of}
use Rattle.cli_words.specs.Requests.{Solving}
use Rattle.pool_model.specs.Plan.{plan_of}
use Rattle.pool_model.specs.Claim.{HasNoPlan}
use Rattle.search_run.specs.Found.{HasNoStart}
use Rattle.run_status.specs.Reads.{Files, ReadsUnder}
use Rattle.journal_status.specs.JournalEnds.{IsJournalEnd}
use Rattle.solve_command.specs.SolveEnds.{IsPlanned, IsPrinted, IsWithinBudget, JournalUnder, NoPlanUnder, NoStartUnder, OverUnder}
use Rattle.solve_command.specs.SolveEnds.{SolveDecided, SolveEnds, StartUnder, WithinUnder}
use Rattle.run_status.specs.declared.status.Status.{Status}
use Rattle.run_status.specs.declared.status.Status.TheVariants as statuses
use Rattle.run_status.proofs.Networks.{one_network, refused_unread}

module _ (told : Files) (s : Solving) where
  same_net : (n m : Network) → ReadsUnder (Some told) s.net n → ReadsUnder (Some told) s.net m → n ≡ m
  same_net n m = one_network told s.net n m

  not_over : WithinUnder (Some told) s → OverUnder (Some told) s → ⊥
  not_over h o = o.over (subst (λ n. IsWithinBudget (net_of n) s.nodes s.raise) (same_net h.network o.network h.reads o.reads) h.within)

  within_decides : (status : Status) → WithinUnder (Some told) s → IsPrinted status → (StartUnder (Some told) s → IsPlanned status) → SolveDecided told s status
  within_decides status h printed planned = record {
    no_network = λ none. absurd (none h.network h.reads);
    over_budget = λ o. absurd (not_over h o);
    within_budget = λ w. inl printed;
    some_start = λ f. inl (planned f);
  }

  -- the run ended at the journal
  journal_decides : (status : Status) → JournalUnder (Some told) s → IsJournalEnd status → SolveDecided told s status
  journal_decides status h ends = record {
    no_network = λ none. absurd (none h.solvable.network h.solvable.reads);
    over_budget = λ o. absurd (not_over h.solvable o);
    within_budget = λ w. inr (inr (ends, (h.journal, h.named)));
    some_start = λ f. inr (inr (ends, (h.journal, h.named)));
  }

  no_plan_starts : NoPlanUnder (Some told) s → StartUnder (Some told) s → ⊥
  no_plan_starts h f =
      subst (λ n. HasNoPlan (net_of n)) (same_net h.solvable.network f.solvable.network h.solvable.reads f.solvable.reads) h.none (plan_of (net_of f.solvable.network) f.plan) f.obeys

  none_starts : NoStartUnder (Some told) s → StartUnder (Some told) s → ⊥
  none_starts h f =
      subst (λ n. HasNoStart (net_of n)) (same_net h.solvable.network f.solvable.network h.solvable.reads f.solvable.reads) h.none f.plan f.starting f.obeys

  decided_solve : (before after : ℕ) (status : Status) → SolveEnds (Some told) s before after status → SolveDecided told s status
  decided_solve before after statuses.Closed h = within_decides statuses.Closed h tt (λ f. tt)
  decided_solve before after statuses.Stopped h = within_decides statuses.Stopped h tt (λ f. tt)
  decided_solve before after statuses.Stuck h = within_decides statuses.Stuck h tt (λ f. tt)
  decided_solve before after statuses.Infeasible h = within_decides statuses.Infeasible h.solvable tt (λ f. absurd (no_plan_starts h f))
  decided_solve before after statuses.Undecided h = within_decides statuses.Undecided h.solvable tt (λ f. absurd (none_starts h f))
  decided_solve before after statuses.WriteFault h = within_decides statuses.WriteFault h tt (λ f. tt)
  decided_solve before after statuses.BudgetTooLarge h = record {
    no_network = λ none. absurd (none h.network h.reads);
    over_budget = λ o. inl refl;
    within_budget = λ w. absurd (not_over w h);
    some_start = λ f. absurd (not_over f.solvable h);
  }
  decided_solve before after (statuses.NetworkRefused cause) h = record {
    no_network = λ none. inl tt;
    over_budget = λ o. absurd (refused_unread told s.net cause o.network h.own (h.told told refl) o.reads);
    within_budget = λ w. absurd (refused_unread told s.net cause w.network h.own (h.told told refl) w.reads);
    some_start = λ f. absurd (refused_unread told s.net cause f.solvable.network h.own (h.told told refl) f.solvable.reads);
  }
  decided_solve before after statuses.ReadFault h = record { no_network = λ none. inr tt; over_budget = λ o. inr tt; within_budget = λ w. inr (inl tt); some_start = λ f. inr (inl tt) }
  decided_solve before after statuses.OutOfMemory h = record { no_network = λ none. inr tt; over_budget = λ o. inr tt; within_budget = λ w. inr (inl tt); some_start = λ f. inr (inl tt) }
  decided_solve before after statuses.DiskFault h = journal_decides statuses.DiskFault h tt
  decided_solve before after statuses.OtherNetwork h = journal_decides statuses.OtherNetwork h tt
  decided_solve before after (statuses.BadJournal number) h = journal_decides (statuses.BadJournal number) h tt
  decided_solve before after (statuses.UnknownVersion version) h = journal_decides (statuses.UnknownVersion version) h tt
  decided_solve before after statuses.NotAJournal h = journal_decides statuses.NotAJournal h tt
  decided_solve before after status h = absurd h

pub solve_decided : (files : Option Files) (told : Files) (s : Solving) (before after : ℕ) (status : Status) → files ≡ Some told → SolveEnds files s before after status → SolveDecided told s status
solve_decided files told s before after status is h = decided_solve told s before after status (subst (λ f. SolveEnds f s before after status) is h)
