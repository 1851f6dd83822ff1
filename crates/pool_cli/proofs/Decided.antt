-- What the told files decide of a run, by how it ended.
use Rattle.std.proofs.Common.{◌≡◌, ℕ, inl, inr, List, Option, Some, refl, subst}
use Rattle.cli_words.specs.Requests.{Asked, solve, check, report, formulate, make, trial, jobs, work, gather, tight, checktight}
use Rattle.run_status.specs.Reads.{Files}
use Rattle.run_status.specs.declared.status.Status.{Status}
use Rattle.run_status.specs.declared.status.Status.TheVariants as statuses
use Rattle.run_status.proofs.Networks.{refused_unread}
use Rattle.solve_command.proofs.Decided.{solve_decided}
use Rattle.certificate_commands.proofs.Decided.{check_decided, report_decided}
use Rattle.job_commands.proofs.Decided.{jobs_decided, work_decided}
use Rattle.gather_command.proofs.Decided.{gather_decided}
use Rattle.tight_commands.specs.TightEnds.{TightDecided, TightEnds}
use Rattle.tight_commands.proofs.Decided.{check_tight_decided, tight_decided}
use Rattle.pool_cli.specs.Ends.{DecidedAs, EndsAs, OrNoWords, named}
use Rattle.pool_cli.specs.FormulateEnds.{FormulateDecided, FormulateEnds}

-- ---- what the told files decide of `formulate`

module _ (told : Files) (name : List ℕ) where
  decided_formulate : (before after : ℕ) (status : Status) → FormulateEnds (Some told) name before after status → FormulateDecided told name status
  decided_formulate before after statuses.Done h = record { no_network = λ none. absurd (none h.network h.reads); some_network = λ f. inl tt }
  decided_formulate before after statuses.WriteFault h = record { no_network = λ none. absurd (none h.network h.reads); some_network = λ f. inl tt }
  decided_formulate before after (statuses.NetworkRefused cause) h = record {
    no_network = λ none. inl tt;
    some_network = λ f. absurd (refused_unread told name cause f.network h.own (h.told told refl) f.reads);
  }
  decided_formulate before after statuses.ReadFault h = record { no_network = λ none. inr tt; some_network = λ f. inr tt }
  decided_formulate before after statuses.OutOfMemory h = record { no_network = λ none. inr tt; some_network = λ f. inr tt }
  decided_formulate before after status h = absurd h

formulate_decided : (files : Option Files) (told : Files) (name : List ℕ) (before after : ℕ) (status : Status) → files ≡ Some told →
    FormulateEnds files name before after status → FormulateDecided told name status
formulate_decided files told name before after status is h =
    decided_formulate told name before after status (subst (λ f. FormulateEnds f name before after status) is h)

-- ---- what they decide of `tight`, unless memory ran out at its words

tight-decided : (files : Option Files) (told : Files) (net cert : List ℕ) (pivots before after : ℕ) (status : Status) → files ≡ Some told
    → OrNoWords status (TightEnds files net cert pivots before after status) → OrNoWords status (TightDecided told net cert pivots status)
tight-decided files told net cert pivots before after status is (inl h) = inl (tight_decided files told net cert pivots before after status is h)
tight-decided files told net cert pivots before after status is (inr memory) = inr memory

-- ---- what they decide of what is asked

pub decided : (files : Option Files) (told : Files) (before after : ℕ) (asked : Asked) (status : Status) → files ≡ Some told → EndsAs files before after asked status → DecidedAs told asked status
decided files told before after (solve s) status is h = solve_decided files told s before after status is h
decided files told before after (check net cert) status is h = check_decided files told net cert before after status is h
decided files told before after (report net cert) status is h = report_decided files told net cert before after status is h
decided files told before after (formulate net form) status is h = formulate_decided files told net before after status is h
decided files told before after (make number) status is h = h
decided files told before after (trial number) status is h = h
decided files told before after (jobs net journal count) status is h = jobs_decided files told net before after status is h
decided files told before after (work net file form) status is h = work_decided files told net file before after status is h
decided files told before after (gather net file answers journal) status is h = gather_decided files told (named net file answers) before after status is h
decided files told before after (tight net cert form pivots) status is h = tight-decided files told net cert pivots before after status is h
decided files told before after (checktight net cert marks) status is h = check_tight_decided files told net cert marks before after status is h
