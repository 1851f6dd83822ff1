-- What an outcome of `solve` tells of the files.
use Rattle.std.proofs.Common.{◌≡◌, ◌≢◌, ◌⊎◌, ◌≤◌, ℕ, inl, inr, List, [], length, arith, nat_lt, Bool, true, false, if◌then◌else◌, Option, None, Some, ℤ, pos, ◌*ℤ◌, int_le, refl, sym, ap, subst, ◌∙◌}
use Rattle.pool_model.specs.Network.{Net, Network, net_of}
use Rattle.cert_format.specs.Cert.{Cert, IsCert}
use Rattle.cert_format.specs.Text.{text_of}
use Rattle.cert_lengths.specs.Lengths.{HasFewRows, most_bytes}
use Rattle.cert_lengths.proofs.ValidTexts.{few_rows-fewer}
use Rattle.cli_words.specs.Requests.{Solving}
use Rattle.pool_model.specs.Plan.{Written}
use Rattle.pool_model.specs.Claim.{Claimed, with_gap, with_bound, no_plan, Follows}
use Rattle.row_model.specs.Trees.{tree_bound}
use Rattle.row_model.specs.Entries.{Entry, Searched, made_by}
use Rattle.search_run.specs.Found.{CoversStarts, HasNoStart}
use Rattle.search_core.specs.declared.ended.Ended.{Ended}
use Rattle.search_core.specs.declared.ended.Ended.TheVariants as ends
use Rattle.tree_certificate.specs.Certificates.{claim_of}
use Rattle.run_status.specs.Reads.{Files, ReadsUnder}
use Rattle.edge_io.specs.Writing.{behind}
use Rattle.solve_command.specs.Solution.{IsSolutionFrom, end_by, status_of}
use Rattle.run_status.specs.Took.{IsCutShort, Part, whole, printed_by, Took, TookPart}
use Rattle.journal_status.specs.JournalEnds.{IsJournalEnd}
use Rattle.solve_command.specs.SolveEnds.{EndsWith, IsHeldUp, IsWithinBudget, JournalUnder}
use Rattle.solve_command.specs.SolveEnds.{SolveEnds, SolvesAs, WithinUnder, orders_of}
use Rattle.run_status.specs.declared.status.Status.{Status}
use Rattle.run_status.specs.declared.status.Status.TheVariants as statuses

-- ---- a certificate of `solve` was printed, or a front of it

-- a search that ended prints all of its certificate
printed_end : (ended : Ended) → printed_by (status_of ended) ≡ whole
printed_end ends.Closed = refl
printed_end ends.Stopped = refl
printed_end ends.Stuck = refl
printed_end ends.Infeasible = refl
printed_end ends.Undecided = refl

pub took_whole : (files : Option Files) (s : Solving) (ended : Ended) (text : List ℕ) (old new : Option (List ℕ)) → SolvesAs files s (status_of ended) text → new ≡ behind old text
    → Took (SolvesAs files s) (status_of ended) old new
took_whole files s ended text old new answers e =
    subst (λ (p : Part). TookPart p (SolvesAs files s) (status_of ended) old new) (sym (printed_end ended)) (text, answers, e)

-- what is printed is short: the search began with the root alone, or with a tree of few enough nodes
pub printed_short : (n : Net) (s : Solving) (first : List Entry) (status : Status) (c : Cert) → IsWithinBudget n s.nodes s.raise → (s.journal ≡ None → first ≡ [])
    → IsSolutionFrom n (orders_of s) (made_by first) status c → IsCert c → ((s.journal ≡ None) ⊎ HasFewRows n (length (made_by first).tree.splits)) → length (text_of c) ≤ most_bytes
printed_short n s first status c within alone solution held (inl none) =
    let root : HasFewRows n 0 = few_rows-fewer n 0 s.nodes (omega arith) within.short in
    let begun = subst (λ (l : List Entry). HasFewRows n (length (made_by l).tree.splits)) (sym (alone none)) root in
    (solution.short within.short begun).text held
printed_short n s first status c within alone solution held (inr few) = (solution.short within.short few).text held

-- how a certificate's claim ends, of a network that was read
module _ (files : Option Files) (s : Solving) (network : Network) (reads : ReadsUnder files s.net network) (within : IsWithinBudget (net_of network) s.nodes s.raise) where
  abbrev here : WithinUnder files s
  here = record { network = network; reads = reads; within = within }

  by_gap : (before after : ℕ) (closed stuck : Bool) → SolveEnds files s before after (if closed then statuses.Closed else (if stuck then statuses.Stuck else statuses.Stopped))
  by_gap before after true stuck = here
  by_gap before after false true = here
  by_gap before after false false = here

  no_start : (best : Option Written) (bound : Option ℤ) (z : ℤ) → with_bound z ≡ claim_of (net_of network) best bound → CoversStarts (net_of network) best → HasNoStart (net_of network)
  no_start best None z e covers = cc
  no_start None (Some x) z e covers = covers
  no_start (Some w) (Some x) z e covers = cc

  by_claim : (before after : ℕ) (asked : ℤ) (nodes splits : ℕ) (claim : Claimed) (best : Option Written) (bound : Option ℤ) → claim ≡ claim_of (net_of network) best bound
      → CoversStarts (net_of network) best → Follows (net_of network) claim → SolveEnds files s before after (end_by asked nodes splits claim)
  by_claim before after asked nodes splits (with_gap plan cost base z gap) best bound e covers follows = by_gap before after (int_le gap (asked *ℤ pos base)) (nat_lt splits nodes)
  by_claim before after asked nodes splits (with_bound z) best bound e covers follows = record { solvable = here; none = no_start best bound z e covers }
  by_claim before after asked nodes splits no_plan best bound e covers follows = record { solvable = here; none = follows }

  pub solution_ends : (before after : ℕ) (begun : Searched) (c : Cert) (end status : Status) →
      IsSolutionFrom (net_of network) (orders_of s) begun end c → EndsWith end status → SolveEnds files s before after status
  solution_ends before after begun c end status found ended = elim ended [
    | inl is ↦ subst (SolveEnds files s before after) (sym (is ∙ found.ends))
        (by_claim before after s.gap s.nodes (length c.splits) c.claim found.found.best (tree_bound (net_of network) found.found.tree)
        (ap (λ (x : Cert). x.claim) found.is) found.search.starts found.follows)
    | inr is ↦ subst (SolveEnds files s before after) (sym is) here
  ]

-- a search that ended is told as a failure of nothing, and as no want of memory
pub no_end_fault : (ended : Ended) (status : Status) → EndsWith (status_of ended) status → status ≢ statuses.DiskFault
no_end_fault ended status (inr e) f = cc (e, f)
no_end_fault ends.Closed status (inl e) f = cc (e, f)
no_end_fault ends.Stopped status (inl e) f = cc (e, f)
no_end_fault ends.Stuck status (inl e) f = cc (e, f)
no_end_fault ends.Infeasible status (inl e) f = cc (e, f)
no_end_fault ends.Undecided status (inl e) f = cc (e, f)

pub no_end_want : (ended : Ended) (status : Status) → EndsWith (status_of ended) status → status ≢ statuses.OutOfMemory
no_end_want ended status (inr e) f = cc (e, f)
no_end_want ends.Closed status (inl e) f = cc (e, f)
no_end_want ends.Stopped status (inl e) f = cc (e, f)
no_end_want ends.Stuck status (inl e) f = cc (e, f)
no_end_want ends.Infeasible status (inl e) f = cc (e, f)
no_end_want ends.Undecided status (inl e) f = cc (e, f)

-- ---- a search gave no answer

-- it ends so where a network is read, what is asked is within the budget, and a journal is named
module _ (files : Option Files) (s : Solving) (before after : ℕ) where
  journal_ends : (status : Status) → IsJournalEnd status → JournalUnder files s → SolveEnds files s before after status
  journal_ends statuses.DiskFault h under = under
  journal_ends statuses.OtherNetwork h under = under
  journal_ends (statuses.BadJournal number) h under = under
  journal_ends (statuses.UnknownVersion version) h under = under
  journal_ends statuses.NotAJournal h under = under
  journal_ends status h under = absurd h

  cut_ends : (status : Status) → IsCutShort status → SolveEnds files s before after status
  cut_ends statuses.ReadFault h = tt
  cut_ends statuses.OutOfMemory h = tt
  cut_ends status h = absurd h

  pub unsolved_ends : (network : Network) (status : Status) → ReadsUnder files s.net network → IsWithinBudget (net_of network) s.nodes s.raise →
      IsHeldUp s.journal status → SolveEnds files s before after status
  unsolved_ends network status reads within (inl cut) = cut_ends status cut
  unsolved_ends network status reads within (inr held) =
      journal_ends status held.0 record { solvable = record { network = network; reads = reads; within = within }; journal = held.1.0; named = held.1.1 }
