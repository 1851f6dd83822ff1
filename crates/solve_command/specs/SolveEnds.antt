-- How `solve` ends.
use Rattle.std.specs.Prelude.{◌≡◌, ◌⊎◌, ◌+◌, ◌*◌, ◌<◌, ◌≤◌, ℕ, List, [], length, Option, None, Some}
use Rattle.pool_model.specs.Network.{Net, Network, net_of}
use Rattle.pool_model.specs.Plan.{Written, plan_of, Obeys}
use Rattle.pool_model.specs.Starting.{IsStarting}
use Rattle.pool_model.specs.Claim.{HasNoPlan}
use Rattle.row_model.specs.Catalogue.{rows}
use Rattle.row_model.specs.Variables.{variables}
use Rattle.row_model.specs.Trees.{most_splits}
use Rattle.row_model.specs.Entries.{Entry, made_by, AreInOrder}
use Rattle.cert_format.specs.Cert.{Cert}
use Rattle.cert_checker.specs.Answers.{Spells}
use Rattle.cert_lengths.specs.Lengths.{HasFewRows, most_bytes, most_rows}
use Rattle.cli_words.specs.Requests.{Solving}
use Rattle.search_run.specs.Found.{HasNoStart}
use Rattle.search_run.specs.declared.orders.Orders.{Orders}
use Rattle.journal_format.specs.declared.fault.JournalFault.TheVariants as journal_faults
use Rattle.recorded_run.specs.declared.fault.RunFault.TheVariants as faults
use Rattle.journal_status.specs.JournalEnds.{IsJournalEnd, fault_status}
use Rattle.solve_command.specs.Solution.{IsSolutionFrom, status_of}
use Rattle.run_status.specs.Reads.{Files, IsRefusedAs, ReadsNone, ReadsUnder}
use Rattle.run_status.specs.Took.{IsCutShort, IsNetworkRefused, unread_status}
use Rattle.solve_command.specs.declared.solving.SolveOutcome.{SolveOutcome}
use Rattle.solve_command.specs.declared.solving.SolveOutcome.TheVariants as outcomes
use Rattle.run_status.specs.declared.status.Status.{Status}
use Rattle.run_status.specs.declared.status.Status.TheVariants as statuses

-- the status that it ends with
abbrev pub solve_status : SolveOutcome → Status
solve_status (outcomes.Ended ended) = status_of ended
solve_status outcomes.OverBudget = statuses.BudgetTooLarge
solve_status (outcomes.Unread why) = unread_status why
solve_status (outcomes.Unsolved fault) = fault_status fault
solve_status outcomes.WriteFault = statuses.WriteFault

-- what the search is asked for
abbrev pub orders_of : Solving → Orders
orders_of s = record { form = s.form; nodes = s.nodes; gap = s.gap; rule = s.rule; squeeze = s.squeeze; raise = s.raise }

-- The budget: no more splits than there may be, and of all nodes together no more rows than a certificate may speak of. Halves are raised in at
-- most 1,000,000 pivots, and only where the network has at most 2,000 variables and rows together.
pub record IsWithinBudget (n : Net) (nodes raise : ℕ) : Type 0 where
  pub few : nodes ≤ most_splits
  pub short : (2 * nodes + 1) * rows n ≤ most_rows
  pub pivots : raise ≤ 1000000
  pub small : 0 < raise → variables n + rows n ≤ 2000

-- The text of a certificate of the network in the file that is named, and the status that it ends with. The search began with the
-- tree of entries that a journal held, or without one with the root alone.
pub record SolvesAs (files : Option Files) (s : Solving) (status : Status) (text : List ℕ) : Type 0 where
  pub network : Network
  pub certificate : Cert
  pub reads : ReadsUnder files s.net network
  pub within : IsWithinBudget (net_of network) s.nodes s.raise
  -- Promise: The run of `solve` began with the tree of entries that are in order one after another; without `--journal` with the root alone
  pub first : List Entry
  -- Promise: The run of `solve` began with the tree of entries that are in order one after another; without `--journal` with the root alone
  pub in_order : AreInOrder (net_of network) first
  -- Promise: The run of `solve` began with the tree of entries that are in order one after another; without `--journal` with the root alone
  pub alone : s.journal ≡ None → first ≡ []
  pub solution : IsSolutionFrom (net_of network) (orders_of s) (made_by first) status certificate
  pub spelled : Spells text certificate
  -- Promise: The text that `solve` prints has at most 1,073,741,824 bytes, no more than a file may have that `check` reads: where no journal
  --   is named, or where the disk tells and twice the cuts of the tree that the run began with and one, times the rows of the network, is
  --   at most 32,000,000
  pub short : ((s.journal ≡ None) ⊎ HasFewRows (net_of network) (length (made_by first).tree.splits)) → length text ≤ most_bytes

-- a network is read from the file that is named, and what is asked is within the budget
pub record WithinUnder (files : Option Files) (s : Solving) : Type 0 where
  pub network : Network
  pub reads : ReadsUnder files s.net network
  pub within : IsWithinBudget (net_of network) s.nodes s.raise

-- a network is read, and what is asked is over the budget
pub record OverUnder (files : Option Files) (s : Solving) : Type 0 where
  pub network : Network
  pub reads : ReadsUnder files s.net network
  pub over : ¬ IsWithinBudget (net_of network) s.nodes s.raise

-- no plan obeys the network
pub record NoPlanUnder (files : Option Files) (s : Solving) : Type 0 where
  pub solvable : WithinUnder files s
  pub none : HasNoPlan (net_of solvable.network)

-- no starting plan obeys it
pub record NoStartUnder (files : Option Files) (s : Solving) : Type 0 where
  pub solvable : WithinUnder files s
  pub none : HasNoStart (net_of solvable.network)

-- a starting plan obeys it
pub record StartUnder (files : Option Files) (s : Solving) : Type 0 where
  pub solvable : WithinUnder files s
  pub plan : Written
  pub starting : IsStarting (net_of solvable.network) plan
  pub obeys : Obeys (net_of solvable.network) (plan_of (net_of solvable.network) plan)

-- a network is read, what is asked is within the budget, and a journal is named
pub record JournalUnder (files : Option Files) (s : Solving) : Type 0 where
  pub solvable : WithinUnder files s
  pub journal : List ℕ
  pub named : s.journal ≡ Some journal

-- the search wanted memory: a network is read, and what is asked is within the budget
pub record WantUnder (files : Option Files) (s : Solving) (outcome : SolveOutcome) : Type 0 where
  pub solvable : WithinUnder files s
  pub search : outcome ≡ outcomes.Unsolved (faults.Journal journal_faults.Memory)

-- Each status comes only where its line holds of what is asked; no other comes. The counts are of the bytes taken. Of the file of
-- the journal more is said in `specs/Journaled.antt`.
-- Promise: Each other status comes only where it says so of the files: 3 where no network is read from NET, with its first cause; 4 where
--   `--nodes` is above 200,000, or twice `--nodes` and one, times the rows of the network, is above 32,000,000, or `--raise` is above
--   1,000,000, or above 0 where the network has more than 2,000 variables and rows together; 0, 10 and 11 of `solve`
--   where a network is read and it is not so, 12 where no plan obeys it, 13 where no starting plan does; 0 of `check` where CERT is the
--   text of a valid certificate, and 1 where it is not; 5 where CERT has more than 1,073,741,824 bytes; 30 to 33 of `solve` where a network
--   is read, what is asked is within the budget and a journal is named
abbrev pub SolveEnds : Option Files → Solving → (before after : ℕ) → Status → Type 0
SolveEnds files s before after statuses.Closed = WithinUnder files s
SolveEnds files s before after statuses.Stopped = WithinUnder files s
SolveEnds files s before after statuses.Stuck = WithinUnder files s
SolveEnds files s before after statuses.Infeasible = NoPlanUnder files s
SolveEnds files s before after statuses.Undecided = NoStartUnder files s
SolveEnds files s before after statuses.WriteFault = WithinUnder files s
SolveEnds files s before after statuses.BudgetTooLarge = OverUnder files s
SolveEnds files s before after (statuses.NetworkRefused cause) = IsRefusedAs files s.net before after cause
SolveEnds files s before after statuses.ReadFault = Unit {0}
SolveEnds files s before after statuses.DiskFault = JournalUnder files s
SolveEnds files s before after statuses.OtherNetwork = JournalUnder files s
SolveEnds files s before after (statuses.BadJournal number) = JournalUnder files s
SolveEnds files s before after (statuses.UnknownVersion version) = JournalUnder files s
SolveEnds files s before after statuses.NotAJournal = JournalUnder files s
SolveEnds files s before after statuses.OutOfMemory = Unit {0}
SolveEnds files s before after status = ⊥

-- a certificate was printed
abbrev pub IsEnded : Status → Type 0
IsEnded statuses.Closed = Unit {0}
IsEnded statuses.Stopped = Unit {0}
IsEnded statuses.Stuck = Unit {0}
IsEnded statuses.Infeasible = Unit {0}
IsEnded statuses.Undecided = Unit {0}
IsEnded status = ⊥

-- a certificate was printed, or the sink failed
abbrev pub IsPrinted : Status → Type 0
IsPrinted statuses.Closed = Unit {0}
IsPrinted statuses.Stopped = Unit {0}
IsPrinted statuses.Stuck = Unit {0}
IsPrinted statuses.Infeasible = Unit {0}
IsPrinted statuses.Undecided = Unit {0}
IsPrinted statuses.WriteFault = Unit {0}
IsPrinted status = ⊥

-- a certificate with a plan was printed, or the sink failed
abbrev pub IsPlanned : Status → Type 0
IsPlanned statuses.Closed = Unit {0}
IsPlanned statuses.Stopped = Unit {0}
IsPlanned statuses.Stuck = Unit {0}
IsPlanned statuses.WriteFault = Unit {0}
IsPlanned status = ⊥

-- the shelf failed, or memory ran out; or it ended at the journal that is named
abbrev pub IsHeldUp : Option (List ℕ) → Status → Type 0
IsHeldUp journal status = IsCutShort status ⊎ (IsJournalEnd status × ((file : List ℕ) × (journal ≡ Some file)))

-- this status, or the sink failed
abbrev pub EndsWith : Status → Status → Type 0
EndsWith end status = (status ≡ end) ⊎ (status ≡ statuses.WriteFault)

-- which status comes, by what the told files say, where the run isn't cut short
pub record SolveDecided (told : Files) (s : Solving) (status : Status) : Type 0 where
  -- Promise: Where no network is read from NET, the status is 3, or shelf or memory failed
  pub no_network : ReadsNone told s.net → IsNetworkRefused status ⊎ IsCutShort status
  -- Promise: Where a network is read, `solve` within the budget prints a certificate, over it ends with 4, and `formulate` prints a
  --   program, or shelf, sink or memory failed, or `solve` ended at the journal that the words name
  pub over_budget : OverUnder (Some told) s → (status ≡ statuses.BudgetTooLarge) ⊎ IsCutShort status
  -- Promise: Where a network is read, `solve` within the budget prints a certificate, over it ends with 4, and `formulate` prints a
  --   program, or shelf, sink or memory failed, or `solve` ended at the journal that the words name
  pub within_budget : WithinUnder (Some told) s → IsPrinted status ⊎ IsHeldUp s.journal status
  -- Promise: Where a starting plan obeys and what is asked is within the budget, `solve` prints a plan, or shelf, sink or memory failed, or
  --   `solve` ended at the journal that the words name
  pub some_start : StartUnder (Some told) s → IsPlanned status ⊎ IsHeldUp s.journal status
