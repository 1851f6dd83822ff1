-- How `formulate` ends.
use Rattle.std.specs.Prelude.{◌≡◌, ◌⊎◌, ℕ, List, Option, Some}
use Rattle.pool_model.specs.Network.{Network, net_of}
use Rattle.box_space.specs.declared.coordinates.Form.{Form}
use Rattle.program_text.specs.Programs.{program_text}
use Rattle.printed_program.specs.Meaning.{IsTheProblem}
use Rattle.run_status.specs.Reads.{Files, IsRefusedAs, ReadsNone, ReadsSome, ReadsUnder}
use Rattle.run_status.specs.Took.{IsCutShort, IsNetworkRefused, unread_status}
use Rattle.pool_cli.specs.declared.formulate.FormulateOutcome.{FormulateOutcome}
use Rattle.pool_cli.specs.declared.formulate.FormulateOutcome.TheVariants as outcomes
use Rattle.run_status.specs.declared.status.Status.{Status}
use Rattle.run_status.specs.declared.status.Status.TheVariants as statuses

-- the status that it ends with
abbrev pub formulate_status : FormulateOutcome → Status
formulate_status outcomes.Done = statuses.Done
formulate_status (outcomes.Unread why) = unread_status why
formulate_status outcomes.Memory = statuses.OutOfMemory
formulate_status outcomes.WriteFault = statuses.WriteFault

-- the program of this form of the network in the file of this name
-- Promise: What `formulate` prints is the exact program of the network of NET in the asked form
pub record ProgramUnder (files : Option Files) (name : List ℕ) (form : Form) (text : List ℕ) : Type 0 where
  pub network : Network
  pub reads : ReadsUnder files name network
  pub spelled : text ≡ program_text (net_of network) form
  -- Promise: The numbers that keep the ends, the rows and the products that `formulate` prints are the points of the exact program of the
  --   network in the asked form, both ways and at the same cost; their flows are the plans that obey, at the same cost
  pub means : IsTheProblem (net_of network) form text

-- the text that is printed, by the status
abbrev pub FormulatesAs : Option Files → List ℕ → Form → Status → List ℕ → Type 0
FormulatesAs files name form statuses.Done text = ProgramUnder files name form text
FormulatesAs files name form status text = ⊥

-- Each status comes only where its line holds of the file of this name; no other comes. The counts are of the bytes taken.
-- Promise: Each other status comes only where it says so of the files: 3 where no network is read from NET, with its first cause; 4 where
--   `--nodes` is above 200,000, or twice `--nodes` and one, times the rows of the network, is above 32,000,000, or `--raise` is above
--   1,000,000, or above 0 where the network has more than 2,000 variables and rows together; 0, 10 and 11 of `solve`
--   where a network is read and it is not so, 12 where no plan obeys it, 13 where no starting plan does; 0 of `check` where CERT is the
--   text of a valid certificate, and 1 where it is not; 5 where CERT has more than 1,073,741,824 bytes; 30 to 33 of `solve` where a network
--   is read, what is asked is within the budget and a journal is named
abbrev pub FormulateEnds : Option Files → List ℕ → (before after : ℕ) → Status → Type 0
FormulateEnds files name before after statuses.Done = ReadsSome files name
FormulateEnds files name before after statuses.WriteFault = ReadsSome files name
FormulateEnds files name before after (statuses.NetworkRefused cause) = IsRefusedAs files name before after cause
FormulateEnds files name before after statuses.ReadFault = Unit {0}
FormulateEnds files name before after statuses.OutOfMemory = Unit {0}
FormulateEnds files name before after status = ⊥

-- the program was printed, or the sink failed
abbrev pub IsFormulated : Status → Type 0
IsFormulated statuses.Done = Unit {0}
IsFormulated statuses.WriteFault = Unit {0}
IsFormulated status = ⊥

-- which status comes, by what the told files say, where the run isn't cut short
pub record FormulateDecided (told : Files) (name : List ℕ) (status : Status) : Type 0 where
  -- Promise: Where no network is read from NET, the status is 3, or shelf or memory failed
  pub no_network : ReadsNone told name → IsNetworkRefused status ⊎ IsCutShort status
  -- Promise: Where a network is read, `solve` within the budget prints a certificate, over it ends with 4, and `formulate` prints a
  --   program, or shelf, sink or memory failed, or `solve` ended at the journal that the words name
  pub some_network : ReadsSome (Some told) name → IsFormulated status ⊎ IsCutShort status
