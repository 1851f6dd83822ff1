-- How `make` ends.
use Rattle.std.specs.Prelude.{◌≡◌, ◌++◌, ℕ, List, codes}
use Rattle.network_text.specs.Canonical.{canonical_text}
use Rattle.network_maker.specs.Generated.{generated}
use Rattle.pool_cli.specs.declared.make.MakeOutcome.{MakeOutcome}
use Rattle.pool_cli.specs.declared.make.MakeOutcome.TheVariants as outcomes
use Rattle.run_status.specs.declared.status.Status.{Status}
use Rattle.run_status.specs.declared.status.Status.TheVariants as statuses

-- the status that it ends with
abbrev pub make_status : MakeOutcome → Status
make_status outcomes.Done = statuses.Done
make_status outcomes.Memory = statuses.OutOfMemory
make_status outcomes.WriteFault = statuses.WriteFault

-- the canonical text of the network that the number makes, and a line feed
abbrev pub made_text : ℕ → List ℕ
made_text number = canonical_text (generated number) ++ codes "\n"

-- the text that is printed, by the status
-- Promise: What `make` prints is the canonical text of the network of the number
abbrev pub MakesAs : ℕ → Status → List ℕ → Type 0
MakesAs number statuses.Done text = text ≡ made_text number
MakesAs number status text = ⊥

-- no other status comes
-- Promise: Each other status comes only where it says so of the files: 3 where no network is read from NET, with its first cause; 4 where
--   `--nodes` is above 200,000, or twice `--nodes` and one, times the rows of the network, is above 32,000,000, or `--raise` is above
--   1,000,000, or above 0 where the network has more than 2,000 variables and rows together; 0, 10 and 11 of `solve`
--   where a network is read and it is not so, 12 where no plan obeys it, 13 where no starting plan does; 0 of `check` where CERT is the
--   text of a valid certificate, and 1 where it is not; 5 where CERT has more than 1,073,741,824 bytes; 30 to 33 of `solve` where a network
--   is read, what is asked is within the budget and a journal is named
abbrev pub MakeEnds : Status → Type 0
MakeEnds statuses.Done = Unit {0}
MakeEnds statuses.WriteFault = Unit {0}
MakeEnds statuses.OutOfMemory = Unit {0}
MakeEnds status = ⊥

-- the network is printed, or sink or memory failed, whatever the files say
-- Promise: `make` prints its network, or sink or memory failed
abbrev pub MakeDecided : Status → Type 0
MakeDecided status = MakeEnds status
