-- What is read from the file of a network, and why nothing is.
use Rattle.std.specs.Prelude.{◌≡◌, ◌≢◌, ℕ, List, Option, Some}
use Rattle.shelf_calls.specs.Files.{file_of, HasFile, IsTooLong}
use Rattle.pool_model.specs.Network.{Network}
use Rattle.network_parts.specs.declared.fault.NetFault.TheVariants as faults
use Rattle.json_walk.specs.declared.fault.ReadNet.{ReadNet}
use Rattle.json_walk.specs.declared.fault.ReadNet.TheVariants as causes
use Rattle.network_json.specs.Reading.{IsRefusal, ReadAs}

-- names with bytes
abbrev pub Files : Type 0
Files = List (List ℕ × List ℕ)

-- how many bytes the file of a network may have
abbrev pub most_network : ℕ
most_network = 4194304

-- the network in the file of this name
pub record ReadsUnder (files : Option Files) (name : List ℕ) (network : Network) : Type 0 where
  pub bytes : List ℕ
  pub file : HasFile files name bytes
  pub reads : ReadAs bytes network

-- a network is read from the file of this name
pub record ReadsSome (files : Option Files) (name : List ℕ) : Type 0 where
  pub network : Network
  pub reads : ReadsUnder files name network

-- no network is read from the file of this name
abbrev pub ReadsNone : Files → List ℕ → Type 0
ReadsNone told name = (network : Network) → ¬ ReadsUnder (Some told) name network

-- want of memory is no reason to refuse a file, also inside another
abbrev pub IsOwnCause : ReadNet → Type 0
IsOwnCause causes.Memory = ⊥
IsOwnCause (causes.Net fault) = fault ≢ faults.Memory
IsOwnCause cause = Unit {0}

-- the file of this name is no network, for this reason
pub record RefusesUnder (files : Files) (name : List ℕ) (cause : ReadNet) : Type 0 where
  pub bytes : List ℕ
  pub file : file_of files name ≡ Some bytes
  pub refused : IsRefusal bytes cause

-- The file of this name is refused for this reason, and no want of memory: where the shelf tells its files, it is the reason
-- that the file has; where it doesn't, more bytes were taken than a network may have wherever the file is too long.
-- Promise: Over a shelf that tells nothing a file is called too long (3 for NET, 5 for CERT) only where so many bytes were taken
pub record IsRefusedAs (files : Option Files) (name : List ℕ) (before after : ℕ) (cause : ReadNet) : Type 0 where
  pub own : IsOwnCause cause
  pub told : (told : Files) → files ≡ Some told → RefusesUnder told name cause
  pub long : cause ≡ causes.TooLong → IsTooLong files name most_network before after
