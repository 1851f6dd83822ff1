-- Which network a file is, and why a file is none.
use Rattle.std.specs.Prelude.{◌≡◌, ◌≢◌, ℕ, List, Ok, Err, ⊤}
use Rattle.pool_model.specs.Rows.{Rows}
use Rattle.pool_model.specs.Network.{Network}
use Rattle.pool_model.specs.Naming.{network_of}
use Rattle.network_parts.specs.Faults.{IsFaultless}
use Rattle.faults.specs.First.{IsFirst}
use Rattle.network_parts.specs.FirstFault.{Holds, rank}
use Rattle.network_parts.specs.declared.fault.NetFault.{NetFault}
use Rattle.network_parts.specs.declared.fault.NetFault.TheVariants as net
use Rattle.json_walk.specs.declared.fault.ReadNet.{ReadNet}
use Rattle.json_walk.specs.declared.fault.ReadNet.TheVariants.{Net, Memory}
use Rattle.network_json.specs.Format.{rows_in}

-- The bytes are a file of this network: what it says has no fault, and it is the network of its rows.
pub record ReadAs (bytes : List ℕ) (network : Network) : Type 0 where
  pub rows : Rows
  pub read : rows_in bytes ≡ Ok rows
  pub faultless : IsFaultless rows
  pub named : network ≡ network_of rows

-- rows were read, and this is their first fault, which is no want of memory
pub record IsNetFault (bytes : List ℕ) (fault : NetFault) : Type 0 where
  pub rows : Rows
  pub read : rows_in bytes ≡ Ok rows
  pub cause : fault ≢ net.Memory
  pub first : IsFirst rank (Holds rows) fault

-- A file is refused for the first fault of its walk, or for the first fault of its rows; want of memory says nothing of it.
abbrev pub IsRefusal : List ℕ → ReadNet → Type 0
IsRefusal bytes Memory = ⊤
IsRefusal bytes (Net fault) = IsNetFault bytes fault
IsRefusal bytes e = rows_in bytes ≡ Err e
