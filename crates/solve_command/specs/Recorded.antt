-- What a search with a journal found, in the words of the inner contracts.
use Rattle.std.specs.Prelude.{◌≡◌, ◌⊎◌, ℕ, List, [], Option, None, Result, Ok, Err}
use Rattle.disk_calls.specs.Disks.{DiskTold}
use Rattle.pool_model.specs.Network.{Net}
use Rattle.row_model.specs.Entries.{Entry, made_by, AreInOrder}
use Rattle.cert_format.specs.Cert.{Cert}
use Rattle.cert_format.specs.Views.{shown_cert}
use Rattle.search_run.specs.declared.orders.Orders.{Orders}
use Rattle.recorded_run.specs.declared.fault.RunFault.{RunFault}
use Rattle.journal_status.specs.JournalEnds.{CameToNoFile, fault_status}
use Rattle.solve_command.specs.Journaled.{IsAttached}
use Rattle.solve_command.specs.Solution.{IsSolutionFrom, status_of}
use Rattle.solve_command.specs.declared.solution.Solution.{Solution}
use Rattle.run_status.specs.declared.status.Status.{Status}

-- the certificate is that of a search that began with the tree of entries in order; without a journal there were none
pub record IsBegun (n : Net) (o : Orders) (journal : Option (List ℕ)) (s : Solution) : Type 0 where
  pub first : List Entry
  pub in_order : AreInOrder n first
  pub alone : journal ≡ None → first ≡ []
  pub solution : IsSolutionFrom n o (made_by first) (status_of s.ended) (shown_cert s.certificate)

-- the status of what was found, before it is printed
abbrev pub solved_status : Result Solution RunFault → Status
solved_status (Ok s) = status_of s.ended
solved_status (Err fault) = fault_status fault

-- this certificate was found
abbrev pub shows : Result Solution RunFault → Cert → Type 0
shows (Ok s) c = shown_cert s.certificate ≡ c
shows (Err fault) c = ⊥

-- no file was attached, and no image is new; or one was read
abbrev pub IsOpened : Net → List ℕ → Orders → (old new : DiskTold) → Result Solution RunFault → Type 0
IsOpened n text o old new result =
    CameToNoFile old new (solved_status result) ⊎ IsAttached n text o old new (solved_status result) (shows result)
