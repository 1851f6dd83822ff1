-- Why nothing is gathered.
use Rattle.std.specs.Prelude.{ℕ, List}
use Rattle.pool_model.specs.Network.{Net}
use Rattle.row_model.specs.Trees.{Split}
use Rattle.row_model.specs.Entries.{Entry, made_by, AreInOrder}
use Rattle.journal_format.specs.Files.{Stands}
use Rattle.recorded_run.specs.Recorded as recorded
use Rattle.gathered_run.specs.Gatherings.{BeginWith}
use Rattle.gathered_run.specs.declared.fault.GatherFault.{GatherFault}
use Rattle.gathered_run.specs.declared.fault.GatherFault.TheVariants.{Run, OtherTree}

-- the file stands for entries that are in order, and the splits of their tree don't begin with these
pub record IsOfOtherTree (n : Net) (text : List ℕ) (splits : List Split) (file : List ℕ) : Type 0 where
  pub list : List Entry
  pub stands : Stands file text list
  pub in_order : AreInOrder n list
  pub other : ¬ BeginWith (made_by list).tree.splits splits

-- the file is a cause of this refusal: its journal gives no tree, or another one
abbrev pub IsCause : Net → List ℕ → List Split → List ℕ → GatherFault → Type 0
IsCause n text splits file (Run fault) = recorded.IsCause n text file fault
IsCause n text splits file OtherTree = IsOfOtherTree n text splits file

-- disk or memory failed
abbrev pub IsFreeFault : GatherFault → Type 0
IsFreeFault (Run fault) = recorded.IsFreeFault fault
IsFreeFault OtherTree = ⊥

-- a journal that is not opened, but for a failure of disk or memory, leaves the file as it is
abbrev pub IsLeftAlone : GatherFault → Type 0 → Type 0
IsLeftAlone (Run fault) Untouched = recorded.IsLeftAlone fault Untouched
IsLeftAlone OtherTree Untouched = Unit {0}
