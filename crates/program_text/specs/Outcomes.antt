-- What a writer that takes memory first has written.
use Rattle.std.specs.Prelude.{◌≡◌, ℕ, List, Option, Result, Ok, Err}
use Rattle.edge_io.specs.Writing.{behind, TookFront}
use Rattle.program_text.specs.declared.fault.FormulationFault.{FormulationFault}
use Rattle.program_text.specs.declared.fault.FormulationFault.TheVariants.{Memory, Write}

-- all of the text was taken; nothing, where there was no memory; or a front of it, where the sink failed
abbrev pub WroteOrNothing : {X : Type 0} → Result X FormulationFault → Option (List ℕ) → List ℕ → Option (List ℕ) → Type 0
WroteOrNothing (Ok x) old text new = new ≡ behind old text
WroteOrNothing (Err Memory) old text new = new ≡ old
WroteOrNothing (Err Write) old text new = TookFront old text new
