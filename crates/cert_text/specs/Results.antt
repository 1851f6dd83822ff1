-- What readers that take memory may give.
use Rattle.std.specs.Prelude.{◌≡◌, ℕ, Bool, List, Result, Ok, Err}
use Rattle.cert_text.specs.Lines.{IsFaultyLine}
use Rattle.cert_text.specs.Reading.{At, Stops}
use Rattle.cert_text.specs.declared.fault.Halt.{Halt}
use Rattle.cert_text.specs.declared.fault.Halt.TheVariants as halts
use Rattle.cert_text.specs.declared.fault.ReadFault.{ReadFault}
use Rattle.cert_text.specs.declared.fault.ReadFault.TheVariants.{Memory, Line}

-- what was read is this, unless memory ran out
abbrev pub IsReadAs : {X Y : Type 0} → (X → Y) → Y → Result X ReadFault → Type 0
IsReadAs view y (Ok x) = view x ≡ y
IsReadAs view y (Err Memory) = Unit {0}
IsReadAs view y (Err (Line n)) = ⊥

-- an error that is no want of memory names the faulty line
abbrev pub IsFaultIn : (X : Type 0) → (X → Type 0) → (X → List ℕ) → List ℕ → ReadFault → Type 0
IsFaultIn X Is text_of bytes Memory = Unit {0}
IsFaultIn X Is text_of bytes (Line n) = IsFaultyLine X Is text_of bytes n

-- ---- what the readers of the parts give

-- a reader that takes memory stopped: for want of memory, or as a reader does that takes none
abbrev pub Halts : {Y : Type 0} → Halt → Bool → Result Y ℕ → Type 0
Halts halts.Memory broken read = Unit {0}
Halts (halts.Read s) broken read = Stops s broken read

-- what a reader of the code gave, and where it left its source, unless memory ran out or its source is broken: what the
-- reading function gives
abbrev pub Yields : {X Y : Type 0} → (X → Y) → Result X Halt → At → Bool → Result (Y × At) ℕ → Type 0
Yields view (Ok x) b broken read = read ≡ Ok (view x, b)
Yields view (Err e) b broken read = Halts e broken read

-- what a reader to the end of its source gave, in the same way
abbrev pub Closes : {X Y : Type 0} → (X → Y) → Result X Halt → Bool → Result Y ℕ → Type 0
Closes view (Ok x) broken read = read ≡ Ok (view x)
Closes view (Err e) broken read = Halts e broken read

-- what a reader of all of the bytes gave, unless memory ran out
abbrev pub Comes : {X Y : Type 0} → (X → Y) → Result X ReadFault → Result Y ℕ → Type 0
Comes view (Ok x) read = read ≡ Ok (view x)
Comes view (Err Memory) read = Unit {0}
Comes view (Err (Line n)) read = read ≡ Err n
