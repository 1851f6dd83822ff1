-- When a proof has a fault in a box, and which of its faults is the first.
use Rattle.std.specs.Prelude.{◌≡◌, ◌≢◌, ℕ, ◌<◌, ◌^◌, List, [], ◌∷◌, All, pos, ◌≤ℤ◌}
use Rattle.faults.specs.First.{IsFirst}
use Rattle.pool_model.specs.Network.{Net}
use Rattle.row_model.specs.Boxes.{Box}
use Rattle.row_model.specs.Catalogue.{rows, row_at}
use Rattle.row_model.specs.Multipliers.{Proof, IsRising, IsSigned, weight, number as number_of}
use Rattle.row_book.specs.declared.fault.ProofFault.{ProofFault}
use Rattle.row_book.specs.declared.fault.ProofFault.TheVariants.{Order, UnknownRow, Sign, ZeroPart, Wide, ShowsNothing}

-- The proof has this fault in the box.
abbrev pub Holds : Net → Box → Proof → ProofFault → Type 0
Holds n b proof Order = ¬ IsRising proof.parts
Holds n b proof UnknownRow = ¬ All (λ q. q.row < rows n) proof.parts
Holds n b proof Sign = ¬ All (λ q. IsSigned (row_at n b q.row).kind q.mult) proof.parts
Holds n b proof ZeroPart = ¬ All (λ q. q.mult ≢ pos 0) proof.parts
Holds n b proof Wide = 2 ^ 126 < weight n b proof
Holds n b proof ShowsNothing = (proof.scale ≡ 0) × (number_of n b proof ≤ℤ pos 0)

-- the number of a fault: all parts are looked at for the first before the second
abbrev pub number : ProofFault → ℕ
number Order = 1
number UnknownRow = 2
number Sign = 3
number ZeroPart = 4
number Wide = 5
number ShowsNothing = 6

-- a fault is about the whole proof
abbrev pub about : ProofFault → List ℕ
about _ = []

abbrev pub rank : ProofFault → List ℕ
rank fault = number fault ∷ about fault

-- a fault that the proof has, where it has none before it
abbrev pub IsFirstFault : Net → Box → Proof → ProofFault → Type 0
IsFirstFault n b proof = IsFirst rank (Holds n b proof)
