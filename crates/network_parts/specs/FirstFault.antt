-- The first fault of the rows of a file, in the order in which faults are told.
use Rattle.std.specs.Prelude.{◌≢◌, ℕ, ◌<◌, List, [], ◌∷◌}
use Rattle.faults.specs.First.{IsFirst}
use Rattle.pool_model.specs.Rows.{Rows}
use Rattle.network_parts.specs.Faults.{IsTooMany, IsBadName, IsDuplicateName, IsUnknownName, IsArcBackwards, IsPoolToPool, IsDuplicateArc, IsPoolWithoutInput}
use Rattle.network_parts.specs.Faults.{IsPoolWithoutOutput, IsTooManyPaths, IsOutOfRange, IsLeastAboveMost}
use Rattle.network_parts.specs.declared.fault.Kind.{Kind}
use Rattle.network_parts.specs.declared.fault.Kind.TheVariants.{Source, Pool, Product, Quality, Arc}
use Rattle.network_parts.specs.declared.fault.NetFault.{NetFault}
use Rattle.network_parts.specs.declared.fault.NetFault.TheVariants.{TooMany, BadName, DuplicateName, UnknownName, ArcBackwards, PoolToPool, DuplicateArc}
use Rattle.network_parts.specs.declared.fault.NetFault.TheVariants.{PoolWithoutInput, PoolWithoutOutput, TooManyPaths, OutOfRange, LeastAboveMost, Memory}

-- ---- what a fault says

-- what a fault says of the rows: want of memory says nothing of them
abbrev pub Holds : Rows → NetFault → Type 0
Holds r (TooMany kind) = IsTooMany r kind
Holds r (BadName kind n) = IsBadName r kind n
Holds r (DuplicateName kind n) = IsDuplicateName r kind n
Holds r (UnknownName n) = IsUnknownName r n
Holds r (ArcBackwards n) = IsArcBackwards r n
Holds r (PoolToPool n) = IsPoolToPool r n
Holds r (DuplicateArc n) = IsDuplicateArc r n
Holds r (PoolWithoutInput n) = IsPoolWithoutInput r n
Holds r (PoolWithoutOutput n) = IsPoolWithoutOutput r n
Holds r TooManyPaths = IsTooManyPaths r
Holds r (OutOfRange kind n) = IsOutOfRange r kind n
Holds r (LeastAboveMost n) = IsLeastAboveMost r n
Holds r Memory = ⊥

-- ---- the order

-- the number of a fault's cause
abbrev pub number : NetFault → ℕ
number (TooMany kind) = 1
number (BadName kind n) = 2
number (DuplicateName kind n) = 3
number (UnknownName n) = 4
number (ArcBackwards n) = 5
number (PoolToPool n) = 6
number (DuplicateArc n) = 7
number (PoolWithoutInput n) = 8
number (PoolWithoutOutput n) = 9
number TooManyPaths = 10
number (OutOfRange kind n) = 11
number (LeastAboveMost n) = 12
number Memory = 13

-- the place of a kind in the order of the kinds
abbrev pub kind_number : Kind → ℕ
kind_number Source = 0
kind_number Pool = 1
kind_number Product = 2
kind_number Quality = 3
kind_number Arc = 4

-- the values that a fault carries, from left to right
abbrev pub about : NetFault → List ℕ
about (TooMany kind) = kind_number kind ∷ []
about (BadName kind n) = kind_number kind ∷ n ∷ []
about (DuplicateName kind n) = kind_number kind ∷ n ∷ []
about (UnknownName n) = n ∷ []
about (ArcBackwards n) = n ∷ []
about (PoolToPool n) = n ∷ []
about (DuplicateArc n) = n ∷ []
about (PoolWithoutInput n) = n ∷ []
about (PoolWithoutOutput n) = n ∷ []
about TooManyPaths = []
about (OutOfRange kind n) = kind_number kind ∷ n ∷ []
about (LeastAboveMost n) = n ∷ []
about Memory = []

-- the number of the cause, then the values
abbrev pub rank : NetFault → List ℕ
rank fault = number fault ∷ about fault

-- ---- the first

-- The fault holds, and none before it does. Want of memory may come at any time.
abbrev pub IsFirstFault : Rows → NetFault → Type 0
IsFirstFault r fault = fault ≢ Memory → IsFirst rank (Holds r) fault

-- no fault of an earlier cause than this one's holds
abbrev pub LacksEarlier : Rows → NetFault → Type 0
LacksEarlier r fault = (earlier : NetFault) → number earlier < number fault → ¬ Holds r earlier
