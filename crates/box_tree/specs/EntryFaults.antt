-- When an entry has a fault on a tree, and which of its faults is the first.
use Rattle.std.specs.Prelude.{◌≡◌, ◌≢◌, ℕ, ◌⊎◌, List, [], ◌∷◌, true, Option, None, Some}
use Rattle.std.specs.Option.{ForSome}
use Rattle.faults.specs.First.{IsFirst}
use Rattle.pool_model.specs.Network.{Net}
use Rattle.pool_model.specs.Plan.{Written}
use Rattle.plan_core.specs.Faults as plans
use Rattle.row_model.specs.Boxes.{Box, root, left_of, right_of}
use Rattle.row_model.specs.Multipliers.{Proof, IsInOrder}
use Rattle.row_model.specs.Trees.{Split, is_cut, box_of}
use Rattle.row_model.specs.Entries.{Entry, root_proof, split_of, improve, Searched, IsCheaper}
use Rattle.row_book.specs.Faults as proofs
use Rattle.row_book.specs.declared.fault.ProofFault.{ProofFault}
use Rattle.split_tree.specs.Faults.{Holds as SplitHolds}
use Rattle.split_tree.specs.declared.fault.SplitFault.{SplitFault}
use Rattle.split_tree.specs.declared.fault.SplitFault.TheVariants.{NotALeaf as NoLeaf, BadCoord as NoCoord, CutOutside as Outside, TooManySplits as TooMany}
use Rattle.box_tree.specs.declared.entry.EntryFault.{EntryFault}
use Rattle.box_tree.specs.declared.entry.EntryFault.TheVariants.{NotALeaf, BadCoord, CutOutside, TooManySplits, BadProof, BadPlan, PlanNotBetter, RootLate, Memory}

-- the fault of a split alone, as one of an entry
abbrev pub of_split : SplitFault → EntryFault
of_split NoLeaf = NotALeaf
of_split NoCoord = BadCoord
of_split Outside = CutOutside
of_split TooMany = TooManySplits

-- There is a proof, and this is its first fault in the box.
abbrev pub IsProofFault : Net → Box → Option Proof → ProofFault → Type 0
IsProofFault n b None fault = ⊥
IsProofFault n b (Some proof) fault = proofs.IsFirstFault n b proof fault

-- There is a proof, and this is the answer for its first fault in the box.
pub record IsBadProof (n : Net) (b : Box) (proof : Option Proof) (fault : EntryFault) : Type 0 where
  pub found : ProofFault
  pub is : fault ≡ BadProof found
  pub first : IsProofFault n b proof found

-- the first fault of the left half's proof, or of the right half's where the left one is in order
abbrev pub IsHalfFault : Net → Box → Split → Option Proof → Option Proof → ProofFault → Type 0
IsHalfFault n b s left right fault =
    IsProofFault n (left_of b s.coord s.cut) left fault
    ⊎ (ForSome left (IsInOrder n (left_of b s.coord s.cut)) × IsProofFault n (right_of b s.coord s.cut) right fault)

-- ---- the faults of each kind of entry

-- a split: it may not come next, or a proof of a half has a fault
abbrev pub SplitHas : Net → Searched → Split → Option Proof → Option Proof → EntryFault → Type 0
SplitHas n s split left right NotALeaf = SplitHolds n s.tree.splits split NoLeaf
SplitHas n s split left right BadCoord = SplitHolds n s.tree.splits split NoCoord
SplitHas n s split left right CutOutside = SplitHolds n s.tree.splits split Outside
SplitHas n s split left right TooManySplits = SplitHolds n s.tree.splits split TooMany
SplitHas n s split left right (BadProof fault) = IsHalfFault n (box_of n s.tree.splits split.leaf) split left right fault
SplitHas n s split left right _ = ⊥

-- a proof of the root: it has a fault, or the root has one already or is cut
abbrev pub RootHas : Net → Searched → Proof → EntryFault → Type 0
RootHas n s proof (BadProof fault) = proofs.IsFirstFault n (root n) proof fault
RootHas n s proof RootLate = (s.tree.proof 0 ≢ None) ⊎ (is_cut s.tree.splits 0 ≡ true)
RootHas n s proof _ = ⊥

-- a plan: it breaks a rule, or there is a plan and it is not cheaper
abbrev pub PlanHas : Net → Searched → Written → EntryFault → Type 0
PlanHas n s plan (BadPlan fault) = plans.IsFirstFault n plan fault
PlanHas n s plan PlanNotBetter = ¬ ForSome s.best (IsCheaper n plan)
PlanHas n s plan _ = ⊥

-- ---- order

-- the entry has this fault on the tree
abbrev pub Holds : Net → Searched → Entry → EntryFault → Type 0
Holds n s (root_proof proof) = RootHas n s proof
Holds n s (split_of split left right) = SplitHas n s split left right
Holds n s (improve plan) = PlanHas n s plan

-- the number of a fault, in the order in which they are looked for
abbrev pub number : EntryFault → ℕ
number NotALeaf = 1
number BadCoord = 2
number CutOutside = 3
number TooManySplits = 4
number (BadProof _) = 5
number (BadPlan _) = 6
number PlanNotBetter = 7
number RootLate = 8
number Memory = 9

abbrev pub rank : EntryFault → List ℕ
rank f = number f ∷ []

-- a fault that the entry has, where it has none before it
abbrev pub IsFirstFault : Net → Searched → Entry → EntryFault → Type 0
IsFirstFault n s e = IsFirst rank (Holds n s e)
