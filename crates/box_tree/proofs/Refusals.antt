-- No fault comes before the first one that is found.
use Rattle.std.proofs.Common.{◌≢◌, ℕ, ◌<◌, ◌≤◌, inl, inr, List, [], length, Option, Some, None, arith, refl, sym, subst}
use Rattle.std.specs.Prelude.{Result, Ok, Err, IfErr}
use Rattle.std.specs.Option.{ForSome}
use Rattle.integers.proofs.Ring.{additive}
use Rattle.faults.proofs.First.{IsClear, lone-first}
use Rattle.pool_model.specs.Network.{Net}
use Rattle.pool_model.specs.Plan.{Written, plan_of, IsWritten, Obeys}
use Rattle.pool_model.proofs.ArcCosts.{keeps-by_number}
use Rattle.plan_core.specs.Faults as plans
use Rattle.plan_core.specs.declared.fault.PlanFault.{PlanFault}
use Rattle.plan_core.specs.declared.fault.PlanFault.TheVariants.{Shape, WeightSum, SourceOver, PoolOver, ProductOver, ProductUnder, QualityOver, QualityUnder, ArcOver}
use Rattle.row_model.specs.Boxes.{Box, root}
use Rattle.row_model.specs.Multipliers.{Proof, IsInOrder}
use Rattle.row_model.specs.Trees.{Split, most_splits, box_of}
use Rattle.row_model.specs.Entries.{Entry, Searched, root_proof, split_of, improve, IsCheaper, IsRootInOrder, IsSplitEntryInOrder, IsPlanInOrder, IsEntryInOrder}
use Rattle.row_book.proofs.AgreedFaults.{no-fault}
use Rattle.row_book.specs.Faults as proofs
use Rattle.row_book.specs.declared.fault.ProofFault.{ProofFault}
use Rattle.split_tree.specs.Faults as splits
use Rattle.split_tree.specs.Faults.{Holds as SplitHolds}
use Rattle.split_tree.specs.declared.fault.SplitFault.{SplitFault}
use Rattle.split_tree.specs.declared.fault.SplitFault.TheVariants.{NotALeaf as NoLeaf, BadCoord as NoCoord, CutOutside as Outside, TooManySplits as TooMany}
use Rattle.split_tree.specs.declared.span.Side.TheVariants.{Left, Right}
use Rattle.split_tree.specs.Spans.{half_at}
use Rattle.split_tree.specs.Splits.{MayCome}
use Rattle.box_tree.specs.EntryFaults.{of_split, IsProofFault, IsBadProof, IsHalfFault, SplitHas, RootHas, PlanHas, number, IsFirstFault}
use Rattle.box_tree.specs.declared.entry.EntryFault.{EntryFault}
use Rattle.box_tree.specs.declared.entry.EntryFault.TheVariants.{NotALeaf, BadCoord, CutOutside, TooManySplits, BadProof, BadPlan, PlanNotBetter, RootLate, Memory}

-- ---- splits

-- a split that may come next has none of the faults of a split alone
no-split-fault : (n : Net) (splits : List Split) (split : Split) (f : SplitFault) → MayCome n splits split → length splits < most_splits → ¬ SplitHolds n splits split f
no-split-fault n splits split NoLeaf cuts few h = h cuts.leaf
no-split-fault n splits split NoCoord cuts few h = omega (arith, h, cuts.coord)
no-split-fault n splits split Outside cuts few h = h record { low = cuts.low; high = cuts.high }
no-split-fault n splits split TooMany cuts few h = omega (arith, h, few)

module _ (n : Net) (s : Searched) (split : Split) (left right : Option Proof) where
  split_clear : (count : ℕ) → count ≤ 5 → ((f : SplitFault) → splits.number f < count → ¬ SplitHolds n s.tree.splits split f) → IsClear number (SplitHas n s split left right) count
  split_clear count most clear = record { none = none }
    where
      none : (f : EntryFault) → number f < count → ¬ SplitHas n s split left right f
      none NotALeaf less = clear NoLeaf less
      none BadCoord less = clear NoCoord less
      none CutOutside less = clear Outside less
      none TooManySplits less = clear TooMany less
      none f less = absurd (omega (arith, less, most))

  before : (f : SplitFault) → splits.IsFirstFault n s.tree.splits split f → (g : SplitFault) → splits.number g < splits.number f → ¬ SplitHolds n s.tree.splits split g
  before f h g less = h.first g (inl less)

  -- the first fault of a split alone is the entry's
  pub bad-split : (f : SplitFault) → splits.IsFirstFault n s.tree.splits split f → IsFirstFault n s (split_of split left right) (of_split f)
  bad-split NoLeaf h = lone-first {about = λ f. []} NotALeaf refl h.holds (split_clear 1 (omega arith) (before NoLeaf h))
  bad-split NoCoord h = lone-first {about = λ f. []} BadCoord refl h.holds (split_clear 2 (omega arith) (before NoCoord h))
  bad-split Outside h = lone-first {about = λ f. []} CutOutside refl h.holds (split_clear 3 (omega arith) (before Outside h))
  bad-split TooMany h = lone-first {about = λ f. []} TooManySplits refl h.holds (split_clear 4 (omega arith) (before TooMany h))

  bad-half : (f : ProofFault) → MayCome n s.tree.splits split → length s.tree.splits < most_splits → IsHalfFault n (box_of n s.tree.splits split.leaf) split left right f
      → IsFirstFault n s (split_of split left right) (BadProof f)
  bad-half f cuts few h = lone-first {about = λ f. []} (BadProof f) refl h (split_clear 5 (omega arith) (λ g less. no-split-fault n s.tree.splits split g cuts few))

  -- the same by what a half's proof was answered with
  pub bad-left : (fault : EntryFault) → MayCome n s.tree.splits split → length s.tree.splits < most_splits
      → IsBadProof n (half_at n s.tree.splits split Left) left fault → IsFirstFault n s (split_of split left right) fault
  bad-left fault cuts few bad = subst (IsFirstFault n s (split_of split left right)) (sym bad.is) (bad-half bad.found cuts few (inl bad.first))

  pub bad-right : (fault : EntryFault) → MayCome n s.tree.splits split → length s.tree.splits < most_splits
      → ForSome left (IsInOrder n (half_at n s.tree.splits split Left)) → IsBadProof n (half_at n s.tree.splits split Right) right fault → IsFirstFault n s (split_of split left right) fault
  bad-right fault cuts few order bad = subst (IsFirstFault n s (split_of split left right)) (sym bad.is) (bad-half bad.found cuts few (inr (order, bad.first)))

-- ---- proofs of the root

pub bad-root : (n : Net) (s : Searched) (proof : Proof) (f : ProofFault) → proofs.IsFirstFault n (root n) proof f → IsFirstFault n s (root_proof proof) (BadProof f)
bad-root n s proof f h = lone-first {about = λ f. []} (BadProof f) refl h record { none = none }
  where
    none : (f : EntryFault) → number f < 5 → ¬ RootHas n s proof f
    none (BadProof g) less has = omega (arith, less)
    none RootLate less has = omega (arith, less)
    none _ less has = has

pub root-late : (n : Net) (s : Searched) (proof : Proof) → IsInOrder n (root n) proof → RootHas n s proof RootLate → IsFirstFault n s (root_proof proof) RootLate
root-late n s proof is h = lone-first {about = λ f. []} RootLate refl h record { none = none }
  where
    none : (f : EntryFault) → number f < 8 → ¬ RootHas n s proof f
    none (BadProof g) less has = no-fault n (root n) proof g is has.holds
    none RootLate less has = omega (arith, less)
    none _ less has = has

-- ---- plans

no-plan-fault : (n : Net) (w : Written) (f : PlanFault) → IsWritten n w → Obeys n (plan_of n w) → ¬ plans.Breaks n w f
no-plan-fault n w Shape is o h = h record { base = is.base; flow_base = is.flow_base; weights = is.weights; outflows = is.outflows; direct = is.direct }
no-plan-fault n w (WeightSum l) is o h = h.1 (is.weight_sums l h.0)
no-plan-fault n w (SourceOver i) is o h = let keeps = o.carries.sources i h.0 in omega (arith, keeps, h.1)
no-plan-fault n w (PoolOver l) is o h = let keeps = o.carries.pools l h.0 in omega (arith, keeps, h.1)
no-plan-fault n w (ProductOver j) is o h = let keeps = o.carries.at_most j h.0 in omega (arith, keeps, h.1)
no-plan-fault n w (ProductUnder j) is o h = let keeps = o.carries.at_least j h.0 in omega (arith, keeps, h.1)
no-plan-fault n w (QualityOver j k) is o h = let keeps = o.blends.at_most j k h.2.most h.0 h.1 h.2.is in omega (arith, additive, keeps, h.2.above)
no-plan-fault n w (QualityUnder j k) is o h = let keeps = o.blends.at_least j k h.2.least h.0 h.1 h.2.is in omega (arith, additive, keeps, h.2.below)
no-plan-fault n w (ArcOver a) is o h = let keeps = keeps-by_number n (plan_of n w) o.carries.arcs a h.1.most h.0 h.1.is in omega (arith, keeps, h.1.above)

pub bad-plan : (n : Net) (s : Searched) (w : Written) (f : PlanFault) → plans.IsFirstFault n w f → IsFirstFault n s (improve w) (BadPlan f)
bad-plan n s w f h = lone-first {about = λ f. []} (BadPlan f) refl h record { none = none }
  where
    none : (f : EntryFault) → number f < 6 → ¬ PlanHas n s w f
    none (BadPlan g) less has = omega (arith, less)
    none PlanNotBetter less has = omega (arith, less)
    none _ less has = has

pub not-better : (n : Net) (s : Searched) (w : Written) → IsWritten n w → Obeys n (plan_of n w) → ¬ ForSome s.best (IsCheaper n w) → IsFirstFault n s (improve w) PlanNotBetter
not-better n s w is o h = lone-first {about = λ f. []} PlanNotBetter refl h record { none = none }
  where
    none : (f : EntryFault) → number f < 7 → ¬ PlanHas n s w f
    none (BadPlan g) less has = no-plan-fault n w g is o has.holds
    none PlanNotBetter less has = omega (arith, less)
    none _ less has = has

-- ---- an entry with a fault is not in order

no-half-fault : (n : Net) (b : Box) (o : Option Proof) (f : ProofFault) → ForSome o (IsInOrder n b) → ¬ IsProofFault n b o f
no-half-fault n b None f is h = h
no-half-fault n b (Some proof) f is h = no-fault n b proof f (is proof refl) h.holds

split-refused : (n : Net) (s : Searched) (split : Split) (left right : Option Proof) (f : EntryFault) → SplitHas n s split left right f → ¬ IsSplitEntryInOrder n s split left right
split-refused n s split left right NotALeaf h is = no-split-fault n s.tree.splits split NoLeaf is.cuts is.few h
split-refused n s split left right BadCoord h is = no-split-fault n s.tree.splits split NoCoord is.cuts is.few h
split-refused n s split left right CutOutside h is = no-split-fault n s.tree.splits split Outside is.cuts is.few h
split-refused n s split left right TooManySplits h is = no-split-fault n s.tree.splits split TooMany is.cuts is.few h
split-refused n s split left right (BadProof f) h is = elim h [
  | inl a ↦ no-half-fault n (half_at n s.tree.splits split Left) left f is.left_proof a
  | inr b ↦ no-half-fault n (half_at n s.tree.splits split Right) right f is.right_proof b.1
]
split-refused n s split left right _ h is = h

root-refused : (n : Net) (s : Searched) (proof : Proof) (f : EntryFault) → RootHas n s proof f → ¬ IsRootInOrder n s proof
root-refused n s proof (BadProof f) h is = no-fault n (root n) proof f is.shows h.holds
root-refused n s proof RootLate h is = elim h [ inl a ↦ a is.unproved | inr b ↦ cc (b, is.uncut) ]
root-refused n s proof _ h is = h

plan-refused : (n : Net) (s : Searched) (w : Written) (f : EntryFault) → PlanHas n s w f → ¬ IsPlanInOrder n s w
plan-refused n s w (BadPlan f) h is = no-plan-fault n w f is.written is.obeys h.holds
plan-refused n s w PlanNotBetter h is = h is.cheaper
plan-refused n s w _ h is = h

pub refused : (n : Net) (s : Searched) (e : Entry) (f : EntryFault) → IsFirstFault n s e f → ¬ IsEntryInOrder n s e
refused n s (root_proof proof) f h is = root-refused n s proof f h.holds is
refused n s (split_of split left right) f h is = split-refused n s split left right f h.holds is
refused n s (improve w) f h is = plan-refused n s w f h.holds is

pub refused-each : {T : Type 0} (n : Net) (s : Searched) (e : Entry) (r : Result T EntryFault) → IfErr r (λ f. f ≢ Memory → IsFirstFault n s e f) → IfErr r (λ f. f ≢ Memory → ¬ IsEntryInOrder n s e)
refused-each n s e (Ok x) h = tt
refused-each n s e (Err f) h = λ other is. refused n s e f (h other) is
