-- The first fault of a split that is looked at without being taken.
use Rattle.std.proofs.Common.{◌<◌, ◌≤◌, List, [], length, get_or, ℤ, pos, ◌<ℤ◌, arith, refl, sym, subst}
use Rattle.faults.proofs.First.{lone-first}
use Rattle.pool_model.specs.Network.{Net}
use Rattle.row_model.specs.Boxes.{Box, coords}
use Rattle.row_model.specs.Trees.{Split, IsLeaf, box_of, most_splits}
use Rattle.box_space.specs.Views.{AreEndsOf}
use Rattle.box_space.specs.declared.boxes.BoxEnds.{BoxEnds}
use Rattle.split_tree.specs.Faults.{Holds, IsInside, number, IsFirstFault}
use Rattle.split_tree.specs.declared.fault.SplitFault.{SplitFault}
use Rattle.split_tree.specs.declared.fault.SplitFault.TheVariants.{NotALeaf, BadCoord, CutOutside, TooManySplits}

module _ (n : Net) (splits : List Split) (s : Split) (leaf : IsLeaf splits s.leaf) where
  pub bad-coord : coords n ≤ s.coord → IsFirstFault n splits s BadCoord
  bad-coord h = lone-first {about = λ f. []} BadCoord refl h record { none = none }
    where
      none : (f : SplitFault) → number f < 2 → ¬ Holds n splits s f
      none NotALeaf lt has = has leaf
      none BadCoord lt has = omega (arith, lt)
      none CutOutside lt has = omega (arith, lt)
      none TooManySplits lt has = omega (arith, lt)

  pub cut-outside : s.coord < coords n → ¬ IsInside (box_of n splits s.leaf) s → IsFirstFault n splits s CutOutside
  cut-outside coord h = lone-first {about = λ f. []} CutOutside refl h record { none = none }
    where
      none : (f : SplitFault) → number f < 3 → ¬ Holds n splits s f
      none NotALeaf lt has = has leaf
      none BadCoord lt has = omega (arith, coord, has)
      none CutOutside lt has = omega (arith, lt)
      none TooManySplits lt has = omega (arith, lt)

  pub too-many : s.coord < coords n → IsInside (box_of n splits s.leaf) s → most_splits ≤ length splits → IsFirstFault n splits s TooManySplits
  too-many coord inside h = lone-first {about = λ f. []} TooManySplits refl h record { none = none }
    where
      none : (f : SplitFault) → number f < 4 → ¬ Holds n splits s f
      none NotALeaf lt has = has leaf
      none BadCoord lt has = omega (arith, coord, has)
      none CutOutside lt has = has inside
      none TooManySplits lt has = omega (arith, lt)

-- between the ends that are held is inside the box, and nothing else
pub inside-box : (n : Net) (b : Box) (e : BoxEnds) (s : Split) → AreEndsOf n b e → s.coord < coords n
    → (get_or e.low.items s.coord (pos 0) <ℤ s.cut) × (s.cut <ℤ get_or e.high.items s.coord (pos 0)) → IsInside b s
inside-box n b e s ends lt h = record {
  low = subst (λ (z : ℤ). z <ℤ s.cut) (ends.agree.low s.coord lt) h.0;
  high = subst (λ (z : ℤ). s.cut <ℤ z) (ends.agree.high s.coord lt) h.1;
}

pub outside-box : (n : Net) (b : Box) (e : BoxEnds) (s : Split) → AreEndsOf n b e → s.coord < coords n
    → ¬ ((get_or e.low.items s.coord (pos 0) <ℤ s.cut) × (s.cut <ℤ get_or e.high.items s.coord (pos 0))) → ¬ IsInside b s
outside-box n b e s ends lt h inside = h (
  subst (λ (z : ℤ). z <ℤ s.cut) (sym (ends.agree.low s.coord lt)) inside.low,
  subst (λ (z : ℤ). s.cut <ℤ z) (sym (ends.agree.high s.coord lt)) inside.high,
)
