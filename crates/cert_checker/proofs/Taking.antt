-- Splits that are taken one after another.
use Rattle.std.proofs.Common.{◌≡◌, ℕ, ◌+◌, ◌<◌, ◌≤◌, ◌⊎◌, inl, inr, List, [], ◌∷◌, ◌++◌, length, take, arith, sym, ap, subst, ◌∙◌, add-one}
use Rattle.std.proofs.Math.Seq.{take-suc}
use Rattle.pool_model.specs.Network.{Net}
use Rattle.row_model.specs.Trees.{Split, no_split, split_at, most_splits, CutsLeaf, box_after, IsSplitInOrder}
use Rattle.row_model.proofs.TreeLaw.{length_before}
use Rattle.split_tree.specs.Faults.{Holds}
use Rattle.split_tree.specs.declared.fault.SplitFault.{SplitFault}
use Rattle.split_tree.specs.declared.fault.SplitFault.TheVariants.{NotALeaf, BadCoord, CutOutside, TooManySplits}
use Rattle.split_tree.specs.Splits.{Splits, IsOf, MayCome}
use Rattle.proof_lines.specs.Trees.{IsFirstSplit}
use Rattle.cert_checker.proofs.Within.{box_within, order-within}

-- the first so many splits are taken
pub record AreTaken (n : Net) (splits : List Split) (t : ℕ) (tree : Splits) : Type 0 where
  pub list : tree.list ≡ take t splits
  pub is : IsOf n tree

-- to come next after the first splits is to be in order
next_is : (n : Net) (splits : List Split) (t : ℕ) → t ≤ length splits → MayCome n (take t splits) (split_at splits t) ≡ IsSplitInOrder n splits t
next_is n splits t h = ap (λ b. CutsLeaf n (take t splits) b (split_at splits t))
    (ap (λ l. box_after n (take t splits) l (split_at splits t).leaf) (length_before splits t h) ∙ box_within n splits t t (split_at splits t).leaf (omega arith))

faulty : (n : Net) (splits : List Split) (t : ℕ) (f : SplitFault) → t < length splits → t ≤ most_splits
    → Holds n (take t splits) (split_at splits t) f → (t ≡ most_splits) ⊎ (¬ IsSplitInOrder n splits t)
faulty n splits t f h few holds = cases f holds
  where
    back : IsSplitInOrder n splits t → MayCome n (take t splits) (split_at splits t)
    back order = subst (λ (T : Type 0). T) (sym (next_is n splits t (omega arith))) order

    cases : (f : SplitFault) → Holds n (take t splits) (split_at splits t) f → (t ≡ most_splits) ⊎ (¬ IsSplitInOrder n splits t)
    cases NotALeaf k = inr (λ order. k (back order).leaf)
    cases BadCoord k = inr (λ order. let known = (back order).coord in omega (arith, k, known))
    cases CutOutside k = inr (λ order. k record { low = (back order).low; high = (back order).high })
    cases TooManySplits k = inl (omega (arith, k, few, length_before splits t (omega arith)))

pub wrong-next : (n : Net) (splits : List Split) (t : ℕ) (tree : Splits) (f : SplitFault) → t < length splits → AreTaken n splits t tree
    → Holds n tree.list (split_at splits t) f → IsFirstSplit n splits t
wrong-next n splits t tree f h taken holds =
    let long = length_before splits t (omega arith) in
    let few : t ≤ most_splits = omega (arith, taken.is.few, ap length taken.list, long) in
    record {
      wrong = record { there = h; wrong = faulty n splits t f h few (subst (λ l. Holds n l (split_at splits t) f) taken.list holds) };
      few = few;
      before = λ i lt. subst (λ (T : Type 0). T) (order-within n splits t i lt) (subst (λ l. IsSplitInOrder n l i) taken.list (taken.is.in_order i (omega (arith, lt, ap length taken.list, long))));
    }

pub taken-next : (n : Net) (splits : List Split) (t : ℕ) (tree new : Splits) → t < length splits → AreTaken n splits t tree
    → new.list ≡ tree.list ++ split_at splits t ∷ [] → IsOf n new → AreTaken n splits (t + 1) new
taken-next n splits t tree new h taken longer is = record {
  list = longer ∙ ap (λ l. l ++ split_at splits t ∷ []) taken.list ∙ sym (ap (λ m. take m splits) (add-one t) ∙ take-suc splits t no_split h);
  is = is;
}
