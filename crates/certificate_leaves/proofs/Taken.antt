-- Splits that are in order, taken one after another.
use Rattle.std.proofs.Common.{◌≡◌, ℕ, ◌<◌, List, length, take, arith, sym, ap, subst, ◌∙◌}
use Rattle.pool_model.specs.Network.{Net}
use Rattle.row_model.specs.Trees.{Split, split_at, CutsLeaf, box_after, box_of, IsSplitInOrder}
use Rattle.row_model.proofs.TreeLaw.{length_before}
use Rattle.split_tree.specs.Splits.{Splits, MayCome}
use Rattle.cert_checker.proofs.Taking.{AreTaken}
use Rattle.cert_checker.proofs.Within.{box_within}

-- a split that is in order may come next after those before it
pub may-come : (n : Net) (splits : List Split) (t : ℕ) (tree : Splits) → t < length splits → AreTaken n splits t tree → IsSplitInOrder n splits t → MayCome n tree.list (split_at splits t)
may-come n splits t tree h taken order =
    let s = split_at splits t in
    let same : box_after n splits t s.leaf ≡ box_of n (take t splits) s.leaf =
    sym (box_within n splits t t s.leaf (omega arith)) ∙ ap (λ l. box_after n (take t splits) l s.leaf) (sym (length_before splits t (omega arith))) in
    subst (λ l. MayCome n l s) (sym taken.list) (subst (λ b. CutsLeaf n (take t splits) b s) same order)
