-- What is known of the root, step by step: it is open still, or it holds no plan, or its bound is at least what the price proof shows.
use Rattle.std.proofs.Common.{◌≡◌, ℕ, ◌⊎◌, inl, inr, length, Option, Some, None, option_map, ℤ, arith, refl, sym, ap, subst, ◌∙◌}
use Rattle.pool_model.specs.Network.{Net}
use Rattle.pool_model.specs.Starting.{reach_bound}
use Rattle.row_model.specs.Boxes.{Box, root}
use Rattle.row_model.specs.Multipliers.{Proof, shown_by}
use Rattle.row_model.specs.Trees.{Split, Tree, IsTree, box_of, node_bound, bound_after, own, raised}
use Rattle.row_model.specs.Entries.{Searched, root_proof, split_of, after}
use Rattle.row_model.proofs.TreeLaw.{box_is}
use Rattle.box_space.specs.declared.coordinates.Form.{Form}
use Rattle.dual_rounding.specs.Price.{IsPriced}
use Rattle.dual_rounding.proofs.Priced.{priced-raised}
use Rattle.search_core.specs.Cases.{IsRootOpen, IsRootProof, HasNoRootProof}
use Rattle.search_run.specs.Found.{IsPricedAt}
use Rattle.search_run.specs.declared.orders.Orders.{Orders}
use Rattle.box_tree.proofs.Rooting.{no_splits}
use Rattle.search_run.proofs.Growing.{IsLeafSplit, priced-old}

abbrev pub IsRootDone : Net → Searched → Type 0
IsRootDone n s = IsRootOpen s ⊎ IsPricedAt n s.tree 0

root-box : (n : Net) (tree : Tree) → box_of n tree.splits 0 ≡ root n
root-box n tree = box_is n tree.splits 0 0 (omega arith) (omega arith)

-- the bound of a root that is not cut
root-bound : (n : Net) (tree : Tree) (l : ℕ) → l ≡ 0 → bound_after n tree l 0 ≡ raised (Some (reach_bound n)) (own n tree 0)
root-bound n tree l e = ap (λ (m : ℕ). bound_after n tree m 0) e

some-same : {X : Type 0} (a b : X) → Some a ≡ Some b → a ≡ b
some-same a b e = cc

-- with a proof that rounding gave
pub root-proved : (n : Net) (form : Form) (s : Searched) (p : Proof) → IsTree n s.tree → IsRootProof n form s p → IsPricedAt n (after s (root_proof p)).tree 0
root-proved n form s p is r =
    let t = (after s (root_proof p)).tree in
    let none = no_splits n s.tree is r.is_open.1 in
    let before : node_bound n s.tree 0 ≡ Some (reach_bound n) = root-bound n s.tree (length s.tree.splits) none
    ∙ ap (λ (o : Option Proof). raised (Some (reach_bound n)) (option_map (shown_by n (box_of n s.tree.splits 0)) o)) r.is_open.0 in
    let least : r.least ≡ reach_bound n = some-same r.least (reach_bound n) (sym r.bounded ∙ before) in
    let now : node_bound n t 0 ≡ raised (Some r.least) (option_map (shown_by n (root n)) (Some p)) =
    root-bound n t (length s.tree.splits) none
    ∙ ap (λ (b : Box). raised (Some (reach_bound n)) (Some (shown_by n b p))) (root-box n t)
    ∙ ap (λ (z : ℤ). raised (Some z) (Some (shown_by n (root n) p))) (sym least) in
    subst (λ (b : Box). IsPriced n b (node_bound n t 0)) (sym (root-box n t))
    (subst (IsPriced n (root n)) (sym now) (priced-raised n (root n) r.least (Some p) r.given.price))

-- where there is no proof to be had
pub root-unproved : (n : Net) (form : Form) (s : Searched) → IsRootOpen s → HasNoRootProof n form s → IsPricedAt n s.tree 0
root-unproved n form s is none =
    subst (λ (b : Box). IsPriced n b (node_bound n s.tree 0)) (sym (root-box n s.tree)) (by (node_bound n s.tree 0) refl)
  where
    by : (o : Option ℤ) → node_bound n s.tree 0 ≡ o → IsPriced n (root n) o
    by None e = tt
    by (Some z) e = priced-raised n (root n) z None (none z is e).price

pub done-now : (n : Net) (form : Form) (s : Searched) → HasNoRootProof n form s → IsRootDone n s → IsPricedAt n s.tree 0
done-now n form s none (inl opens) = root-unproved n form s opens none
done-now n form s none (inr priced) = priced

-- a split
pub done-split : (n : Net) (o : Orders) (s : Searched) (split : Split) (left right : Option Proof) → IsTree n s.tree → IsLeafSplit n o s split left right → HasNoRootProof n o.form s
    → IsRootDone n s → IsRootDone n (after s (split_of split left right))
done-split n o s split left right is cut none done =
    inr (priced-old n o s split left right is cut 0 (omega arith) (done-now n o.form s none done))
