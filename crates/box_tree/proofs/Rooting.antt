-- A proof of the root: what is kept with it is a network's again.
use Rattle.std.proofs.Common.{◌≡◌, ◌≢◌, ℕ, ◌<◌, ◌⊎◌, inl, inr, ◌==◌, if◌then◌else◌, List, [], ◌∷◌, length, get_or, set}
use Rattle.std.proofs.Common.{Bool, true, false, Option, Some, None, option_map, ℤ, arith, refl, sym, ap, subst, ◌∙◌, get_or-set_same, get_or-set_other}
use Rattle.std.proofs.Math.Path.{fun_ext}
use Rattle.std.proofs.lemmas.List.{length-set}
use Rattle.integers.proofs.AtKey.{same_or_other, chosen, passed}
use Rattle.pool_model.specs.Network.{Net}
use Rattle.pool_model.specs.Starting.{reach_bound}
use Rattle.row_model.specs.Boxes.{Box, root}
use Rattle.row_model.specs.Multipliers.{Proof, shown_by, IsInOrder}
use Rattle.row_model.specs.Trees.{Split, split_at, is_cut, Tree, IsTree, raised, own, box_after, box_of, bound_after, node_bound}
use Rattle.row_model.specs.Entries.{Searched, after, root_proof, IsRootInOrder, IsSearched}
use Rattle.row_model.proofs.EntryLaw.{searched-kept}
use Rattle.box_tree.specs.Kept.{Kept, searched_of, IsKeptOf}
use Rattle.box_tree.specs.Taken.{IsTaken, rooted}

proof_at : (proofs : List (Option Proof)) (proof : Proof) (node : ℕ) → 0 < length proofs → get_or (set proofs 0 (Some proof)) node None ≡ (if node == 0 then Some proof else get_or proofs node None)
proof_at proofs proof node some = elim (same_or_other node 0) [
  | inl e ↦ ap (λ (i : ℕ). get_or (set proofs 0 (Some proof)) i None) e ∙ get_or-set_same proofs 0 (Some proof) None some ∙ sym (chosen node 0 (Some proof) (get_or proofs node None) e)
  | inr d ↦ get_or-set_other proofs 0 node (Some proof) None d ∙ sym (passed node 0 (Some proof) (get_or proofs node None) d)
]

abbrev searched_with : Searched → (ℕ → Option Proof) → Searched
searched_with s proof = record s { tree = record s.tree { proof = proof } }

rooted-made : (k : Kept) (proof : Proof) (bound : Option ℤ) → 0 < length k.proofs → searched_of (rooted k proof bound) ≡ after (searched_of k) (root_proof proof)
rooted-made k proof bound some = ap (searched_with (searched_of k)) (fun_ext (λ node. proof_at k.proofs proof node some))

-- a tree whose root is not cut has no splits
none : (splits : List Split) → (0 < length splits → (split_at splits 0).leaf < 1) → is_cut splits 0 ≡ false → length splits ≡ 0
none [] h e = refl
none (x ∷ xs) h e =
    let lt = h (omega arith) in
    let first : x.leaf ≡ 0 = omega (arith, lt) in
    let yes : (x.leaf == 0) ≡ true = ap (λ (i : ℕ). i == 0) first in
    absurd (cc (yes, e))

pub no_splits : (n : Net) (tree : Tree) → IsTree n tree → is_cut tree.splits 0 ≡ false → length tree.splits ≡ 0
no_splits n tree is uncut = none tree.splits (λ h. let there = (is.splits 0 h).leaf.there in omega (arith, there)) uncut

-- the bound of the one node
first_bound : (n : Net) (tree : Tree) (l node : ℕ) → l ≡ 0 → node ≡ 0 → bound_after n tree l node ≡ raised (Some (reach_bound n)) (own n tree 0)
first_bound n tree l node e f = ap (λ (m : ℕ). bound_after n tree m node) e ∙ ap (λ (m : ℕ). bound_after n tree 0 m) f

first_box : (n : Net) (splits : List Split) (l : ℕ) → l ≡ 0 → box_after n splits l 0 ≡ root n
first_box n splits l e = ap (λ (m : ℕ). box_after n splits m 0) e

pub root-taken : (n : Net) (k : Kept) (proof : Proof) (bound : Option ℤ) → IsKeptOf n k → IsInOrder n (root n) proof → get_or k.proofs 0 None ≡ None → is_cut k.splits.list 0 ≡ false
    → bound ≡ raised (get_or k.bounds 0 None) (Some (shown_by n (root n) proof)) → IsTaken n (root_proof proof) k (rooted k proof bound)
root-taken n k proof bound is shows unproved uncut bound_is =
    let s = searched_of k in
    let new = (after s (root_proof proof)).tree in
    let made = rooted-made k proof bound (omega (arith, is.proved)) in
    let order : IsRootInOrder n s proof = record { shows = shows; unproved = unproved; uncut = uncut } in
    let only = no_splits n s.tree is.searched.tree uncut in
    let before : get_or k.bounds 0 None ≡ Some (reach_bound n) =
    is.bounds 0 (omega arith) ∙ first_bound n s.tree (length k.splits.list) 0 only refl
    ∙ ap (λ (o : Option Proof). raised (Some (reach_bound n)) (option_map (shown_by n (box_of n k.splits.list 0)) o)) unproved in
    let now : bound ≡ raised (Some (reach_bound n)) (own n new 0) =
    bound_is ∙ ap (λ (o : Option ℤ). raised o (Some (shown_by n (root n) proof))) before
    ∙ ap (λ (b : Box). raised (Some (reach_bound n)) (Some (shown_by n b proof))) (sym (first_box n k.splits.list (length k.splits.list) only)) in
    let long_set = length-set k.bounds 0 bound in
    record {
      in_order = order;
      made = made;
      kept = record {
        searched = subst (λ (z : Searched). IsSearched n z) (sym made) (searched-kept n s (root_proof proof) is.searched order);
        proved = length-set k.proofs 0 (Some proof) ∙ is.proved;
        bounded = long_set ∙ is.bounded;
        splits = is.splits;
        counted = is.counted;
        bounds = λ node h. subst (λ (z : Searched). get_or (set k.bounds 0 bound) node None ≡ node_bound n z.tree node) (sym made)
            (let first : node ≡ 0 = omega (arith, h, only) in
            ap (λ (i : ℕ). get_or (set k.bounds 0 bound) i None) first ∙ get_or-set_same k.bounds 0 bound None (omega (arith, is.bounded)) ∙ now
            ∙ sym (first_bound n new (length k.splits.list) node only first));
        cost = is.cost;
      };
    }

-- a root that is not open has a proof or is cut
pub late : (o : Option Proof) (b : Bool) → ¬ ((o ≡ None) × (b ≡ false)) → (o ≢ None) ⊎ (b ≡ true)
late o true h = inr refl
late o false h = inl (λ e. h (e, refl))
