-- An entry in order leaves a tree in order.
use Rattle.std.proofs.Common.{◌≡◌, ℕ, zero, suc, ◌<◌, ◌≤◌, ◌⊎◌, inl, inr, ◌==◌, if◌then◌else◌, List, [], ◌∷◌, ◌++◌, length, take, get_or, Option, Some, arith, refl, sym, ap, subst, ◌∙◌, length-append}
use Rattle.std.specs.Option.{ForSome}
use Rattle.std.specs.Prelude.{unwrap_or}
use Rattle.std.proofs.lemmas.List.{take_all}
use Rattle.integers.proofs.AtKey.{same_or_other, chosen, passed}
use Rattle.pool_model.specs.Network.{Net}
use Rattle.pool_model.specs.Plan.{plan_of, IsWritten, Obeys}
use Rattle.row_model.specs.Boxes.{Box, left_of, right_of}
use Rattle.row_model.specs.Multipliers.{Proof, IsInOrder}
use Rattle.row_model.specs.Trees.{Split, no_split, split_at, left_node, right_node, nodes, CutsLeaf, box_after, box_of, IsSplitInOrder, IsTree}
use Rattle.row_model.specs.Entries.{Entry, root_proof, split_of, improve, Searched, after, IsRootInOrder, IsSplitEntryInOrder, IsEntryInOrder, IsSearched}
use Rattle.row_model.proofs.TreeLaw.{box_is, left_box, right_box}

-- ---- one split more leaves the first ones as they were

take_first : {X : Type 0} (xs ys : List X) (t : ℕ) → t ≤ length xs → take t (xs ++ ys) ≡ take t xs
take_first xs ys zero h = refl
take_first [] ys (suc t) h = absurd (omega arith)
take_first (x ∷ xs) ys (suc t) h = ap (λ zs. x ∷ zs) (take_first xs ys t (omega arith))

at_first : {X : Type 0} (xs ys : List X) (t : ℕ) (d : X) → t < length xs → get_or (xs ++ ys) t d ≡ get_or xs t d
at_first [] ys t d h = absurd (omega arith)
at_first (x ∷ xs) ys zero d h = refl
at_first (x ∷ xs) ys (suc t) d h = at_first xs ys t d (omega arith)

at_end : {X : Type 0} (xs : List X) (x d : X) → get_or (xs ++ x ∷ []) (length xs) d ≡ x
at_end [] x d = refl
at_end (y ∷ xs) x d = at_end xs x d

-- boxes speak of the first splits alone
same_box : (n : Net) (splits more : List Split) (t node : ℕ) → t ≤ length splits → box_after n (splits ++ more) t node ≡ box_after n splits t node
same_box n splits more zero node h = refl
same_box n splits more (suc t) node h =
    let at : split_at (splits ++ more) t ≡ split_at splits t = at_first splits more t no_split (omega arith) in
    let inner : (m : ℕ) → box_after n (splits ++ more) t m ≡ box_after n splits t m = λ m. same_box n splits more t m (omega arith) in
    ap (λ s. one (box_after n (splits ++ more) t s.leaf) (box_after n (splits ++ more) t node) s) at
    ∙ ap (λ b. one b (box_after n (splits ++ more) t node) (split_at splits t)) (inner (split_at splits t).leaf)
    ∙ ap (λ b. one (box_after n splits t (split_at splits t).leaf) b (split_at splits t)) (inner node)
  where
    one : Box → Box → Split → Box
    one b old s = if node == left_node t then left_of b s.coord s.cut else (if node == right_node t then right_of b s.coord s.cut else old)

order_kept : (n : Net) (splits more : List Split) (t : ℕ) → t < length splits → IsSplitInOrder n splits t → IsSplitInOrder n (splits ++ more) t
order_kept n splits more t h order =
    subst (λ s. CutsLeaf n (take t (splits ++ more)) (box_after n (splits ++ more) t s.leaf) s) (sym (at_first splits more t no_split h))
    (subst (λ b. CutsLeaf n (take t (splits ++ more)) b (split_at splits t)) (sym (same_box n splits more t (split_at splits t).leaf (omega arith)))
    (subst (λ xs. CutsLeaf n xs (box_after n splits t (split_at splits t).leaf) (split_at splits t)) (sym (take_first splits more t (omega arith))) order))

-- the new split is in order after the old ones
order_new : (n : Net) (splits : List Split) (s : Split) → CutsLeaf n splits (box_of n splits s.leaf) s → IsSplitInOrder n (splits ++ s ∷ []) (length splits)
order_new n splits s cuts =
    let l = length splits in
    subst (λ z. CutsLeaf n (take l (splits ++ s ∷ [])) (box_after n (splits ++ s ∷ []) l z.leaf) z) (sym (at_end splits s no_split))
    (subst (λ b. CutsLeaf n (take l (splits ++ s ∷ [])) b s) (sym (same_box n splits (s ∷ []) l s.leaf (omega arith)))
    (subst (λ xs. CutsLeaf n xs (box_of n splits s.leaf) s) (sym (take_first splits (s ∷ []) l (omega arith) ∙ take_all l splits (omega arith))) cuts))

pub length-more : (splits : List Split) (s : Split) → length (splits ++ s ∷ []) ≡ suc (length splits)
length-more splits s = omega (arith, length-append splits (s ∷ []))

same_or_before : (t l : ℕ) → t < suc l → (t < l) ⊎ (t ≡ l)
same_or_before t l h = grind arith

-- a node of the old tree keeps its box
pub box_before : (n : Net) (splits : List Split) (s : Split) (node : ℕ) → node < nodes splits → box_of n (splits ++ s ∷ []) node ≡ box_of n splits node
box_before n splits s node h =
    box_is n (splits ++ s ∷ []) (length splits) node (omega (arith, length-more splits s)) h ∙ same_box n splits (s ∷ []) (length splits) node (omega arith)

-- the boxes of the two new nodes are the halves of the leaf's
pub box_left : (n : Net) (splits : List Split) (s : Split) → box_of n (splits ++ s ∷ []) (left_node (length splits)) ≡ left_of (box_of n splits s.leaf) s.coord s.cut
box_left n splits s =
    let l = length splits in
    box_is n (splits ++ s ∷ []) (suc l) (left_node l) (omega (arith, length-more splits s)) (omega arith)
    ∙ left_box n (splits ++ s ∷ []) l
    ∙ ap (λ z. left_of (box_after n (splits ++ s ∷ []) l z.leaf) z.coord z.cut) (at_end splits s no_split)
    ∙ ap (λ b. left_of b s.coord s.cut) (same_box n splits (s ∷ []) l s.leaf (omega arith))

pub box_right : (n : Net) (splits : List Split) (s : Split) → box_of n (splits ++ s ∷ []) (right_node (length splits)) ≡ right_of (box_of n splits s.leaf) s.coord s.cut
box_right n splits s =
    let l = length splits in
    box_is n (splits ++ s ∷ []) (suc l) (right_node l) (omega (arith, length-more splits s)) (omega arith)
    ∙ right_box n (splits ++ s ∷ []) l
    ∙ ap (λ z. right_of (box_after n (splits ++ s ∷ []) l z.leaf) z.coord z.cut) (at_end splits s no_split)
    ∙ ap (λ b. right_of b s.coord s.cut) (same_box n splits (s ∷ []) l s.leaf (omega arith))

-- ---- the law

-- which proof a node has after a split
new_proof : (left right : Option Proof) (old : ℕ → Option Proof) (t node : ℕ) (q : Proof) → (if node == left_node t then left else (if node == right_node t then right else old node)) ≡ Some q
    → ((node ≡ left_node t) × (left ≡ Some q)) ⊎ (((node ≡ right_node t) × (right ≡ Some q)) ⊎ (old node ≡ Some q))
new_proof left right old t node q e = elim (same_or_other node (left_node t)) [
  | inl a ↦ inl (a, sym (chosen node (left_node t) left (if node == right_node t then right else old node) a) ∙ e)
  | inr d ↦ let f = sym (passed node (left_node t) left (if node == right_node t then right else old node) d) ∙ e in
      elim (same_or_other node (right_node t)) [
        | inl a ↦ inr (inl (a, sym (chosen node (right_node t) right (old node) a) ∙ f))
        | inr c ↦ inr (inr (sym (passed node (right_node t) right (old node) c) ∙ f))
      ]
]

split_kept : (n : Net) (s : Searched) (split : Split) (left right : Option Proof) → IsTree n s.tree → IsSplitEntryInOrder n s split left right → IsTree n (after s (split_of split left right)).tree
split_kept n s split left right is order =
    let splits = s.tree.splits in
    let more = length-more splits split in
    record {
      few = omega (arith, more, order.few);
      splits = λ t h. elim (same_or_before t (length splits) (omega (arith, h, more))) [
        | inl l ↦ order_kept n splits (split ∷ []) t l (is.splits t l)
        | inr e ↦ subst (IsSplitInOrder n (splits ++ split ∷ [])) (sym e) (order_new n splits split order.cuts)
      ];
      placed = λ node q e. elim (new_proof left right s.tree.proof (length splits) node q e) [
        | inl a ↦ omega (arith, more, a.0)
        | inr r ↦ elim r [ inl b ↦ omega (arith, more, b.0) | inr c ↦ omega (arith, more, is.placed node q c) ]
      ];
      proofs = λ node q e. elim (new_proof left right s.tree.proof (length splits) node q e) [
        | inl a ↦ subst (λ m. IsInOrder n (box_of n (splits ++ split ∷ []) m) q) (sym a.0)
            (subst (λ b. IsInOrder n b q) (sym (box_left n splits split)) (order.left_proof q a.1))
        | inr r ↦ elim r [
          | inl b ↦ subst (λ m. IsInOrder n (box_of n (splits ++ split ∷ []) m) q) (sym b.0)
              (subst (λ z. IsInOrder n z q) (sym (box_right n splits split)) (order.right_proof q b.1))
          | inr c ↦ subst (λ b. IsInOrder n b q) (sym (box_before n splits split node (is.placed node q c))) (is.proofs node q c)
        ]
      ];
    }

-- which proof a node has after one on the root
root_or_old : (proof : Proof) (old : ℕ → Option Proof) (node : ℕ) (q : Proof) → (if node == 0 then Some proof else old node) ≡ Some q → ((node ≡ 0) × (proof ≡ q)) ⊎ (old node ≡ Some q)
root_or_old proof old node q e = elim (same_or_other node 0) [
  | inl a ↦ inl (a, ap (λ o. unwrap_or o q) (sym (chosen node 0 (Some proof) (old node) a) ∙ e))
  | inr d ↦ inr (sym (passed node 0 (Some proof) (old node) d) ∙ e)
]

root_kept : (n : Net) (s : Searched) (proof : Proof) → IsTree n s.tree → IsRootInOrder n s proof → IsTree n (after s (root_proof proof)).tree
root_kept n s proof is order = record {
  few = is.few;
  splits = is.splits;
  placed = λ node q e. elim (root_or_old proof s.tree.proof node q e) [ inl a ↦ omega (arith, a.0) | inr c ↦ is.placed node q c ];
  proofs = λ node q e. elim (root_or_old proof s.tree.proof node q e) [
    | inl a ↦ subst (λ m. IsInOrder n (box_of n s.tree.splits m) q) (sym a.0)
        (subst (λ z. IsInOrder n (box_of n s.tree.splits 0) z) a.1 (subst (λ b. IsInOrder n b proof) (sym (box_is n s.tree.splits 0 0 (omega arith) (omega arith))) order.shows))
    | inr c ↦ is.proofs node q c
  ];
}

some_is : {X : Type 0} (P : X → Type 0) (x : X) → P x → ForSome (Some x) P
some_is P x h y e = subst P (ap (λ o. unwrap_or o y) e) h

pub searched-kept : (n : Net) (s : Searched) (e : Entry) → IsSearched n s → IsEntryInOrder n s e → IsSearched n (after s e)
searched-kept n s (root_proof proof) is order = record { tree = root_kept n s proof is.tree order; written = is.written; obeys = is.obeys }
searched-kept n s (split_of split left right) is order = record { tree = split_kept n s split left right is.tree order; written = is.written; obeys = is.obeys }
searched-kept n s (improve plan) is order = record {
  tree = is.tree;
  written = some_is (IsWritten n) plan order.written;
  obeys = some_is (λ w. Obeys n (plan_of n w)) plan order.obeys;
}
