-- Splits of leaves of one tree leave the same leaves in any order.
use Rattle.std.proofs.Common.{◌≡◌, ℕ, ◌<◌, ◌⊎◌, inl, inr, List, [], ◌∷◌, ◌++◌, length, Option, option_map, ℤ, arith, refl, sym, ap, subst, ◌∙◌}
use Rattle.std.specs.List.{Contains}
use Rattle.pool_model.specs.Network.{Net}
use Rattle.row_model.specs.Boxes.{Box, left_of, right_of}
use Rattle.row_model.specs.Multipliers.{Proof, shown_by}
use Rattle.row_model.specs.Trees.{Split, left_node, right_node, nodes, IsLeaf, box_of, raised, node_bound}
use Rattle.row_model.specs.Entries.{Entry, root_proof, split_of, improve, Searched, after, made_from, AreInOrderFrom, IsSplitEntryInOrder, IsSearched}
use Rattle.row_model.proofs.TreeBound.{which_node}
use Rattle.row_model.proofs.EntryLaw.{length-more, box_before, box_left, box_right, searched-kept}
use Rattle.box_tree.proofs.Growing.{bound-old, bound-left, bound-right}
use Rattle.work_units.specs.Units.{Splits}
use Rattle.work_units.specs.Leaves.{HasLeaf, HaveSameLeaves, AreLeafSplits, HaveSameEntries}
use Rattle.work_units.proofs.Lists.{cons-cases, cons-first, cons-later}
use Rattle.work_units.proofs.Grown.{one-node, more-nodes, leaf-kept, leaf-was, leaf-left, leaf-right}

-- ---- where a leaf comes from

-- a half whose parent has this bound, with its proof, has this box and this bound
record IsHalf (n : Net) (above : Option ℤ) (half : Box) (proof : Option Proof) (b : Box) (bound : Option ℤ) : Type 0 where
  pub box : half ≡ b
  pub bounded : raised above (option_map (shown_by n half) proof) ≡ bound

-- the entry is a split of which a half has this box and this bound, where the node that it splits has this box and this bound
abbrev HalfOf : Net → Box → Option ℤ → Entry → Box → Option ℤ → Type 0
HalfOf n parent above (split_of split left right) b bound =
    IsHalf n above (left_of parent split.coord split.cut) left b bound ⊎ IsHalf n above (right_of parent split.coord split.cut) right b bound
HalfOf n parent above (root_proof proof) b bound = ⊥
HalfOf n parent above (improve plan) b bound = ⊥

-- a leaf that no entry splits
record IsSpared (n : Net) (s : Searched) (es : List Entry) (b : Box) (bound : Option ℤ) : Type 0 where
  pub node : ℕ
  pub leaf : IsLeaf s.tree.splits node
  pub spared : (e : Entry) → Contains es e → ¬ Splits node e
  pub box : box_of n s.tree.splits node ≡ b
  pub bounded : node_bound n s.tree node ≡ bound

-- a half of an entry's split
record IsMade (n : Net) (s : Searched) (es : List Entry) (b : Box) (bound : Option ℤ) : Type 0 where
  pub entry : Entry
  pub among : Contains es entry
  pub node : ℕ
  pub splits : Splits node entry
  pub half : HalfOf n (box_of n s.tree.splits node) (node_bound n s.tree node) entry b bound

abbrev ComesFrom : Net → Searched → List Entry → Box → Option ℤ → Type 0
ComesFrom n s es b bound = IsSpared n s es b bound ⊎ IsMade n s es b bound

-- each entry splits a node of the tree
abbrev SplitNodes : Searched → List Entry → Type 0
SplitNodes s es = (e : Entry) → Contains es e → (node : ℕ) × (node < nodes s.tree.splits) × Splits node e

-- ---- one entry

module _ (n : Net) (s : Searched) (split : Split) (left right : Option Proof) (is : IsSearched n s) (order : IsSplitEntryInOrder n s split left right) where
  half-before : (e : Entry) (node : ℕ) (b : Box) (bound : Option ℤ) → node < nodes s.tree.splits
      → HalfOf n (box_of n (s.tree.splits ++ split ∷ []) node) (node_bound n (after s (split_of split left right)).tree node) e b bound
      → HalfOf n (box_of n s.tree.splits node) (node_bound n s.tree node) e b bound
  half-before e node b bound lt h =
      subst (λ (p : Box). HalfOf n p (node_bound n s.tree node) e b bound) (box_before n s.tree.splits split node lt)
      (subst (λ (o : Option ℤ). HalfOf n (box_of n (s.tree.splits ++ split ∷ []) node) o e b bound) (bound-old n s split left right is.tree node lt) h)

  half-after : (e : Entry) (node : ℕ) (b : Box) (bound : Option ℤ) → node < nodes s.tree.splits
      → HalfOf n (box_of n s.tree.splits node) (node_bound n s.tree node) e b bound
      → HalfOf n (box_of n (s.tree.splits ++ split ∷ []) node) (node_bound n (after s (split_of split left right)).tree node) e b bound
  half-after e node b bound lt h =
      subst (λ (p : Box). HalfOf n p (node_bound n (after s (split_of split left right)).tree node) e b bound) (sym (box_before n s.tree.splits split node lt))
      (subst (λ (o : Option ℤ). HalfOf n (box_of n s.tree.splits node) o e b bound) (sym (bound-old n s split left right is.tree node lt)) h)

  -- a leaf that no later entry splits comes from the tree before, or is a half
  spared-before : (es : List Entry) (b : Box) (bound : Option ℤ) → IsSpared n (after s (split_of split left right)) es b bound → ComesFrom n s (split_of split left right ∷ es) b bound
  spared-before es b bound sp =
      let splits = s.tree.splits in
      let t = length splits in
      let first = split_of split left right in
      let new_tree = (after s first).tree in
      let lt = order.cuts.leaf.there in
      elim (which_node t sp.node (omega (arith, sp.leaf.there, length-more splits split))) [
        | inl e ↦ inr record {
          entry = first;
          among = cons-first first es;
          node = split.leaf;
          splits = refl;
          half = inl record {
            box = sym (box_left n splits split) ∙ ap (box_of n (splits ++ split ∷ [])) (sym e) ∙ sp.box;
            bounded = sym (bound-left n s split left right is.tree lt) ∙ ap (node_bound n new_tree) (sym e) ∙ sp.bounded;
          };
        }
        | inr r ↦ elim r [
          | inl e ↦ inr record {
            entry = first;
            among = cons-first first es;
            node = split.leaf;
            splits = refl;
            half = inr record {
              box = sym (box_right n splits split) ∙ ap (box_of n (splits ++ split ∷ [])) (sym e) ∙ sp.box;
              bounded = sym (bound-right n s split left right is.tree lt) ∙ ap (node_bound n new_tree) (sym e) ∙ sp.bounded;
            };
          }
          | inr l ↦
              let was = leaf-was n splits split is.tree.splits order.cuts.leaf sp.node sp.leaf l in
              inl record {
                node = sp.node;
                leaf = was.0;
                spared = λ e has. elim (cons-cases first es e has) [
                  | inl q ↦ λ h. was.1 (subst (Splits sp.node) (sym q) h)
                  | inr later ↦ sp.spared e later
                ];
                box = sym (box_before n splits split sp.node l) ∙ sp.box;
                bounded = sym (bound-old n s split left right is.tree sp.node l) ∙ sp.bounded;
              }
        ]
      ]

  comes-before : (es : List Entry) (b : Box) (bound : Option ℤ) → SplitNodes s es → ComesFrom n (after s (split_of split left right)) es b bound
      → ComesFrom n s (split_of split left right ∷ es) b bound
  comes-before es b bound nodes_of (inl sp) = spared-before es b bound sp
  comes-before es b bound nodes_of (inr m) =
      let w = nodes_of m.entry m.among in
      let lt : m.node < nodes s.tree.splits = subst (λ (a : ℕ). a < nodes s.tree.splits) (one-node m.entry w.0 m.node w.2 m.splits) w.1 in
      inr record {
        entry = m.entry;
        among = cons-later (split_of split left right) es m.entry m.among;
        node = m.node;
        splits = m.splits;
        half = half-before m.entry m.node b bound lt m.half;
      }

  -- a half is a leaf that no later entry splits
  half-spared : (es : List Entry) (b : Box) (bound : Option ℤ) → SplitNodes s es
      → HalfOf n (box_of n s.tree.splits split.leaf) (node_bound n s.tree split.leaf) (split_of split left right) b bound
      → IsSpared n (after s (split_of split left right)) es b bound
  half-spared es b bound nodes_of (inl h) = record {
    node = left_node (length s.tree.splits);
    leaf = leaf-left n s.tree.splits split is.tree.splits order.cuts.leaf;
    spared = λ e has h. let w = nodes_of e has in omega (arith, w.1, one-node e w.0 (left_node (length s.tree.splits)) w.2 h);
    box = box_left n s.tree.splits split ∙ h.box;
    bounded = bound-left n s split left right is.tree order.cuts.leaf.there ∙ h.bounded;
  }
  half-spared es b bound nodes_of (inr h) = record {
    node = right_node (length s.tree.splits);
    leaf = leaf-right n s.tree.splits split is.tree.splits order.cuts.leaf;
    spared = λ e has h. let w = nodes_of e has in omega (arith, w.1, one-node e w.0 (right_node (length s.tree.splits)) w.2 h);
    box = box_right n s.tree.splits split ∙ h.box;
    bounded = bound-right n s split left right is.tree order.cuts.leaf.there ∙ h.bounded;
  }

  comes-after : (es : List Entry) (b : Box) (bound : Option ℤ) → SplitNodes s es → ComesFrom n s (split_of split left right ∷ es) b bound
      → ComesFrom n (after s (split_of split left right)) es b bound
  comes-after es b bound nodes_of (inl sp) = inl record {
    node = sp.node;
    leaf = leaf-kept n s.tree.splits split is.tree.splits order.cuts.leaf sp.node sp.leaf (sp.spared (split_of split left right) (cons-first (split_of split left right) es));
    spared = λ e has. sp.spared e (cons-later (split_of split left right) es e has);
    box = box_before n s.tree.splits split sp.node sp.leaf.there ∙ sp.box;
    bounded = bound-old n s split left right is.tree sp.node sp.leaf.there ∙ sp.bounded;
  }
  comes-after es b bound nodes_of (inr m) = elim (cons-cases (split_of split left right) es m.entry m.among) [
    | inl q ↦
        let here : split.leaf ≡ m.node = subst (Splits m.node) (sym q) m.splits in
        inl (half-spared es b bound nodes_of
        (subst (λ (a : ℕ). HalfOf n (box_of n s.tree.splits a) (node_bound n s.tree a) (split_of split left right) b bound) (sym here)
        (subst (λ (e : Entry). HalfOf n (box_of n s.tree.splits m.node) (node_bound n s.tree m.node) e b bound) (sym q) m.half)))
    | inr later ↦
        let w = nodes_of m.entry later in
        let lt : m.node < nodes s.tree.splits = subst (λ (a : ℕ). a < nodes s.tree.splits) (one-node m.entry w.0 m.node w.2 m.splits) w.1 in
        inr record { entry = m.entry; among = later; node = m.node; splits = m.splits; half = half-after m.entry m.node b bound lt m.half }
  ]

-- ---- a list of entries

later-nodes : (s : Searched) (first : Entry) (es : List Entry) → SplitNodes s (first ∷ es) → SplitNodes (after s first) es
later-nodes s first es nodes_of e has =
    let w = nodes_of e (cons-later first es e has) in
    let f = nodes_of first (cons-first first es) in
    (w.0, omega (arith, w.1, more-nodes s first f.0 f.2), w.2)

comes-from : (n : Net) (es : List Entry) (s : Searched) (b : Box) (bound : Option ℤ) → IsSearched n s → SplitNodes s es → AreInOrderFrom n s es
    → HasLeaf n (made_from s es).tree b bound → ComesFrom n s es b bound
comes-from n [] s b bound is nodes_of order h = inl record { node = h.node; leaf = h.leaf; spared = λ e has. absurd (omega (arith, has.1)); box = h.box; bounded = h.bounded }
comes-from n (split_of split left right ∷ es) s b bound is nodes_of order h =
    let first = split_of split left right in
    comes-before n s split left right is order.0 es b bound (λ e has. nodes_of e (cons-later first es e has))
    (comes-from n es (after s first) b bound (searched-kept n s first is order.0) (later-nodes s first es nodes_of) order.1 h)
comes-from n (root_proof proof ∷ es) s b bound is nodes_of order h = absurd (nodes_of (root_proof proof) (cons-first (root_proof proof) es)).2
comes-from n (improve plan ∷ es) s b bound is nodes_of order h = absurd (nodes_of (improve plan) (cons-first (improve plan) es)).2

has-leaf : (n : Net) (es : List Entry) (s : Searched) (b : Box) (bound : Option ℤ) → IsSearched n s → SplitNodes s es → AreInOrderFrom n s es
    → ComesFrom n s es b bound → HasLeaf n (made_from s es).tree b bound
has-leaf n [] s b bound is nodes_of order (inl sp) = record { node = sp.node; leaf = sp.leaf; box = sp.box; bounded = sp.bounded }
has-leaf n [] s b bound is nodes_of order (inr m) = absurd (omega (arith, m.among.1))
has-leaf n (split_of split left right ∷ es) s b bound is nodes_of order h =
    let first = split_of split left right in
    has-leaf n es (after s first) b bound (searched-kept n s first is order.0) (later-nodes s first es nodes_of) order.1
    (comes-after n s split left right is order.0 es b bound (λ e has. nodes_of e (cons-later first es e has)) h)
has-leaf n (root_proof proof ∷ es) s b bound is nodes_of order h = absurd (nodes_of (root_proof proof) (cons-first (root_proof proof) es)).2
has-leaf n (improve plan ∷ es) s b bound is nodes_of order h = absurd (nodes_of (improve plan) (cons-first (improve plan) es)).2

-- ---- any order

same-sources : (n : Net) (s : Searched) (es fs : List Entry) (b : Box) (bound : Option ℤ) → HaveSameEntries es fs → ComesFrom n s es b bound → ComesFrom n s fs b bound
same-sources n s es fs b bound same (inl sp) = inl record { node = sp.node; leaf = sp.leaf; spared = λ e has. sp.spared e ((same e).1 has); box = sp.box; bounded = sp.bounded }
same-sources n s es fs b bound same (inr m) = inr record { entry = m.entry; among = (same m.entry).0 m.among; node = m.node; splits = m.splits; half = m.half }

split-nodes : (n : Net) (s : Searched) (es : List Entry) → AreLeafSplits n s es → SplitNodes s es
split-nodes n s es are e has = let w = are.splits e has in (w.0, w.1.there, w.2)

pub same-leaves : (n : Net) (s : Searched) (es fs : List Entry) → IsSearched n s → AreLeafSplits n s es → AreLeafSplits n s fs → HaveSameEntries es fs
    → HaveSameLeaves n (made_from s es).tree (made_from s fs).tree
same-leaves n s es fs is one other same b bound = (
  λ h. has-leaf n fs s b bound is (split-nodes n s fs other) other.in_order
      (same-sources n s es fs b bound same (comes-from n es s b bound is (split-nodes n s es one) one.in_order h)),
  λ h. has-leaf n es s b bound is (split-nodes n s es one) one.in_order
      (same-sources n s fs es b bound (λ e. ((same e).1, (same e).0)) (comes-from n fs s b bound is (split-nodes n s fs other) other.in_order h)),
)
