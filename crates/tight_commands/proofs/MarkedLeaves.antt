-- Leaves that are marked, one after another.
use Rattle.std.proofs.Common.{◌≡◌, ℕ, ◌+◌, ◌<◌, ◌≤◌, List, [], ◌∷◌, ◌++◌, length, map, get_or, All, Option, Some, ℤ, sym, ap, subst, ◌∙◌, arith}
use Rattle.std.proofs.lemmas.List.{length-map, map-append}
use Rattle.std.proofs.lemmas.List.Elements.{All-push, Contains-get_or}
use Rattle.pool_model.specs.Network.{Net}
use Rattle.pool_model.specs.Claim.{Claimed, with_gap, with_bound, no_plan}
use Rattle.row_model.specs.Trees.{Tree, box_of, leaf_bound, nodes}
use Rattle.row_book.proofs.Rising.{no_more}
use Rattle.box_space.specs.declared.coordinates.Form.{Form}
use Rattle.cert_format.specs.Cert.{Cert}
use Rattle.cert_format.specs.Valid.{IsShown, IsValid, tree_of}
use Rattle.leaf_order.specs.Order.{no_leaf}
use Rattle.leaf_order.specs.declared.leaf.OpenLeaf.{OpenLeaf}
use Rattle.certificate_leaves.specs.Leaves.{AreLeaves}
use Rattle.leaf_marks.specs.Marks.{IsMark}
use Rattle.tight_leaf.specs.Ends.{ComesOf, IsPlanGiven}
use Rattle.tight_texts.specs.declared.marks.LeafMark.{LeafMark}
use Rattle.tight_texts.specs.declared.marks.TightText.{TightText}
use Rattle.tight_checks.specs.Holding.{IsLeast, IsMarkedBound, LineHolds, NamesLeaves, bound_with, leaf_nodes, marked_bound, nodes_of}
use Rattle.tight_checks.proofs.Least.{least-more}
use Rattle.tight_commands.specs.Marked.{AddsMark, AreMarksOf, AreMarksUpTo, IsMarked, claimed_plan}

-- the line of a mark that is added
abbrev line_of : (leaf : OpenLeaf) (n : Net) (c : Cert) (before after : TightText) → AddsMark n (box_of n c.splits leaf.node) (claimed_plan c.claim) leaf before after → LeafMark
line_of leaf n c before after a = record { node = leaf.node; mark = a.mark }

module _ (n : Net) (form : Form) (pivots : ℕ) (c : Cert) where
  -- what is said of the line that is added
  line-holds : (leaf : OpenLeaf) (before after : TightText) → leaf_bound n (tree_of c) leaf.node ≡ Some leaf.bound → before.form ≡ form → before.pivots ≡ pivots
      → (a : AddsMark n (box_of n c.splits leaf.node) (claimed_plan c.claim) leaf before after) → LineHolds n (tree_of c) form pivots (line_of leaf n c before after a)
  line-holds leaf before after bound_is form_is pivots_is a = record {
    low = leaf.bound;
    bound_is = bound_is;
    mark = subst (λ (f : Form). IsMark n f (box_of n c.splits leaf.node) leaf.bound pivots a.mark) form_is
        (subst (λ (p : ℕ). IsMark n before.form (box_of n c.splits leaf.node) leaf.bound p a.mark) pivots_is a.holds);
  }

  line-marked : (leaf : OpenLeaf) (before after : TightText) → leaf_bound n (tree_of c) leaf.node ≡ Some leaf.bound → before.form ≡ form → before.pivots ≡ pivots
      → (a : AddsMark n (box_of n c.splits leaf.node) (claimed_plan c.claim) leaf before after) → IsMarked n form pivots c (line_of leaf n c before after a)
  line-marked leaf before after bound_is form_is pivots_is a = record {
    low = leaf.bound;
    bound_is = bound_is;
    comes = subst (λ (f : Form). ComesOf n f (box_of n c.splits leaf.node) leaf.bound (claimed_plan c.claim) pivots a.mark) form_is
        (subst (λ (p : ℕ). ComesOf n before.form (box_of n c.splits leaf.node) leaf.bound (claimed_plan c.claim) p a.mark) pivots_is a.comes);
  }

  -- the bound with what the line leaves
  bound-more : (leaf : OpenLeaf) (before after : TightText) → leaf_bound n (tree_of c) leaf.node ≡ Some leaf.bound
      → (a : AddsMark n (box_of n c.splits leaf.node) (claimed_plan c.claim) leaf before after) → IsMarkedBound n (tree_of c) before.marks.items before.bound
      → IsMarkedBound n (tree_of c) (before.marks.items ++ line_of leaf n c before after a ∷ []) after.bound
  bound-more leaf before after bound_is a h =
      let line = line_of leaf n c before after a in
      let bounds = map (marked_bound n (tree_of c)) before.marks.items in
      let left : marked_bound n (tree_of c) line ≡ bound_with n (box_of n c.splits leaf.node) (Some leaf.bound) a.mark =
      ap (λ (low : Option ℤ). bound_with n (box_of n c.splits leaf.node) low a.mark) bound_is in
      let more = least-more bounds before.bound (bound_with n (box_of n c.splits leaf.node) (Some leaf.bound) a.mark) h in
      let here = subst (λ (low : Option ℤ). IsLeast (bounds ++ low ∷ []) after.bound) (sym left)
      (subst (IsLeast (bounds ++ bound_with n (box_of n c.splits leaf.node) (Some leaf.bound) a.mark ∷ [])) (sym a.bound_is) more) in
      subst (λ (xs : List (Option ℤ)). IsLeast xs after.bound) (sym (map-append (marked_bound n (tree_of c)) before.marks.items (line ∷ []))) here

  -- one leaf more is marked
  pub marked-more : (front : List OpenLeaf) (leaf : OpenLeaf) (before after : TightText) → leaf_bound n (tree_of c) leaf.node ≡ Some leaf.bound
      → AreMarksUpTo n form pivots c front before → AddsMark n (box_of n c.splits leaf.node) (claimed_plan c.claim) leaf before after → AreMarksUpTo n form pivots c (front ++ leaf ∷ []) after
  marked-more front leaf before after bound_is h a =
      let line = line_of leaf n c before after a in
      let lines = before.marks.items in
      record {
        form_is = a.form_is ∙ h.form_is;
        pivots_is = a.pivots_is ∙ h.pivots_is;
        named = ap nodes_of a.marks_are ∙ map-append (λ (l : LeafMark). l.node) lines (line ∷ []) ∙ ap (λ (xs : List ℕ). xs ++ leaf.node ∷ []) h.named
            ∙ sym (map-append (λ (l : OpenLeaf). l.node) front (leaf ∷ []));
        hold = subst (All (LineHolds n (tree_of c) form pivots)) (sym a.marks_are)
            (All-push (LineHolds n (tree_of c) form pivots) lines line h.hold (line-holds leaf before after bound_is h.form_is h.pivots_is a));
        marked = subst (All (IsMarked n form pivots c)) (sym a.marks_are)
            (All-push (IsMarked n form pivots c) lines line h.marked (line-marked leaf before after bound_is h.form_is h.pivots_is a));
        bound = subst (λ (xs : List LeafMark). IsMarkedBound n (tree_of c) xs after.bound) (sym a.marks_are) (bound-more leaf before after bound_is a h.bound);
      }

  -- all leaves are marked
  pub marked-all : (leaves : List OpenLeaf) (text : TightText) → AreLeaves n (tree_of c) leaves → AreMarksUpTo n form pivots c leaves text → AreMarksOf n form pivots c text
  marked-all leaves text are h = record {
    form_is = h.form_is;
    pivots_is = h.pivots_is;
    holds = record {
      leaves = record { leaves = leaves; are = are; named = h.named };
      marks = subst (λ (f : Form). All (LineHolds n (tree_of c) f text.pivots) text.marks.items) (sym h.form_is)
          (subst (λ (p : ℕ). All (LineHolds n (tree_of c) form p) text.marks.items) (sym h.pivots_is) h.hold);
      bound = h.bound;
    };
    marked = h.marked;
  }

-- the plan of a valid certificate, where it has one, is well written and obeys
pub plan-given : (n : Net) (c : Cert) → IsValid n c → IsPlanGiven n (claimed_plan c.claim)
plan-given n c valid = given (tree_of c) c.claim valid.claim
  where
    given : (tree : Tree) (claim : Claimed) → IsShown n tree claim → IsPlanGiven n (claimed_plan claim)
    given tree (with_gap plan cost base bound gap) h = (h.written, h.obeys)
    given tree (with_bound bound) h = tt
    given tree no_plan h = tt

-- there are no more marks than nodes
pub few-lines : (n : Net) (tree : Tree) (lines : List LeafMark) → NamesLeaves n tree lines → length lines ≤ nodes tree.splits
few-lines n tree lines h =
    let most : length h.leaves ≤ nodes tree.splits =
    no_more (λ i. (get_or h.leaves i no_leaf).node) (length h.leaves) (nodes tree.splits) h.are.rising
    (λ i below. ((h.are.members (get_or h.leaves i no_leaf)).0 (Contains-get_or h.leaves i no_leaf below)).0) in
    let same : length (nodes_of lines) ≡ length (leaf_nodes h.leaves) = ap (λ (xs : List ℕ). length xs) h.named in
    omega (arith, most, same, length-map lines (λ (l : LeafMark). l.node), length-map h.leaves (λ (l : OpenLeaf). l.node))

-- the bound of a leaf in the list
pub listed-bound : (n : Net) (tree : Tree) (leaves : List OpenLeaf) (i : ℕ) (d : OpenLeaf) → AreLeaves n tree leaves → i < length leaves
    → ((get_or leaves i d).node < nodes tree.splits) × (leaf_bound n tree (get_or leaves i d).node ≡ Some (get_or leaves i d).bound)
listed-bound n tree leaves i d are below = (are.members (get_or leaves i d)).0 (Contains-get_or leaves i d below)
