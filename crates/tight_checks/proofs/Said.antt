-- What is said of leaves, by the text that says it: marks in memory that have one text say the same.
use Rattle.std.proofs.Common.{◌≡◌, ℕ, ◌<◌, List, length, map, get_or, All, Bool, true, false, Option, None, Some, ℤ, pos, refl, sym, ap, subst, ◌∙◌}
use Rattle.std.specs.List.{Contains, count_by}
use Rattle.std.proofs.lemmas.List.Elements.{All-map}
use Rattle.exact_run.specs.Operations.{IsWide}
use Rattle.pool_model.specs.Network.{Net}
use Rattle.row_model.specs.Boxes.{Box}
use Rattle.row_model.specs.Multipliers.{Proof}
use Rattle.row_model.specs.Trees.{Tree, box_of, leaf_bound}
use Rattle.row_model.specs.Variables.{variables}
use Rattle.box_space.specs.Views.{shown_proof}
use Rattle.box_space.specs.declared.coordinates.Form.{Form}
use Rattle.row_book.specs.Faults.{IsFirstFault}
use Rattle.row_book.specs.declared.fault.ProofFault.TheVariants as faults
use Rattle.relaxation_points.specs.Points.{Point, IsLight, IsWitness}
use Rattle.relaxation_points.specs.declared.point.RelaxPoint.{RelaxPoint}
use Rattle.common_denominators.specs.Multiples.{IsCoarse}
use Rattle.certificate_leaves.specs.Leaves.{AreLeaves}
use Rattle.leaf_order.specs.declared.leaf.OpenLeaf.{OpenLeaf}
use Rattle.leaf_marks.specs.Marks.{IsEmptied, IsMark, IsRaised, IsReason}
use Rattle.leaf_marks.specs.Views.{IsHeld}
use Rattle.leaf_marks.specs.declared.mark.Mark as memory
use Rattle.leaf_marks.specs.declared.mark.Mark.TheVariants.{Tight, Raised, Empty, Loose}
use Rattle.leaf_marks.specs.declared.mark.Reason as reasons
use Rattle.leaf_marks.specs.declared.mark.Reason.TheVariants.{Pivots, Wide, Coarse, HeavyProof, HeavyPoint}
use Rattle.tight_texts.specs.Texts.{Values, Reason, unended, wide, coarse, heavy_proof, heavy_point, Mark, tight, raised, empty, loose, LeafMark, Marks}
use Rattle.tight_texts.specs.Views.{shown_values, shown_reason, shown_mark, shown_leaf, shown_marks}
use Rattle.tight_texts.specs.declared.marks.LeafMark as lines
use Rattle.tight_texts.specs.declared.marks.TightText.{TightText}
use Rattle.tight_checks.specs.declared.refusal.TightRefusal.{TightRefusal}
use Rattle.tight_checks.specs.declared.refusal.TightRefusal.TheVariants.{Text, Leaves, BadMark, WrongBound, Memory}
use Rattle.tight_checks.specs.declared.verdict.TightVerdict.{TightVerdict}
use Rattle.tight_checks.specs.Holding.{NamesLeaves, LineHolds, Holds, IsLeast, IsMarkedBound, IsVerdict, bound_shown, mark_proof, marked_bound, nodes_of, leaf_nodes, is_tight, is_raised, is_empty, is_loose}
use Rattle.tight_checks.specs.Refusals.{Refuses, IsBadMark, IsFirstRefusal}
use Rattle.tight_checks.proofs.Lists.{All-unmapped, Contains-mapped, Contains-unmapped, map-same, map-map, count-mapped}

-- ---- points and reasons

-- values of a text have their shape and stand for such a point
record AreHeld (n : Net) (Is : Point → Type 0) (q : Values) : Type 0 where
  base : 0 < q.base
  values : length q.values ≡ variables n
  point : Is record { base = q.base; value = λ v. get_or q.values v (pos 0) }

held-said : (n : Net) (Is : Point → Type 0) (q : RelaxPoint) → IsHeld n Is q → AreHeld n Is (shown_values q)
held-said n Is q h = record { base = h.shape.base; values = h.shape.values; point = h.point }

said-held : (n : Net) (Is : Point → Type 0) (q : RelaxPoint) → AreHeld n Is (shown_values q) → IsHeld n Is q
said-held n Is q h = record { shape = record { base = h.base; values = h.values }; point = h.point }

module _ (n : Net) (form : Form) (b : Box) (pivots : ℕ) where
  abbrev Gives : Reason → Type 0
  Gives (unended count) = count ≡ pivots
  Gives (wide w) = IsWide w.operation w.left w.right
  Gives (coarse times x) = IsCoarse times x
  Gives (heavy_proof proof) = IsFirstFault n b proof faults.Wide
  Gives (heavy_point q) = AreHeld n (λ point. ¬ IsLight n form b point) q

  reason-gives : (reason : reasons.Reason) → IsReason n form b pivots reason → Gives (shown_reason reason)
  reason-gives (Pivots count) h = h
  reason-gives (Wide w) h = h
  reason-gives (Coarse times x) h = h
  reason-gives (HeavyProof proof) h = h
  reason-gives (HeavyPoint q) h = held-said n (λ point. ¬ IsLight n form b point) q h

  gives-reason : (reason : reasons.Reason) → Gives (shown_reason reason) → IsReason n form b pivots reason
  gives-reason (Pivots count) h = h
  gives-reason (Wide w) h = h
  gives-reason (Coarse times x) h = h
  gives-reason (HeavyProof proof) h = h
  gives-reason (HeavyPoint q) h = said-held n (λ point. ¬ IsLight n form b point) q h

  abbrev Says : ℤ → Mark → Type 0
  Says low (tight q) = AreHeld n (IsWitness n form b low) q
  Says low (raised proof q) = AreHeld n (IsRaised n form b low proof) q
  Says low (empty proof) = IsEmptied n form b proof
  Says low (loose reason) = Gives reason

  mark-says : (low : ℤ) (mark : memory.Mark) → IsMark n form b low pivots mark → Says low (shown_mark mark)
  mark-says low (Tight q) h = held-said n (IsWitness n form b low) q h
  mark-says low (Raised proof q) h = held-said n (IsRaised n form b low (shown_proof proof)) q h
  mark-says low (Empty proof) h = h
  mark-says low (Loose reason) h = reason-gives reason h

  says-mark : (low : ℤ) (mark : memory.Mark) → Says low (shown_mark mark) → IsMark n form b low pivots mark
  says-mark low (Tight q) h = said-held n (IsWitness n form b low) q h
  says-mark low (Raised proof q) h = said-held n (IsRaised n form b low (shown_proof proof)) q h
  says-mark low (Empty proof) h = h
  says-mark low (Loose reason) h = gives-reason reason h

-- ---- lines

record SaysLine (n : Net) (tree : Tree) (form : Form) (pivots : ℕ) (line : LeafMark) : Type 0 where
  low : ℤ
  bound_is : leaf_bound n tree line.node ≡ Some low
  mark : Says n form (box_of n tree.splits line.node) pivots low line.mark

line-says : (n : Net) (tree : Tree) (form : Form) (pivots : ℕ) (line : lines.LeafMark) → LineHolds n tree form pivots line → SaysLine n tree form pivots (shown_leaf line)
line-says n tree form pivots line h = record { low = h.low; bound_is = h.bound_is; mark = mark-says n form (box_of n tree.splits line.node) pivots h.low line.mark h.mark }

says-line : (n : Net) (tree : Tree) (form : Form) (pivots : ℕ) (line : lines.LeafMark) → SaysLine n tree form pivots (shown_leaf line) → LineHolds n tree form pivots line
says-line n tree form pivots line h = record { low = h.low; bound_is = h.bound_is; mark = says-mark n form (box_of n tree.splits line.node) pivots h.low line.mark h.mark }

-- the proof of a mark
abbrev said_proof : Mark → Option Proof
said_proof (tight q) = None
said_proof (raised proof q) = Some proof
said_proof (empty proof) = Some proof
said_proof (loose reason) = None

same-proof : (mark : memory.Mark) → mark_proof mark ≡ said_proof (shown_mark mark)
same-proof (Tight q) = refl
same-proof (Raised proof q) = refl
same-proof (Empty proof) = refl
same-proof (Loose reason) = refl

abbrev said_bound : Net → Tree → LeafMark → Option ℤ
said_bound n tree line = bound_shown n (box_of n tree.splits line.node) (leaf_bound n tree line.node) (said_proof line.mark)

same-bounds : (n : Net) (tree : Tree) (items : List lines.LeafMark) → map (marked_bound n tree) items ≡ map (said_bound n tree) (map shown_leaf items)
same-bounds n tree items =
    map-same (marked_bound n tree) (λ line. said_bound n tree (shown_leaf line))
    (λ line. ap (bound_shown n (box_of n tree.splits line.node) (leaf_bound n tree line.node)) (same-proof line.mark)) items
    ∙ sym (map-map shown_leaf (said_bound n tree) items)

same-nodes : (items : List lines.LeafMark) → nodes_of items ≡ map (λ line. line.node) (map shown_leaf items)
same-nodes items = sym (map-map shown_leaf (λ line. line.node) items)

-- ---- texts

module _ (n : Net) (tree : Tree) where
  record NamesSaid (marks : List LeafMark) : Type 0 where
    leaves : List OpenLeaf
    are : AreLeaves n tree leaves
    named : map (λ line. line.node) marks ≡ leaf_nodes leaves

  abbrev LinesSay : Marks → Type 0
  LinesSay t = All (SaysLine n tree t.form t.pivots) t.marks

  abbrev IsSaidBound : Marks → Type 0
  IsSaidBound t = IsLeast (map (said_bound n tree) t.marks) t.bound

  names-said : (text : TightText) → NamesLeaves n tree text.marks.items → NamesSaid (shown_marks text).marks
  names-said text h = record { leaves = h.leaves; are = h.are; named = sym (same-nodes text.marks.items) ∙ h.named }

  said-names : (text : TightText) → NamesSaid (shown_marks text).marks → NamesLeaves n tree text.marks.items
  said-names text h = record { leaves = h.leaves; are = h.are; named = same-nodes text.marks.items ∙ h.named }

  bound-said : (text : TightText) → IsMarkedBound n tree text.marks.items text.bound → IsSaidBound (shown_marks text)
  bound-said text h = subst (λ (bounds : List (Option ℤ)). IsLeast bounds text.bound) (same-bounds n tree text.marks.items) h

  said-bound : (text : TightText) → IsSaidBound (shown_marks text) → IsMarkedBound n tree text.marks.items text.bound
  said-bound text h = subst (λ (bounds : List (Option ℤ)). IsLeast bounds text.bound) (sym (same-bounds n tree text.marks.items)) h

  lines-say : (text : TightText) → All (LineHolds n tree text.form text.pivots) text.marks.items → LinesSay (shown_marks text)
  lines-say text h =
      All-map (SaysLine n tree text.form text.pivots) shown_leaf text.marks.items (λ k d lt. line-says n tree text.form text.pivots (get_or text.marks.items k d) (h k d lt))

  say-lines : (text : TightText) → LinesSay (shown_marks text) → All (LineHolds n tree text.form text.pivots) text.marks.items
  say-lines text h =
      let all = All-unmapped shown_leaf (SaysLine n tree text.form text.pivots) text.marks.items h in
      λ k d lt. says-line n tree text.form text.pivots (get_or text.marks.items k d) (all k d lt)

  record IsBadSaid (t : Marks) (node : ℕ) : Type 0 where
    line : LeafMark
    here : Contains t.marks line
    node_is : line.node ≡ node
    wrong : ¬ SaysLine n tree t.form t.pivots line

  bad-said : (text : TightText) (node : ℕ) → IsBadMark n tree text node → IsBadSaid (shown_marks text) node
  bad-said text node h = record {
    line = shown_leaf h.line;
    here = Contains-mapped shown_leaf text.marks.items h.line h.here;
    node_is = h.node_is;
    wrong = λ says. h.wrong (says-line n tree text.form text.pivots h.line says);
  }

  said-bad : (text : TightText) (node : ℕ) → IsBadSaid (shown_marks text) node → IsBadMark n tree text node
  said-bad text node h =
      let from = Contains-unmapped shown_leaf text.marks.items h.line h.here in record {
        line = from.0;
        here = from.1;
        node_is = ap (λ (m : LeafMark). m.node) from.2 ∙ h.node_is;
        wrong = λ holds. h.wrong (subst (SaysLine n tree text.form text.pivots) from.2 (line-says n tree text.form text.pivots from.0 holds));
      }

  -- texts in memory that are shown as the same marks
  module _ (s t : TightText) (same : shown_marks s ≡ shown_marks t) where
    names-same : NamesLeaves n tree s.marks.items → NamesLeaves n tree t.marks.items
    names-same h = said-names t (subst (λ (m : Marks). NamesSaid m.marks) same (names-said s h))

    bound-same : IsMarkedBound n tree s.marks.items s.bound → IsMarkedBound n tree t.marks.items t.bound
    bound-same h = said-bound t (subst IsSaidBound same (bound-said s h))

    lines-same : All (LineHolds n tree s.form s.pivots) s.marks.items → All (LineHolds n tree t.form t.pivots) t.marks.items
    lines-same h = say-lines t (subst LinesSay same (lines-say s h))

    bad-same : (node : ℕ) → IsBadMark n tree s node → IsBadMark n tree t node
    bad-same node h = said-bad t node (subst (λ (m : Marks). IsBadSaid m node) same (bad-said s node h))

    pub holds-same : Holds n tree s → Holds n tree t
    holds-same h = record { leaves = names-same h.leaves; marks = lines-same h.marks; bound = bound-same h.bound }

refuses-same : (n : Net) (tree : Tree) (s t : TightText) → shown_marks s ≡ shown_marks t → (r : TightRefusal) → Refuses n tree s r → Refuses n tree t r
refuses-same n tree s t same (Text line) h = h
refuses-same n tree s t same Leaves h = λ names. h (names-same n tree t s (sym same) names)
refuses-same n tree s t same (BadMark node) h = bad-same n tree s t same node h
refuses-same n tree s t same WrongBound h = λ least. h (bound-same n tree t s (sym same) least)
refuses-same n tree s t same Memory h = h

pub first-same : (n : Net) (tree : Tree) (s t : TightText) → shown_marks s ≡ shown_marks t → (r : TightRefusal) → IsFirstRefusal n tree s r → IsFirstRefusal n tree t r
first-same n tree s t same r h = record {
  holds = refuses-same n tree s t same r h.holds;
  first = λ earlier below refuses. h.first earlier below (refuses-same n tree t s (sym same) earlier refuses);
}

-- ---- how many there are of each kind

abbrev said_tight : Mark → Bool
said_tight (tight q) = true
said_tight (raised proof q) = false
said_tight (empty proof) = false
said_tight (loose reason) = false

abbrev said_raised : Mark → Bool
said_raised (tight q) = false
said_raised (raised proof q) = true
said_raised (empty proof) = false
said_raised (loose reason) = false

abbrev said_empty : Mark → Bool
said_empty (tight q) = false
said_empty (raised proof q) = false
said_empty (empty proof) = true
said_empty (loose reason) = false

abbrev said_loose : Mark → Bool
said_loose (tight q) = false
said_loose (raised proof q) = false
said_loose (empty proof) = false
said_loose (loose reason) = true

tight-said : (mark : memory.Mark) → is_tight mark ≡ said_tight (shown_mark mark)
tight-said (Tight q) = refl
tight-said (Raised proof q) = refl
tight-said (Empty proof) = refl
tight-said (Loose reason) = refl

raised-said : (mark : memory.Mark) → is_raised mark ≡ said_raised (shown_mark mark)
raised-said (Tight q) = refl
raised-said (Raised proof q) = refl
raised-said (Empty proof) = refl
raised-said (Loose reason) = refl

empty-said : (mark : memory.Mark) → is_empty mark ≡ said_empty (shown_mark mark)
empty-said (Tight q) = refl
empty-said (Raised proof q) = refl
empty-said (Empty proof) = refl
empty-said (Loose reason) = refl

loose-said : (mark : memory.Mark) → is_loose mark ≡ said_loose (shown_mark mark)
loose-said (Tight q) = refl
loose-said (Raised proof q) = refl
loose-said (Empty proof) = refl
loose-said (Loose reason) = refl

count-same : (s t : TightText) → shown_marks s ≡ shown_marks t → (p : memory.Mark → Bool) (q : Mark → Bool) → ((mark : memory.Mark) → p mark ≡ q (shown_mark mark))
    → count_by (λ line. p line.mark) s.marks.items ≡ count_by (λ line. p line.mark) t.marks.items
count-same s t same p q agree =
    count-mapped shown_leaf (λ line. p line.mark) (λ line. q line.mark) (λ line. agree line.mark) s.marks.items
    ∙ ap (λ (m : Marks). count_by (λ line. q line.mark) m.marks) same
    ∙ sym (count-mapped shown_leaf (λ line. p line.mark) (λ line. q line.mark) (λ line. agree line.mark) t.marks.items)

pub verdict-same : (s t : TightText) → shown_marks s ≡ shown_marks t → (verdict : TightVerdict) → IsVerdict s verdict → IsVerdict t verdict
verdict-same s t same verdict h = record {
  tight = h.tight ∙ count-same s t same is_tight said_tight tight-said;
  raised = h.raised ∙ count-same s t same is_raised said_raised raised-said;
  empty = h.empty ∙ count-same s t same is_empty said_empty empty-said;
  loose = h.loose ∙ count-same s t same is_loose said_loose loose-said;
  bound = h.bound ∙ ap (λ (m : Marks). m.bound) same;
}
