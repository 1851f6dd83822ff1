-- What follows for plans and for multipliers where marks hold.
use Rattle.std.proofs.Common.{◌≡◌, ℕ, ◌||◌, IsTrue, List, map, Option, None, Some, ℤ, pos, ◌*ℤ◌, ◌≤ℤ◌, ◌<ℤ◌, arith, refl, sym, ap, subst, ◌∙◌}
use Rattle.std.specs.List.{Contains}
use Rattle.std.specs.Int.{int_max}
use Rattle.std.proofs.lemmas.Bool.{false≢true}
use Rattle.std.proofs.lemmas.Int.{clamps}
use Rattle.std.proofs.lemmas.List.Elements.{All-contains}
use Rattle.integers.proofs.Ring.{additive}
use Rattle.integers.proofs.Order.{le-mul_pos, le_trans_ℤ}
use Rattle.pool_model.specs.Network.{Net, IsLimited}
use Rattle.pool_model.specs.Plan.{Plan, Obeys, cost_of}
use Rattle.row_model.specs.Boxes.{Box, LiesIn}
use Rattle.row_model.specs.Multipliers.{Proof, Shown, HoldsIn, bound, no_plan, shown_by}
use Rattle.row_model.specs.Trees.{Tree, box_of, leaf_bound, raised}
use Rattle.row_model.proofs.Duality.{proof-holds}
use Rattle.row_model.proofs.TreeBound.{Allows}
use Rattle.box_space.specs.Views.{shown_proof}
use Rattle.box_space.specs.declared.coordinates.Form.{Form}
use Rattle.relaxation_points.specs.Points.{Point, IsWitness}
use Rattle.relaxation_points.specs.Views.{shown_point}
use Rattle.relaxation_points.proofs.Duality.{witness-some, witness-best}
use Rattle.leaf_order.specs.declared.leaf.OpenLeaf.{OpenLeaf}
use Rattle.certificate_leaves.specs.Leaves.{LiesInOne}
use Rattle.leaf_marks.specs.Marks.{IsMark, IsRaised}
use Rattle.leaf_marks.specs.declared.mark.Mark.{Mark}
use Rattle.leaf_marks.specs.declared.mark.Mark.TheVariants.{Tight, Raised, Empty, Loose}
use Rattle.tight_texts.specs.declared.marks.LeafMark.{LeafMark}
use Rattle.tight_texts.specs.declared.marks.TightText.{TightText}
use Rattle.tight_checks.specs.Holding.{LineHolds, Holds, IsAtLeast, IsLeast, bound_with, marked_bound, is_tight, is_raised}
use Rattle.tight_checks.specs.Showing.{AreBest, HoldsForPlans, IsBest}
use Rattle.tight_checks.proofs.Lists.{Contains-mapped, Contains-unmapped}

-- ---- one mark

some_one : (x y : ℤ) → Some x ≡ Some y → x ≡ y
some_one x y e = cc

best-by : (n : Net) (form : Form) (b : Box) (low : ℤ) (p : Point) → IsWitness n form b low p → IsBest n form b low
best-by n form b low p w = record {
  holds_one = λ proof order named. witness-some n form b low p proof w order named;
  best = λ proof z order named shows. witness-best n form b low p proof z w order named shows;
}

greater_is : (low high : ℤ) → low <ℤ high → int_max low high ≡ high
greater_is low high h = omega (arith, additive, clamps)

-- the bound that a raised mark leaves is what its proof shows
pub left-raised : (n : Net) (form : Form) (b : Box) (low : ℤ) (proof : Proof) (p : Point) (h : IsRaised n form b low proof p) → raised (Some low) (Some (shown_by n b proof)) ≡ Some h.shown
left-raised n form b low proof p h = ap (λ (s : Shown). raised (Some low) (Some s)) h.shows ∙ ap Some (greater_is low h.shown h.above)

best-marked : (n : Net) (form : Form) (b : Box) (low : ℤ) (pivots : ℕ) (mark : Mark) → IsMark n form b low pivots mark → IsTrue (is_tight mark || is_raised mark)
    → (z : ℤ) × (bound_with n b (Some low) mark ≡ Some z) × IsBest n form b z
best-marked n form b low pivots (Tight q) h t = (low, refl, best-by n form b low (shown_point q) h.point)
best-marked n form b low pivots (Raised proof q) h t =
    let r = h.point in (r.shown, left-raised n form b low (shown_proof proof) (shown_point q) r, best-by n form b r.shown (shown_point q) r.best)
best-marked n form b low pivots (Empty proof) h t = absurd (false≢true t)
best-marked n form b low pivots (Loose reason) h t = absurd (false≢true t)

-- a plan in the box costs at least what the mark leaves
module _ (n : Net) (limited : IsLimited n) (b : Box) (p : Plan) (obeys : Obeys n p) (lies : LiesIn n p b) where
  shown-costs : (s : Shown) (z : ℤ) → HoldsIn n b s → s ≡ bound z → (z *ℤ pos p.base) ≤ℤ cost_of n p
  shown-costs s z holds e = let at : HoldsIn n b (bound z) = subst (HoldsIn n b) e holds in at p obeys lies

  shown-none : (s : Shown) → HoldsIn n b s → s ≡ no_plan → ⊥
  shown-none s holds e = let at : HoldsIn n b no_plan = subst (HoldsIn n b) e holds in at p obeys lies

  left-allows : (form : Form) (low : ℤ) (pivots : ℕ) (mark : Mark) → (low *ℤ pos p.base) ≤ℤ cost_of n p → IsMark n form b low pivots mark → Allows n p (bound_with n b (Some low) mark)
  left-allows form low pivots (Tight q) costs h = costs
  left-allows form low pivots (Raised proof q) costs h =
      let r = h.point in
      subst (Allows n p) (sym (left-raised n form b low (shown_proof proof) (shown_point q) r))
      (shown-costs (shown_by n b (shown_proof proof)) r.shown (proof-holds n b (shown_proof proof) limited r.ordered) r.shows)
  left-allows form low pivots (Empty proof) costs h = absurd (shown-none (shown_by n b (shown_proof proof)) (proof-holds n b (shown_proof proof) limited h.ordered) h.shows)
  left-allows form low pivots (Loose reason) costs h = costs

-- ---- the least of bounds

least-allows : (n : Net) (p : Plan) (bounds : List (Option ℤ)) (least one : Option ℤ) → IsLeast bounds least → Contains bounds one → Allows n p one → Allows n p least
least-allows n p bounds None one h here allows = subst (Allows n p) (All-contains (λ o. o ≡ None) bounds one h here) allows
least-allows n p bounds (Some low) None h here allows = absurd allows
least-allows n p bounds (Some low) (Some b) h here allows =
    le_trans_ℤ (low *ℤ pos p.base) (b *ℤ pos p.base) (cost_of n p) (le-mul_pos p.base low b (All-contains (IsAtLeast low) bounds (Some b) h.1 here b refl)) allows

for-plans : (n : Net) (least : Option ℤ) → ((p : Plan) → Obeys n p → Allows n p least) → HoldsForPlans n least
for-plans n None h = h
for-plans n (Some low) h = h

-- ---- a text

module _ (n : Net) (tree : Tree) (text : TightText) (holds : Holds n tree text) where
  pub best-text : AreBest n tree text
  best-text line here t =
      let says = All-contains (LineHolds n tree text.form text.pivots) text.marks.items line holds.marks here in
      let b = box_of n tree.splits line.node in
      let best = best-marked n text.form b says.low text.pivots line.mark says.mark t in
      (best.0, ap (λ (o : Option ℤ). bound_with n b o line.mark) says.bound_is ∙ best.1, best.2)

  -- the line of a leaf
  line-of : (leaf : OpenLeaf) → Contains holds.leaves.leaves leaf → (line : LeafMark) × Contains text.marks.items line × (line.node ≡ leaf.node)
  line-of leaf here =
      Contains-unmapped (λ (line : LeafMark). line.node) text.marks.items leaf.node
      (subst (λ (nodes : List ℕ). Contains nodes leaf.node) (sym holds.leaves.named) (Contains-mapped (λ (l : OpenLeaf). l.node) holds.leaves.leaves leaf here))

  plan-allows : IsLimited n → (p : Plan) → Obeys n p → LiesInOne n tree holds.leaves.leaves p → Allows n p text.bound
  plan-allows limited p obeys one =
      let at = line-of one.leaf one.listed in
      let line = at.0 in
      let says = All-contains (LineHolds n tree text.form text.pivots) text.marks.items line holds.marks at.1 in
      let b = box_of n tree.splits line.node in
      let leaf_is = (holds.leaves.are.members one.leaf).0 one.listed in
      let low_is : says.low ≡ one.leaf.bound = some_one says.low one.leaf.bound (sym says.bound_is ∙ ap (leaf_bound n tree) at.2 ∙ leaf_is.1) in
      let lies : LiesIn n p b = subst (λ (node : ℕ). LiesIn n p (box_of n tree.splits node)) (sym at.2) one.lies in
      let costs : (says.low *ℤ pos p.base) ≤ℤ cost_of n p = subst (λ (z : ℤ). (z *ℤ pos p.base) ≤ℤ cost_of n p) (sym low_is) one.costs in
      let left : Allows n p (marked_bound n tree line) =
      subst (λ (o : Option ℤ). Allows n p (bound_with n b o line.mark)) (sym says.bound_is) (left-allows n limited b p obeys lies text.form says.low text.pivots line.mark costs says.mark) in
      least-allows n p (map (marked_bound n tree) text.marks.items) text.bound (marked_bound n tree line) holds.bound (Contains-mapped (marked_bound n tree) text.marks.items line at.1) left

  pub plans-text : IsLimited n → ((p : Plan) → Obeys n p → LiesInOne n tree holds.leaves.leaves p) → HoldsForPlans n text.bound
  plans-text limited held = for-plans n text.bound (λ p obeys. plan-allows limited p obeys (held p obeys))
