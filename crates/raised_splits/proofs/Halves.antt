-- A half with the proof that it gets: its bound is no less, and the proof names rows of the form.
use Rattle.std.proofs.Common.{◌≡◌, ℕ, All, IsTrue, Option, None, Some, option_map, ℤ, ◌≤ℤ◌, ◌<ℤ◌, arith, refl, sym, ap, subst, ◌∙◌}
use Rattle.std.specs.Int.{int_max}
use Rattle.std.specs.Option.{ForSome}
use Rattle.std.proofs.lemmas.Int.{clamps}
use Rattle.std.proofs.lemmas.List.Elements.{All-weaker}
use Rattle.std.proofs.lemmas.Option.{none-some}
use Rattle.integers.proofs.Ring.{additive}
use Rattle.pool_model.specs.Network.{Net, IsLimited}
use Rattle.row_model.specs.Boxes.{Box}
use Rattle.row_model.specs.Multipliers.{Part, Proof, IsInOrder, Shown, bound, no_plan, shown_by}
use Rattle.row_model.specs.Trees.{raised}
use Rattle.row_model.proofs.Agreement.{in_order-same, shown-same}
use Rattle.box_space.specs.Views.{shown_proof}
use Rattle.box_space.specs.declared.coordinates.Form.{Form}
use Rattle.box_tree.proofs.Improving.{some_at}
use Rattle.dual_rounding.specs.Programs.{has_row}
use Rattle.linear_program.specs.declared.multipliers.Proof as held
use Rattle.relaxation_points.specs.declared.point.RelaxPoint.{RelaxPoint}
use Rattle.relaxation_points.specs.Points.{IsRowOf, NamesRowsOf}
use Rattle.leaf_marks.specs.declared.mark.Mark.{Mark}
use Rattle.leaf_marks.specs.declared.mark.Mark.TheVariants.{Tight, Raised, Empty, Loose}
use Rattle.raised_splits.specs.Raising.{half_bound, proof_by, IsMarkOf, IsMarked, IsRaisedHalf}

-- ---- bounds

some_same : {X : Type 0} (x y : X) → Some x ≡ Some y → x ≡ y
some_same x y e = cc

greater-left : (a b : ℤ) → a ≤ℤ int_max a b
greater-left a b = omega (arith, additive, clamps)

max-right : (a b : ℤ) → a ≤ℤ b → int_max a b ≡ b
max-right a b h = omega (arith, additive, clamps)

same-at-most : (a : ℤ) → a ≤ℤ a
same-at-most a = omega (arith, additive)

below : (a b c : ℤ) → a ≤ℤ b → b <ℤ c → a ≤ℤ c
below a b c h k = omega (arith, additive)

-- one bound is no less than another; None is that there is no plan
abbrev pub IsNoLess : (x y : Option ℤ) → Type 0
IsNoLess x None = Unit {0}
IsNoLess None (Some z) = ⊥
IsNoLess (Some y) (Some z) = y ≤ℤ z

no-less-same : (x : Option ℤ) → IsNoLess x x
no-less-same None = tt
no-less-same (Some z) = same-at-most z

-- what a bound is raised to is no less
raised-above : (a low : ℤ) (s : Option Shown) → raised (Some a) s ≡ Some low → a ≤ℤ low
raised-above a low None e = subst (λ (z : ℤ). a ≤ℤ z) (some_same a low e) (same-at-most a)
raised-above a low (Some (bound y)) e = subst (λ (z : ℤ). a ≤ℤ z) (some_same (int_max a y) low e) (greater-left a y)
raised-above a low (Some no_plan) e = absurd (none-some low e)

-- a proof that shows more than a bound was raised to raises it to what it shows
raised-to : (above : Option ℤ) (low z : ℤ) (s : Option Shown) → raised above s ≡ Some low → low <ℤ z → raised above (Some (bound z)) ≡ Some z
raised-to None low z s e lt = absurd (none-some low e)
raised-to (Some a) low z s e lt = ap (λ (y : ℤ). Some y) (max-right a z (below a low z (raised-above a low s e) lt))

raised-none : (above : Option ℤ) → raised above (Some no_plan) ≡ None
raised-none None = refl
raised-none (Some a) = refl

-- ---- halves

module _ (n : Net) (form : Form) (b : Box) (low : ℤ) (pivots : ℕ) (limited : IsLimited n) where
  -- what a mark that raises the bound shows of the box, and that its proof is in order there
  pub raised-shows : (p : held.Proof) (q : RelaxPoint) (of : IsMarkOf n form b low pivots (Raised p q)) → shown_by n b (shown_proof p) ≡ bound of.says.point.shown
  raised-shows p q of = sym (shown-same n of.seen b (shown_proof p) limited of.agree) ∙ of.says.point.shows

  raised-order : (p : held.Proof) (q : RelaxPoint) → IsMarkOf n form b low pivots (Raised p q) → IsInOrder n b (shown_proof p)
  raised-order p q of = in_order-same n of.seen b (shown_proof p) limited of.agree of.says.point.ordered

  -- the same of one that shows that there is no plan
  pub empty-shows : (p : held.Proof) → IsMarkOf n form b low pivots (Empty p) → shown_by n b (shown_proof p) ≡ no_plan
  empty-shows p of = sym (shown-same n of.seen b (shown_proof p) limited of.agree) ∙ of.says.shows

  empty-order : (p : held.Proof) → IsMarkOf n form b low pivots (Empty p) → IsInOrder n b (shown_proof p)
  empty-order p of = in_order-same n of.seen b (shown_proof p) limited of.agree of.says.ordered

module _ (n : Net) (form : Form) (b : Box) (pivots : ℕ) (above : Option ℤ) (limited : IsLimited n) (old : Option Proof) where
  -- with a proof that shows more than the half's bound
  pub shown-bound : (low z : ℤ) (p : Proof) → half_bound n b above old ≡ Some low → shown_by n b p ≡ bound z → low <ℤ z → half_bound n b above (Some p) ≡ Some z
  shown-bound low z p e shows lt = ap (λ (s : Shown). raised above (Some s)) shows ∙ raised-to above low z (option_map (shown_by n b) old) e lt

  -- with a proof that it holds no plan
  pub none-bound : (p : Proof) → shown_by n b p ≡ no_plan → half_bound n b above (Some p) ≡ None
  none-bound p shows = ap (λ (s : Shown). raised above (Some s)) shows ∙ raised-none above

  no-less-by : (low : ℤ) (mark : Mark) → half_bound n b above old ≡ Some low → IsMarkOf n form b low pivots mark
      → IsNoLess (half_bound n b above old) (half_bound n b above (proof_by mark old))
  no-less-by low (Tight q) e of = no-less-same (half_bound n b above old)
  no-less-by low (Loose reason) e of = no-less-same (half_bound n b above old)
  no-less-by low (Raised p q) e of =
      let at = of.says.point in
      subst (λ (x : Option ℤ). IsNoLess x (half_bound n b above (Some (shown_proof p)))) (sym e)
      (subst (IsNoLess (Some low)) (sym (shown-bound low at.shown (shown_proof p) e (raised-shows n form b low pivots limited p q of) at.above))
      (below low low at.shown (same-at-most low) at.above))
  no-less-by low (Empty p) e of = subst (IsNoLess (half_bound n b above old)) (sym (none-bound (shown_proof p) (empty-shows n form b low pivots limited p of))) tt

  no-less-at : (k : Option ℤ) (new : Option Proof) → half_bound n b above old ≡ k → IsMarked n form b pivots k old new → IsNoLess (half_bound n b above old) (half_bound n b above new)
  no-less-at None new e same = subst (λ (o : Option Proof). IsNoLess (half_bound n b above old) (half_bound n b above o)) (sym same) (no-less-same (half_bound n b above old))
  no-less-at (Some low) new e (mark, of, same) =
      subst (λ (o : Option Proof). IsNoLess (half_bound n b above old) (half_bound n b above o)) (sym same) (no-less-by low mark e of)

  -- the bound of a half is no less with the proof that it gets
  pub no-less : (new : Option Proof) → IsRaisedHalf n form b pivots above old new → IsNoLess (half_bound n b above old) (half_bound n b above new)
  no-less new h = no-less-at (half_bound n b above old) new refl h

  -- ---- which proof it is

  by-mark : (P : Proof → Type 0) (low : ℤ) (mark : Mark) → ((p : Proof) → NamesRowsOf n form p → IsInOrder n b p → P p) → IsMarkOf n form b low pivots mark → ForSome old P
      → ForSome (proof_by mark old) P
  by-mark P low (Tight q) so of had = had
  by-mark P low (Loose reason) so of had = had
  by-mark P low (Raised p q) so of had = some_at P (shown_proof p) (so (shown_proof p) of.says.point.named (raised-order n form b low pivots limited p q of))
  by-mark P low (Empty p) so of had = some_at P (shown_proof p) (so (shown_proof p) of.says.named (empty-order n form b low pivots limited p of))

  -- what holds of proofs in order on rows of the form, and of the half's proof, holds of the one that it gets
  pub proof-kept : (P : Proof → Type 0) (k : Option ℤ) (new : Option Proof) → ((p : Proof) → NamesRowsOf n form p → IsInOrder n b p → P p) → IsMarked n form b pivots k old new → ForSome old P
      → ForSome new P
  proof-kept P None new so same had = subst (λ (o : Option Proof). ForSome o P) (sym same) had
  proof-kept P (Some low) new so (mark, of, same) had = subst (λ (o : Option Proof). ForSome o P) (sym same) (by-mark P low mark so of had)

  pub order-kept : (new : Option Proof) → IsRaisedHalf n form b pivots above old new → ForSome old (IsInOrder n b) → ForSome new (IsInOrder n b)
  order-kept new h had = proof-kept (IsInOrder n b) (half_bound n b above old) new (λ p named order. order) h had

-- ---- rows of a form

has-row : (n : Net) (form : Form) (id : ℕ) → IsRowOf n form id → IsTrue (has_row n form id)
unfolding has_row
has-row n form id is = is.1

pub names-rows : (n : Net) (form : Form) (p : Proof) → NamesRowsOf n form p → All (λ q. IsTrue (has_row n form q.row)) p.parts
names-rows n form p h = All-weaker (λ (q : Part). IsRowOf n form q.row) (λ (q : Part). IsTrue (has_row n form q.row)) (λ q is. has-row n form q.row is) p.parts h
