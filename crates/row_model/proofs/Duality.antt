-- Weak duality: what multipliers on rows show of every plan in a box.
use Rattle.std.proofs.Common.{◌≡◌, ◌≢◌, ℕ, ◌<◌, inl, inr, List, [], ◌∷◌, All, ℤ, pos, neg_ℤ, ◌+ℤ◌, ◌-ℤ◌, ◌*ℤ◌, ◌≤ℤ◌, ◌<ℤ◌, arith, refl, sym, ap, subst, ◌∙◌}
use Rattle.std.specs.Int.{int_min, int_div_euclid}
use Rattle.std.proofs.Math.IntN.{zero-*ℤ, +ℤ_idr}
use Rattle.std.proofs.lemmas.List.Elements.{All-head, All-tail}
use Rattle.integers.specs.Sums.{int_sum_by, int_sum_below, product_below}
use Rattle.integers.proofs.Ring.{additive, linear, sorted, add-mul, mul_assoc_ℤ, neg-mul}
use Rattle.integers.proofs.Order.{nonneg-mul, pos-mul, le-cancel, min-le-mul_over, floor-le}
use Rattle.integers.proofs.ByIndex.{int_sum_below-add, int_sum_below-mul, int_sum_below-mul_right, int_sum_below-same, int_sum_below-le}
use Rattle.integers.proofs.AtKey.{same_or_other, chosen, passed, positive-product_below}
use Rattle.pool_model.specs.Network.{Net, IsLimited}
use Rattle.pool_model.specs.Plan.{Plan, Obeys, factor, cost_of}
use Rattle.row_model.specs.Boxes.{Box, LiesIn}
use Rattle.row_model.specs.Variables.{variables, by_number, costs, lows, highs}
use Rattle.row_model.specs.Catalogue.{Kind, at_least, equal, rows, row_at}
use Rattle.row_model.specs.Lift.{lift_base, lift, IsMet, HoldsAt}
use Rattle.row_model.specs.Multipliers.{Part, Proof, number, IsSigned, IsInOrder, Shown, bound, no_plan, shown_by, HoldsIn}
use Rattle.integers.proofs.Order.{le-mul_pos}
use Rattle.row_model.proofs.Numbering.{by_number-dot}
use Rattle.row_model.proofs.PointCost.{point-cost}
use Rattle.row_model.proofs.CatalogueRows.{row_at-holds}
use Rattle.row_model.proofs.VariableEnds.{lows-hold_by_number, highs-hold_by_number}

-- ---- programs: rows over variables that have a number

-- each variable's coefficient, and a constant
record DenseRow : Type 0 where
  kind : Kind
  coef : ℕ → ℤ
  constant : ℤ

-- how many variables, their costs and ends, and rows by number
record Program : Type 0 where
  variables : ℕ
  row : ℕ → DenseRow
  cost : ℕ → ℤ
  low : ℕ → ℤ
  high : ℕ → ℤ

-- a row's value at the point v over d, times d
abbrev at_point : Program → DenseRow → (ℕ → ℤ) → ℤ → ℤ
at_point p r v d = int_sum_below (λ i. r.coef i *ℤ v i) p.variables +ℤ r.constant *ℤ d

-- what a unit of a variable costs still
abbrev left_over : Program → ℤ → List Part → ℕ → ℤ
left_over p scale parts i = scale *ℤ p.cost i -ℤ int_sum_by (λ q. q.mult *ℤ (p.row q.row).coef i) parts

abbrev total : Program → ℤ → List Part → ℤ
total p scale parts =
    int_sum_below (λ i. int_min (left_over p scale parts i *ℤ p.low i) (left_over p scale parts i *ℤ p.high i)) p.variables
    -ℤ int_sum_by (λ q. q.mult *ℤ (p.row q.row).constant) parts

abbrev cost_at : Program → (ℕ → ℤ) → ℤ
cost_at p v = int_sum_below (λ i. p.cost i *ℤ v i) p.variables

-- the point v over d lies between the ends, and meets the rows below a count
record IsPoint (p : Program) (count : ℕ) (v : ℕ → ℤ) (d : ℤ) : Type 0 where
  positive : pos 0 <ℤ d
  low : (i : ℕ) → i < p.variables → (p.low i *ℤ d) ≤ℤ v i
  high : (i : ℕ) → i < p.variables → v i ≤ℤ (p.high i *ℤ d)
  met : (id : ℕ) → id < count → IsMet (p.row id).kind (at_point p (p.row id) v d)

-- what is left over, at a point: the scaled cost less the multiplied rows
split-rest : (c m k r v : ℤ) → (c -ℤ (m *ℤ k +ℤ r)) *ℤ v ≡ (c -ℤ r) *ℤ v +ℤ neg_ℤ m *ℤ (k *ℤ v)
split-rest c m k r v = simp sorted (omega (arith, additive))

left_over-sum : (p : Program) (scale : ℤ) (parts : List Part) (v : ℕ → ℤ)
    → int_sum_below (λ i. left_over p scale parts i *ℤ v i) p.variables ≡ scale *ℤ cost_at p v -ℤ int_sum_by (λ q. q.mult *ℤ int_sum_below (λ i. (p.row q.row).coef i *ℤ v i) p.variables) parts
left_over-sum p scale [] v =
    int_sum_below-same (λ i. left_over p scale [] i *ℤ v i) (λ i. scale *ℤ (p.cost i *ℤ v i)) p.variables (λ i lt. rw (+ℤ_idr, mul_assoc_ℤ) refl)
    ∙ omega (arith, additive, int_sum_below-mul scale (λ i. p.cost i *ℤ v i) p.variables)
left_over-sum p scale (q ∷ parts) v =
    let coef = (p.row q.row).coef in
    let old = λ (i : ℕ). left_over p scale parts i *ℤ v i in
    let here = λ (i : ℕ). coef i *ℤ v i in
    int_sum_below-same (λ i. left_over p scale (q ∷ parts) i *ℤ v i) (λ i. old i +ℤ neg_ℤ q.mult *ℤ here i) p.variables
    (λ i lt. split-rest (scale *ℤ p.cost i) q.mult (coef i) (int_sum_by (λ q. q.mult *ℤ (p.row q.row).coef i) parts) (v i))
    ∙ omega (
      arith,
      additive,
      int_sum_below-add old (λ i. neg_ℤ q.mult *ℤ here i) p.variables,
      int_sum_below-mul (neg_ℤ q.mult) here p.variables,
      neg-mul q.mult (int_sum_below (λ i. (p.row q.row).coef i *ℤ v i) p.variables),
      left_over-sum p scale parts v,
    )

-- a multiplier of the right sign on a row that is met adds nothing below 0
part-met : (k : Kind) (m z : ℤ) → IsSigned k m → IsMet k z → pos 0 ≤ℤ (m *ℤ z)
part-met at_least m z s h = nonneg-mul m z s h
part-met equal m z s h = rw h (omega (arith, linear))

parts-met : (p : Program) (count : ℕ) (parts : List Part) (v : ℕ → ℤ) (d : ℤ) → IsPoint p count v d
    → All (λ q. q.row < count) parts → All (λ q. IsSigned (p.row q.row).kind q.mult) parts
    → pos 0 ≤ℤ (int_sum_by (λ q. q.mult *ℤ int_sum_below (λ i. (p.row q.row).coef i *ℤ v i) p.variables) parts +ℤ int_sum_by (λ q. q.mult *ℤ (p.row q.row).constant) parts *ℤ d)
parts-met p count [] v d h known signed = omega (arith, additive, zero-*ℤ d)
parts-met p count (q ∷ parts) v d h known signed =
    let r = p.row q.row in
    let dots = int_sum_by (λ q. q.mult *ℤ int_sum_below (λ i. (p.row q.row).coef i *ℤ v i) p.variables) parts in
    let constants = int_sum_by (λ q. q.mult *ℤ (p.row q.row).constant) parts in
    rw (joined q.mult (int_sum_below (λ i. r.coef i *ℤ v i) p.variables) r.constant d dots constants) (omega (
      arith,
      additive,
      part-met r.kind q.mult (at_point p r v d) (All-head (λ q. IsSigned (p.row q.row).kind q.mult) q parts signed) (h.met q.row (All-head (λ q. q.row < count) q parts known)),
      parts-met p count parts v d h (All-tail (λ q. q.row < count) q parts known) (All-tail (λ q. IsSigned (p.row q.row).kind q.mult) q parts signed),
    ))
  where
    joined : (m t b d ts bs : ℤ) → m *ℤ t +ℤ ts +ℤ (m *ℤ b +ℤ bs) *ℤ d ≡ m *ℤ (t +ℤ b *ℤ d) +ℤ (ts +ℤ bs *ℤ d)
    joined m t b d ts bs = simp sorted (omega (arith, additive))

-- the number bounds the scaled cost of each point
total-le-cost : (p : Program) (count : ℕ) (scale : ℤ) (parts : List Part) (v : ℕ → ℤ) (d : ℤ) → IsPoint p count v d
    → All (λ q. q.row < count) parts → All (λ q. IsSigned (p.row q.row).kind q.mult) parts
    → (total p scale parts *ℤ d) ≤ℤ (scale *ℤ cost_at p v)
total-le-cost p count scale parts v d h known signed =
    let least = λ (i : ℕ). int_min (left_over p scale parts i *ℤ p.low i) (left_over p scale parts i *ℤ p.high i) in
    let leasts = int_sum_below least p.variables in
    let constants = int_sum_by (λ q. q.mult *ℤ (p.row q.row).constant) parts in
    let positive = h.positive in
    rw (add-mul leasts (neg_ℤ constants) d, neg-mul constants d) (omega (
      arith,
      additive,
      parts-met p count parts v d h known signed,
      left_over-sum p scale parts v,
      int_sum_below-mul_right least d p.variables,
      int_sum_below-le (λ i. least i *ℤ d) (λ i. left_over p scale parts i *ℤ v i) p.variables
          (λ i lt. min-le-mul_over d (left_over p scale parts i) (p.low i) (v i) (p.high i) (omega (arith, additive)) (h.low i lt) (h.high i lt)),
    ))

-- ---- the program of a network in a box
abbrev program : Net → Box → Program
program n b = record {
  variables = variables n;
  row = λ id. record { kind = (row_at n b id).kind; coef = by_number n (row_at n b id).coefs; constant = (row_at n b id).constant };
  cost = by_number n (costs n);
  low = by_number n (lows n b);
  high = by_number n (highs n b);
}

-- every row of the catalogue holds at every plan that obeys and lies in the box
pub record RowsHold (n : Net) (b : Box) : Type 0 where
  pub each : (p : Plan) → Obeys n p → LiesIn n p b → (id : ℕ) → id < rows n → HoldsAt n p (row_at n b id)

lift_base-positive : (n : Net) (p : Plan) → Obeys n p → pos 0 <ℤ pos (lift_base n p)
lift_base-positive n p ob =
    pos-mul (pos p.base) (pos (product_below (factor n p) n.pools)) (let base = ob.denominator in omega (arith, additive))
    (omega (arith, additive, positive-product_below (factor n p) n.pools (λ l. omega arith)))

lift-point : (n : Net) (b : Box) (p : Plan) → IsLimited n → RowsHold n b → Obeys n p → LiesIn n p b
    → IsPoint (program n b) (rows n) (by_number n (lift n p)) (pos (lift_base n p))
lift-point n b p lim h ob li = record {
  positive = lift_base-positive n p ob;
  low = λ i lt. lows-hold_by_number n p b i lim ob li lt;
  high = λ i lt. highs-hold_by_number n p b i lim ob li lt;
  met = λ id lt. let r = row_at n b id in
      subst (λ (z : ℤ). IsMet r.kind (z +ℤ r.constant *ℤ pos (lift_base n p))) (sym (by_number-dot n r.coefs (lift n p))) (h.each p ob li id lt);
}

-- a proof's number over a plan's denominator is at most the scaled cost
number-le-cost : (n : Net) (b : Box) (proof : Proof) (p : Plan) → IsLimited n → IsInOrder n b proof → RowsHold n b → Obeys n p → LiesIn n p b
    → (number n b proof *ℤ pos p.base) ≤ℤ (pos proof.scale *ℤ cost_of n p)
number-le-cost n b proof p lim o h ob li =
    let all = pos (product_below (factor n p) n.pools) in
    let multiplied : (number n b proof *ℤ (pos p.base *ℤ all)) ≤ℤ (pos proof.scale *ℤ (all *ℤ cost_of n p)) =
    rw (← point-cost n p lim) (total-le-cost (program n b) (rows n) (pos proof.scale) proof.parts (by_number n (lift n p)) (pos (lift_base n p)) (lift-point n b p lim h ob li) o.known o.signed) in
    le-cancel all (number n b proof *ℤ pos p.base) (pos proof.scale *ℤ cost_of n p)
    (omega (arith, additive, positive-product_below (factor n p) n.pools (λ l. omega arith)))
    (omega (arith, additive, multiplied, left all (number n b proof) (pos p.base), right all (pos proof.scale) (cost_of n p)))
  where
    left : (a z b : ℤ) → a *ℤ (z *ℤ b) ≡ z *ℤ (b *ℤ a)
    left a z b = simp sorted refl

    right : (a s c : ℤ) → a *ℤ (s *ℤ c) ≡ s *ℤ (a *ℤ c)
    right a s c = simp sorted refl

-- with a scale, the number over it bounds the cost
bound-holds : (n : Net) (b : Box) (proof : Proof) → IsLimited n → IsInOrder n b proof → RowsHold n b → proof.scale ≢ 0
    → HoldsIn n b (bound (int_div_euclid (number n b proof) (pos proof.scale)))
bound-holds n b proof lim o h d p ob li =
    let z = int_div_euclid (number n b proof) (pos proof.scale) in
    let some : 0 < proof.scale = omega arith in
    le-cancel (pos proof.scale) (z *ℤ pos p.base) (cost_of n p) (omega (arith, additive))
    (omega (
      arith,
      additive,
      number-le-cost n b proof p lim o h ob li,
      le-mul_pos p.base (z *ℤ pos proof.scale) (number n b proof) (floor-le (number n b proof) proof.scale some),
      turned (pos proof.scale) z (pos p.base),
    ))
  where
    turned : (s z b : ℤ) → s *ℤ (z *ℤ b) ≡ (z *ℤ s) *ℤ b
    turned s z b = simp sorted refl

-- with scale 0, a number above 0 shows that no plan lies there
no_plan-holds : (n : Net) (b : Box) (proof : Proof) → IsLimited n → IsInOrder n b proof → RowsHold n b → proof.scale ≡ 0
    → HoldsIn n b no_plan
no_plan-holds n b proof lim o h z p ob li =
    omega (
      arith,
      additive,
      number-le-cost n b proof p lim o h ob li,
      pos-mul (number n b proof) (pos p.base) (o.shows z) (let base = ob.denominator in omega (arith, additive)),
      ap (λ s. pos s *ℤ cost_of n p) z,
      zero-*ℤ (cost_of n p),
    )

pub shown-holds : (n : Net) (b : Box) (proof : Proof) → IsLimited n → IsInOrder n b proof → RowsHold n b → HoldsIn n b (shown_by n b proof)
shown-holds n b proof lim o h =
    let floor = bound (int_div_euclid (number n b proof) (pos proof.scale)) in
    elim (same_or_other proof.scale 0) [
      | inl z ↦ subst (λ (s : Shown). HoldsIn n b s) (sym (chosen proof.scale 0 no_plan floor z)) (no_plan-holds n b proof lim o h z)
      | inr d ↦ subst (λ (s : Shown). HoldsIn n b s) (sym (passed proof.scale 0 no_plan floor d)) (bound-holds n b proof lim o h d)
    ]

-- each row of the catalogue does hold
pub rows-hold : (n : Net) (b : Box) → IsLimited n → RowsHold n b
rows-hold n b lim = record { each = λ p ob li id lt. row_at-holds n b p id lim ob li lt }

pub proof-holds : (n : Net) (b : Box) (proof : Proof) → IsLimited n → IsInOrder n b proof → HoldsIn n b (shown_by n b proof)
proof-holds n b proof lim o = shown-holds n b proof lim o (rows-hold n b lim)
