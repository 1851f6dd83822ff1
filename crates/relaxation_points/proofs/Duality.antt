-- Weak duality against one point: what multipliers on rows that it meets can show at most. The sums are those by which
-- `row_model` shows the same of every plan; here the rows are those that the multipliers name, and the point is any.
use Rattle.std.proofs.Common.{◌≡◌, ◌≢◌, ℕ, ◌<◌, List, [], ◌∷◌, All, ℤ, pos, neg_ℤ, ◌+ℤ◌, ◌-ℤ◌, ◌*ℤ◌, ◌≤ℤ◌, ◌<ℤ◌, arith, refl, sym, ap, ◌∙◌}
use Rattle.std.specs.Int.{int_min, int_div_euclid}
use Rattle.std.proofs.Math.IntN.{zero-*ℤ, +ℤ_idr}
use Rattle.std.proofs.lemmas.List.Elements.{All-head, All-tail}
use Rattle.integers.specs.Sums.{int_sum_by, int_sum_below}
use Rattle.integers.proofs.Ring.{additive, linear, sorted, add-mul, mul_assoc_ℤ, neg-mul}
use Rattle.integers.proofs.Order.{nonneg-mul, pos-mul, le-cancel, lt-cancel, min-le-mul_over, floor-le, le-mul_pos}
use Rattle.integers.proofs.ByIndex.{int_sum_below-add, int_sum_below-mul, int_sum_below-mul_right, int_sum_below-same, int_sum_below-le}
use Rattle.integers.proofs.AtKey.{passed}
use Rattle.pool_model.specs.Network.{Net}
use Rattle.row_model.specs.Boxes.{Box}
use Rattle.row_model.specs.Variables.{variables, by_number, costs, lows, highs}
use Rattle.row_model.specs.Catalogue.{Kind, at_least, equal, row_at}
use Rattle.row_model.specs.Lift.{IsMet}
use Rattle.row_model.specs.Multipliers.{Part, Proof, coef, rest, number, IsSigned, IsInOrder, bound, no_plan, shown_by}
use Rattle.box_space.specs.declared.coordinates.Form.{Form}
use Rattle.row_book.specs.PartRows.{kind_at, coef_at, constant_at}
use Rattle.relaxation_points.specs.Points.{Point, IsRowOf, NamesRowsOf, cost_value, Meets, IsWitness}

-- a row's value at the values v over d, times d
abbrev at_values : Net → Box → (ℕ → ℤ) → ℤ → ℕ → ℤ
at_values n b v d id = int_sum_below (λ i. coef n b id i *ℤ v i) (variables n) +ℤ (row_at n b id).constant *ℤ d

-- the row of a multiplier is met
abbrev IsPartMet : Net → Box → (ℕ → ℤ) → ℤ → Part → Type 0
IsPartMet n b v d q = IsMet (row_at n b q.row).kind (at_values n b v d q.row)

split-rest : (c m k r v : ℤ) → (c -ℤ (m *ℤ k +ℤ r)) *ℤ v ≡ (c -ℤ r) *ℤ v +ℤ neg_ℤ m *ℤ (k *ℤ v)
split-rest c m k r v = simp sorted (omega (arith, additive))

abbrev rest_by : Net → Box → ℤ → List Part → ℕ → ℤ
rest_by n b scale parts i = scale *ℤ by_number n (costs n) i -ℤ int_sum_by (λ q. q.mult *ℤ coef n b q.row i) parts

-- what is left over, at the values: the scaled cost less the multiplied rows
rests-sum : (n : Net) (b : Box) (scale : ℤ) (parts : List Part) (v : ℕ → ℤ)
    → int_sum_below (λ i. rest_by n b scale parts i *ℤ v i) (variables n)
    ≡ scale *ℤ int_sum_below (λ i. by_number n (costs n) i *ℤ v i) (variables n) -ℤ int_sum_by (λ q. q.mult *ℤ int_sum_below (λ i. coef n b q.row i *ℤ v i) (variables n)) parts
rests-sum n b scale [] v =
    int_sum_below-same (λ i. rest_by n b scale [] i *ℤ v i) (λ i. scale *ℤ (by_number n (costs n) i *ℤ v i)) (variables n) (λ i lt. rw (+ℤ_idr, mul_assoc_ℤ) refl)
    ∙ omega (arith, additive, int_sum_below-mul scale (λ i. by_number n (costs n) i *ℤ v i) (variables n))
rests-sum n b scale (q ∷ parts) v =
    let here = λ (i : ℕ). coef n b q.row i *ℤ v i in
    let old = λ (i : ℕ). rest_by n b scale parts i *ℤ v i in
    int_sum_below-same (λ i. rest_by n b scale (q ∷ parts) i *ℤ v i) (λ i. old i +ℤ neg_ℤ q.mult *ℤ here i) (variables n)
    (λ i lt. split-rest (scale *ℤ by_number n (costs n) i) q.mult (coef n b q.row i) (int_sum_by (λ q. q.mult *ℤ coef n b q.row i) parts) (v i))
    ∙ omega (
      arith,
      additive,
      int_sum_below-add old (λ i. neg_ℤ q.mult *ℤ here i) (variables n),
      int_sum_below-mul (neg_ℤ q.mult) here (variables n),
      neg-mul q.mult (int_sum_below (λ i. coef n b q.row i *ℤ v i) (variables n)),
      rests-sum n b scale parts v,
    )

-- a multiplier of the right sign on a row that is met adds nothing below 0
part-met : (k : Kind) (m z : ℤ) → IsSigned k m → IsMet k z → pos 0 ≤ℤ (m *ℤ z)
part-met at_least m z s h = nonneg-mul m z s h
part-met equal m z s h = rw h (omega (arith, linear))

parts-met : (n : Net) (b : Box) (parts : List Part) (v : ℕ → ℤ) (d : ℤ)
    → All (IsPartMet n b v d) parts → All (λ q. IsSigned (row_at n b q.row).kind q.mult) parts
    → pos 0 ≤ℤ (int_sum_by (λ q. q.mult *ℤ int_sum_below (λ i. coef n b q.row i *ℤ v i) (variables n)) parts +ℤ int_sum_by (λ q. q.mult *ℤ (row_at n b q.row).constant) parts *ℤ d)
parts-met n b [] v d met signed = omega (arith, additive, zero-*ℤ d)
parts-met n b (q ∷ parts) v d met signed =
    let r = row_at n b q.row in
    let dots = int_sum_by (λ q. q.mult *ℤ int_sum_below (λ i. coef n b q.row i *ℤ v i) (variables n)) parts in
    let constants = int_sum_by (λ q. q.mult *ℤ (row_at n b q.row).constant) parts in
    rw (joined q.mult (int_sum_below (λ i. coef n b q.row i *ℤ v i) (variables n)) r.constant d dots constants) (omega (
      arith,
      additive,
      part-met r.kind q.mult (at_values n b v d q.row) (All-head (λ q. IsSigned (row_at n b q.row).kind q.mult) q parts signed) (All-head (IsPartMet n b v d) q parts met),
      parts-met n b parts v d (All-tail (IsPartMet n b v d) q parts met) (All-tail (λ q. IsSigned (row_at n b q.row).kind q.mult) q parts signed),
    ))
  where
    joined : (m t b d ts bs : ℤ) → m *ℤ t +ℤ ts +ℤ (m *ℤ b +ℤ bs) *ℤ d ≡ m *ℤ (t +ℤ b *ℤ d) +ℤ (ts +ℤ bs *ℤ d)
    joined m t b d ts bs = simp sorted (omega (arith, additive))

-- the values lie between the ends of their variables
record AreBetween (n : Net) (b : Box) (v : ℕ → ℤ) (d : ℕ) : Type 0 where
  low : (i : ℕ) → i < variables n → (by_number n (lows n b) i *ℤ pos d) ≤ℤ v i
  high : (i : ℕ) → i < variables n → v i ≤ℤ (by_number n (highs n b) i *ℤ pos d)

-- the number bounds the scaled cost at the values
number-le : (n : Net) (b : Box) (proof : Proof) (v : ℕ → ℤ) (d : ℕ) → AreBetween n b v d
    → All (IsPartMet n b v (pos d)) proof.parts → All (λ q. IsSigned (row_at n b q.row).kind q.mult) proof.parts
    → (number n b proof *ℤ pos d) ≤ℤ (pos proof.scale *ℤ int_sum_below (λ i. by_number n (costs n) i *ℤ v i) (variables n))
number-le n b proof v d h met signed =
    let least = λ (i : ℕ). int_min (rest n b proof i *ℤ by_number n (lows n b) i) (rest n b proof i *ℤ by_number n (highs n b) i) in
    let leasts = int_sum_below least (variables n) in
    let constants = int_sum_by (λ q. q.mult *ℤ (row_at n b q.row).constant) proof.parts in
    rw (add-mul leasts (neg_ℤ constants) (pos d), neg-mul constants (pos d)) (omega (
      arith,
      additive,
      parts-met n b proof.parts v (pos d) met signed,
      rests-sum n b (pos proof.scale) proof.parts v,
      int_sum_below-mul_right least (pos d) (variables n),
      int_sum_below-le (λ i. least i *ℤ pos d) (λ i. rest n b proof i *ℤ v i) (variables n)
          (λ i lt. min-le-mul_over (pos d) (rest n b proof i) (by_number n (lows n b) i) (v i) (by_number n (highs n b) i) (omega (arith, additive)) (h.low i lt) (h.high i lt)),
    ))

-- ---- the same of a point that meets the box and a form

between : (n : Net) (form : Form) (b : Box) (p : Point) → Meets n form b p → AreBetween n b p.value p.base
between n form b p m = record { low = λ i lt. (m.ends i lt).low; high = λ i lt. (m.ends i lt).high }

-- a row of the form is met, in the words of the catalogue
row-met : (n : Net) (form : Form) (b : Box) (p : Point) → Meets n form b p → (id : ℕ) → IsRowOf n form id → IsMet (row_at n b id).kind (at_values n b p.value (pos p.base) id)
unfolding kind_at coef_at constant_at
row-met n form b p m id is = m.rows id is

named-met : (n : Net) (form : Form) (b : Box) (p : Point) → Meets n form b p → (parts : List Part) → All (λ q. IsRowOf n form q.row) parts → All (IsPartMet n b p.value (pos p.base)) parts
named-met n form b p m parts named i d lt = row-met n form b p m _ (named i d lt)

number-cost : (n : Net) (form : Form) (b : Box) (p : Point) (proof : Proof) → Meets n form b p → IsInOrder n b proof → NamesRowsOf n form proof
    → (number n b proof *ℤ pos p.base) ≤ℤ (pos proof.scale *ℤ cost_value n p)
number-cost n form b p proof m o named = number-le n b proof p.value p.base (between n form b p m) (named-met n form b p m proof.parts named) o.signed

pub scale-positive : (n : Net) (form : Form) (b : Box) (p : Point) (proof : Proof) → Meets n form b p → IsInOrder n b proof → NamesRowsOf n form proof → proof.scale ≢ 0
scale-positive n form b p proof m o named z =
    let base = m.base in
    absurd (omega (
      arith,
      additive,
      number-cost n form b p proof m o named,
      pos-mul (number n b proof) (pos p.base) (o.shows z) (omega (arith, additive)),
      ap (λ s. pos s *ℤ cost_value n p) z,
      zero-*ℤ (cost_value n p),
    ))

-- what is shown is the number over the scale
shown-floor : (n : Net) (b : Box) (proof : Proof) (z : ℤ) → proof.scale ≢ 0 → shown_by n b proof ≡ bound z → z ≡ int_div_euclid (number n b proof) (pos proof.scale)
shown-floor n b proof z d e = same_bound z (int_div_euclid (number n b proof) (pos proof.scale))
    (sym e ∙ passed proof.scale 0 no_plan (bound (int_div_euclid (number n b proof) (pos proof.scale))) d)
  where
    same_bound : (x y : ℤ) → bound x ≡ bound y → x ≡ y
    same_bound x y e = cc

pub bound-cost : (n : Net) (form : Form) (b : Box) (p : Point) (proof : Proof) (z : ℤ) → Meets n form b p → IsInOrder n b proof → NamesRowsOf n form proof
    → shown_by n b proof ≡ bound z → (z *ℤ pos p.base) ≤ℤ cost_value n p
bound-cost n form b p proof z m o named e =
    let d = scale-positive n form b p proof m o named in
    let some : 0 < proof.scale = omega arith in
    let floor = int_div_euclid (number n b proof) (pos proof.scale) in
    rw (shown-floor n b proof z d e) (le-cancel (pos proof.scale) (floor *ℤ pos p.base) (cost_value n p) (omega (arith, additive))
    (omega (
      arith,
      additive,
      number-cost n form b p proof m o named,
      le-mul_pos p.base (floor *ℤ pos proof.scale) (number n b proof) (floor-le (number n b proof) proof.scale some),
      turned (pos proof.scale) floor (pos p.base),
    )))
  where
    turned : (s z b : ℤ) → s *ℤ (z *ℤ b) ≡ (z *ℤ s) *ℤ b
    turned s z b = simp sorted refl

-- ---- a witness

pub witness-some : (n : Net) (form : Form) (b : Box) (low : ℤ) (p : Point) (proof : Proof) → IsWitness n form b low p → IsInOrder n b proof → NamesRowsOf n form proof → shown_by n b proof ≢ no_plan
witness-some n form b low p proof w o named e =
    let d = scale-positive n form b p proof w.meets o named in
    other (int_div_euclid (number n b proof) (pos proof.scale)) (sym (passed proof.scale 0 no_plan (bound (int_div_euclid (number n b proof) (pos proof.scale))) d) ∙ e)
  where
    other : (x : ℤ) → bound x ≢ no_plan
    other x e = cc

pub witness-best : (n : Net) (form : Form) (b : Box) (low : ℤ) (p : Point) (proof : Proof) (z : ℤ) → IsWitness n form b low p → IsInOrder n b proof → NamesRowsOf n form proof
    → shown_by n b proof ≡ bound z → z ≤ℤ low
witness-best n form b low p proof z w o named e =
    let base = w.meets.base in
    let near = w.near in
    let below : (pos p.base *ℤ z) <ℤ (pos p.base *ℤ (low +ℤ pos 1)) =
    omega (arith, additive, bound-cost n form b p proof z w.meets o named e, swap (pos p.base) z, swap (pos p.base) (low +ℤ pos 1)) in
    let less : z <ℤ (low +ℤ pos 1) = lt-cancel (pos p.base) z (low +ℤ pos 1) (omega (arith, additive)) below in
    omega (arith, additive, less)
  where
    swap : (a b : ℤ) → a *ℤ b ≡ b *ℤ a
    swap a b = simp sorted refl
