-- What a test says of a row, of a value and of a point, by what was read.
use Rattle.std.proofs.Common.{◌≡◌, ℕ, ◌<◌, ◌≤◌, ◌^◌, ◌↔◌, Bool, true, false, IsTrue, All, ℤ, pos, ◌*ℤ◌, ◌≤ℤ◌, arith, refl, sym, ap, subst, ◌∙◌}
use Rattle.std.proofs.lemmas.Bool.{false≢true}
use Rattle.pool_model.specs.Network.{Net}
use Rattle.row_model.specs.Boxes.{Box}
use Rattle.row_model.specs.Catalogue.{Kind}
use Rattle.row_model.specs.Lift.{IsMet}
use Rattle.row_model.specs.Variables.{variables, by_number, lows, highs}
use Rattle.box_space.specs.Lines.{Line, terms_from}
use Rattle.box_space.specs.declared.coordinates.Form.{Form}
use Rattle.row_book.specs.PartRows.{kind_at, coef_at, IsRow}
use Rattle.row_book.proofs.Terms.{terms-known}
use Rattle.relaxation_points.specs.Points.{Point, IsRowOf, LiesBetween, IsNear, IsWitness, cost_weight, row_value, row_weight}
use Rattle.relaxation_points.specs.Lines.{line_value, line_weight, HoldsLightly}
use Rattle.relaxation_points.specs.Views.{HasShape, shown_point}
use Rattle.relaxation_points.specs.declared.point.RelaxPoint.{RelaxPoint}
use Rattle.relaxation_points.proofs.Written.{value-written, weight-written}

-- a written row names variables that are there
pub known-in : (n : Net) (b : Box) (id : ℕ) (line : Line) (m : ℕ) → IsRow n b id line → m ≡ variables n → All (λ t. t.var < m) line.terms
known-in n b id line m r e =
    subst (λ ts. All (λ t. t.var < m) ts) (sym r.terms)
    (subst (λ (k : ℕ). All (λ t. t.var < k) (terms_from 0 (coef_at n b id) (variables n))) (sym e) (terms-known (coef_at n b id) (variables n)))

-- a row that weighs little, and its value
pub lightly-by : (n : Net) (b : Box) (p : Point) (id : ℕ) (line : Line) (kind : Kind) (z : ℤ) (t : Bool) → IsRow n b id line → kind ≡ kind_at n b id → z ≡ line_value line p
    → line_weight line p ≤ 2 ^ 126 → (IsTrue t ↔ IsMet kind z) → IsTrue t ↔ HoldsLightly n b p id
lightly-by n b p id line kind z t r kind_is value_is narrow h =
    let value : z ≡ row_value n b p id = value_is ∙ value-written n b id line p r in (
      λ s. record {
        light = omega (arith, narrow, weight-written n b id line p r);
        met = subst (λ (k : Kind). IsMet k (row_value n b p id)) kind_is (subst (λ (y : ℤ). IsMet kind y) value (h.0 s));
      },
      λ l. h.1 (subst (λ (y : ℤ). IsMet kind y) (sym value) (subst (λ (k : Kind). IsMet k (row_value n b p id)) (sym kind_is) l.met)),
    )

pub never-lightly : (n : Net) (b : Box) (p : Point) (id : ℕ) (line : Line) → IsRow n b id line → 2 ^ 126 < line_weight line p → (IsTrue false → HoldsLightly n b p id) × (HoldsLightly n b p id → IsTrue false)
never-lightly n b p id line r wide = (λ t. absurd (false≢true t), λ l. absurd (let light = l.light in omega (arith, light, wide, weight-written n b id line p r)))

pub light-row : (n : Net) (b : Box) (p : Point) (id : ℕ) (line : Line) → IsRow n b id line → line_weight line p ≤ 2 ^ 126 → (IsTrue true → row_weight n b p id ≤ 2 ^ 126) × (row_weight n b p id ≤ 2 ^ 126 → IsTrue true)
light-row n b p id line r narrow = (λ t. omega (arith, narrow, weight-written n b id line p r), λ l. refl)

pub heavy-row : (n : Net) (b : Box) (p : Point) (id : ℕ) (line : Line) → IsRow n b id line → 2 ^ 126 < line_weight line p → (IsTrue false → row_weight n b p id ≤ 2 ^ 126) × (row_weight n b p id ≤ 2 ^ 126 → IsTrue false)
heavy-row n b p id line r wide = (λ t. absurd (false≢true t), λ l. absurd (omega (arith, l, wide, weight-written n b id line p r)))

-- a value between ends that were read
pub between-by : (n : Net) (b : Box) (p : Point) (v : ℕ) (low high value base : ℤ) (t : Bool) → low ≡ by_number n (lows n b) v → high ≡ by_number n (highs n b) v → value ≡ p.value v → base ≡ pos p.base
    → (IsTrue t ↔ (((low *ℤ base) ≤ℤ value) × (value ≤ℤ (high *ℤ base)))) → IsTrue t ↔ LiesBetween n b p v
between-by n b p v low high value base t low_is high_is value_is base_is h =
    let left : low *ℤ base ≡ by_number n (lows n b) v *ℤ pos p.base = ap (λ z. z *ℤ base) low_is ∙ ap (λ z. by_number n (lows n b) v *ℤ z) base_is in
    let right : high *ℤ base ≡ by_number n (highs n b) v *ℤ pos p.base = ap (λ z. z *ℤ base) high_is ∙ ap (λ z. by_number n (highs n b) v *ℤ z) base_is in (
      λ s. record {
        low = subst (λ (z : ℤ). z ≤ℤ p.value v) left (subst (λ (z : ℤ). (low *ℤ base) ≤ℤ z) value_is (h.0 s).0);
        high = subst (λ (z : ℤ). p.value v ≤ℤ z) right (subst (λ (z : ℤ). z ≤ℤ (high *ℤ base)) value_is (h.0 s).1);
      },
      λ l. h.1 (
        subst (λ (z : ℤ). (low *ℤ base) ≤ℤ z) (sym value_is) (subst (λ (z : ℤ). z ≤ℤ p.value v) (sym left) l.low),
        subst (λ (z : ℤ). z ≤ℤ (high *ℤ base)) (sym value_is) (subst (λ (z : ℤ). p.value v ≤ℤ z) (sym right) l.high),
      ),
    )

-- all tests together
pub witness-by : (n : Net) (form : Form) (b : Box) (bound : ℤ) (q : RelaxPoint) (t : Bool) → HasShape n q → ((v : ℕ) → v < variables n → LiesBetween n b (shown_point q) v)
    → (cost_weight n (shown_point q) ≤ 2 ^ 126) × IsNear n bound (shown_point q) → (IsTrue t ↔ ((id : ℕ) → IsRowOf n form id → HoldsLightly n b (shown_point q) id))
    → IsTrue t ↔ (HasShape n q × IsWitness n form b bound (shown_point q))
witness-by n form b bound q t shape between near h = (
  λ s. (
    shape,
    record {
      light = record { cost = near.0; rows = λ id is. (h.0 s id is).light };
      meets = record { base = shape.base; ends = between; rows = λ id is. (h.0 s id is).met };
      near = near.1;
    },
  ),
  λ w. h.1 (λ id is. record { light = w.1.light.rows id is; met = w.1.meets.rows id is }),
)
