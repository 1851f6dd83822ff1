-- Where a mark comes from rests on the ends of the box's coordinates alone.
use Rattle.std.proofs.Common.{◌≡◌, ℕ, ◌<◌, Option, None, Some, ℤ, pos, ◌*ℤ◌, ◌≤ℤ◌, sym, ap, subst, ◌∙◌}
use Rattle.pool_model.specs.Network.{Net, IsLimited}
use Rattle.pool_model.specs.Plan.{Plan, Written, plan_of}
use Rattle.row_model.specs.Boxes.{Box, Agree, LiesIn, coord_at, place, place_base}
use Rattle.row_model.specs.Catalogue.{Kind, Row}
use Rattle.row_model.specs.Variables.{by_number}
use Rattle.row_model.proofs.Agreement.{agree-back, rows-same}
use Rattle.box_space.specs.declared.coordinates.Form.{Form}
use Rattle.row_book.specs.PartRows.{kind_at, coef_at, constant_at}
use Rattle.exact_run.specs.Programs.{Program}
use Rattle.leaf_marks.specs.declared.mark.Mark.{Mark}
use Rattle.tight_checks.proofs.Ends.{low-same, high-same}
use Rattle.tight_leaf.specs.Ends.{ComesOf, IsBoxMark}
use Rattle.tight_leaf.specs.PlanPoints.{Decides}
use Rattle.tight_leaf.specs.Programs.{IsBoxProgram, row_number}

module _ (n : Net) (b c : Box) (limited : IsLimited n) (agree : Agree n b c) where
  kinds-same : (id : ℕ) → kind_at n b id ≡ kind_at n c id
  unfolding kind_at
  kinds-same id = ap (λ (r : ℕ → Row). (r id).kind) (rows-same n b c limited agree)

  coefs-same : (id v : ℕ) → coef_at n b id v ≡ coef_at n c id v
  unfolding coef_at
  coefs-same id v = ap (λ (r : ℕ → Row). by_number n (r id).coefs v) (rows-same n b c limited agree)

  constants-same : (id : ℕ) → constant_at n b id ≡ constant_at n c id
  unfolding constant_at
  constants-same id = ap (λ (r : ℕ → Row). (r id).constant) (rows-same n b c limited agree)

  program-same : (form : Form) (p : Program) → IsBoxProgram n form b p → IsBoxProgram n form c p
  program-same form p h = record {
    variables = h.variables;
    rows = h.rows;
    coef = λ r v lt below. h.coef r v lt below ∙ coefs-same (row_number n form r) v;
    constant = λ r lt. h.constant r lt ∙ constants-same (row_number n form r);
    kind = λ r lt. h.kind r lt ∙ kinds-same (row_number n form r);
    cost = h.cost;
    low = λ v lt. h.low v lt ∙ low-same n b c limited agree v (subst (λ m. v < m) h.variables lt);
    high = λ v lt. h.high v lt ∙ high-same n b c limited agree v (subst (λ m. v < m) h.variables lt);
  }

  box_mark-same : (form : Form) (pivots : ℕ) (mark : Mark) → IsBoxMark n form b pivots mark → IsBoxMark n form c pivots mark
  box_mark-same form pivots mark h = (h.0, program-same form h.0 h.1, h.2)

  lies-same : (p : Plan) → LiesIn n p b → LiesIn n p c
  lies-same p h = record {
    low = λ i lt. subst (λ (z : ℤ). (z *ℤ pos (place_base n p (coord_at n i))) ≤ℤ place n p (coord_at n i)) (agree.low i lt) (h.low i lt);
    high = λ i lt. subst (λ (z : ℤ). place n p (coord_at n i) ≤ℤ (z *ℤ pos (place_base n p (coord_at n i)))) (agree.high i lt) (h.high i lt);
  }

  decides-same : (low : ℤ) (p : Plan) → Decides n b low p → Decides n c low p
  decides-same low p h = record { lies = lies-same p h.lies; near = h.near }

-- where a mark comes from in a box, it comes from in each box that agrees with it
pub comes-same : (n : Net) (b c : Box) → IsLimited n → Agree n b c → (form : Form) (low : ℤ) (plan : Option Written) (pivots : ℕ) (mark : Mark)
    → ComesOf n form b low plan pivots mark → ComesOf n form c low plan pivots mark
comes-same n b c limited agree form low None pivots mark h = box_mark-same n b c limited agree form pivots mark h
comes-same n b c limited agree form low (Some w) pivots mark h = record {
  decided = λ d. h.decided (decides-same n c b limited (agree-back n b c agree) low (plan_of n w) d);
  else_run = λ no. box_mark-same n b c limited agree form pivots mark (h.else_run (λ d. no (decides-same n b c limited agree low (plan_of n w) d)));
}
