-- What a mark says rests on the ends of the box's coordinates alone.
use Rattle.std.proofs.Common.{◌≡◌, ℕ, ◌+◌, ◌*◌, ◌^◌, ◌≤◌, ℤ, pos, ◌+ℤ◌, ◌*ℤ◌, ◌≤ℤ◌, unsigned_abs, sym, ap, subst, ◌∙◌}
use Rattle.integers.specs.Sums.{int_sum_below, sum_below}
use Rattle.pool_model.specs.Network.{Net, IsLimited}
use Rattle.row_model.specs.Boxes.{Box, Agree}
use Rattle.row_model.specs.Catalogue.{Kind, Row}
use Rattle.row_model.specs.Lift.{IsMet}
use Rattle.row_model.specs.Multipliers.{Proof}
use Rattle.row_model.specs.Variables.{variables, by_number}
use Rattle.row_model.proofs.Agreement.{agree-back, rows-same, in_order-same, shown-same}
use Rattle.box_space.specs.Views.{shown_proof}
use Rattle.box_space.specs.declared.coordinates.Form.{Form}
use Rattle.row_book.specs.PartRows.{kind_at, coef_at, constant_at}
use Rattle.row_book.specs.declared.fault.ProofFault.TheVariants as faults
use Rattle.row_book.proofs.AgreedFaults.{fault-same}
use Rattle.relaxation_points.specs.Points.{Point, IsLight, IsWitness, Meets, row_value, row_weight}
use Rattle.leaf_marks.specs.Marks.{IsEmptied, IsMark, IsRaised, IsReason}
use Rattle.leaf_marks.specs.declared.mark.Mark.{Mark}
use Rattle.leaf_marks.specs.declared.mark.Mark.TheVariants.{Tight, Raised, Empty, Loose}
use Rattle.leaf_marks.specs.declared.mark.Reason.{Reason}
use Rattle.leaf_marks.specs.declared.mark.Reason.TheVariants.{Pivots, Wide, Coarse, HeavyProof, HeavyPoint}
use Rattle.tight_checks.proofs.Ends.{low-same, high-same}

module _ (n : Net) (b c : Box) (limited : IsLimited n) (agree : Agree n b c) where
  kinds-same : kind_at n b ≡ kind_at n c
  unfolding kind_at
  kinds-same = let of : (ℕ → Row) → ℕ → Kind = λ r id. (r id).kind in ap of (rows-same n b c limited agree)

  coefs-same : coef_at n b ≡ coef_at n c
  unfolding coef_at
  coefs-same = let of : (ℕ → Row) → ℕ → ℕ → ℤ = λ r id v. by_number n (r id).coefs v in ap of (rows-same n b c limited agree)

  constants-same : constant_at n b ≡ constant_at n c
  unfolding constant_at
  constants-same = let of : (ℕ → Row) → ℕ → ℤ = λ r id. (r id).constant in ap of (rows-same n b c limited agree)

  value-same : (p : Point) (id : ℕ) → row_value n b p id ≡ row_value n c p id
  value-same p id =
      ap (λ (k : ℕ → ℕ → ℤ). int_sum_below (λ v. k id v *ℤ p.value v) (variables n) +ℤ constant_at n b id *ℤ pos p.base) coefs-same
      ∙ ap (λ (k : ℕ → ℤ). int_sum_below (λ v. coef_at n c id v *ℤ p.value v) (variables n) +ℤ k id *ℤ pos p.base) constants-same

  weight-same : (p : Point) (id : ℕ) → row_weight n b p id ≡ row_weight n c p id
  weight-same p id =
      ap (λ (k : ℕ → ℕ → ℤ). sum_below (λ v. unsigned_abs (k id v) * unsigned_abs (p.value v)) (variables n) + unsigned_abs (constant_at n b id) * p.base) coefs-same
      ∙ ap (λ (k : ℕ → ℤ). sum_below (λ v. unsigned_abs (coef_at n c id v) * unsigned_abs (p.value v)) (variables n) + unsigned_abs (k id) * p.base) constants-same

  light-same : (form : Form) (p : Point) → IsLight n form b p → IsLight n form c p
  light-same form p h = record {
    cost = h.cost;
    rows = λ id is. subst (λ (w : ℕ). w ≤ 2 ^ 126) (weight-same p id) (h.rows id is);
  }

  meets-same : (form : Form) (p : Point) → Meets n form b p → Meets n form c p
  meets-same form p h = record {
    base = h.base;
    ends = λ v lt. record {
      low = subst (λ (z : ℤ). (z *ℤ pos p.base) ≤ℤ p.value v) (low-same n b c limited agree v lt) (h.ends v lt).low;
      high = subst (λ (z : ℤ). p.value v ≤ℤ (z *ℤ pos p.base)) (high-same n b c limited agree v lt) (h.ends v lt).high;
    };
    rows = λ id is. subst (λ (k : ℕ → Kind). IsMet (k id) (row_value n c p id)) kinds-same
        (subst (λ (z : ℤ). IsMet (kind_at n b id) z) (value-same p id) (h.rows id is));
  }

  witness-same : (form : Form) (low : ℤ) (p : Point) → IsWitness n form b low p → IsWitness n form c low p
  witness-same form low p h = record { light = light-same form p h.light; meets = meets-same form p h.meets; near = h.near }

  raised-same : (form : Form) (low : ℤ) (proof : Proof) (p : Point) → IsRaised n form b low proof p → IsRaised n form c low proof p
  raised-same form low proof p h = record {
    named = h.named;
    ordered = in_order-same n b c proof limited agree h.ordered;
    shown = h.shown;
    shows = sym (shown-same n b c proof limited agree) ∙ h.shows;
    above = h.above;
    best = witness-same form h.shown p h.best;
  }

  emptied-same : (form : Form) (proof : Proof) → IsEmptied n form b proof → IsEmptied n form c proof
  emptied-same form proof h = record {
    named = h.named;
    ordered = in_order-same n b c proof limited agree h.ordered;
    shows = sym (shown-same n b c proof limited agree) ∙ h.shows;
  }

reason-same : (n : Net) (b c : Box) (limited : IsLimited n) (agree : Agree n b c) (form : Form) (pivots : ℕ) (reason : Reason) → IsReason n form b pivots reason → IsReason n form c pivots reason
reason-same n b c limited agree form pivots (Pivots count) h = h
reason-same n b c limited agree form pivots (Wide w) h = h
reason-same n b c limited agree form pivots (Coarse times f) h = h
reason-same n b c limited agree form pivots (HeavyProof proof) h = fault-same n b c (shown_proof proof) faults.Wide limited agree h
reason-same n b c limited agree form pivots (HeavyPoint q) h = record {
  shape = h.shape;
  point = λ light. h.point (light-same n c b limited (agree-back n b c agree) form _ light);
}

-- a mark holds in each box that agrees with one where it holds
pub mark-same : (n : Net) (b c : Box) → IsLimited n → Agree n b c → (form : Form) (low : ℤ) (pivots : ℕ) (mark : Mark) → IsMark n form b low pivots mark → IsMark n form c low pivots mark
mark-same n b c limited agree form low pivots (Tight q) h = record { shape = h.shape; point = witness-same n b c limited agree form low _ h.point }
mark-same n b c limited agree form low pivots (Raised proof q) h = record { shape = h.shape; point = raised-same n b c limited agree form low (shown_proof proof) _ h.point }
mark-same n b c limited agree form low pivots (Empty proof) h = emptied-same n b c limited agree form (shown_proof proof) h
mark-same n b c limited agree form low pivots (Loose reason) h = reason-same n b c limited agree form pivots reason h
