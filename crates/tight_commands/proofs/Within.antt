-- How many parts and values marks carry that hold.
use Rattle.std.proofs.Common.{◌≡◌, ℕ, ◌+◌, ◌<◌, ◌≤◌, inl, inr, List, length, get_or, All, ℤ, pos, lit<, arith}
use Rattle.std.proofs.lemmas.Bool.{cases_lt}
use Rattle.std.proofs.lemmas.List.Elements.{All-weaker}
use Rattle.pool_model.specs.Network.{Net}
use Rattle.row_model.specs.Boxes.{Box}
use Rattle.row_model.specs.Catalogue.{rows}
use Rattle.row_model.specs.Multipliers.{Part, Proof, IsRising}
use Rattle.row_model.specs.Trees.{Tree, box_of}
use Rattle.row_model.specs.Variables.{variables}
use Rattle.box_space.specs.Views.{shown_proof}
use Rattle.box_space.specs.declared.coordinates.Form.{Form}
use Rattle.row_book.proofs.Rising.{no_more}
use Rattle.row_book.specs.Faults.{IsFirstFault}
use Rattle.row_book.specs.declared.fault.ProofFault.TheVariants as faults
use Rattle.leaf_marks.specs.Marks.{IsMark, IsReason}
use Rattle.leaf_marks.specs.declared.mark.Mark.{Mark}
use Rattle.leaf_marks.specs.declared.mark.Mark.TheVariants.{Tight, Raised, Empty, Loose}
use Rattle.leaf_marks.specs.declared.mark.Reason.{Reason}
use Rattle.leaf_marks.specs.declared.mark.Reason.TheVariants.{Pivots, Wide, Coarse, HeavyProof, HeavyPoint}
use Rattle.relaxation_points.specs.Views.{HasShape}
use Rattle.relaxation_points.specs.declared.point.RelaxPoint.{RelaxPoint}
use Rattle.tight_texts.specs.Texts as texts
use Rattle.tight_texts.specs.Views.{shown_mark, shown_reason, shown_values}
use Rattle.tight_texts.specs.declared.marks.LeafMark.{LeafMark}
use Rattle.tight_checks.specs.Holding.{LineHolds}
use Rattle.tight_commands.specs.Ranges.{HasParts, HasValues, IsReasonWithin, IsWithin}

abbrev no_part : Part
no_part = record { row = 0; mult = pos 0 }

module _ (n : Net) where
  rising-within : (p : Proof) → IsRising p.parts → All (λ q. q.row < rows n) p.parts → HasParts (rows n) p
  rising-within p rising known = no_more (λ i. (get_or p.parts i no_part).row) (length p.parts) (rows n) rising (λ i below. known i no_part below)

  -- a proof that is too wide has no fault before that
  wide-within : (b : Box) (p : Proof) → IsFirstFault n b p faults.Wide → HasParts (rows n) p
  wide-within b p h = elim (cases_lt (rows n) (length p.parts)) [
    | inl more ↦ absurd (h.first faults.Order (inl (lit< tt)) (λ rising. h.first faults.UnknownRow (inl (lit< tt)) (λ known. let most = rising-within p rising known in omega (arith, most, more))))
    | inr most ↦ most
  ]

  shape-within : (q : RelaxPoint) → HasShape n q → HasValues (variables n) (shown_values q)
  shape-within q h = omega (arith, h.values)

  reason-within : (form : Form) (b : Box) (pivots : ℕ) (reason : Reason) → IsReason n form b pivots reason → IsReasonWithin (rows n) (variables n) (shown_reason reason)
  reason-within form b pivots (Pivots count) h = tt
  reason-within form b pivots (Wide w) h = tt
  reason-within form b pivots (Coarse times f) h = tt
  reason-within form b pivots (HeavyProof proof) h = wide-within b (shown_proof proof) h
  reason-within form b pivots (HeavyPoint q) h = shape-within q h.shape

  mark-within : (form : Form) (b : Box) (low : ℤ) (pivots : ℕ) (mark : Mark) → IsMark n form b low pivots mark → IsWithin (rows n) (variables n) (shown_mark mark)
  mark-within form b low pivots (Tight q) h = shape-within q h.shape
  mark-within form b low pivots (Raised proof q) h = (rising-within (shown_proof proof) h.point.ordered.rising h.point.ordered.known, shape-within q h.shape)
  mark-within form b low pivots (Empty proof) h = rising-within (shown_proof proof) h.ordered.rising h.ordered.known
  mark-within form b low pivots (Loose reason) h = reason-within form b pivots reason h

  -- marks that hold have no more parts than the network has rows, and as many values as it has variables
  pub lines-within : (tree : Tree) (form : Form) (pivots : ℕ) (lines : List LeafMark) → All (LineHolds n tree form pivots) lines
      → All (λ line. IsWithin (rows n) (variables n) (shown_mark line.mark)) lines
  lines-within tree form pivots lines h = All-weaker (LineHolds n tree form pivots) (λ line. IsWithin (rows n) (variables n) (shown_mark line.mark))
      (λ line is. mark-within form (box_of n tree.splits line.node) is.low pivots line.mark is.mark) lines h

-- ---- more than so many

reason-more : (r v s w : ℕ) (reason : texts.Reason) → r ≤ s → v ≤ w → IsReasonWithin r v reason → IsReasonWithin s w reason
reason-more r v s w (texts.unended n) g h is = tt
reason-more r v s w (texts.wide x) g h is = tt
reason-more r v s w (texts.coarse n x) g h is = tt
reason-more r v s w (texts.heavy_proof p) g h is = omega arith
reason-more r v s w (texts.heavy_point q) g h is = omega arith

within-more : (r v s w : ℕ) (mark : texts.Mark) → r ≤ s → v ≤ w → IsWithin r v mark → IsWithin s w mark
within-more r v s w (texts.tight q) g h is = omega arith
within-more r v s w (texts.raised p q) g h is = (omega (arith, is.0), omega (arith, is.1))
within-more r v s w (texts.empty p) g h is = omega arith
within-more r v s w (texts.loose reason) g h is = reason-more r v s w reason g h is

pub lines-more : (r v s w : ℕ) (lines : List LeafMark) → r ≤ s → v ≤ w → All (λ line. IsWithin r v (shown_mark line.mark)) lines → All (λ line. IsWithin s w (shown_mark line.mark)) lines
lines-more r v s w lines g h all =
    All-weaker (λ line. IsWithin r v (shown_mark line.mark)) (λ line. IsWithin s w (shown_mark line.mark)) (λ line is. within-more r v s w (shown_mark line.mark) g h is) lines all
