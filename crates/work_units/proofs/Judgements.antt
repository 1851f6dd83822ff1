-- An answer is judged in one way.
use Rattle.std.proofs.Common.{◌≡◌, ◌∷◌, List, ℕ, true, false, arith, refl, ap}
use Rattle.faults.proofs.First.{one-rank}
use Rattle.pool_model.specs.Network.{Net}
use Rattle.box_tree.specs.EntryFaults as entries
use Rattle.box_tree.proofs.Refusals.{refused}
use Rattle.work_units.specs.Units.{Answer}
use Rattle.work_units.specs.Desks.{Desk, is_answered}
use Rattle.work_units.specs.Judging.{IsJudged, rank}
use Rattle.work_units.specs.declared.answer.Judged.{Judged}
use Rattle.work_units.specs.declared.answer.Judged.TheVariants.{Stranger, Repeated, Wrong, Refused, Fits}

one-open : (d : Desk) (k : ℕ) → is_answered d k ≡ true → is_answered d k ≡ false → ⊥
one-open d k h e = cc

pub one-judgement : (n : Net) (d : Desk) (a : Answer) (j k : Judged) → IsJudged n d a j → IsJudged n d a k → rank j ≡ rank k
one-judgement n d a Stranger Stranger h k = refl
one-judgement n d a Stranger Repeated h k = absurd (omega (arith, h, k.0))
one-judgement n d a Stranger Wrong h k = absurd (omega (arith, h, k.0.known))
one-judgement n d a Stranger (Refused g) h k = absurd (omega (arith, h, k.0.waiting.known))
one-judgement n d a Stranger Fits h k = absurd (omega (arith, h, k.0.waiting.known))
one-judgement n d a Repeated Stranger h k = absurd (omega (arith, k, h.0))
one-judgement n d a Repeated Repeated h k = refl
one-judgement n d a Repeated Wrong h k = absurd (one-open d a.number h.1 k.0.unanswered)
one-judgement n d a Repeated (Refused g) h k = absurd (one-open d a.number h.1 k.0.waiting.unanswered)
one-judgement n d a Repeated Fits h k = absurd (one-open d a.number h.1 k.0.waiting.unanswered)
one-judgement n d a Wrong Stranger h k = absurd (omega (arith, k, h.0.known))
one-judgement n d a Wrong Repeated h k = absurd (one-open d a.number k.1 h.0.unanswered)
one-judgement n d a Wrong Wrong h k = refl
one-judgement n d a Wrong (Refused g) h k = absurd (h.1 k.0.splits)
one-judgement n d a Wrong Fits h k = absurd (h.1 k.0.splits)
one-judgement n d a (Refused f) Stranger h k = absurd (omega (arith, k, h.0.waiting.known))
one-judgement n d a (Refused f) Repeated h k = absurd (one-open d a.number k.1 h.0.waiting.unanswered)
one-judgement n d a (Refused f) Wrong h k = absurd (k.1 h.0.splits)
one-judgement n d a (Refused f) (Refused g) h k = ap (λ (r : List ℕ). 4 ∷ r) (one-rank entries.rank (entries.Holds n d.searched a.entry) f g h.1 k.1)
one-judgement n d a (Refused f) Fits h k = absurd (refused n d.searched a.entry f h.1 k.1)
one-judgement n d a Fits Stranger h k = absurd (omega (arith, k, h.0.waiting.known))
one-judgement n d a Fits Repeated h k = absurd (one-open d a.number k.1 h.0.waiting.unanswered)
one-judgement n d a Fits Wrong h k = absurd (k.1 h.0.splits)
one-judgement n d a Fits (Refused g) h k = absurd (refused n d.searched a.entry g k.1 h.1)
one-judgement n d a Fits Fits h k = refl
