use Rattle.std.proofs.Common.{◌<◌, length, get_or, arith, ap}
use Rattle.row_book.proofs.AllParts.{never, always, no_part, at_part, all_parts}
use Rattle.row_book.proofs.ordered.are_rows.Goals as goal

pub returns-then-part-count : goal.returns-then-part-count
returns-then-part-count c =
    never (λ all. absurd (omega (
      arith,
      at_part (λ q. q.row < c.args.count) c.args.proof.now.parts.items c.loop-part.part-index (omega (arith, ap length c.deref-part-items.ensures.value)) all,
      ap (λ xs. (get_or xs c.loop-part.part-index no_part).row) c.deref-part-items.ensures.value,
      c.if-part-count.true,
    )))

pub returns : goal.returns
returns c = always (all_parts (λ q. q.row < c.args.count) c.args.proof.now.parts.items (λ k h. c.loop-part.invariant k (omega (arith, ap length c.deref-part-items.ensures.value))))
