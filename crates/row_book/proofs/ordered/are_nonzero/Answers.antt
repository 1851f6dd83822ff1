use Rattle.std.proofs.Common.{◌≢◌, pos, length, get_or, arith, ap, rules, sym, ◌∙◌, FitsSigned, to_z}
use Rattle.std.proofs.lemmas.Int.{to_z-of_z}
use mir.Syntax.{w64}
use Rattle.linear_program.specs.declared.multipliers.Part.{Part}
use Rattle.row_book.proofs.AllParts.{never, always, no_part, at_part, all_parts}
use Rattle.row_book.proofs.ordered.are_nonzero.Goals as goal

pub returns-then-part-eq0 : goal.returns-then-part-eq0
returns-then-part-eq0 c =
    let t : Part = get_or c.deref-part-items.result.now c.loop-part.part-index no_part in
    let mult : FitsSigned w64 t.mult = search rules in
    never (λ all. at_part (λ q. q.mult ≢ pos 0) c.args.proof.now.parts.items c.loop-part.part-index (omega (arith, ap length c.deref-part-items.ensures.value)) all
    (ap (λ xs. (get_or xs c.loop-part.part-index no_part).mult) (sym c.deref-part-items.ensures.value) ∙ sym (to_z-of_z w64 t.mult mult) ∙ ap (to_z w64) c.if-part-eq0.true))

pub returns : goal.returns
returns c = always (all_parts (λ q. q.mult ≢ pos 0) c.args.proof.now.parts.items (λ k h. c.loop-part.invariant k (omega (arith, ap length c.deref-part-items.ensures.value))))
