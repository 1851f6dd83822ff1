use Rattle.std.proofs.Common.{ℕ, suc, ◌<◌, ◌-◌, List, length, get_or, arith, ap, subst}
use Rattle.linear_program.specs.declared.multipliers.Part.{Part}
use Rattle.row_book.proofs.AllParts.{never, always, no_part, rising_at, rising_all}
use Rattle.row_book.proofs.ordered.is_rising.Goals as goal

pub returns-then-parts-i : goal.returns-then-parts-i
returns-then-parts-i c =
    never (λ rising. absurd (omega (
      arith,
      c.if-parts-i.true,
      c.as_slice-parts.ensures.len,
      ap (λ xs. (get_or xs c.loop-i.i no_part).row) c.as_slice-parts.ensures.value,
      ap (λ xs. (get_or xs (c.loop-i.i - 1) no_part).row) c.as_slice-parts.ensures.value,
      rising_at c.args.proof.now.parts.items (c.loop-i.i - 1) c.loop-i.i (omega arith) (omega (arith, ap length c.as_slice-parts.ensures.value)) rising,
    )))

pub returns : goal.returns
returns c =
    let rises_in : List Part → Type 0 = λ xs. (k : ℕ) → suc k < length xs → (get_or xs k no_part).row < (get_or xs (suc k) no_part).row in
    always (rising_all c.args.proof.now.parts.items (subst rises_in c.as_slice-parts.ensures.value (λ k h. c.loop-i.invariant k (omega arith))))
