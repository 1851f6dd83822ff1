use Rattle.std.proofs.Common.{rules, arith}
use Rattle.std.proofs.lemmas.Grind.{common_steps}
use Rattle.branching.specs.Known.{IsNarrower}
use Rattle.branching.proofs.Greatest.{with_greater, with_other}
use Rattle.branching.proofs.Narrower.{narrower_is}
use Rattle.branching.proofs.known.widest.Goals as goal
use Rattle.branching.proofs.known.widest.Goals.{then-is_open+then-is_narrower, else-is_open, else-is_open-via-then-is_open+else-is_narrower, else-is_open-via-else-is_open}

pub loop-place-preserved : goal.loop-place-preserved
loop-place-preserved c = elim c.if-is_open.branch [
  | then-is_open+then-is_narrower w ↦ rw w.best-is (with_greater IsNarrower _ _ _ (narrower_is _ (search rules)) c.loop-place.invariant (search rules) (search rules))
  | else-is_open w ↦ rw w.best-is (with_other IsNarrower _ _ _ c.loop-place.invariant (
      elim w.else-is_open.branch [
        | else-is_open-via-then-is_open+else-is_narrower v ↦ λ here less. grind (arith, common_steps)
        | else-is_open-via-else-is_open v ↦ λ here less. grind (arith, common_steps)
      ]
      ))
]
