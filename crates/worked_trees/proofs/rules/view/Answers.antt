use Rattle.std.proofs.Common.{arith}
use Rattle.std.proofs.lemmas.Grind.{common_steps}
use Rattle.branching.proofs.Pushed.{AreRows-push}
use Rattle.worked_trees.proofs.rules.view.Goals as goal

pub loop-width-preserved : goal.loop-width-preserved
loop-width-preserved c = rw c.in_ok-push.ensures.items (record {
  counted = grind (arith, common_steps);
  counts = grind (arith, common_steps);
  are = AreRows-push _ _ c.loop-width.invariant.are c.row.ensures.row (λ i h. rw c.row.ensures.coord (c.loop-width.invariant.below i h));
  below = λ i h. grind (arith, common_steps, c.loop-width.invariant.below i);
})
