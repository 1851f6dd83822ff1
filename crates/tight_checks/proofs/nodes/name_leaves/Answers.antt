use Rattle.std.proofs.Common.{◌≡◌, length, arith, refl}
use Rattle.std.specs.Prelude.{get_or}
use Rattle.std.proofs.lemmas.Bool.{false≢true}
use Rattle.leaf_order.specs.Order.{no_leaf}
use Rattle.tight_checks.proofs.NodesNamed.{name-all, named-at}
use Rattle.tight_checks.proofs.nodes.name_leaves.Goals as goal

pub returns-then-lines-i : goal.returns-then-lines-i
returns-then-lines-i c = (
  λ t. absurd (false≢true t),
  λ named.
      let same : (get_or c.args.lines.now c.loop-i.i c.index-lines-i.result).node ≡ (get_or c.args.leaves.now c.loop-i.i no_leaf).node =
      named-at c.args.lines.now c.args.leaves.now c.loop-i.i c.index-lines-i.result no_leaf named c.loop-i-test.true in
      absurd (omega (arith, same, c.if-lines-i.true)),
)

pub returns : goal.returns
returns c =
    let long : length c.args.lines.now ≡ length c.args.leaves.now = omega (arith, c.if-lines-leaves.false) in (
      λ t. name-all c.args.lines.now c.args.leaves.now long (λ k d e lt. c.loop-i.invariant k d e (omega (arith, lt, c.loop-i-test.false))),
      λ named. refl,
    )
