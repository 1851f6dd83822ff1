use Rattle.std.proofs.Common.{◌≡◌, ◌≢◌, rules}
use Rattle.leaf_order.proofs.Sets.{same-replaced, other-replaced}
use Rattle.leaf_order.proofs.order.LeafOrder.replace.Goals as goal

pub returns-then-eq-clause-replaced : goal.returns-then-eq-clause-replaced
returns-then-eq-clause-replaced c =
    let same : c.args.old ≡ c.args.new = search rules in
    same-replaced c.args.old c.args.new c.args.self.now c.put.new.self same c.in_ok-put.ensures.put

pub returns-clause-replaced : goal.returns-clause-replaced
returns-clause-replaced c =
    let apart : c.args.old ≢ c.args.new = search rules in
    other-replaced c.args.old c.args.new c.args.self.now c.put.new.self c.take_out.new.self apart c.in_ok-put.ensures.put c.take_out.ensures
