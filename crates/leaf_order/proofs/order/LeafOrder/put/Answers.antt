use Rattle.std.proofs.Common.{◌≡◌, sym, subst, rules}
use Rattle.leaf_order.specs.Order.{IsNew, IsPut}
use Rattle.leaf_order.proofs.Sets.{ok-known, err-known, put-back, both-put}
use Rattle.leaf_order.proofs.order.LeafOrder.put.Goals as goal

pub returns-in-Some-clause-unchanged : goal.returns-in-Some-clause-unchanged
returns-in-Some-clause-unchanged c =
    let fresh : IsNew c.args.left c.args.self.now c.in-Some.leaf = search rules in
    let same = err-known c.put_one-2.result (c.put_one-2.new.self ≡ c.put_one.new.self) (sym c.if-is_err.ensures.value) c.put_one-2.ensures.unchanged in
    put-back c.args.left c.in-Some.leaf c.args.self.now c.put_one-2.new.self c.remove.new.self c.in_ok-added.ensures.was_ordered c.remove.ensures.ordered fresh
    (subst (IsPut c.args.left c.args.self.now) (sym same) c.in_ok-added.ensures.put) c.remove.ensures.taken

pub returns-clause-put : goal.returns-clause-put
returns-clause-put c =
    both-put c.args.left c.args.right c.args.self.now c.put_one.new.self c.put_one-2.new.self c.in_ok-added.ensures.put
    (ok-known c.put_one-2.result (IsPut c.args.right c.put_one.new.self c.put_one-2.new.self) (sym c.if-is_err.ensures.value) c.put_one-2.ensures.put)
