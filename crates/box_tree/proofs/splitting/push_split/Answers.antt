use Rattle.leaf_order.proofs.Sets.{both-back}
use Rattle.box_tree.proofs.splitting.push_split.Goals as goal

pub returns-then-is_err-clause-same_leaves : goal.returns-then-is_err-clause-same_leaves
returns-then-is_err-clause-same_leaves c =
    both-back c.args.left c.args.right c.args.order.now c.put.new.self c.take_out.new.self c.take_out-then-is_err.new.self c.requires.left c.requires.right c.in_ok-put.ensures.put c.take_out.ensures
    c.take_out-then-is_err.ensures
