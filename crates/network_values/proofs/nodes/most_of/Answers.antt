use Rattle.std.proofs.Common.{◌≡◌, length, get_or, arith}
use Rattle.std.proofs.lemmas.Grind.{common_steps}
use Rattle.std.proofs.lemmas.List.{take_all}
use Rattle.pool_model.specs.Network.{net_of, no_product}
use Rattle.network_values.proofs.Lengths.{most_each}
use Rattle.network_values.proofs.nodes.most_of.Goals as goal

pub loop-k-preserved : goal.loop-k-preserved
unfolding net_of
loop-k-preserved c =
    let len : length (get_or c.args.net.now.products c.args.product no_product).most ≡ length c.args.net.now.qualities = most_each c.args.net.now c.sizes-qualities.ensures.made c.args.product c.requires in
    grind (arith, common_steps)

pub returns-clause-limits : goal.returns-clause-limits
unfolding net_of
returns-clause-limits c =
    let len : length (get_or c.args.net.now.products c.args.product no_product).most ≡ length c.args.net.now.qualities = most_each c.args.net.now c.sizes-qualities.ensures.made c.args.product c.requires in
    grind (arith, common_steps, take_all)

pub returns-clause-each : goal.returns-clause-each
unfolding net_of
returns-clause-each c =
    let len : length (get_or c.args.net.now.products c.args.product no_product).most ≡ length c.args.net.now.qualities = most_each c.args.net.now c.sizes-qualities.ensures.made c.args.product c.requires in
    grind (arith, common_steps, take_all)
