use Rattle.std.proofs.Common.{◌≡◌, length, get_or, arith}
use Rattle.std.proofs.lemmas.Grind.{common_steps}
use Rattle.std.proofs.lemmas.List.{take_all}
use Rattle.pool_model.specs.Network.{net_of, no_source}
use Rattle.network_values.proofs.Lengths.{quality_each}
use Rattle.network_values.proofs.nodes.quality_of.Goals as goal

pub loop-k-preserved : goal.loop-k-preserved
unfolding net_of
loop-k-preserved c =
    let len : length (get_or c.args.net.now.sources c.args.source no_source).quality ≡ length c.args.net.now.qualities = quality_each c.args.net.now c.sizes-qualities.ensures.made c.args.source c.requires in
    grind (arith, common_steps)

pub returns-clause-quality : goal.returns-clause-quality
unfolding net_of
returns-clause-quality c =
    let len : length (get_or c.args.net.now.sources c.args.source no_source).quality ≡ length c.args.net.now.qualities = quality_each c.args.net.now c.sizes-qualities.ensures.made c.args.source c.requires in
    grind (arith, common_steps, take_all)

pub returns-clause-each : goal.returns-clause-each
unfolding net_of
returns-clause-each c =
    let len : length (get_or c.args.net.now.sources c.args.source no_source).quality ≡ length c.args.net.now.qualities = quality_each c.args.net.now c.sizes-qualities.ensures.made c.args.source c.requires in
    grind (arith, common_steps, take_all)
