use Rattle.std.proofs.Common.{◌≡◌, ◌-◌, ◌<◌, suc, length, get_or, arith}
use Rattle.std.proofs.lemmas.Grind.{common_steps}
use Rattle.pool_model.specs.Network.{net_of, no_pool}
use Rattle.network_values.proofs.Lengths.{ratio_each}
use Rattle.network_values.proofs.Ratios.{ratios-more}
use Rattle.network_values.proofs.nodes.ratios_value.Goals as goal

pub loop-k-preserved : goal.loop-k-preserved
unfolding net_of
loop-k-preserved c =
    let names = c.args.net.now.qualities in
    let rs = (get_or c.args.net.now.pools c.args.pool no_pool).ratio in
    let len : length rs ≡ length names = ratio_each c.args.net.now c.sizes-qualities.ensures.made c.args.pool c.requires in
    let below : c.loop-k.k - 1 < length names = omega (arith, c.loop-k.invariant.0, c.loop-k-test.true) in
    let again : suc (c.loop-k.k - 1) ≡ c.loop-k.k = omega (arith, c.loop-k-test.true) in
    let more = rw again at (ratios-more names rs (c.loop-k.k - 1) below len) in
    grind (arith, common_steps)
