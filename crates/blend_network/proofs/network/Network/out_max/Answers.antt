use Rattle.std.proofs.Common.{ap, ◌∙◌, arith}
use Rattle.pool_model.specs.Network as model
use Rattle.pool_model.specs.Network.{net_of, no_arc}
use Rattle.network_parts.specs.Views.{shown_arc}
use Rattle.network_parts.proofs.Mapped.{read-map}
use Rattle.blend_network.proofs.network.Network.out_max.Goals as goal

pub amount-requires : goal.amount-requires
unfolding net_of
amount-requires c =
    let e = read-map shown_arc c.self.inside.outs.items c.args.n c.index.result.now no_arc (search arith) c.index.ensures in
    λ m is. c.self.invariant.limited.out_maxima c.args.n m (search arith) (ap (λ (r : model.Arc). r.max) e ∙ is)
