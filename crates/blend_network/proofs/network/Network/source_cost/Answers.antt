use Rattle.std.proofs.Common.{FitsSigned, ap, arith, rules}
use Rattle.std.proofs.lemmas.Int.{ints, to_z-of_z}
use mir.Syntax.{w64}
use Rattle.pool_model.specs.Network as model
use Rattle.pool_model.specs.Network.{net_of, no_source}
use Rattle.blend_network.specs.Views.{shown_source}
use Rattle.network_parts.proofs.Mapped.{read-map}
use Rattle.blend_network.proofs.network.Network.source_cost.Goals as goal

pub returns-clause-size : goal.returns-clause-size
unfolding net_of
returns-clause-size c =
    let e = read-map shown_source c.self.inside.sources.items c.args.n c.index.result.now no_source (search arith) c.index.ensures in
    let within = c.self.invariant.limited.source_costs c.args.n (search arith) in
    let fits : FitsSigned w64 c.index.result.now.cost = search rules in
    simp to_z-of_z (omega (arith, ints, within.0, within.1, ap (λ (r : model.Source). r.cost) e))
