use Rattle.std.proofs.Common.{sym, subst}
use Rattle.pool_model.specs.Network.{Network, net_of}
use Rattle.pool_model.specs.Starting.{HasNoMinima}
use Rattle.pool_cli.proofs.Trials.{made-no_minima}
use Rattle.pool_cli.proofs.trial.trial.Goals as goal

pub try_network-requires : goal.try_network-requires
try_network-requires g c = subst (λ (x : Network). HasNoMinima (net_of x)) (sym c.in-Ok.ensures.network) (made-no_minima c.args.number)
