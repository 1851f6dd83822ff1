use Rattle.std.proofs.Common.{ap, ◌∙◌}
use Rattle.pool_model.specs.Network.{net_of}
use Rattle.row_model.specs.Boxes.{coord_at, root_low, root_high}
use Rattle.leaf_cuts.proofs.RootEnds.{root-near, near-same}
use Rattle.leaf_cuts.proofs.ends.root_ends_at.Goals as goal

pub returns-clause-near : goal.returns-clause-near
returns-clause-near c =
    let n = net_of c.args.net.now in
    let at = coord_at n c.args.coord in
    near-same c.root_ends.result.0 c.root_ends.result.1 (root_low n at) (root_high n at) (c.root_ends.ensures.low ∙ ap (root_low n) c.coord_at.ensures.coordinate)
    (c.root_ends.ensures.high ∙ ap (root_high n) c.coord_at.ensures.coordinate) (root-near n c.requires.limited c.args.coord c.requires.known)
