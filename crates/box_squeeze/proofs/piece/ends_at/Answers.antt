use Rattle.std.proofs.Common.{◌≡◌, get_or, pos, rules, FitsSigned, to_z-of_z}
use mir.Syntax.{w64}
use Rattle.pool_model.specs.Network.{net_of}
use Rattle.box_space.specs.Views.{shown_box_ends}
use Rattle.leaf_cuts.proofs.RootEnds.{ends-at, near-same}
use Rattle.box_squeeze.proofs.piece.ends_at.Goals as goal

pub returns-clause-least : goal.returns-clause-least
returns-clause-least c =
    let e = c.args.ends.now in
    let low_fits : FitsSigned w64 c.low_at.result = search rules in
    let high_fits : FitsSigned w64 c.high_at.result = search rules in
    let low : c.low_at.result ≡ get_or e.low.items c.args.coord (pos 0) = search rules in
    let high : c.high_at.result ≡ get_or e.high.items c.args.coord (pos 0) = search rules in
    (near-same _ _ c.low_at.result c.high_at.result (to_z-of_z low_fits) (to_z-of_z high_fits)
    (ends-at (net_of c.args.net.now) (shown_box_ends e) c.args.coord c.low_at.result c.high_at.result c.requires.limited c.requires.ends.proper c.requires.known low high).near).least

pub returns-clause-most : goal.returns-clause-most
returns-clause-most c =
    let e = c.args.ends.now in
    let low_fits : FitsSigned w64 c.low_at.result = search rules in
    let high_fits : FitsSigned w64 c.high_at.result = search rules in
    let low : c.low_at.result ≡ get_or e.low.items c.args.coord (pos 0) = search rules in
    let high : c.high_at.result ≡ get_or e.high.items c.args.coord (pos 0) = search rules in
    (near-same _ _ c.low_at.result c.high_at.result (to_z-of_z low_fits) (to_z-of_z high_fits)
    (ends-at (net_of c.args.net.now) (shown_box_ends e) c.args.coord c.low_at.result c.high_at.result c.requires.limited c.requires.ends.proper c.requires.known low high).near).greatest
