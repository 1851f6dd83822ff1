use Rattle.std.proofs.Common.{◌≡◌, ◌<◌, ◌^◌, get_or, ◌-ℤ◌, rules, FitsSigned, to_z-of_z}
use mir.Syntax.{w64}
use Rattle.pool_model.specs.Network.{net_of}
use Rattle.box_tree.specs.Counts.{cuts_on}
use Rattle.leaf_cuts.proofs.RootEnds.{near-fits, row-ends}
use Rattle.leaf_cuts.proofs.view.row_of.Goals as goal

pub returns-clause-row : goal.returns-clause-row
returns-clause-row c =
    let small : get_or c.cuts-cuts.result.now c.args.coord 0 < 2 ^ 32 = search rules in
    search rules

pub returns-clause-ends : goal.returns-clause-ends
returns-clause-ends c = λ b is.
    let n = net_of c.args.net.now in
    let splits = c.args.tree.now.kept.splits.list in
    let low = c.ends_at-low.result.0 in
    let high = c.ends_at-low.result.1 in
    let least = c.root_ends_at-root_low.result.0 in
    let greatest = c.root_ends_at-root_low.result.1 in
    let low_fits : FitsSigned w64 low = search rules in
    let high_fits : FitsSigned w64 high = search rules in
    let least_fits : FitsSigned w64 least = search rules in
    let greatest_fits : FitsSigned w64 greatest = search rules in
    let width_fits : FitsSigned w64 (greatest -ℤ least) = near-fits least greatest c.root_ends_at-root_low.ensures.near in
    let counted : get_or c.cuts-cuts.result.now c.args.coord 0 ≡ cuts_on splits c.args.coord = (c.cuts-cuts.ensures.counts n c.requires.tree).is c.args.coord c.requires.known in
    simp to_z-of_z (row-ends n splits b c.args.ends.now c.args.coord _ c.args.miss low high least greatest c.requires.known counted c.ends_at-low.ensures.low c.ends_at-low.ensures.high
    c.root_ends_at-root_low.ensures.low c.root_ends_at-root_low.ensures.high is)
