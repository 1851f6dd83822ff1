use Rattle.std.proofs.Common.{ap, arith, rules, ◌∙◌, FitsSigned, to_z, of_z, to_z-of_z}
use mir.Syntax.{w64}
use Rattle.pool_model.specs.Network.{net_of}
use Rattle.row_model.specs.Boxes.{root_low, root_high}
use Rattle.split_tree.proofs.Finding.{cut-on, span-found, span-none}
use Rattle.split_tree.proofs.splits.SplitTree.span_of.Goals as goal

pub half_span-requires-clause-there : goal.half_span-requires-clause-there
half_span-requires-clause-there c = (cut-on c.args.self.now.list c.args.coord c.innermost-at.result c.if-at-gt0.true c.innermost-at.ensures).there

pub returns-then-at-gt0 : goal.returns-then-at-gt0
returns-then-at-gt0 c =
    let n = net_of c.args.net.now in
    span-found n c.args.self.now c.args.coord c.args.node c.innermost-at.result c.half_span.result c.requires.tree c.requires.there c.innermost-at.ensures c.if-at-gt0.true
    (c.half_span.ensures n c.requires.tree)

pub returns-else-at-gt0 : goal.returns-else-at-gt0
returns-else-at-gt0 c =
    let n = net_of c.args.net.now in
    let low_fits : FitsSigned w64 c.root_ends-low.result.0 = search rules in
    let high_fits : FitsSigned w64 c.root_ends-low.result.1 = search rules in
    span-none n c.args.self.now c.args.coord c.args.node c.innermost-at.result record {
      low = to_z w64 (of_z w64 c.root_ends-low.result.0);
      high = to_z w64 (of_z w64 c.root_ends-low.result.1);
    } c.requires.tree c.requires.there c.innermost-at.ensures (omega (arith, c.if-at-gt0.false))
    (to_z-of_z low_fits ∙ c.root_ends-low.ensures.low ∙ ap (root_low n) c.coord_at.ensures.coordinate)
    (to_z-of_z high_fits ∙ c.root_ends-low.ensures.high ∙ ap (root_high n) c.coord_at.ensures.coordinate)
