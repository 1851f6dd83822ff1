use Rattle.std.proofs.Common.{◌≡◌, ◌*◌, FitsSigned, rules}
use Rattle.std.proofs.lemmas.Int.{to_z-of_z}
use mir.Syntax.{w128}
use Rattle.edge_io.proofs.Writes.{wrote-same}
use Rattle.text_pieces.specs.Rounding.{rounded_down, rounded_up}
use Rattle.pool_report.specs.Lines.{gap_lines}
use Rattle.pool_report.proofs.Same.{gap_text, gap_text-same}
use Rattle.pool_report.proofs.claims.write_gap.Goals as goal

pub returns-clause-wrote : goal.returns-clause-wrote
returns-clause-wrote g c =
    let fits_cost : FitsSigned w128 c.args.cost = search rules in
    let fits_bound : FitsSigned w128 c.args.bound = search rules in
    let fits_gap : FitsSigned w128 c.args.gap = search rules in
    let fits_1 : FitsSigned w128 c.money_up.result = search rules in
    let fits_2 : FitsSigned w128 c.rounded_down.result = search rules in
    let fits_3 : FitsSigned w128 c.money_up-2.result = search rules in
    let cost : c.money_up.result ≡ rounded_up c.args.cost (c.args.base * 1000000) = simp to_z-of_z at c.money_up.ensures in
    let bound : c.rounded_down.result ≡ rounded_down c.args.bound 1000000 = simp to_z-of_z at c.rounded_down.ensures in
    let gap : c.money_up-2.result ≡ rounded_up c.args.gap (c.args.base * 1000000) = simp to_z-of_z at c.money_up-2.ensures in
    wrote-same c.write_line.result (g.K.Sink.taken c.args.out.now) (gap_text c.money_up.result c.rounded_down.result c.money_up-2.result)
    (gap_lines c.args.cost c.args.base c.args.bound c.args.gap) (g.K.Sink.taken c.write_line.new.out)
    (gap_text-same _ _ _ _ _ _ cost bound gap) (simp to_z-of_z at c.write_line.ensures.wrote)
