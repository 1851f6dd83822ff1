use Rattle.std.proofs.Common.{◌≡◌, FitsSigned, rules, ap}
use Rattle.std.proofs.lemmas.Int.{to_z-of_z}
use mir.Syntax.{w128}
use Rattle.edge_io.proofs.Writes.{wrote-same}
use Rattle.text_pieces.specs.Rounding.{rounded_down}
use Rattle.pool_report.specs.Lines.{bound_lines}
use Rattle.pool_report.proofs.Same.{only_bound_text}
use Rattle.pool_report.proofs.claims.write_bound.Goals as goal

pub returns-clause-wrote : goal.returns-clause-wrote
returns-clause-wrote g c =
    let fits_bound : FitsSigned w128 c.args.bound = search rules in
    let fits : FitsSigned w128 c.rounded_down.result = search rules in
    let bound : c.rounded_down.result ≡ rounded_down c.args.bound 1000000 = simp to_z-of_z at c.rounded_down.ensures in
    wrote-same c.write_line.result (g.K.Sink.taken c.args.out.now) (only_bound_text c.rounded_down.result) (bound_lines c.args.bound) (g.K.Sink.taken c.write_line.new.out)
    (ap only_bound_text bound) (simp to_z-of_z at c.write_line.ensures.wrote)
