use Rattle.std.proofs.lemmas.Result.{err_from_is_err_and}
use Rattle.edge_io.proofs.Writes.{front-second, wrote-three}
use Rattle.pool_model.specs.Network.{net_of}
use Rattle.box_space.specs.Views.{shown_box}
use Rattle.program_text.specs.Lines.{cost_line, ends_lines}
use Rattle.program_text.specs.Programs.{head_line}
use Rattle.program_text.proofs.formulation.write_first_lines.Goals as goal

pub returns-in_err-write_cost_line-clause-wrote : goal.returns-in_err-write_cost_line-clause-wrote
returns-in_err-write_cost_line-clause-wrote g c =
    let n = net_of c.args.net.now in
    let b = shown_box c.args.v.now in
    let p = err_from_is_err_and c.from_residual-in_err-write_cost_line.result c.from_residual-in_err-write_cost_line.ensures.1 in
    rw p.1 (front-second (g.K.Sink.taken c.args.out.now) (head_line c.args.form) (g.K.Sink.taken c.write_whole.new.out) (cost_line n) (ends_lines n b c.args.form)
    (g.K.Sink.taken c.write_cost_line.new.out) (rw c.head.ensures at c.in_ok-write_whole.ensures.wrote) c.in_err-write_cost_line.ensures.wrote)

pub returns-clause-wrote : goal.returns-clause-wrote
returns-clause-wrote g c =
    let n = net_of c.args.net.now in
    let b = shown_box c.args.v.now in
    wrote-three c.write_ends.result (g.K.Sink.taken c.args.out.now) (head_line c.args.form) (g.K.Sink.taken c.write_whole.new.out) (cost_line n)
    (g.K.Sink.taken c.write_cost_line.new.out) (ends_lines n b c.args.form) (g.K.Sink.taken c.write_ends.new.out)
    (rw c.head.ensures at c.in_ok-write_whole.ensures.wrote) c.in_ok-write_cost_line.ensures.wrote c.write_ends.ensures.wrote
