use Rattle.std.proofs.Common.{◌++◌}
use Rattle.std.specs.Prelude.{codes}
use Rattle.std.proofs.lemmas.Result.{err_from_is_err_and}
use Rattle.edge_io.proofs.Writes.{front-first, front-second, front-third, wrote-four}
use Rattle.pool_model.specs.Network.{net_of}
use Rattle.box_space.specs.Views.{shown_box}
use Rattle.program_text.specs.Programs.{first_lines, network_lines, family_lines}
use Rattle.program_text.proofs.formulation.put_program.Goals as goal

pub returns-in_err-write_first_lines-clause-wrote : goal.returns-in_err-write_first_lines-clause-wrote
returns-in_err-write_first_lines-clause-wrote g c =
    let n = net_of c.args.net.now in
    let b = shown_box c.args.v.now in
    let p = err_from_is_err_and c.from_residual.result c.from_residual.ensures.1 in
    rw p.1 (front-first (g.K.Sink.taken c.args.out.now) (first_lines n b c.args.form) (network_lines n b ++ (family_lines n b c.args.form ++ codes "end\n"))
    (g.K.Sink.taken c.write_first_lines.new.out) c.in_err-write_first_lines.ensures.wrote)

pub returns-in_err-write_group-clause-wrote : goal.returns-in_err-write_group-clause-wrote
returns-in_err-write_group-clause-wrote g c =
    let n = net_of c.args.net.now in
    let b = shown_box c.args.v.now in
    let p = err_from_is_err_and c.from_residual-in_err-write_group.result c.from_residual-in_err-write_group.ensures.1 in
    rw p.1 (front-second (g.K.Sink.taken c.args.out.now) (first_lines n b c.args.form) (g.K.Sink.taken c.write_first_lines.new.out) (network_lines n b)
    (family_lines n b c.args.form ++ codes "end\n") (g.K.Sink.taken c.write_group.new.out)
    c.in_ok-write_first_lines.ensures.wrote c.in_err-write_group.ensures.wrote)

pub returns-in_err-write_families-clause-wrote : goal.returns-in_err-write_families-clause-wrote
returns-in_err-write_families-clause-wrote g c =
    let n = net_of c.args.net.now in
    let b = shown_box c.args.v.now in
    let p = err_from_is_err_and c.from_residual-in_err-write_families.result c.from_residual-in_err-write_families.ensures.1 in
    rw p.1 (front-third (g.K.Sink.taken c.args.out.now) (first_lines n b c.args.form) (g.K.Sink.taken c.write_first_lines.new.out) (network_lines n b)
    (g.K.Sink.taken c.write_group.new.out) (family_lines n b c.args.form) (codes "end\n") (g.K.Sink.taken c.write_families.new.out)
    c.in_ok-write_first_lines.ensures.wrote c.in_ok-write_group.ensures.wrote c.in_err-write_families.ensures.wrote)

pub returns-clause-wrote : goal.returns-clause-wrote
returns-clause-wrote g c =
    let n = net_of c.args.net.now in
    let b = shown_box c.args.v.now in
    wrote-four c.write_whole.result (g.K.Sink.taken c.args.out.now) (first_lines n b c.args.form) (g.K.Sink.taken c.write_first_lines.new.out) (network_lines n b)
    (g.K.Sink.taken c.write_group.new.out) (family_lines n b c.args.form) (g.K.Sink.taken c.write_families.new.out) (codes "end\n") (g.K.Sink.taken c.write_whole.new.out)
    c.in_ok-write_first_lines.ensures.wrote c.in_ok-write_group.ensures.wrote c.in_ok-write_families.ensures.wrote c.write_whole.ensures.wrote
