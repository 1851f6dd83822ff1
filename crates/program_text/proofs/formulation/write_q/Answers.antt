use Rattle.std.proofs.lemmas.Result.{err_from_is_err_and}
use Rattle.edge_io.proofs.Writes.{front-first, wrote-behind}
use Rattle.pool_model.specs.Network.{net_of}
use Rattle.box_space.specs.Views.{shown_box}
use Rattle.row_model.specs.Variables.{path_count}
use Rattle.row_book.specs.declared.catalogue.Group.TheVariants as groups
use Rattle.text_pieces.specs.Pieces.{each_below}
use Rattle.program_text.specs.Lines.{path_line}
use Rattle.program_text.specs.Programs.{group_lines}
use Rattle.program_text.proofs.formulation.write_q.Goals as goal

pub returns-in_err-write_group-clause-wrote : goal.returns-in_err-write_group-clause-wrote
returns-in_err-write_group-clause-wrote g c =
    let n = net_of c.args.net.now in
    let b = shown_box c.args.v.now in
    let p = err_from_is_err_and c.from_residual.result c.from_residual.ensures.1 in
    rw p.1 (front-first (g.K.Sink.taken c.args.out.now) (group_lines n b groups.Q) (each_below (path_line n) (path_count n)) (g.K.Sink.taken c.write_group.new.out)
    c.in_err-write_group.ensures.wrote)

pub returns-clause-wrote : goal.returns-clause-wrote
returns-clause-wrote g c =
    let n = net_of c.args.net.now in
    let b = shown_box c.args.v.now in
    wrote-behind c.write_paths.result (g.K.Sink.taken c.args.out.now) (group_lines n b groups.Q) (g.K.Sink.taken c.write_group.new.out)
    (each_below (path_line n) (path_count n)) (g.K.Sink.taken c.write_paths.new.out)
    c.in_ok-write_group.ensures.wrote c.write_paths.ensures.wrote
