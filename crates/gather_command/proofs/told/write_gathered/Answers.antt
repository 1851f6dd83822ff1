use Rattle.std.proofs.Common.{length}
use Rattle.std.specs.List.{flat_map}
use Rattle.std.proofs.lemmas.Result.{err_from_is_err_and}
use Rattle.edge_io.proofs.Writes.{front-first, wrote-behind}
use Rattle.row_model.specs.Trees.{tree_bound}
use Rattle.box_tree.specs.Kept.{searched_of}
use Rattle.gather_command.specs.Told.{line_text, taken_line}
use Rattle.gather_command.proofs.told.write_gathered.Goals as goal

pub returns-in_err-write_lines-clause-wrote : goal.returns-in_err-write_lines-clause-wrote
returns-in_err-write_lines-clause-wrote g c =
    let p = err_from_is_err_and c.from_residual.result c.from_residual.ensures.1 in
    let desk = c.args.gathered.now.desk in
    rw p.1 (λ n is. front-first (g.K.Sink.taken c.args.out.now) (flat_map line_text c.args.gathered.now.lines.items)
    (taken_line (length desk.taken) (length desk.tree.kept.splits.list) (tree_bound n (searched_of desk.tree.kept).tree))
    (g.K.Sink.taken c.write_lines.new.out) (rw c.as_slice.ensures.value at c.in_err-write_lines.ensures.wrote))

pub returns-clause-wrote : goal.returns-clause-wrote
returns-clause-wrote g c =
    let desk = c.args.gathered.now.desk in
    λ n is. wrote-behind c.write_desk.result (g.K.Sink.taken c.args.out.now) (flat_map line_text c.args.gathered.now.lines.items)
    (g.K.Sink.taken c.write_lines.new.out) (taken_line (length desk.taken) (length desk.tree.kept.splits.list) (tree_bound n (searched_of desk.tree.kept).tree))
    (g.K.Sink.taken c.write_desk.new.out) (rw c.as_slice.ensures.value at c.in_ok-write_lines.ensures.wrote) (c.write_desk.ensures.wrote n is)
