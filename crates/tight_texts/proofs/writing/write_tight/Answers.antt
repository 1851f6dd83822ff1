use Rattle.std.proofs.Common.{[], ◌++◌, map}
use Rattle.std.specs.Prelude.{codes}
use Rattle.std.proofs.lemmas.Result.{err_from_is_err_and}
use Rattle.edge_io.proofs.Writes.{front-first, front-behind, wrote-behind}
use Rattle.cert_writing.specs.Text.{line}
use Rattle.tight_texts.specs.Texts.{bound_line, head_lines, mark_lines}
use Rattle.tight_texts.specs.Views.{shown_leaf}
use Rattle.tight_texts.proofs.writing.write_tight.Goals as goal

pub returns-in_err-write_head-clause-wrote : goal.returns-in_err-write_head-clause-wrote
returns-in_err-write_head-clause-wrote g c =
    let p = err_from_is_err_and c.from_residual.result c.from_residual.ensures.1 in
    rw p.1 (front-first (g.K.Sink.taken c.args.out.now) (head_lines c.args.text.now.form c.args.text.now.pivots) ((mark_lines (map shown_leaf c.args.text.now.marks.items)) ++ ((bound_line c.args.text.now.bound) ++ (line (codes "end") []))) (g.K.Sink.taken c.write_head.new.out) (c.in_err-write_head.ensures.wrote))

pub returns-in_err-write_mark_lines-clause-wrote : goal.returns-in_err-write_mark_lines-clause-wrote
returns-in_err-write_mark_lines-clause-wrote g c =
    let p = err_from_is_err_and c.from_residual-in_err-write_mark_lines.result c.from_residual-in_err-write_mark_lines.ensures.1 in
    rw p.1 (front-behind (g.K.Sink.taken c.args.out.now) (head_lines c.args.text.now.form c.args.text.now.pivots) (g.K.Sink.taken c.write_head.new.out) ((mark_lines (map shown_leaf c.args.text.now.marks.items)) ++ ((bound_line c.args.text.now.bound) ++ (line (codes "end") []))) (g.K.Sink.taken c.write_mark_lines.new.out) (c.in_ok-write_head.ensures.wrote) (front-first (g.K.Sink.taken c.write_head.new.out) (mark_lines (map shown_leaf c.args.text.now.marks.items)) ((bound_line c.args.text.now.bound) ++ (line (codes "end") [])) (g.K.Sink.taken c.write_mark_lines.new.out) (rw c.as_slice.ensures.value at c.in_err-write_mark_lines.ensures.wrote)))

pub returns-in_err-write_bound-clause-wrote : goal.returns-in_err-write_bound-clause-wrote
returns-in_err-write_bound-clause-wrote g c =
    let p = err_from_is_err_and c.from_residual-in_err-write_bound.result c.from_residual-in_err-write_bound.ensures.1 in
    rw p.1 (front-behind (g.K.Sink.taken c.args.out.now) (head_lines c.args.text.now.form c.args.text.now.pivots) (g.K.Sink.taken c.write_head.new.out) ((mark_lines (map shown_leaf c.args.text.now.marks.items)) ++ ((bound_line c.args.text.now.bound) ++ (line (codes "end") []))) (g.K.Sink.taken c.write_bound.new.out) (c.in_ok-write_head.ensures.wrote) (front-behind (g.K.Sink.taken c.write_head.new.out) (mark_lines (map shown_leaf c.args.text.now.marks.items)) (g.K.Sink.taken c.write_mark_lines.new.out) ((bound_line c.args.text.now.bound) ++ (line (codes "end") [])) (g.K.Sink.taken c.write_bound.new.out) (rw c.as_slice.ensures.value at c.in_ok-write_mark_lines.ensures.wrote) (front-first (g.K.Sink.taken c.write_mark_lines.new.out) (bound_line c.args.text.now.bound) (line (codes "end") []) (g.K.Sink.taken c.write_bound.new.out) (c.in_err-write_bound.ensures.wrote))))

pub returns-clause-wrote : goal.returns-clause-wrote
returns-clause-wrote g c = (wrote-behind c.write_whole.result (g.K.Sink.taken c.args.out.now) (head_lines c.args.text.now.form c.args.text.now.pivots) (g.K.Sink.taken c.write_head.new.out) ((mark_lines (map shown_leaf c.args.text.now.marks.items)) ++ ((bound_line c.args.text.now.bound) ++ (line (codes "end") []))) (g.K.Sink.taken c.write_whole.new.out) (c.in_ok-write_head.ensures.wrote) (wrote-behind c.write_whole.result (g.K.Sink.taken c.write_head.new.out) (mark_lines (map shown_leaf c.args.text.now.marks.items)) (g.K.Sink.taken c.write_mark_lines.new.out) ((bound_line c.args.text.now.bound) ++ (line (codes "end") [])) (g.K.Sink.taken c.write_whole.new.out) (rw c.as_slice.ensures.value at c.in_ok-write_mark_lines.ensures.wrote) (wrote-behind c.write_whole.result (g.K.Sink.taken c.write_mark_lines.new.out) (bound_line c.args.text.now.bound) (g.K.Sink.taken c.write_bound.new.out) (line (codes "end") []) (g.K.Sink.taken c.write_whole.new.out) (c.in_ok-write_bound.ensures.wrote) (c.write_whole.ensures.wrote))))
