use Rattle.std.proofs.Common.{[], ◌∷◌, ◌++◌, map}
use Rattle.std.specs.Prelude.{decimal, codes}
use Rattle.std.proofs.lemmas.Result.{err_from_is_err_and}
use Rattle.edge_io.proofs.Writes.{front-first, front-second, front-third, front-fourth, wrote-five}
use Rattle.box_space.specs.Views.{shown_split}
use Rattle.cert_writing.specs.Text.{line, split_lines}
use Rattle.job_texts.specs.Texts.{job_lines}
use Rattle.job_texts.proofs.writing.write_jobs.Goals as goal

pub returns-in_err-write_whole-clause-wrote : goal.returns-in_err-write_whole-clause-wrote
returns-in_err-write_whole-clause-wrote g c =
    let p = err_from_is_err_and c.from_residual.result c.from_residual.ensures.1 in
    let t = c.args.jobs.now in
    rw p.1 (front-first (g.K.Sink.taken c.args.out.now) (line (codes "pooljobs") (codes "1" ∷ []))
    (line (codes "shape") (map decimal t.shape) ++ (split_lines (map shown_split t.splits.items) ++ (job_lines t.jobs.items ++ line (codes "end") [])))
    (g.K.Sink.taken c.write_whole.new.out) c.in_err-write_whole.ensures.wrote)

pub returns-in_err-write_line-clause-wrote : goal.returns-in_err-write_line-clause-wrote
returns-in_err-write_line-clause-wrote g c =
    let p = err_from_is_err_and c.from_residual-in_err-write_line.result c.from_residual-in_err-write_line.ensures.1 in
    let t = c.args.jobs.now in
    rw p.1 (front-second (g.K.Sink.taken c.args.out.now) (line (codes "pooljobs") (codes "1" ∷ [])) (g.K.Sink.taken c.write_whole.new.out)
    (line (codes "shape") (map decimal t.shape)) (split_lines (map shown_split t.splits.items) ++ (job_lines t.jobs.items ++ line (codes "end") []))
    (g.K.Sink.taken c.write_line.new.out) c.in_ok-write_whole.ensures.wrote c.in_err-write_line.ensures.wrote)

pub returns-in_err-write_splits-clause-wrote : goal.returns-in_err-write_splits-clause-wrote
returns-in_err-write_splits-clause-wrote g c =
    let p = err_from_is_err_and c.from_residual-in_err-write_splits.result c.from_residual-in_err-write_splits.ensures.1 in
    let t = c.args.jobs.now in
    rw p.1 (front-third (g.K.Sink.taken c.args.out.now) (line (codes "pooljobs") (codes "1" ∷ [])) (g.K.Sink.taken c.write_whole.new.out)
    (line (codes "shape") (map decimal t.shape)) (g.K.Sink.taken c.write_line.new.out) (split_lines (map shown_split t.splits.items)) (job_lines t.jobs.items ++ line (codes "end") [])
    (g.K.Sink.taken c.write_splits.new.out) c.in_ok-write_whole.ensures.wrote c.in_ok-write_line.ensures.wrote (rw c.as_slice.ensures.value at c.in_err-write_splits.ensures.wrote))

pub returns-in_err-write_job_lines-clause-wrote : goal.returns-in_err-write_job_lines-clause-wrote
returns-in_err-write_job_lines-clause-wrote g c =
    let p = err_from_is_err_and c.from_residual-in_err-write_job_lines.result c.from_residual-in_err-write_job_lines.ensures.1 in
    let t = c.args.jobs.now in
    rw p.1 (front-fourth (g.K.Sink.taken c.args.out.now) (line (codes "pooljobs") (codes "1" ∷ [])) (g.K.Sink.taken c.write_whole.new.out)
    (line (codes "shape") (map decimal t.shape)) (g.K.Sink.taken c.write_line.new.out) (split_lines (map shown_split t.splits.items))
    (g.K.Sink.taken c.write_splits.new.out) (job_lines t.jobs.items) (line (codes "end") []) (g.K.Sink.taken c.write_job_lines.new.out)
    c.in_ok-write_whole.ensures.wrote c.in_ok-write_line.ensures.wrote (rw c.as_slice.ensures.value at c.in_ok-write_splits.ensures.wrote)
    (rw c.as_slice-2.ensures.value at c.in_err-write_job_lines.ensures.wrote))

pub returns-clause-wrote : goal.returns-clause-wrote
returns-clause-wrote g c =
    let t = c.args.jobs.now in
    wrote-five c.write_whole-2.result (g.K.Sink.taken c.args.out.now) (line (codes "pooljobs") (codes "1" ∷ [])) (g.K.Sink.taken c.write_whole.new.out)
    (line (codes "shape") (map decimal t.shape)) (g.K.Sink.taken c.write_line.new.out) (split_lines (map shown_split t.splits.items))
    (g.K.Sink.taken c.write_splits.new.out) (job_lines t.jobs.items) (g.K.Sink.taken c.write_job_lines.new.out) (line (codes "end") []) (g.K.Sink.taken c.write_whole-2.new.out)
    c.in_ok-write_whole.ensures.wrote c.in_ok-write_line.ensures.wrote (rw c.as_slice.ensures.value at c.in_ok-write_splits.ensures.wrote)
    (rw c.as_slice-2.ensures.value at c.in_ok-write_job_lines.ensures.wrote) c.write_whole-2.ensures.wrote
