use Rattle.std.proofs.Common.{[], ◌∷◌, length}
use Rattle.std.specs.Prelude.{decimal, codes}
use Rattle.std.specs.List.{flat_map}
use Rattle.std.proofs.lemmas.Result.{err_from_is_err_and}
use Rattle.edge_io.proofs.Writes.{front-first, wrote-behind}
use Rattle.cert_writing.specs.Text.{line}
use Rattle.job_texts.specs.Texts.{job_line}
use Rattle.job_texts.proofs.writing.write_job_lines.Goals as goal

pub returns-in_err-write_line-clause-wrote : goal.returns-in_err-write_line-clause-wrote
returns-in_err-write_line-clause-wrote g c =
    let p = err_from_is_err_and c.from_residual.result c.from_residual.ensures.1 in
    rw p.1 (front-first (g.K.Sink.taken c.args.out.now) (line (codes "jobs") (decimal (length c.args.jobs.now) ∷ []))
    (flat_map job_line c.args.jobs.now) (g.K.Sink.taken c.write_line.new.out) c.in_err-write_line.ensures.wrote)

pub returns-clause-wrote : goal.returns-clause-wrote
returns-clause-wrote g c =
    wrote-behind c.write_job_list.result (g.K.Sink.taken c.args.out.now) (line (codes "jobs") (decimal (length c.args.jobs.now) ∷ []))
    (g.K.Sink.taken c.write_line.new.out) (flat_map job_line c.args.jobs.now) (g.K.Sink.taken c.write_job_list.new.out)
    c.in_ok-write_line.ensures.wrote c.write_job_list.ensures.wrote
