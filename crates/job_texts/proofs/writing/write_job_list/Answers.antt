use Rattle.std.proofs.lemmas.Result.{err_from_is_err_and}
use Rattle.edge_io.proofs.Writes.{front-list}
use Rattle.job_texts.specs.Texts.{job_line}
use Rattle.job_texts.proofs.writing.write_job_list.Goals as goal

pub returns-in_err-write_job-clause-wrote : goal.returns-in_err-write_job-clause-wrote
returns-in_err-write_job-clause-wrote g c =
    let p = err_from_is_err_and c.from_residual.result c.from_residual.ensures.1 in
    rw p.1 (front-list job_line c.args.jobs.now c.loop-job.job-index _ (g.K.Sink.taken c.args.out.now) (g.K.Sink.taken c.loop-job.out)
    (g.K.Sink.taken c.write_job.new.out) c.loop-job-test.true c.loop-job.invariant.0 c.in_err-write_job.ensures.wrote)
