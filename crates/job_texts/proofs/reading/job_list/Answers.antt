use Rattle.std.proofs.Common.{◌≡◌, ◌++◌, ◌∷◌, []}
use Rattle.std.proofs.lemmas.Result.{err_from_is_err_and}
use Rattle.cert_text.specs.Reading.{each_at}
use Rattle.cert_text.proofs.Each.{each-step, each-stops, each-end}
use Rattle.job_texts.specs.Reading.{job_line_at}
use Rattle.job_texts.proofs.reading.job_list.Goals as goal

pub returns-in_err-job : goal.returns-in_err-job
returns-in_err-job g c =
    let p = err_from_is_err_and c.from_residual.result c.from_residual.ensures.1 in
    rw (p.1, p.2) (each-stops (λ _. job_line_at) c.args.n c.loop.counter c.loop.jobs.items
    (g.S.Source.at c.loop.src) c.in_err-job.field-0.0 (g.S.Source.broken c.job_line.new.src) (each_at (λ _. job_line_at) c.args.n (g.S.Source.at c.args.src.now)) c.loop-test.true
    c.in_err-job.ensures c.loop.invariant)

pub loop-preserved : goal.loop-preserved
loop-preserved g c =
    let items : c.push.new.self.items ≡ c.loop.jobs.items ++ c.in_ok-job.job ∷ [] = c.in_ok-push.ensures.items in
    rw items (each-step (λ _. job_line_at) c.args.n c.loop.counter c.loop.jobs.items (g.S.Source.at c.loop.src)
    (g.S.Source.at c.job_line.new.src) c.in_ok-job.job (each_at (λ _. job_line_at) c.args.n (g.S.Source.at c.args.src.now)) c.loop-test.true
    c.in_ok-job.ensures c.loop.invariant)

pub returns : goal.returns
returns g c = each-end (λ _. job_line_at) c.args.n c.loop.counter c.loop.jobs.items (g.S.Source.at c.loop.src)
    (each_at (λ _. job_line_at) c.args.n (g.S.Source.at c.args.src.now)) c.loop-test.false c.loop.invariant
