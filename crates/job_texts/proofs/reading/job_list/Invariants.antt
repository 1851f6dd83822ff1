use Rattle.std.proofs.Common.{◌≡◌, ◌-◌}
use Rattle.cert_text.specs.Reading.{each_at}
use Rattle.cert_text.proofs.Each.{with_front}
use Rattle.job_texts.specs.Reading.{job_line_at}
use Rattle.job_texts.proofs.reading.job_list.Given as goal

abbrev pub invariant-loop : goal.invariant-loop
invariant-loop g l = with_front l.jobs.items (each_at (λ _. job_line_at) (l.n - l.counter) (g.S.Source.at l.src)) ≡ each_at (λ _. job_line_at) l.n (g.S.Source.at l.fn.src)
