use Rattle.std.proofs.Common.{◌≡◌, ◌-◌}
use Rattle.cert_text.specs.Reading.{each_at}
use Rattle.cert_text.proofs.Each.{with_front}
use Rattle.job_texts.specs.Reading.{answer_at}
use Rattle.job_texts.specs.Views.{place_of, shown_answers}
use Rattle.job_texts.proofs.reading.answer_list.Given as goal

abbrev pub invariant-loop : goal.invariant-loop
invariant-loop l = with_front (shown_answers l.answers) (each_at (λ _. answer_at) (l.n - l.counter) (place_of l.src)) ≡ each_at (λ _. answer_at) l.n (place_of l.fn.src)
