use Rattle.std.proofs.Common.{◌≡◌, ◌-◌}
use Rattle.cert_text.specs.Reading.{each_at, ends_before, u32_at}
use Rattle.cert_text.proofs.Each.{with_front}
use Rattle.cert_format.proofs.reading.u32s.Given as goal

abbrev pub invariant-loop-i : goal.invariant-loop-i
invariant-loop-i g l = with_front l.numbers.items (each_at (λ k. u32_at (ends_before k)) (l.n - l.i) (g.S.Source.at l.src)) ≡ each_at (λ k. u32_at (ends_before k)) l.n (g.S.Source.at l.fn.src)
