use Rattle.std.proofs.Common.{◌≡◌, ◌-◌}
use Rattle.cert_text.specs.Reading.{each_at, ends_before, i128_at}
use Rattle.cert_text.proofs.Each.{with_front}
use Rattle.tight_texts.specs.Views.{place_of}
use Rattle.tight_texts.proofs.reading.values.Given as goal

abbrev pub invariant-loop-i : goal.invariant-loop-i
invariant-loop-i l = with_front l.values.items (each_at (λ k. i128_at (ends_before k)) (l.n - l.i) (place_of l.src)) ≡ each_at (λ k. i128_at (ends_before k)) l.n (place_of l.fn.src)
