use Rattle.std.proofs.Common.{◌≡◌, ◌+◌, ◌-◌, map}
use Rattle.box_space.specs.Views.{shown_part}
use Rattle.cert_text.specs.Reading.{each_at}
use Rattle.cert_text.proofs.Each.{with_front}
use Rattle.cert_format.specs.Reading.{part_at}
use Rattle.tight_texts.specs.Views.{place_of}
use Rattle.tight_texts.proofs.reading.part_list.Given as goal

abbrev pub invariant-loop-i : goal.invariant-loop-i
invariant-loop-i l = with_front (map shown_part l.parts.items) (each_at (λ k. part_at (k + l.more)) (l.n - l.i) (place_of l.src)) ≡ each_at (λ k. part_at (k + l.more)) l.n (place_of l.fn.src)
