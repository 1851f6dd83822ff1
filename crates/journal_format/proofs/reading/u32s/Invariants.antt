use Rattle.std.proofs.Common.{◌≡◌, ◌-◌}
use Rattle.journal_format.specs.Reading.{numbers_at}
use Rattle.journal_format.proofs.Repeated.{with_front}
use Rattle.journal_format.proofs.reading.u32s.Given as goal

abbrev pub invariant-loop : goal.invariant-loop
invariant-loop l = with_front l.numbers.items (numbers_at 4 (l.count - l.counter) l.rest) ≡ numbers_at 4 l.count l.bytes
