use Rattle.std.proofs.Common.{◌≡◌, ◌-◌, map}
use Rattle.box_space.specs.Views.{shown_part}
use Rattle.journal_format.specs.Reading.{parts_at}
use Rattle.journal_format.proofs.Repeated.{with_front}
use Rattle.journal_format.proofs.reading.parts.Given as goal

abbrev pub invariant-loop : goal.invariant-loop
invariant-loop l = with_front (map shown_part l.parts.items) (parts_at (l.count - l.counter) l.rest) ≡ parts_at l.count l.bytes
