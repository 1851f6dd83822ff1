use Rattle.std.proofs.Common.{◌≡◌, take}
use Rattle.std.specs.Prelude.{map, string_bytes}
use Rattle.shelf_calls.specs.Told.{Keeps}
use Rattle.gather_command.specs.Answers.{SayUnder}
use Rattle.gather_command.proofs.answers.answers_under.Given as goal

abbrev pub invariant-loop-name : goal.invariant-loop-name
invariant-loop-name g l =
    SayUnder (g.S.Shelf.told l.fn.shelf).files (map string_bytes (take l.name-index l.names)) l.files.items
    × ((g.S.Shelf.told l.shelf).faults ≡ (g.S.Shelf.told l.fn.shelf).faults)
    × Keeps (g.S.Shelf.told l.fn.shelf) (g.S.Shelf.told l.shelf)
