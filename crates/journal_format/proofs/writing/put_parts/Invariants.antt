use Rattle.std.proofs.Common.{◌≡◌, map, take}
use Rattle.std.specs.List.{flat_map, AllByRecursion}
use Rattle.box_space.specs.Views.{shown_part}
use Rattle.journal_format.specs.Payload.{part_bytes, PartFits}
use Rattle.journal_format.specs.Pages.{with_bytes}
use Rattle.journal_format.proofs.writing.put_parts.Given as goal

abbrev pub invariant-loop-part : goal.invariant-loop-part
invariant-loop-part l = record {
  bytes : l.page ≡ with_bytes l.fn.page (flat_map part_bytes (map shown_part (take l.part-index l.parts)));
  fits : AllByRecursion PartFits (map shown_part (take l.part-index l.parts));
}
