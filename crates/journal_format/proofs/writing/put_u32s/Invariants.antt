use Rattle.std.proofs.Common.{◌≡◌, ◌<◌, ◌^◌, take}
use Rattle.std.specs.List.{flat_map, AllByRecursion}
use Rattle.journal_format.specs.Fields.{field}
use Rattle.journal_format.specs.Pages.{with_bytes}
use Rattle.journal_format.proofs.writing.put_u32s.Given as goal

abbrev pub invariant-loop-number : goal.invariant-loop-number
invariant-loop-number l = record {
  bytes : l.page ≡ with_bytes l.fn.page (flat_map (field 4) (take l.number-index l.numbers));
  fits : AllByRecursion (λ x. x < 256 ^ 4) (take l.number-index l.numbers);
}
