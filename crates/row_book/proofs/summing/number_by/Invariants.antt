use Rattle.std.proofs.Common.{ℕ, ◌<◌, map, take, get_or}
use Rattle.pool_model.specs.Network.{net_of}
use Rattle.row_model.specs.Multipliers.{IsSigned}
use Rattle.box_space.specs.Views.{shown_part, shown_box}
use Rattle.row_book.specs.PartRows.{kind_at}
use Rattle.row_book.specs.Passing.{AreSums}
use Rattle.row_book.proofs.AllParts.{no_part}
use Rattle.row_book.proofs.summing.number_by.Given as goal

abbrev pub invariant-loop-part : goal.invariant-loop-part
invariant-loop-part l = record {
  signed : (k : ℕ) → k < l.part-index
      → IsSigned (kind_at (net_of l.net) (shown_box l.v) (get_or l.proof.parts.items k no_part).row) (get_or l.proof.parts.items k no_part).mult;
  sums : AreSums (net_of l.net) (shown_box l.v) l.proof.scale (take l.part-index (map shown_part l.proof.parts.items)) l.rests l.sums;
}
