-- The leaves of a tree and the marks of a text, as they are judged one after another.
use Rattle.std.specs.Prelude.{◌≡◌, ℕ, ◌<◌, length, slice_index_or}
use Rattle.pool_model.specs.Network.{Net}
use Rattle.row_model.specs.Boxes.{coords}
use Rattle.row_model.specs.Trees.{Tree}
use Rattle.row_book.specs.Fitting.{Fits}
use Rattle.certificate_leaves.specs.Found.{Found}
use Rattle.certificate_leaves.specs.Leaves.{AreLeaves}
use Rattle.tight_texts.specs.declared.marks.LeafMark.{LeafMark}
use Rattle.tight_texts.specs.declared.marks.TightText.{TightText}
use Rattle.tight_checks.specs.declared.judging.MarkJudge.{MarkJudge}
use Rattle.tight_checks.specs.declared.refusal.TightRefusal.{TightRefusal}
use Rattle.tight_checks.specs.declared.refusal.TightRefusal.TheVariants.{BadMark}
use Rattle.tight_checks.specs.Holding.{LineHolds}

-- what was found is of the tree: its splits, and its leaves that may hold a plan
pub record AreFoundOf (n : Net) (tree : Tree) (f : Found) : Type 0 where
  pub splits : f.splits.list ≡ tree.splits
  pub leaves : AreLeaves n tree f.leaves

-- there is room for the ends of a box and for a proof's number
pub record HasRoom (n : Net) (j : MarkJudge) : Type 0 where
  pub lows : length j.ends.low.items ≡ coords n
  pub highs : length j.ends.high.items ≡ coords n
  pub fits : Fits n j.scratch

-- the refusal is of the node of the first line whose mark doesn't hold
pub record IsFirstBad (n : Net) (tree : Tree) (text : TightText) (r : TightRefusal) : Type 0 where
  pub line : LeafMark
  pub at : ℕ
  pub there : at < length text.marks.items
  pub line_is : slice_index_or text.marks.items at line ≡ line
  pub is : r ≡ BadMark line.node
  pub wrong : ¬ LineHolds n tree text.form text.pivots line
  pub before : (k : ℕ) (d : LeafMark) → k < at → LineHolds n tree text.form text.pivots (slice_index_or text.marks.items k d)
