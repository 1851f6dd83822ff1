-- A leaf that is worked: its split, and what is proved of both halves.
use Rattle.std.specs.Prelude.{◌≡◌, ℕ, ◌<◌, List, length, Option, Some, unwrap_or, ℤ}
use Rattle.pool_model.specs.Network.{Net}
use Rattle.pool_model.specs.Starting.{reach_bound}
use Rattle.row_model.specs.Boxes.{Box, left_of, right_of}
use Rattle.row_model.specs.Multipliers.{Proof, bound}
use Rattle.row_model.specs.Trees.{Split, Tree, box_of, node_bound, most_splits}
use Rattle.row_model.specs.Entries.{Entry, root_proof, split_of, improve, Searched, IsEntryInOrder}
use Rattle.box_space.specs.declared.coordinates.Form.{Form}
use Rattle.leaf_cuts.specs.Given.{IsGiven}
use Rattle.leaf_cuts.specs.Halvings.{middle_at}
use Rattle.search_core.specs.Cases.{IsCuttable}
use Rattle.search_run.specs.Steps.{IsHalf, IsWidest}
use Rattle.work_units.specs.Units.{Splits}

-- ---- where a leaf is cut

-- there is a coordinate of the form at which the box can be cut
abbrev pub CanBeCut : Net → Form → Box → Type 0
CanBeCut n form b = (c : ℕ) × IsCuttable n form b c

-- A box is cut in the middle of the widest of the coordinates of the form at which it can be cut, the lowest at a tie.
pub record IsWidestCut (n : Net) (form : Form) (b : Box) (coord : ℕ) (cut : ℤ) : Type 0 where
  pub cuttable : IsCuttable n form b coord
  pub widest : IsWidest n form b coord
  pub middle : cut ≡ middle_at b coord

-- the same of the box of the leaf that an entry splits
abbrev pub CutsWidest : Net → Form → List Split → Entry → Type 0
CutsWidest n form splits (split_of split left right) = IsWidestCut n form (box_of n splits split.leaf) split.coord split.cut
CutsWidest n form splits (root_proof proof) = ⊥
CutsWidest n form splits (improve plan) = ⊥

-- ---- what is proved of its halves

-- What the halves of a leaf are proved above: the leaf's bound, which without proofs is the reach bound. That is taken too for a leaf that
-- is known to hold no plan.
abbrev pub least_at : Net → Tree → ℕ → ℤ
least_at n tree node = unwrap_or (node_bound n tree node) (reach_bound n)

-- A half has what rounding gives for its box above a bound. So its proof shows that it holds no plan, or the greater of the bound and what
-- its proof shows, where it has one, is at least what the price proof shows; and its proof names rows of the form alone.
pub record IsProvedHalf (n : Net) (form : Form) (b : Box) (least : ℤ) (proof : Option Proof) : Type 0 where
  pub given : IsGiven n form b (bound least) proof
  pub half : IsHalf n form b (Some least) proof

-- both halves of the leaf that an entry splits are proved so
abbrev pub ProvesHalves : Net → Form → Tree → Entry → Type 0
ProvesHalves n form tree (split_of split left right) =
    IsProvedHalf n form (left_of (box_of n tree.splits split.leaf) split.coord split.cut) (least_at n tree split.leaf) left
    × IsProvedHalf n form (right_of (box_of n tree.splits split.leaf) split.coord split.cut) (least_at n tree split.leaf) right
ProvesHalves n form tree (root_proof proof) = ⊥
ProvesHalves n form tree (improve plan) = ⊥

-- ---- both

-- what work on a leaf of a tree gives
pub record IsWorked (n : Net) (form : Form) (s : Searched) (node : ℕ) (e : Entry) : Type 0 where
  pub splits : Splits node e
  -- Promise: An answer cuts its job's leaf in the middle of the widest of the coordinates of the form that can be cut, the lowest at a tie
  pub cuts : CutsWidest n form s.tree.splits e
  -- Promise: Each half of an answer has what rounding gives for it above the leaf's bound: its proof shows that it holds no plan, or the greater
  --   of that bound and what its proof shows, where it has one, is at least what the price proof shows
  pub halves : ProvesHalves n form s.tree e
  pub in_order : length s.tree.splits < most_splits → IsEntryInOrder n s e
