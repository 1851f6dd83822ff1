-- The steps of a run: a starting plan, a proof of the root, a repaired plan, or a cut of the least leaf.
use Rattle.std.specs.Prelude.{◌≡◌, ◌⊎◌, ◌<◌, ◌≤◌, ℕ, List, length, All, IsTrue, Option, Some, option_map, ℤ, ◌*◌, ◌-ℤ◌, ◌*ℤ◌, ◌<ℤ◌}
use Rattle.std.specs.Option.{ForSome}
use Rattle.pool_model.specs.Network.{Net}
use Rattle.pool_model.specs.Plan.{Written, plan_of, cost_of}
use Rattle.pool_model.specs.Starting.{IsCheapestStart}
use Rattle.row_model.specs.Boxes.{Box, root, left_of, right_of}
use Rattle.row_model.specs.Multipliers.{Proof, shown_by}
use Rattle.row_model.specs.Trees.{Split, box_of, raised, tree_bound, IsLeastLeaf}
use Rattle.row_model.specs.Entries.{Entry, root_proof, split_of, improve, Searched, IsEntryInOrder}
use Rattle.box_space.specs.declared.coordinates.Form.{Form}
use Rattle.box_tree.specs.Counts.{cuts_on}
use Rattle.branching.specs.declared.name.RuleName.{RuleName}
use Rattle.branching.specs.declared.name.RuleName.TheVariants.{First, Widest, Violated, Fewest}
use Rattle.dual_rounding.specs.Price.{IsPriced}
use Rattle.dual_rounding.specs.Programs.{has_row}
use Rattle.plan_repair.specs.Repairs.{IsGain}
use Rattle.search_core.specs.Cases.{IsBetterStart, IsCuttable, IsRootProof}
use Rattle.leaf_cuts.specs.Halvings.{middle_at}
use Rattle.search_core.specs.Next.{IsApart, IsRooted}
use Rattle.box_squeeze.specs.Squeezes.{CutsOff, HasNoEmpty}
use Rattle.raised_splits.specs.Raising.{IsBestEntry}
use Rattle.box_squeeze.specs.declared.piece.Side.{Side}
use Rattle.text_pieces.specs.Rounding.{rounded_up}
use Rattle.search_run.specs.Orders.{options_of}
use Rattle.search_run.specs.declared.orders.Orders.{Orders}

-- ---- where a leaf is cut

-- how far a box's ends are apart at a coordinate
abbrev pub width : Box → ℕ → ℤ
width b c = b.high c -ℤ b.low c

-- One coordinate is narrower than another: its width over that in the root box is less, multiplied out.
abbrev pub IsNarrowerAt : Net → Box → ℕ → ℕ → Type 0
IsNarrowerAt n b c d = (width b c *ℤ width (root n) d) <ℤ (width b d *ℤ width (root n) c)

-- of the coordinates at which the box can be cut the widest, the lowest at a tie
pub record IsWidest (n : Net) (form : Form) (b : Box) (c : ℕ) : Type 0 where
  pub widest : (d : ℕ) → IsCuttable n form b d → ¬ IsNarrowerAt n b c d
  pub first : (d : ℕ) → IsCuttable n form b d → d < c → IsNarrowerAt n b d c

-- of the coordinates at which the box can be cut one with the fewest splits on it, the lowest at a tie
pub record IsFewest (n : Net) (form : Form) (splits : List Split) (b : Box) (c : ℕ) : Type 0 where
  pub fewest : (d : ℕ) → IsCuttable n form b d → cuts_on splits c ≤ cuts_on splits d
  pub first : (d : ℕ) → IsCuttable n form b d → d < c → cuts_on splits c < cuts_on splits d

-- Of the coordinates at which the box can be cut the one of the rule, in the tree of these splits. Of the rule that goes by what a cut
-- gains nothing is said.
abbrev pub IsChosen : Net → Form → RuleName → List Split → Box → ℕ → Type 0
IsChosen n form First splits b c = (d : ℕ) → IsCuttable n form b d → c ≤ d
IsChosen n form Widest splits b c = IsWidest n form b c
IsChosen n form Violated splits b c = Unit {0}
IsChosen n form Fewest splits b c = IsFewest n form splits b c

-- ---- what a cut adds

-- each part of a proof is a multiplier on a row of the form
abbrev pub IsOfForm : Net → Form → Proof → Type 0
IsOfForm n form p = All (λ q. IsTrue (has_row n form q.row)) p.parts

-- A half of a leaf, with the leaf's bound, and its proof where it has one: the proof names rows of the form alone, and the half
-- holds no plan, or its bound is at least what the price proof shows of its box.
pub record IsHalf (n : Net) (form : Form) (b : Box) (bound : Option ℤ) (proof : Option Proof) : Type 0 where
  pub named : ForSome proof (IsOfForm n form)
  pub priced : IsPriced n b (raised bound (option_map (shown_by n b) proof))

-- A cut of the least leaf, while there are fewer splits than were asked for: at the coordinate of the rule, in the middle.
pub record IsCut (n : Net) (o : Orders) (s : Searched) (split : Split) (left right : Option Proof) : Type 0 where
  -- Promise: Each cut is of the leaf of the least bound, of lowest number at a tie, while there are fewer cuts than asked for; at a
  --   coordinate of the form whose ends are at least 2 apart; in the middle, rounded down
  pub few : length s.tree.splits < o.nodes
  -- Promise: Each cut is of the leaf of the least bound, of lowest number at a tie, while there are fewer cuts than asked for; at a
  --   coordinate of the form whose ends are at least 2 apart; in the middle, rounded down
  pub leaf : IsLeastLeaf n s.tree split.leaf
  -- Promise: Each cut is of the leaf of the least bound, of lowest number at a tie, while there are fewer cuts than asked for; at a
  --   coordinate of the form whose ends are at least 2 apart; in the middle, rounded down
  pub cuttable : IsCuttable n o.form (box_of n s.tree.splits split.leaf) split.coord
  -- Promise: Under `--rule first` a cut is at the lowest coordinate whose ends are at least 2 apart, under `--rule widest` the widest by
  --   its width in the root box, under `--rule fewest` one with the fewest splits on it in the tree of the splits before it, the lowest at
  --   a tie; under `--rule violated` nothing is said
  pub chosen : IsChosen n o.form o.rule s.tree.splits (box_of n s.tree.splits split.leaf) split.coord
  -- Promise: Each cut is of the leaf of the least bound, of lowest number at a tie, while there are fewer cuts than asked for; at a
  --   coordinate of the form whose ends are at least 2 apart; in the middle, rounded down
  pub middle : split.cut ≡ middle_at (box_of n s.tree.splits split.leaf) split.coord
  pub left_half : IsHalf n o.form (left_of (box_of n s.tree.splits split.leaf) split.coord split.cut) (tree_bound n s.tree) left
  pub right_half : IsHalf n o.form (right_of (box_of n s.tree.splits split.leaf) split.coord split.cut) (tree_bound n s.tree) right

-- ---- what a squeeze adds

-- what a plan has to cost less than to matter: the cost of this one, rounded up to whole picos, less the asked gap
abbrev pub target_of : Net → ℤ → Written → ℤ
target_of n gap w = rounded_up (cost_of n (plan_of n w)) (w.flow_base * w.base) -ℤ gap

-- A squeeze of the least leaf, while there are fewer splits than were asked for: it cuts off an outer quarter of a coordinate, whose node holds
-- no plan, or has a bound that is no less than the best plan's target. The other node is kept.
pub record IsSqueezed (n : Net) (o : Orders) (s : Searched) (split : Split) (left right : Option Proof) : Type 0 where
  -- Promise: With `--squeeze off` each split is a cut in the middle; with `--squeeze on` it is that, or cuts a piece off the least leaf
  pub asked : IsTrue o.squeeze
  pub few : length s.tree.splits < o.nodes
  pub leaf : IsLeastLeaf n s.tree split.leaf
  pub plan : Written
  pub best : s.best ≡ Some plan
  pub side : Side
  -- Promise: A split that cuts a piece off the least leaf cuts off an outer quarter of a coordinate of the form whose ends are at least 4 apart,
  --   and the piece holds no plan, or has a bound of at least the best plan's cost, rounded up, less the asked gap
  pub cuts_off : CutsOff n o.form (box_of n s.tree.splits split.leaf) (target_of n o.gap plan) side split left right
  pub left_half : IsHalf n o.form (left_of (box_of n s.tree.splits split.leaf) split.coord split.cut) (tree_bound n s.tree) left
  pub right_half : IsHalf n o.form (right_of (box_of n s.tree.splits split.leaf) split.coord split.cut) (tree_bound n s.tree) right

-- Where squeezes are asked for, no squeeze of the leaf is owed: of each of its pieces the empty proof shows less than the target of the
-- cheapest starting plan that obeys.
-- Promise: With `--squeeze on` no leaf is cut in the middle where the empty proof of one of its pieces shows the target of the cheapest
--   starting plan that obeys
abbrev pub OwesNone : Net → Orders → Searched → ℕ → Type 0
OwesNone n o s leaf = IsTrue o.squeeze → (w : Written) → IsCheapestStart n w → HasNoEmpty n o.form (box_of n s.tree.splits leaf) (target_of n o.gap w)

-- a split is of one of two kinds: a cut in the middle where no squeeze is owed, or a squeeze
abbrev pub IsSplit : Net → Orders → Searched → Split → Option Proof → Option Proof → Type 0
IsSplit n o s split left right = (IsCut n o s split left right × OwesNone n o s split.leaf) ⊎ IsSqueezed n o s split left right

-- ---- steps

-- The entry is due: the cheapest starting plan, while it is better; then a proof of the root; then a plan that obeys and is cheaper than
-- the best one, of whose making nothing is said; then a split.
abbrev pub IsDue : Net → Orders → Searched → Entry → Type 0
IsDue n o s (improve plan) = IsBetterStart n s plan ⊎ (IsRooted n (options_of o) s × IsGain n s.best plan)
IsDue n o s (root_proof proof) = IsApart n (options_of o) s × IsRootProof n o.form s proof
IsDue n o s (split_of split left right) = IsRooted n (options_of o) s × IsSplit n o s split left right

-- A step: an entry that is in order and due. Where halves are raised, so much is known of both halves of a split: it holds no plan, or its
-- bound is the best that the rows of the form allow in its box, or the exact run of the box gives a reason.
pub record IsStep (n : Net) (o : Orders) (s : Searched) (e : Entry) : Type 0 where
  pub in_order : IsEntryInOrder n s e
  pub due : IsDue n o s e
  pub best : IsBestEntry n o.form o.raise s.tree e
