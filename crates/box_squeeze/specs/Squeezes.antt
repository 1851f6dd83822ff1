-- A leaf that is squeezed: a piece is cut off in which no plan costs less than a target.
use Rattle.std.specs.Prelude.{◌≡◌, ℕ, [], All, length, IsTrue, Option, option_map, IsSomeAnd, ℤ}
use Rattle.std.specs.Option.{ForSome}
use Rattle.pool_model.specs.Network.{Net}
use Rattle.row_model.specs.Boxes.{Box, left_of, right_of}
use Rattle.row_model.specs.Multipliers.{Proof, IsInOrder, bound, shown_by}
use Rattle.row_model.specs.Trees.{Split, box_of, node_bound, raised, left_node, right_node}
use Rattle.row_model.specs.Entries.{Entry, root_proof, split_of, improve, Searched, IsEntryInOrder}
use Rattle.box_space.specs.Views.{AreEndsOf, shown_proof}
use Rattle.box_space.specs.declared.coordinates.Form.{Form}
use Rattle.dual_rounding.specs.Answers.{IsAtMost}
use Rattle.dual_rounding.specs.Price.{price_proof, IsPriced}
use Rattle.dual_rounding.specs.Programs.{has_row}
use Rattle.box_squeeze.specs.Pieces.{cut_at, part_of, piece_of, kept_of, HasPieces}
use Rattle.box_squeeze.specs.declared.piece.Side.{Side}
use Rattle.box_squeeze.specs.declared.piece.Side.TheVariants.{Left, Right}
use Rattle.box_tree.specs.Views.{shown_entry}
use Rattle.box_squeeze.specs.declared.closing.Closed.{Closed}
use Rattle.box_squeeze.specs.declared.squeezing.Squeezed.{Squeezed}

-- ---- proofs of pieces

-- the proof of scale 1 without parts: each variable at the end where it costs least
abbrev pub empty : Proof
empty = record { scale = 1; parts = [] }

-- a proof shows at least a target of a box: that it holds no plan, or a bound that is no less
abbrev pub Reaches : Net → Box → ℤ → Proof → Type 0
Reaches n b target p = IsAtMost (bound target) (shown_by n b p)

-- the empty proof shows less than a target of each piece
abbrev pub HasNoEmpty : Net → Form → Box → ℤ → Type 0
HasNoEmpty n form b target = (side : Side) (c : ℕ) → HasPieces n form b c → ¬ Reaches n (piece_of b side c) target empty

-- each part of a proof is a multiplier on a row of the form
abbrev pub NamesRowsOf : Net → Form → Proof → Type 0
NamesRowsOf n form p = All (λ q. IsTrue (has_row n form q.row)) p.parts

-- A proof closes a box: it shows the target of it, names rows of the form alone, and shows no less than the price proof.
pub record Closes (n : Net) (form : Form) (b : Box) (target : ℤ) (p : Proof) : Type 0 where
  pub in_order : IsInOrder n b p
  pub reaches : Reaches n b target p
  pub named : NamesRowsOf n form p
  pub price : IsAtMost (shown_by n b (price_proof n)) (shown_by n b p)

-- a piece of a box with a proof that closes it, and the ends of what is kept
pub record IsClosed (n : Net) (form : Form) (b : Box) (target : ℤ) (closed : Closed) : Type 0 where
  pub pieces : HasPieces n form b closed.coord
  pub cut : closed.cut ≡ cut_at b closed.side closed.coord
  pub closes : Closes n form (piece_of b closed.side closed.coord) target (shown_proof closed.proof)
  pub kept : AreEndsOf n (kept_of b closed.side closed.coord) closed.kept

-- ---- entries

-- of two things that of a side
abbrev pub on : {X : Type 0} → Side → X → X → X
on Left a b = a
on Right a b = b

-- the node that is kept when a piece of a side is cut off by the split of a number
abbrev pub kept_node : Side → ℕ → ℕ
kept_node Left t = right_node t
kept_node Right t = left_node t

-- A node with a proof, below one of this bound: the proof names rows of the form alone, and the node holds no plan, or its bound is at
-- least what the price proof shows of its box.
pub record IsNode (n : Net) (form : Form) (b : Box) (above : Option ℤ) (proof : Option Proof) : Type 0 where
  pub named : ForSome proof (NamesRowsOf n form)
  pub priced : IsPriced n b (raised above (option_map (shown_by n b) proof))

-- A split of a box cuts off the piece of a side: the proof of the piece shows at least the target.
pub record CutsOff (n : Net) (form : Form) (b : Box) (target : ℤ) (side : Side) (split : Split) (left right : Option Proof) : Type 0 where
  pub pieces : HasPieces n form b split.coord
  pub cut : split.cut ≡ cut_at b side split.coord
  pub closed : IsSomeAnd (on side left right) (Reaches n (part_of b side split.coord split.cut) target)

-- A split of a leaf cuts off a piece, and keeps the other node.
pub record IsSqueeze (n : Net) (form : Form) (s : Searched) (node : ℕ) (target : ℤ) (split : Split) (left right : Option Proof) (number : ℕ) : Type 0 where
  pub leaf : split.leaf ≡ node
  pub side : Side
  pub cuts_off : CutsOff n form (box_of n s.tree.splits node) target side split left right
  pub left_half : IsNode n form (left_of (box_of n s.tree.splits node) split.coord split.cut) (node_bound n s.tree node) left
  pub right_half : IsNode n form (right_of (box_of n s.tree.splits node) split.coord split.cut) (node_bound n s.tree node) right
  pub kept : number ≡ kept_node side (length s.tree.splits)

-- an entry is such a split
abbrev pub IsSqueezeOf : Net → Form → Searched → ℕ → ℤ → Entry → ℕ → Type 0
IsSqueezeOf n form s leaf target (split_of split left right) kept = IsSqueeze n form s leaf target split left right kept
IsSqueezeOf n form s leaf target (root_proof proof) kept = ⊥
IsSqueezeOf n form s leaf target (improve plan) kept = ⊥

-- such a split is in order
abbrev pub IsOrderedSqueeze : Net → Form → Searched → ℕ → ℤ → Squeezed → Type 0
IsOrderedSqueeze n form s leaf target q = IsSqueezeOf n form s leaf target (shown_entry q.entry) q.kept × IsEntryInOrder n s (shown_entry q.entry)
