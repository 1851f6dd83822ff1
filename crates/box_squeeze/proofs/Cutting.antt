-- The split that cuts a closed piece off a leaf is in order, and squeezes the leaf.
use Rattle.std.proofs.Common.{◌≡◌, ℕ, ◌<◌, length, Option, Some, unwrap_or, ℤ, ◌<ℤ◌, refl, sym, ap, subst, ◌∙◌}
use Rattle.std.specs.Option.{ForSome}
use Rattle.box_tree.proofs.Improving.{some_at}
use Rattle.pool_model.specs.Network.{Net}
use Rattle.row_model.specs.Boxes.{Box, left_of, right_of}
use Rattle.row_model.specs.Multipliers.{Proof, bound, IsInOrder}
use Rattle.row_model.specs.Trees.{Split, box_of, node_bound, most_splits, IsLeaf}
use Rattle.row_model.specs.Entries.{Entry, split_of, Searched, IsSplitEntryInOrder, IsEntryInOrder}
use Rattle.box_space.specs.Views.{shown_proof}
use Rattle.box_space.specs.declared.coordinates.Form.{Form}
use Rattle.leaf_cuts.specs.Given.{IsGiven}
use Rattle.box_squeeze.specs.Pieces.{cut_at, piece_of, kept_of, HasPieces}
use Rattle.box_squeeze.specs.Squeezes.{on, kept_node, Reaches, Closes, IsClosed, IsNode, IsSqueeze, IsSqueezeOf}
use Rattle.box_squeeze.specs.declared.closing.Closed.{Closed}
use Rattle.box_squeeze.specs.declared.piece.Side.{Side}
use Rattle.box_squeeze.specs.declared.piece.Side.TheVariants.{Left, Right}
use Rattle.box_squeeze.proofs.PieceEnds.{cut-above, cut-below}
use Rattle.box_squeeze.proofs.Closings.{node-closes, node-given}

module _ (n : Net) (form : Form) (s : Searched) (leaf coord : ℕ) (cut target : ℤ) (p : Proof) (o : Option Proof) (pieces : HasPieces n form (box_of n s.tree.splits leaf) coord) where
  abbrev b : Box
  b = box_of n s.tree.splits leaf

  abbrev above : Option ℤ
  above = node_bound n s.tree leaf

  pub squeeze-of : (side : Side) (kept : ℕ) → cut ≡ cut_at b side coord → kept ≡ kept_node side (length s.tree.splits) → Closes n form (piece_of b side coord) target p
      → IsNode n form (kept_of b side coord) above o
      → IsSqueeze n form s leaf target record { leaf = leaf; coord = coord; cut = cut } (on side (Some p) o) (on side o (Some p)) kept
  squeeze-of Left kept at number closes other = record {
    leaf = refl;
    side = Left;
    cuts_off = record {
      pieces = pieces;
      cut = at;
      closed = subst (λ (z : ℤ). Reaches n (left_of b coord z) target p) (sym at) closes.reaches;
    };
    left_half = subst (λ (z : ℤ). IsNode n form (left_of b coord z) above (Some p)) (sym at) (node-closes n form (left_of b coord (cut_at b Left coord)) target above p closes);
    right_half = subst (λ (z : ℤ). IsNode n form (right_of b coord z) above o) (sym at) other;
    kept = number;
  }
  squeeze-of Right kept at number closes other = record {
    leaf = refl;
    side = Right;
    cuts_off = record {
      pieces = pieces;
      cut = at;
      closed = subst (λ (z : ℤ). Reaches n (right_of b coord z) target p) (sym at) closes.reaches;
    };
    left_half = subst (λ (z : ℤ). IsNode n form (left_of b coord z) above o) (sym at) other;
    right_half = subst (λ (z : ℤ). IsNode n form (right_of b coord z) above (Some p)) (sym at) (node-closes n form (right_of b coord (cut_at b Right coord)) target above p closes);
    kept = number;
  }

  module _ (is : IsLeaf s.tree.splits leaf) (few : length s.tree.splits < most_splits) where
    pub squeeze-order : (side : Side) → cut ≡ cut_at b side coord → IsInOrder n (piece_of b side coord) p → ForSome o (IsInOrder n (kept_of b side coord))
        → IsSplitEntryInOrder n s record { leaf = leaf; coord = coord; cut = cut } (on side (Some p) o) (on side o (Some p))
    squeeze-order Left at order others = record {
      cuts = record {
        leaf = is;
        coord = pieces.known;
        low = subst (λ (z : ℤ). b.low coord <ℤ z) (sym at) (cut-above b Left coord pieces.wide);
        high = subst (λ (z : ℤ). z <ℤ b.high coord) (sym at) (cut-below b Left coord pieces.wide);
      };
      few = few;
      left_proof = some_at (IsInOrder n (left_of b coord cut)) p (subst (λ (z : ℤ). IsInOrder n (left_of b coord z) p) (sym at) order);
      right_proof = subst (λ (z : ℤ). ForSome o (IsInOrder n (right_of b coord z))) (sym at) others;
    }
    squeeze-order Right at order others = record {
      cuts = record {
        leaf = is;
        coord = pieces.known;
        low = subst (λ (z : ℤ). b.low coord <ℤ z) (sym at) (cut-above b Right coord pieces.wide);
        high = subst (λ (z : ℤ). z <ℤ b.high coord) (sym at) (cut-below b Right coord pieces.wide);
      };
      few = few;
      left_proof = subst (λ (z : ℤ). ForSome o (IsInOrder n (left_of b coord z))) (sym at) others;
      right_proof = some_at (IsInOrder n (right_of b coord cut)) p (subst (λ (z : ℤ). IsInOrder n (right_of b coord z) p) (sym at) order);
    }

-- ---- entries

pub entry-of : (n : Net) (form : Form) (s : Searched) (leaf kept : ℕ) (target : ℤ) (e : Entry) (split : Split) (left right : Option Proof) → e ≡ split_of split left right
    → IsSqueeze n form s leaf target split left right kept → IsSqueezeOf n form s leaf target e kept
entry-of n form s leaf kept target e split left right same is = subst (λ (x : Entry). IsSqueezeOf n form s leaf target x kept) (sym same) is

pub order-of : (n : Net) (s : Searched) (e : Entry) (split : Split) (left right : Option Proof) → e ≡ split_of split left right → IsSplitEntryInOrder n s split left right → IsEntryInOrder n s e
order-of n s e split left right same is = subst (λ (x : Entry). IsEntryInOrder n s x) (sym same) is

-- ---- what is closed, and what is kept

module _ (n : Net) (form : Form) (s : Searched) (leaf number : ℕ) (target least : ℤ) (closed : Closed) (o : Option Proof) (e : Entry) (is : IsClosed n form (box_of n s.tree.splits leaf) target closed)
    (entry : e ≡ split_of record { leaf = leaf; coord = closed.coord; cut = closed.cut } (on closed.side (Some (shown_proof closed.proof)) o) (on closed.side o (Some (shown_proof closed.proof))))
    (given : IsGiven n form (kept_of (box_of n s.tree.splits leaf) closed.side closed.coord) (bound least) o) where
  pub squeezed-entry : (count : ℕ) (known : Option ℤ) (fallback : ℤ) → number ≡ kept_node closed.side count → count ≡ length s.tree.splits → least ≡ unwrap_or known fallback
      → known ≡ node_bound n s.tree leaf → IsSqueezeOf n form s leaf target e number
  squeezed-entry count known fallback at same is_least is_known =
      let kept = kept_of (box_of n s.tree.splits leaf) closed.side closed.coord in
      entry-of n form s leaf number target e _ _ _ entry
      (squeeze-of n form s leaf closed.coord closed.cut target (shown_proof closed.proof) o is.pieces closed.side number is.cut (at ∙ ap (kept_node closed.side) same) is.closes
      (node-given n form kept fallback least (node_bound n s.tree leaf) o (subst (λ (x : Option ℤ). least ≡ unwrap_or x fallback) is_known is_least) given))

  pub ordered-entry : IsLeaf s.tree.splits leaf → length s.tree.splits < most_splits → IsEntryInOrder n s e
  ordered-entry there few =
      order-of n s e _ _ _ entry
      (squeeze-order n form s leaf closed.coord closed.cut target (shown_proof closed.proof) o is.pieces there few closed.side is.cut is.closes.in_order given.in_order)
