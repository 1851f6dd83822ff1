-- What closes a piece, and the nodes that a closed piece makes.
use Rattle.std.proofs.Common.{◌≡◌, inl, inr, ℕ, ◌+◌, ◌<◌, IsTrue, Option, None, Some, unwrap_or, ℤ, pos, ◌-ℤ◌, ◌≤ℤ◌, ◌<ℤ◌, arith, refl, sym, subst}
use Rattle.std.proofs.lemmas.Int.{ints}
use Rattle.std.proofs.lemmas.List.Elements.{All-nil}
use Rattle.std.specs.Prelude.{IfNone}
use Rattle.integers.proofs.AtKey.{same_or_other}
use Rattle.box_tree.proofs.Improving.{some_at}
use Rattle.pool_model.specs.Network.{Net, IsLimited}
use Rattle.row_model.specs.Boxes.{Box, IsProper}
use Rattle.row_model.specs.Multipliers.{Part, Proof, Shown, bound, no_plan, IsInOrder, number, shown_by}
use Rattle.row_model.proofs.Agreement.{shown-same, proper-same}
use Rattle.box_space.specs.Views.{shown_box_ends, AreEndsOf}
use Rattle.box_space.specs.declared.boxes.BoxEnds.{BoxEnds}
use Rattle.box_space.specs.declared.coordinates.Form.{Form}
use Rattle.dual_rounding.specs.Answers.{IsBelow, IsAtMost}
use Rattle.dual_rounding.specs.Price.{price_proof}
use Rattle.dual_rounding.specs.Programs.{has_row}
use Rattle.dual_rounding.proofs.Priced.{priced-raised}
use Rattle.row_book.specs.Faults.{Holds}
use Rattle.row_book.specs.declared.fault.ProofFault.{ProofFault}
use Rattle.row_book.specs.declared.fault.ProofFault.TheVariants.{Order, UnknownRow, Sign, ZeroPart, Wide, ShowsNothing}
use Rattle.leaf_cuts.specs.Given.{IsGiven}
use Rattle.box_squeeze.specs.Pieces.{piece_of, HasPieces}
use Rattle.box_squeeze.specs.Squeezes.{empty, Reaches, NamesRowsOf, Closes, IsNode}
use Rattle.box_squeeze.specs.declared.closing.Closed.{Closed}
use Rattle.box_squeeze.specs.declared.piece.Side.{Side}
use Rattle.box_squeeze.specs.declared.piece.Side.TheVariants.{Left, Right}
use Rattle.box_squeeze.proofs.EmptyProofs.{empty-in_order}

-- ---- by ends that are held

module _ (n : Net) (b : Box) (e : BoxEnds) (limited : IsLimited n) (is : AreEndsOf n b e) (target : ℤ) (p : Proof) where
  pub reaches-of : Reaches n (shown_box_ends e) target p → Reaches n b target p
  reaches-of h = subst (λ (s : Shown). IsAtMost (bound target) s) (shown-same n (shown_box_ends e) b p limited is.agree) h

  pub reaches-held : Reaches n b target p → Reaches n (shown_box_ends e) target p
  reaches-held h = subst (λ (s : Shown). IsAtMost (bound target) s) (sym (shown-same n (shown_box_ends e) b p limited is.agree)) h

pub proper-of : (n : Net) (b : Box) (e : BoxEnds) → AreEndsOf n b e → IsProper n b
proper-of n b e is = proper-same n (shown_box_ends e) b is.agree is.proper.proper

-- a proof that is in order has no fault
pub no-fault : (n : Net) (b : Box) (p : Proof) (fault : ProofFault) → IsInOrder n b p → ¬ Holds n b p fault
no-fault n b p Order h bad = bad h.rising
no-fault n b p UnknownRow h bad = bad h.known
no-fault n b p Sign h bad = bad h.signed
no-fault n b p ZeroPart h bad = bad h.nonzero
no-fault n b p Wide h bad = absurd (omega (arith, h.narrow, bad))
no-fault n b p ShowsNothing h bad = absurd (not_both (number n b p) (h.shows bad.0) bad.1)
  where
    not_both : (z : ℤ) → pos 0 <ℤ z → z ≤ℤ pos 0 → ⊥
    not_both z h k = omega (arith, ints)

-- what is seen of a box, and of a target, by what they are
module _ (n : Net) (a seen : Box) (same : a ≡ seen) (p : Proof) (target t : ℤ) (is : t ≡ target) where
  pub seen-reaches : (s : Shown) → s ≡ shown_by n seen p → IsAtMost (bound t) s → Reaches n a target p
  seen-reaches s e h = subst (λ (b : Box). Reaches n b target p) (sym same)
      (subst (λ (z : ℤ). Reaches n seen z p) is (subst (λ (x : Shown). IsAtMost (bound t) x) e h))

  pub seen-back : (s : Shown) → s ≡ shown_by n seen p → Reaches n a target p → IsAtMost (bound t) s
  seen-back s e h = subst (λ (x : Shown). IsAtMost (bound t) x) (sym e)
      (subst (λ (z : ℤ). Reaches n seen z p) (sym is) (subst (λ (b : Box). Reaches n b target p) same h))

-- the empty proof shows a target of the piece of no coordinate below a number
abbrev pub NoneBelow : Net → Form → Box → ℤ → ℕ → Type 0
NoneBelow n form b target m = (side : Side) (c : ℕ) → c < m → HasPieces n form b c → ¬ Reaches n (piece_of b side c) target empty

-- the same of the pieces of one coordinate
abbrev pub NoneAt : Net → Form → Box → ℤ → ℕ → Type 0
NoneAt n form b target c = (side : Side) → HasPieces n form b c → ¬ Reaches n (piece_of b side c) target empty

pub none-at : (n : Net) (form : Form) (b : Box) (target : ℤ) (c : ℕ) (o : Option Closed) → ¬ Reaches n (piece_of b Left c) target empty
    → IfNone o (¬ Reaches n (piece_of b Right c) target empty) → IfNone o (NoneAt n form b target c)
none-at n form b target c (Some closed) left right = tt
none-at n form b target c None left right = sides
  where
    sides : (side : Side) → HasPieces n form b c → ¬ Reaches n (piece_of b side c) target empty
    sides Left has = left
    sides Right has = right

pub none-more : (n : Net) (form : Form) (b : Box) (target : ℤ) (m : ℕ) → NoneBelow n form b target m → NoneAt n form b target m → NoneBelow n form b target (m + 1)
none-more n form b target m below now side c lt has = elim (same_or_other c m) [
  | inl e ↦ now-at c e has
  | inr d ↦ below side c (omega (arith, lt, d)) has
]
  where
    now-at : (c : ℕ) → c ≡ m → HasPieces n form b c → ¬ Reaches n (piece_of b side c) target empty
    now-at c e = subst (λ (i : ℕ). HasPieces n form b i → ¬ Reaches n (piece_of b side i) target empty) (sym e) (now side)

-- ---- what closes a box

-- more than a pico below the target is at least the target
above-reaches : (target : ℤ) (s : Shown) → IsBelow (bound (target -ℤ pos 1)) s → IsAtMost (bound target) s
above-reaches target (bound z) h = next target z h
  where
    next : (a b : ℤ) → (a -ℤ pos 1) <ℤ b → a ≤ℤ b
    next a b h = omega (arith, ints)
above-reaches target no_plan h = tt

-- what is at most a pico below the target is at most what reaches it
below-reached : (target : ℤ) (s t : Shown) → IsAtMost s (bound (target -ℤ pos 1)) → IsAtMost (bound target) t → IsAtMost s t
below-reached target (bound a) (bound b) h k = before target a b h k
  where
    before : (t a b : ℤ) → a ≤ℤ (t -ℤ pos 1) → t ≤ℤ b → a ≤ℤ b
    before t a b h k = omega (arith, ints)
below-reached target (bound a) no_plan h k = tt
below-reached target no_plan t h k = absurd h

module _ (n : Net) (form : Form) (b : Box) (target : ℤ) where
  pub closes-given : (p : Proof) → IsGiven n form b (bound (target -ℤ pos 1)) (Some p) → Closes n form b target p
  closes-given p given = record {
    in_order = given.in_order p refl;
    reaches = above-reaches target (shown_by n b p) (given.above p refl);
    named = given.in_form p refl;
    price = given.price;
  }

  pub closes-empty : IsLimited n → IsProper n b → IsGiven n form b (bound (target -ℤ pos 1)) None → Reaches n b target empty → Closes n form b target empty
  closes-empty limited proper given reaches = record {
    in_order = empty-in_order n b limited proper;
    reaches = reaches;
    named = All-nil (λ (q : Part). IsTrue (has_row n form q.row));
    price = below-reached target (shown_by n b (price_proof n)) (shown_by n b empty) given.price reaches;
  }

-- ---- nodes

module _ (n : Net) (form : Form) (b : Box) where
  pub node-closes : (target : ℤ) (above : Option ℤ) (p : Proof) → Closes n form b target p → IsNode n form b above (Some p)
  node-closes target None p closes = record { named = some_at (NamesRowsOf n form) p closes.named; priced = tt }
  node-closes target (Some z) p closes = record { named = some_at (NamesRowsOf n form) p closes.named; priced = priced-raised n b z (Some p) closes.price }

  pub node-given : (target least : ℤ) (above : Option ℤ) (o : Option Proof) → least ≡ unwrap_or above target → IsGiven n form b (bound least) o → IsNode n form b above o
  node-given target least None o same given = record { named = given.in_form; priced = tt }
  node-given target least (Some z) o same given =
      let known : IsGiven n form b (bound z) o = subst (λ (y : ℤ). IsGiven n form b (bound y) o) same given in
      record { named = given.in_form; priced = priced-raised n b z o known.price }
