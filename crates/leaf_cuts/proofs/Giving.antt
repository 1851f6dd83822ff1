-- What rounding answers of a view of ends, said of any box whose ends they are.
use Rattle.std.proofs.Common.{◌≡◌, All, IsTrue, Option, Some, None, option_map, Result, Ok, Err, IfOk, get_or, pos, sym, subst}
use Rattle.std.specs.Prelude.{IfSome}
use Rattle.std.proofs.lemmas.List.Elements.{All-map}
use Rattle.std.specs.Option.{ForSome}
use Rattle.std.proofs.lemmas.Option.{none-some}
use Rattle.box_tree.proofs.Improving.{some_at}
use Rattle.pool_model.specs.Network.{Net, IsLimited}
use Rattle.row_model.specs.Boxes.{Box, Agree}
use Rattle.row_model.specs.Multipliers.{Part, Proof, Shown, IsInOrder, shown_by}
use Rattle.row_model.proofs.Agreement.{in_order-same, shown-same}
use Rattle.box_space.specs.Views.{shown_box, shown_box_ends, shown_proof, shown_part, AreEndsOf}
use Rattle.linear_program.specs.declared.multipliers.Proof as held
use Rattle.edge_io.specs.declared.Memory.{Memory}
use Rattle.box_space.specs.declared.coordinates.Form.{Form}
use Rattle.box_space.specs.declared.boxes.BoxView.{BoxView}
use Rattle.box_space.specs.declared.boxes.BoxEnds.{BoxEnds}
use Rattle.linear_program.specs.declared.lp.Lp.{Lp}
use Rattle.linear_program.specs.declared.advice.Advice.{Advice}
use Rattle.dual_rounding.specs.Programs.{IsProgramOf, has_row}
use Rattle.dual_rounding.specs.Price.{price_proof}
use Rattle.dual_rounding.specs.Tried.{tried}
use Rattle.dual_rounding.specs.Answers.{IsBelow, IsAtMost, IsRounded, known_by}
use Rattle.leaf_cuts.specs.Given.{IsRoundOf, IsGiven}

-- a view of ends shows the same box
pub view-same : (v : BoxView) (e : BoxEnds) → v.low.now ≡ e.low.items → v.high.now ≡ e.high.items → shown_box_ends e ≡ shown_box v
view-same v e low high = λ i. record { low = λ c. get_or (sym low i) c (pos 0); high = λ c. get_or (sym high i) c (pos 0) }

module _ (n : Net) (form : Form) (seen b : Box) (program : Lp) (advice : Advice) (fallback : Shown) (limited : IsLimited n) (agree : Agree n seen b) (is : IsProgramOf n form seen program) where
  round : (o : Option Proof) → IsRounded n seen (tried n program advice) fallback o → IsRoundOf n form b fallback o
  round o h = record { seen = seen; agree = agree; program = program; is = is; advice = advice; rounded = h }

  pub given : (o : Option Proof) → IsRounded n seen (tried n program advice) fallback o
      → IsAtMost (shown_by n seen (price_proof n)) (known_by n seen fallback o)
      → ForSome o (λ p. All (λ q. IsTrue (has_row n form q.row)) p.parts)
      → IsGiven n form b fallback o
  given None h price named = record {
    round = round None h;
    in_order = λ p e. absurd (none-some p e);
    above = λ p e. absurd (none-some p e);
    in_form = named;
    price = subst (λ (s : Shown). IsAtMost s fallback) (shown-same n seen b (price_proof n) limited agree) price;
  }
  given (Some p) h price named = record {
    round = round (Some p) h;
    in_order = some_at (IsInOrder n b) p (in_order-same n seen b p limited agree h.in_order);
    above = some_at (λ (q : Proof). IsBelow fallback (shown_by n b q)) p (subst (λ (s : Shown). IsBelow fallback s) (shown-same n seen b p limited agree) h.above);
    in_form = named;
    price = subst (λ (s : Shown). IsAtMost s (shown_by n b p)) (shown-same n seen b (price_proof n) limited agree)
        (subst (λ (s : Shown). IsAtMost (shown_by n seen (price_proof n)) s) (shown-same n seen b p limited agree) price);
  }

-- what names rows of the form as it is held does so as it is shown
named-some : (n : Net) (form : Form) (o : Option held.Proof) → IfSome o (λ p. All (λ q. IsTrue (has_row n form q.row)) p.parts.items)
    → ForSome (option_map shown_proof o) (λ p. All (λ q. IsTrue (has_row n form q.row)) p.parts)
named-some n form None h = λ p e. absurd (none-some p e)
named-some n form (Some p) h = some_at (λ (q : Proof). All (λ r. IsTrue (has_row n form r.row)) q.parts) (shown_proof p)
    (All-map (λ (q : Part). IsTrue (has_row n form q.row)) shown_part p.parts.items h)

module _ (n : Net) (form : Form) (v : BoxView) (e : BoxEnds) (b : Box) (program : Lp) (advice : Advice) (fallback : Shown) (limited : IsLimited n)
    (low : v.low.now ≡ e.low.items) (high : v.high.now ≡ e.high.items) (is : IsProgramOf n form (shown_box_ends e) program) (ends : AreEndsOf n b e) where
  pub given-of : (r : Result (Option held.Proof) Memory)
      → IfOk r (λ o. IsRounded n (shown_box v) (tried n program advice) fallback (option_map shown_proof o))
      → IfOk r (λ o. IsAtMost (shown_by n (shown_box v) (price_proof n)) (known_by n (shown_box v) fallback (option_map shown_proof o)))
      → IfOk r (λ o. IfSome o (λ p. All (λ q. IsTrue (has_row n form q.row)) p.parts.items))
      → IfOk r (λ o. IsGiven n form b fallback (option_map shown_proof o))
  given-of (Ok o) rounded price named =
      let same = view-same v e low high in
      given n form (shown_box v) b program advice fallback limited (subst (λ (z : Box). Agree n z b) same ends.agree) (subst (λ (z : Box). IsProgramOf n form z program) same is)
      (option_map shown_proof o) rounded price (named-some n form o named)
  given-of (Err m) rounded price named = tt
