-- What rounding gives for a box, above what is known of it.
use Rattle.std.specs.Prelude.{All, IsTrue, Option}
use Rattle.std.specs.Option.{ForSome}
use Rattle.pool_model.specs.Network.{Net}
use Rattle.row_model.specs.Boxes.{Box, Agree}
use Rattle.row_model.specs.Multipliers.{Proof, Shown, IsInOrder, shown_by}
use Rattle.box_space.specs.declared.coordinates.Form.{Form}
use Rattle.linear_program.specs.declared.lp.Lp.{Lp}
use Rattle.linear_program.specs.declared.advice.Advice.{Advice}
use Rattle.dual_rounding.specs.Programs.{IsProgramOf, has_row}
use Rattle.dual_rounding.specs.Price.{price_proof}
use Rattle.dual_rounding.specs.Tried.{tried}
use Rattle.dual_rounding.specs.Answers.{IsBelow, IsAtMost, IsRounded, known_by}

-- what rounding answers for some advice on the program of the form over a box with these ends
pub record IsRoundOf (n : Net) (form : Form) (b : Box) (fallback : Shown) (o : Option Proof) : Type 0 where
  pub seen : Box
  pub agree : Agree n seen b
  pub program : Lp
  pub is : IsProgramOf n form seen program
  pub advice : Advice
  pub rounded : IsRounded n seen (tried n program advice) fallback o

-- That, and what follows: a proof is in order in the box, shows more than was known, and names rows of the form alone; and with
-- it or without it at least what the price proof shows is known.
pub record IsGiven (n : Net) (form : Form) (b : Box) (fallback : Shown) (o : Option Proof) : Type 0 where
  pub round : IsRoundOf n form b fallback o
  pub in_order : ForSome o (IsInOrder n b)
  pub above : ForSome o (λ p. IsBelow fallback (shown_by n b p))
  pub in_form : ForSome o (λ p. All (λ q. IsTrue (has_row n form q.row)) p.parts)
  pub price : IsAtMost (shown_by n b (price_proof n)) (known_by n b fallback o)
