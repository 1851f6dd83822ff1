-- What is known of a box while proofs are tried.
use Rattle.std.specs.Prelude.{◌≡◌, List, Option, None, Some, if◌then◌else◌}
use Rattle.pool_model.specs.Network.{Net}
use Rattle.row_model.specs.Boxes.{Box}
use Rattle.row_model.specs.Multipliers.{Proof, Shown}
use Rattle.row_book.specs.Views.{shown_value}
use Rattle.dual_rounding.specs.Answers.{IsRounded, known_by}
use Rattle.dual_rounding.specs.declared.rounding.Lead.{Lead}

-- the best proof so far, where there is one
abbrev pub best_of : Lead → Proof → Option Proof
best_of lead best = if lead.is_proved then Some best else None

-- the best proof is the answer over what was tried so far, and the value that is kept is what is known then
pub record Leads (n : Net) (b : Box) (tried : List Proof) (fallback : Shown) (lead : Lead) (best : Proof) : Type 0 where
  pub rounded : IsRounded n b tried fallback (best_of lead best)
  pub known : shown_value lead.shown ≡ known_by n b fallback (best_of lead best)
