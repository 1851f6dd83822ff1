-- What a search for a number answers.
use Rattle.std.proofs.Common.{◌≡◌, ℕ, List, true, eqb, eqb-true}
use Rattle.std.specs.Prelude.{Contains}
use Rattle.std.specs.List.{IsAnyAnswer}

-- where it answers that the number is there, it is
pub found : (xs : List ℕ) (n : ℕ) → IsAnyAnswer (λ y b. eqb y n ≡ b) xs true → Contains xs n
found xs n h = (h.0, h.1, eqb-true _ _ (h.2 n))
