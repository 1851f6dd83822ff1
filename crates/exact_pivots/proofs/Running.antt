-- Ends of the run.
use Rattle.std.proofs.Common.{◌≡◌, ℕ, suc, ◌+◌, arith, subst}
use Rattle.exact_run.specs.Programs.{Program}
use Rattle.exact_run.specs.States.{State}
use Rattle.exact_run.specs.Steps.{Leaves}
use Rattle.exact_run.specs.Runs.{Reaches}
use Rattle.exact_pivots.specs.Choices.{StepsTo, HasSome}
use Rattle.exact_pivots.specs.Runs.{IsEnd}
use Rattle.exact_pivots.specs.declared.pivots.Leaving.{Leaving}
use Rattle.exact_pivots.specs.declared.run.Run.TheVariants.{Pivots}

pub reaches_more : (p : Program) (n : ℕ) (s after : State) → Reaches p n s → StepsTo p s after → Reaches p (n + 1) after
reaches_more p n s after h g = subst (λ (m : ℕ). Reaches p m after) (one_more n) (s, g.0, h, g.1, g.2)
  where
    one_more : (n : ℕ) → suc n ≡ n + 1
    one_more n = omega arith

pub ends_pivots : (p : Program) (pivots n : ℕ) (s : State) (l : Leaving) → n ≡ pivots → Reaches p n s → Leaves p s l.place l.side l.end → HasSome p s l → IsEnd p pivots Pivots
ends_pivots p pivots n s l e h leaves some = (s, subst (λ (m : ℕ). Reaches p m s) e h, l, leaves, some)
