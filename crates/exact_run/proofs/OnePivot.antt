-- A state has at most one column that leaves and one that enters.
use Rattle.std.proofs.Common.{◌≡◌, ℕ, ◌<◌, ◌⊎◌, inl, inr, ℤ, ◌≤ℤ◌, ◌<ℤ◌, arith}
use Rattle.integers.proofs.Ring.{additive}
use Rattle.exact_run.specs.Programs.{Program}
use Rattle.exact_run.specs.States.{State}
use Rattle.exact_run.specs.Steps.{Leaves, Enters}
use Rattle.exact_run.specs.declared.ends.End.{End}

one_of_three : (i j : ℕ) → (i < j) ⊎ ((j < i) ⊎ (i ≡ j))
one_of_three i j = grind arith

-- one ratio is not both at most another and above it
never_both : (a b : ℤ) → a ≤ℤ b → b <ℤ a → ⊥
never_both a b h k = omega (arith, additive)

pub one_leaving : (p : Program) (s : State) (r q : ℕ) (side other : End) (e z : ℤ) → Leaves p s r side e → Leaves p s q other z → s.basic r ≡ s.basic q
one_leaving p s r q side other e z h k = omega (arith, h.first q other z k.place k.past, k.first r side e h.place h.past)

pub one_entering : (p : Program) (s : State) (r : ℕ) (side : End) (j k : ℕ) → Enters p s r side j → Enters p s r side k → j ≡ k
one_entering p s r side j k h g = elim (one_of_three j k) [
  | inl lt ↦ absurd (never_both _ _ (h.least k g.candidate) (g.first j h.candidate lt))
  | inr rest ↦ elim rest [
    | inl lt ↦ absurd (never_both _ _ (g.least j h.candidate) (h.first k g.candidate lt))
    | inr e ↦ e
  ]
]
