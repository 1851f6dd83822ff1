-- How large numbers are.
use Rattle.std.specs.Prelude.{ℕ, ◌≤◌, List, get_or, EachIndex}

-- no number of the list is above another
abbrev pub AreAtMost : ℕ → List ℕ → Type 0
AreAtMost most xs = EachIndex xs (λ i. get_or xs i 0 ≤ most)
