-- Names that have no limit, and names of which nothing is removed.
use Rattle.std.proofs.Common.{◌≡◌, ℕ, pos, zero, suc, ◌<◌, List, [], ◌∷◌, ◌++◌, length, take, None, refl, ap, arith, Bor}
use Rattle.json_walk.specs.Walk.{texts}
use Rattle.network_json.specs.Format.{no_limits, untreated}

-- one more name has no limit
pub no_limits-more : (names : List (Bor (List ℕ))) (i : ℕ) → i < length names → no_limits (texts (take i names)) ++ None ∷ [] ≡ no_limits (texts (take (suc i) names))
unfolding no_limits
no_limits-more [] i lt = absurd (omega arith)
no_limits-more (n ∷ ns) zero lt = refl
no_limits-more (n ∷ ns) (suc i) lt = ap (λ os. None ∷ os) (no_limits-more ns i (omega arith))

-- of one more name nothing is removed
pub untreated-more : (names : List (Bor (List ℕ))) (i : ℕ) → i < length names → untreated (texts (take i names)) ++ pos 1000 ∷ [] ≡ untreated (texts (take (suc i) names))
unfolding untreated
untreated-more [] i lt = absurd (omega arith)
untreated-more (n ∷ ns) zero lt = refl
untreated-more (n ∷ ns) (suc i) lt = ap (λ rs. pos 1000 ∷ rs) (untreated-more ns i (omega arith))
