-- A digit is its own byte.
use Rattle.std.proofs.Common.{◌≡◌, ℕ, ◌<◌, [], ◌∷◌, arith}
use Rattle.std.specs.Prelude.{encode_utf8}
use Rattle.std.proofs.lemmas.Grind.{common_steps}

pub encoded : (n : ℕ) → n < 128 → encode_utf8 n ≡ n ∷ []
encoded n lt = grind (arith, common_steps)
