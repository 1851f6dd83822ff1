-- The most that an arc may carry, from its readers' numbers.
use Rattle.std.proofs.Common.{◌≡◌, ℕ, ℤ, Option, Some, None, pos, refl, ap, ◌∙◌}
use Rattle.std.specs.Prelude.{min, option_map, unsigned_abs}
use Rattle.pool_model.specs.Network.{capped}

unsigned-pos : (o : Option ℕ) → option_map unsigned_abs (option_map pos o) ≡ o
unsigned-pos None = refl
unsigned-pos (Some m) = refl

pub room-is : (m : Option ℕ) (a b : ℕ) (max : Option ℤ) (x y : ℤ) (least room : ℕ) → max ≡ option_map pos m → x ≡ pos a → y ≡ pos b
    → least ≡ min (unsigned_abs x) (unsigned_abs y) → room ≡ capped (option_map unsigned_abs max) least → room ≡ capped m (min a b)
room-is m a b max x y least room max_is left right least_is is =
    is
    ∙ ap (λ o. capped (option_map unsigned_abs o) least) max_is
    ∙ ap (λ o. capped o least) (unsigned-pos m)
    ∙ ap (λ z. capped m z) (least_is ∙ ap (λ z. min (unsigned_abs z) (unsigned_abs y)) left ∙ ap (λ z. min a (unsigned_abs z)) right)
