-- A limit that may be absent.
use Rattle.std.proofs.Common.{◌≡◌, Option, Some, None, ℕ, ℤ, refl}
use Rattle.std.specs.Option.{IfSome}
use Rattle.pool_model.specs.Network.{IsWithin}

pub within-some : (size : ℕ) (o : Option ℤ) → ((u : ℤ) → o ≡ Some u → IsWithin size u) → IfSome o (IsWithin size)
within-some size None h = tt
within-some size (Some u) h = h u refl
