-- How a torn write lands.
use Rattle.std.proofs.Common.{◌≡◌, ℕ, ◌≤◌, List, length, sym, subst}
use Rattle.disk_calls.specs.Disks.{written, Torn}
use Rattle.disk_model.specs.Images.{torn-written}

-- no more bytes than were to be written
pub torn-piece : (at n : ℕ) (file piece next : List ℕ) → length piece ≤ n → next ≡ written file at piece → Torn at n file next
torn-piece at n file piece next le e = subst (λ (w : List ℕ). Torn at n file w) (sym e) (torn-written at n file piece le)
