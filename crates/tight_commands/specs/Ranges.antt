-- How many parts and values marks carry.
use Rattle.std.specs.Prelude.{ℕ, ◌≤◌, length}
use Rattle.row_model.specs.Multipliers.{Proof}
use Rattle.tight_texts.specs.Texts.{Values, Reason, unended, wide, coarse, heavy_proof, heavy_point, Mark, tight, raised, empty, loose}

-- how many rows a network may have, and how many variables
abbrev pub most_rows : ℕ
most_rows = 13424

abbrev pub most_variables : ℕ
most_variables = 4096

-- a proof has at most so many parts
abbrev pub HasParts : ℕ → Proof → Type 0
HasParts most p = length p.parts ≤ most

-- a point has at most so many values
abbrev pub HasValues : ℕ → Values → Type 0
HasValues most q = length q.values ≤ most

-- the proof and the point of a reason have at most so many
abbrev pub IsReasonWithin : (parts values : ℕ) → Reason → Type 0
IsReasonWithin parts values (unended n) = Unit {0}
IsReasonWithin parts values (wide w) = Unit {0}
IsReasonWithin parts values (coarse n x) = Unit {0}
IsReasonWithin parts values (heavy_proof p) = HasParts parts p
IsReasonWithin parts values (heavy_point q) = HasValues values q

-- so have those of a mark
abbrev pub IsWithin : (parts values : ℕ) → Mark → Type 0
IsWithin parts values (tight q) = HasValues values q
IsWithin parts values (raised p q) = HasParts parts p × HasValues values q
IsWithin parts values (empty p) = HasParts parts p
IsWithin parts values (loose r) = IsReasonWithin parts values r
