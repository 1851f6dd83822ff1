-- The proofs that are tried: the price proof, and the advice at four scales.
use Rattle.std.specs.Prelude.{ℕ, ◌^◌, List, [], ◌∷◌, map, Bool, ◌&&◌, ◌||◌, if◌then◌else◌, ℤ, pos, neg_ℤ, ◌*ℤ◌, int_le, int_lt}
use Rattle.std.specs.List.{zip}
use Rattle.std.specs.Int.{int_div_euclid}
use Rattle.pool_model.specs.Network.{Net}
use Rattle.row_model.specs.Multipliers.{Part, Proof}
use Rattle.linear_program.specs.declared.lp.Lp.{Lp}
use Rattle.linear_program.specs.declared.lp.LpRow.{LpRow}
use Rattle.linear_program.specs.declared.advice.Advice.{Advice}
use Rattle.dual_rounding.specs.Price.{nonzero, price_proof}

-- a dual, which counts parts of 2^32, times a scale, rounded down
abbrev pub scaled : ℕ → ℤ → ℤ
scaled scale dual = int_div_euclid (dual *ℤ pos scale) (pos (2 ^ 32))

-- a number that fits 64 bits, and 0 in place of any other
abbrev pub narrowed : ℤ → ℤ
narrowed z = if int_le (neg_ℤ (pos (2 ^ 63))) z && int_lt z (pos (2 ^ 63)) then z else pos 0

-- a multiplier that may stand on a row: on one that is at least 0, 0 in place of one below 0
abbrev pub signed : Bool → ℤ → ℤ
signed is_equal mult = if is_equal || int_le (pos 0) mult then mult else pos 0

-- the multiplier of a row from its dual
abbrev pub multiplier : ℕ → Bool → ℤ → ℤ
multiplier scale is_equal dual = signed is_equal (narrowed (scaled scale dual))

abbrev pub advised_part : ℕ → LpRow × ℤ → Part
advised_part scale pair = record { row = pair.0.id; mult = multiplier scale pair.0.equal pair.1 }

-- The proof of an advice at a scale: a part for each row and its dual, but for those of multiplier 0. A ray is to show that
-- there is no plan: its scale is 0.
abbrev pub advised_proof : Lp → Advice → ℕ → Proof
advised_proof lp advice scale = record {
  scale = if advice.ray then 0 else scale;
  parts = nonzero (map (advised_part scale) (zip lp.rows.items advice.duals.items));
}

-- in the order in which they are tried
abbrev pub tried : Net → Lp → Advice → List Proof
tried n lp advice =
    price_proof n
    ∷ advised_proof lp advice 1
    ∷ advised_proof lp advice (2 ^ 10)
    ∷ advised_proof lp advice (2 ^ 20)
    ∷ advised_proof lp advice (2 ^ 30)
    ∷ []
