-- Numbers of millionths, in decimals.
use Rattle.std.specs.Prelude.{ℕ, Bool, ◌-◌, ◌/◌, ◌%◌, ◌^◌, List, ◌++◌, length, replicate, codes, decimal, ℤ, pos, unsigned_abs, int_lt}
use Rattle.pool_model.specs.Quantity.{sign, fixed}

-- so many millionths, with their sign: a minus or nothing, whole units with no leading zero, a point and six digits
abbrev pub signed_text : Bool → ℕ → List ℕ
signed_text negative size = sign negative ++ (decimal (size / 10 ^ 6) ++ (codes "." ++ fixed 6 (size % 10 ^ 6)))

-- A number of millionths: the minus stands before a number below 0.
abbrev pub decimal_text : ℤ → List ℕ
decimal_text m = signed_text (int_lt m (pos 0)) (unsigned_abs m)

-- a text with so many spaces before it that it fills this many places, if it is shorter
abbrev pub right_in : ℕ → List ℕ → List ℕ
right_in places text = replicate (places - length text) 32 ++ text

-- a decimal, right in the 20 places of its column
abbrev pub column_text : ℤ → List ℕ
column_text m = right_in 20 (decimal_text m)
