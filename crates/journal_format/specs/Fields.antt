-- Numbers as the fields of a journal: the most significant byte first.
use Rattle.std.specs.Prelude.{ℕ, List, length, drop, Option, Some, None, nat_lt, if◌then◌else◌, ℤ, option_map}
use Rattle.std.specs.Int.{w64, cast_signed, cast_unsigned}
use Rattle.byteorder.specs.Endian.{big_bytes, big_number}

-- a number as a field of so many bytes
unfoldable pub field : ℕ → ℕ → List ℕ
field bytes x = big_bytes bytes x

-- a signed number as a field of eight bytes, in two's complement
abbrev pub signed_field : ℤ → List ℕ
signed_field z = field 8 (cast_unsigned w64 z)

-- the number in a field of so many bytes, and the bytes behind it; None where there are fewer
unfoldable pub number_at : ℕ → List ℕ → Option (ℕ × List ℕ)
number_at n bytes = if nat_lt (length bytes) n then None else Some (big_number n bytes, drop n bytes)

-- the signed number in a field of eight bytes, and the bytes behind it
unfoldable pub signed_at : List ℕ → Option (ℤ × List ℕ)
signed_at bytes = option_map (λ x. (cast_signed w64 x.0, x.1)) (number_at 8 bytes)
