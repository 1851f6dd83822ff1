-- How long a decimal is.
use Rattle.std.proofs.Common.{◌≡◌, ℕ, ◌+◌, ◌/◌, ◌%◌, ◌^◌, Bool, List, ◌++◌, length, length-append, codes, decimal, arith, refl, ap}
use Rattle.pool_model.specs.Quantity.{sign, fixed}
use Rattle.text_pieces.specs.Decimals.{signed_text}

length-six : (n : ℕ) → length (fixed 6 n) ≡ 6
unfolding fixed
length-six n = refl

-- the sign, the whole units, the point and six digits
pub length-signed : (negative : Bool) (size : ℕ) (before units : List ℕ) → before ≡ sign negative → units ≡ decimal (size / 10 ^ 6) →
    length before + length units + 7 ≡ length (signed_text negative size)
length-signed negative size before units e f =
    let s = sign negative in
    let u = decimal (size / 10 ^ 6) in
    let d = fixed 6 (size % 10 ^ 6) in
    omega (arith, ap length e, ap length f, length-append s (u ++ (codes "." ++ d)), length-append u (codes "." ++ d), length-append (codes ".") d, length-six (size % 10 ^ 6))
