use Rattle.std.proofs.Common.{◌<◌, ◌^◌, length, arith}
use Rattle.std.specs.Char.{is_ascii_digit}
use Rattle.std.proofs.lemmas.List.Sums.{prefix_len-le-length}
use Rattle.quantity.proofs.Digits.{prefix_are_digits, fits_in}
use Rattle.quantity.proofs.read.unsigned.Goals as goal

pub split_at-requires : goal.split_at-requires
split_at-requires c = omega (arith, c.digits_at_front-len.ensures, prefix_len-le-length is_ascii_digit c.args.text.now)

pub number_of-requires-clause-digits : goal.number_of-requires-clause-digits
number_of-requires-clause-digits c = prefix_are_digits c.args.text.now _ c.digits_at_front-len.result c.digits_at_front-len.ensures c.split_at.ensures.front

pub returns-in-Some-clause-below : goal.returns-in-Some-clause-below
returns-in-Some-clause-below c =
    let few : c.number_of.result < 10 ^ 15 = fits_in c.number_of.result (length c.split_at.result.0.now) 15
    (omega (arith, c.number_of.ensures.value, c.number_of.ensures.below))
    (omega (arith, c.split_at.ensures.front_len)) in
    omega (arith, few, c.from.ensures, c.from-in-Some.ensures, c.in-Some.ensures.below)
