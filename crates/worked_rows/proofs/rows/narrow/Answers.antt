use Rattle.std.proofs.Common.{ℤ, List, pos, ◌≤ℤ◌, get_or, length, arith, refl, ap, rules, FitsSigned}
use Rattle.std.proofs.lemmas.Int.{to_z-of_z, ints}
use mir.Syntax.{w64}
use Rattle.worked_rows.proofs.Narrowing.{narrowed}
use Rattle.worked_rows.proofs.rows.narrow.Goals as goal

pub returns : goal.returns
returns c = λ n h.
    let k = c.args.coord in
    let lows = c.args.b.now.low.items in
    let highs = c.args.b.now.high.items in
    let low : FitsSigned w64 c.args.low = search rules in
    let high : FitsSigned w64 c.args.high = search rules in
    let up : get_or lows k (pos 0) ≤ℤ c.args.low = omega (arith, ints, ap (λ (xs : List ℤ). get_or xs k (pos 0)) c.as_slice-lows.ensures.value) in
    let order : c.args.low ≤ℤ c.args.high = omega (arith, ints) in
    let down : c.args.high ≤ℤ get_or highs k (pos 0) = omega (arith, ints, ap (λ (xs : List ℤ). get_or xs k (pos 0)) c.as_slice-highs.ensures.value) in
    simp to_z-of_z (narrowed n c.args.b.now _ k c.args.low c.args.high (omega (arith, ap (length {A = ℤ}) c.as_slice-lows.ensures.value))
    (omega (arith, ap (length {A = ℤ}) c.as_slice-highs.ensures.value)) up order down refl refl h)
