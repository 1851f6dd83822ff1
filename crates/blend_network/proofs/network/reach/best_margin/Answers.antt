use Rattle.std.proofs.Common.{FitsSigned, w64, sym, arith}
use Rattle.std.proofs.lemmas.Int.{ints, to_z-of_z}
use Rattle.blend_network.proofs.Margins.{difference-fits, margin_above}
use Rattle.blend_network.proofs.network.reach.best_margin.Goals as goal

pub overflow_sub-result : goal.overflow_sub-result
overflow_sub-result c =
    let k = c.requires.cost c.in-Some.cost c.in-Some.is in
    omega (arith, ints, difference-fits c.args.price c.in-Some.cost c.requires.price k, k.0, k.1)

pub returns-in-Some-clause-margin : goal.returns-in-Some-clause-margin
returns-in-Some-clause-margin c =
    let k = c.requires.cost c.in-Some.cost c.in-Some.is in
    let d = difference-fits c.args.price c.in-Some.cost c.requires.price k in
    let fc : FitsSigned w64 c.in-Some.cost = omega (arith, ints, k.0, k.1) in
    let fp : FitsSigned w64 c.args.price = omega (arith, ints, c.ranges.price.sfits) in
    rw c.in-Some.is (simp to_z-of_z (sym (margin_above c.in-Some.cost c.args.price (omega (arith, ints, c.if-cost-price.true)))))

pub returns-in-Some-clause-size : goal.returns-in-Some-clause-size
returns-in-Some-clause-size c =
    let k = c.requires.cost c.in-Some.cost c.in-Some.is in
    (omega (arith, ints, k.0, k.1, c.if-cost-price.true), omega (arith, ints, k.0, k.1, c.requires.price.1))
