use Rattle.std.proofs.Common.{◌^◌, ◌*◌, arith}
use Rattle.std.proofs.lemmas.Int.{ints, to_z-of_z}
use Rattle.blend_network.proofs.Margins.{product-up_to}
use Rattle.blend_network.proofs.network.reach.earnings.Goals as goal

pub returns-clause-size : goal.returns-clause-size
returns-clause-size c =
    let p = product-up_to (10 ^ 12) (4 * 10 ^ 12) c.args.flow c.args.margin c.requires.flow c.requires.margin in
    (grind (arith, ints, to_z-of_z, p.0, p.1), grind (arith, ints, to_z-of_z, p.0, p.1))
