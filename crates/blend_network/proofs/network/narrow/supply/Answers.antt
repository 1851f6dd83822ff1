use Rattle.std.proofs.Common.{arith}
use Rattle.std.proofs.lemmas.Int.{ints}
use Rattle.blend_network.proofs.network.narrow.supply.Goals as goal

pub overflow_cast-result : goal.overflow_cast-result
overflow_cast-result c =
    let k = c.requires c.in-Some.max c.in-Some.is in
    (omega (arith, ints, k.0, k.1), omega (arith, ints, k.0, k.1))
