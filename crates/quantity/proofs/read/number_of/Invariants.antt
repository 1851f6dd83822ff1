use Rattle.std.proofs.Common.{◌≡◌, ◌<◌, ◌^◌, take}
use Rattle.pool_model.specs.Quantity.{number}
use Rattle.quantity.proofs.read.number_of.Given as goal

abbrev pub invariant-loop-d : goal.invariant-loop-d
invariant-loop-d l = (l.n ≡ (number (take l.d-index l.digits))) × (number (take l.d-index l.digits) < 10 ^ l.d-index)
