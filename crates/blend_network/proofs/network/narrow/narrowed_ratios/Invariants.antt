use Rattle.std.proofs.Common.{◌≡◌, map, take, unsigned_abs}
use Rattle.blend_network.proofs.network.narrow.narrowed_ratios.Given as goal

abbrev pub invariant-loop-ratio : goal.invariant-loop-ratio
invariant-loop-ratio l = l.narrowed.items ≡ map unsigned_abs (take l.ratio-index l.ratios)
