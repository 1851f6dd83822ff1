use Rattle.std.proofs.Common.{◌≡◌, take}
use Rattle.blend_network.proofs.network.narrow.narrowed_limits.Given as goal

abbrev pub invariant-loop-limit : goal.invariant-loop-limit
invariant-loop-limit l = l.narrowed.items ≡ take l.limit-index l.limits
