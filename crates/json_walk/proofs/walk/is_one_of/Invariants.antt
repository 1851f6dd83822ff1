use Rattle.std.proofs.Common.{◌≡◌, false, take}
use Rattle.json_walk.specs.Walk.{is_among, texts}
use Rattle.json_walk.proofs.walk.is_one_of.Given as goal

abbrev pub invariant-loop-n : goal.invariant-loop-n
invariant-loop-n l = is_among (texts (take l.n-index l.names)) l.name ≡ false
