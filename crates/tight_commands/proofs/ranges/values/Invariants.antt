use Rattle.std.proofs.Common.{All, take, FitsSigned}
use Rattle.std.specs.Int.{w128}
use Rattle.tight_commands.proofs.ranges.values.Given as goal

abbrev pub invariant-loop-each : goal.invariant-loop-each
invariant-loop-each l = All (FitsSigned w128) (take l.each-index l.values)
