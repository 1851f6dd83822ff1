use Rattle.std.proofs.Common.{All, take}
use Rattle.tight_texts.specs.Texts.{IsLeafMark}
use Rattle.tight_texts.specs.Views.{shown_leaf}
use Rattle.tight_commands.proofs.ranges.lines.Given as goal

abbrev pub invariant-loop-each : goal.invariant-loop-each
invariant-loop-each l = All (λ x. IsLeafMark (shown_leaf x)) (take l.each-index l.lines)
