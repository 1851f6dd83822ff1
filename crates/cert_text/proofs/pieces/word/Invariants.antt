use Rattle.cert_text.proofs.Steps.{StepsBehind}
use Rattle.cert_text.proofs.pieces.word.Given as goal

abbrev pub invariant-loop-c : goal.invariant-loop-c
invariant-loop-c g l = StepsBehind l.word (g.S.Source.at l.initial.src) l.c-index (g.S.Source.at l.src)
