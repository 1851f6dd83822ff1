use Rattle.std.proofs.Common.{◌∙◌}
use Rattle.mccormick.proofs.ThreeTerms.{turned, inner}
use Rattle.mccormick.proofs.written.add_between.Goals as goal

pub returns-then-other-first-clause-terms : goal.returns-then-other-first-clause-terms
returns-then-other-first-clause-terms c = λ n first second other. c.add_three.ensures.terms n second ∙ turned c.args.first c.args.second c.args.other n

pub returns-then-other-second-clause-terms : goal.returns-then-other-second-clause-terms
returns-then-other-second-clause-terms c = λ n first second other. c.add_three-then-other-second.ensures.terms n second ∙ inner c.args.first c.args.second c.args.other n
