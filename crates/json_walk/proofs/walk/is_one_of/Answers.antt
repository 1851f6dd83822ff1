use Rattle.std.proofs.Common.{sym, ◌∙◌}
use Rattle.json_walk.proofs.Lists.{among_here}
use Rattle.json_walk.proofs.walk.is_one_of.Goals as goal

pub returns-then-eq : goal.returns-then-eq
returns-then-eq c = sym (among_here c.args.names.now c.loop-n.n-index _ c.args.name.now c.loop-n-test.true (sym c.eq.ensures ∙ c.if-eq.true))
