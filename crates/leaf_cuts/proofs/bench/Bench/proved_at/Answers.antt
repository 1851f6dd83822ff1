use Rattle.pool_model.specs.Network.{net_of}
use Rattle.leaf_cuts.proofs.bench.Bench.proved_at.Goals as goal

pub returns-then-halving-clause-halving : goal.returns-then-halving-clause-halving
returns-then-halving-clause-halving c = λ b is. c.in-Some.ensures.halving (net_of c.args.net.now) c.args.self.now.form b c.args.leaf.now.bound (c.requires.halvings b is)
