use Rattle.std.proofs.Common.{ℤ, IfOk, option_map, subst, rules, FitsSigned, to_z-of_z}
use mir.Syntax.{w128}
use Rattle.pool_model.specs.Network.{net_of}
use Rattle.row_model.specs.Multipliers.{bound}
use Rattle.box_space.specs.Views.{shown_proof}
use Rattle.leaf_cuts.specs.Given.{IsGiven}
use Rattle.leaf_cuts.proofs.bench.Bench.round.Goals as goal

pub returns-clause-given : goal.returns-clause-given
returns-clause-given c = λ b is ends.
    let n = net_of c.args.net.now in
    let form = c.args.self.now.form in
    let fits : FitsSigned w128 c.args.bound = search rules in
    subst (λ (z : ℤ). IfOk c.round_on.result (λ o. IsGiven n form b (bound z) (option_map shown_proof o))) (to_z-of_z fits) (c.round_on.ensures.given form b is ends)
