use Rattle.std.proofs.Common.{IfOk, option_map, ℤ, pos, ◌-ℤ◌, rules, subst, FitsSigned, to_z, of_z, to_z-of_z}
use mir.Syntax.{w128}
use Rattle.pool_model.specs.Network.{net_of}
use Rattle.row_model.specs.Multipliers.{bound}
use Rattle.box_space.specs.Views.{shown_proof}
use Rattle.leaf_cuts.specs.Given.{IsGiven}
use Rattle.box_squeeze.proofs.closing.Range.closing_proof.Goals as goal

pub returns : goal.returns
returns c = λ b is.
    let n = net_of c.args.net.now in
    let form = c.args.self.now.form in
    let target = c.args.self.now.target in
    let held : FitsSigned w128 target = search rules in
    let fits : FitsSigned w128 (target -ℤ pos 1) = search rules in
    subst (λ (z : ℤ). IfOk c.proof_of.result (λ o. IsGiven n form b (bound z) (option_map shown_proof o))) (to_z-of_z fits)
    (subst (λ (z : ℤ). IfOk c.proof_of.result (λ o. IsGiven n form b (bound (to_z w128 (of_z w128 (z -ℤ pos 1)))) (option_map shown_proof o))) (to_z-of_z held) (c.proof_of.ensures b is))
