use Rattle.std.proofs.Common.{ℤ, IfOk, option_map, sym, subst, rules, FitsSigned, to_z, of_z, to_z-of_z}
use mir.Syntax.{w128}
use Rattle.pool_model.specs.Network.{net_of}
use Rattle.row_model.specs.Boxes.{Box}
use Rattle.row_model.specs.Multipliers.{bound}
use Rattle.box_space.specs.Views.{shown_proof}
use Rattle.dual_rounding.specs.Programs.{IsProgramOf}
use Rattle.leaf_cuts.specs.Given.{IsGiven}
use Rattle.leaf_cuts.proofs.Giving.{given-of, view-same}
use Rattle.box_squeeze.proofs.closing.Range.proof_of.Goals as goal

pub returns : goal.returns
returns c = λ b ends.
    let n = net_of c.args.net.now in
    let form = c.args.self.now.form in
    let e = c.args.ends.now in
    let program = c.in_ok-program.program in
    let same = view-same c.view-view.result e c.view-view.ensures.low c.view-view.ensures.high in
    let on = subst (λ (x : Box). IsProgramOf n form x program) (sym same) c.in_ok-program.ensures in
    let fits : FitsSigned w128 c.args.bound = search rules in
    subst (λ (z : ℤ). IfOk c.round.result (λ o. IsGiven n form b (bound z) (option_map shown_proof o))) (to_z-of_z fits)
    (given-of n form c.view-view.result e b program c.in_ok-advice.advice (bound (to_z w128 (of_z w128 c.args.bound)))
    c.requires.limited c.view-view.ensures.low c.view-view.ensures.high on ends c.round.result c.round.ensures.rounded c.round.ensures.price (c.round.ensures.form form on.numbers))
