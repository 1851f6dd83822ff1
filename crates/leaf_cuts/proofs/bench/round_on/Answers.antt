use Rattle.std.proofs.Common.{ℤ, IfOk, option_map, sym, subst, rules, FitsSigned, to_z, of_z, to_z-of_z}
use mir.Syntax.{w128}
use Rattle.pool_model.specs.Network.{net_of}
use Rattle.row_model.specs.Multipliers.{bound}
use Rattle.box_space.specs.Views.{shown_box_ends, shown_proof}
use Rattle.linear_program.specs.declared.lp.Lp.{Lp}
use Rattle.dual_rounding.specs.Programs.{IsProgramOf}
use Rattle.leaf_cuts.specs.Given.{IsGiven}
use Rattle.leaf_cuts.proofs.Giving.{given-of}
use Rattle.leaf_cuts.proofs.bench.round_on.Goals as goal

pub returns-clause-given : goal.returns-clause-given
returns-clause-given c = λ form b is ends.
    let n = net_of c.args.net.now in
    let on = subst (λ (p : Lp). IsProgramOf n form (shown_box_ends c.args.ends.now) p) (sym c.program-program.ensures) is in
    let fits : FitsSigned w128 c.args.bound = search rules in
    subst (λ (z : ℤ). IfOk c.round.result (λ o. IsGiven n form b (bound z) (option_map shown_proof o))) (to_z-of_z fits)
    (given-of n form c.view-view.result c.args.ends.now b c.program-program.result.now c.args.advice.now
    (bound (to_z w128 (of_z w128 c.args.bound))) c.requires.limited c.view-view.ensures.low c.view-view.ensures.high
    on ends c.round.result c.round.ensures.rounded c.round.ensures.price (c.round.ensures.form form on.numbers))
