use Rattle.std.proofs.Common.{ℤ, option_map, sym, subst, rules, FitsSigned, to_z, of_z, to_z-of_z}
use mir.Syntax.{w128}
use Rattle.pool_model.specs.Network.{net_of}
use Rattle.row_model.specs.Boxes.{root}
use Rattle.row_model.specs.Multipliers.{bound}
use Rattle.box_space.specs.Views.{shown_proof, shown_box_ends, AreEndsOf}
use Rattle.box_space.specs.declared.coordinates.Form.{Form}
use Rattle.dual_rounding.specs.Programs.{IsProgramOf}
use Rattle.leaf_cuts.specs.Given.{IsGiven}
use Rattle.leaf_cuts.proofs.root.root_proof.Goals as goal

pub returns : goal.returns
returns c =
    let n = net_of c.args.net.now in
    let ends = c.in_ok-ends.ends in
    let form_is = c.in_ok-bench.ensures.form in
    let program = subst (λ (f : Form). IsProgramOf n f (shown_box_ends ends) c.in_ok-bench.bench.relaxation) (sym form_is) c.in_ok-bench.ensures.program in
    let is : AreEndsOf n (root n) ends = record { proper = c.in_ok-ends.ensures.proper; agree = record { low = c.in_ok-ends.ensures.root.low; high = c.in_ok-ends.ensures.root.high } } in
    let fits : FitsSigned w128 c.args.bound = search rules in
    let given = option_map shown_proof c.in_ok-proof.proof in
    subst (λ (z : ℤ). IsGiven n c.args.form (root n) (bound z) given) (to_z-of_z fits)
    (subst (λ (f : Form). IsGiven n f (root n) (bound (to_z w128 (of_z w128 c.args.bound))) given) form_is
    (c.in_ok-proof.ensures.given (root n) program is))
