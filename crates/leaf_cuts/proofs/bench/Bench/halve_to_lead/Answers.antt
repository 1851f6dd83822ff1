use Rattle.std.proofs.Common.{option_map, ℤ, subst, rules, FitsSigned, to_z, of_z, to_z-of_z}
use mir.Syntax.{w64, w128}
use Rattle.pool_model.specs.Network.{net_of}
use Rattle.row_model.specs.Multipliers.{bound}
use Rattle.box_space.specs.Views.{shown_proof, AreHalves}
use Rattle.box_space.specs.declared.coordinates.Form.{Form}
use Rattle.leaf_cuts.specs.Given.{IsGiven}
use Rattle.leaf_cuts.specs.Halvings.{IsHalvingOf}
use Rattle.leaf_cuts.proofs.HalfProofs.{halving-given}
use Rattle.leaf_cuts.proofs.bench.Bench.halve_to_lead.Goals as goal

pub returns-then-lies_below-clause-halving : goal.returns-then-lies_below-clause-halving
returns-then-lies_below-clause-halving c = λ b ends.
    let n = net_of c.args.net.now in
    let form = c.args.self.now.form in
    let e = c.args.leaf.now.ends in
    let below = c.in_ok-below.below in
    let above = c.in_ok-below.above in
    let cut = c.middle-cut.result in
    let fits : FitsSigned w64 cut = search rules in
    let halves = subst (λ (z : ℤ). AreHalves e below above c.args.coord z) (to_z-of_z fits) c.in_ok-below.ensures.cut in
    let least = c.args.leaf.now.bound in
    let held = to_z w128 (of_z w128 least) in
    let least_fits : FitsSigned w128 least = search rules in
    let halving = c.in_ok-halving.halving in
    subst (λ (z : ℤ). IsHalvingOf n form b z halving) (to_z-of_z least_fits)
    (halving-given n form b e below above c.args.coord cut held ends c.requires.known c.requires.wide c.middle-cut.ensures halves halving
    c.in_ok-left.left.proof c.in_ok-right.right.proof c.in_ok-halving.ensures.coord c.in_ok-halving.ensures.left c.in_ok-halving.ensures.right
    c.in_ok-left.ensures.given
    (λ x is. subst (λ (f : Form). IsGiven n f x (bound held) (option_map shown_proof c.in_ok-right.right.proof)) c.in_ok-left.ensures.form (c.in_ok-right.ensures.given x is)))

pub prove-requires-2-clause-ends : goal.prove-requires-2-clause-ends
prove-requires-2-clause-ends c = (c.in_ok-below.ensures.proper (net_of c.args.net.now) c.requires.ends).1

pub prove-requires-3-clause-ends : goal.prove-requires-3-clause-ends
prove-requires-3-clause-ends c = (c.in_ok-below.ensures.proper (net_of c.args.net.now) c.requires.ends).0

pub returns-clause-halving : goal.returns-clause-halving
returns-clause-halving c = λ b ends.
    let n = net_of c.args.net.now in
    let form = c.args.self.now.form in
    let e = c.args.leaf.now.ends in
    let below = c.in_ok-below.below in
    let above = c.in_ok-below.above in
    let cut = c.middle-cut.result in
    let fits : FitsSigned w64 cut = search rules in
    let halves = subst (λ (z : ℤ). AreHalves e below above c.args.coord z) (to_z-of_z fits) c.in_ok-below.ensures.cut in
    let least = c.args.leaf.now.bound in
    let held = to_z w128 (of_z w128 least) in
    let least_fits : FitsSigned w128 least = search rules in
    let halving = c.in_ok-halving-2.halving in
    subst (λ (z : ℤ). IsHalvingOf n form b z halving) (to_z-of_z least_fits)
    (halving-given n form b e below above c.args.coord cut held ends c.requires.known c.requires.wide c.middle-cut.ensures halves halving
    c.in_ok-left-2.left.proof c.in_ok-right-2.right.proof c.in_ok-halving-2.ensures.coord c.in_ok-halving-2.ensures.left c.in_ok-halving-2.ensures.right
    (λ x is. subst (λ (f : Form). IsGiven n f x (bound held) (option_map shown_proof c.in_ok-left-2.left.proof)) c.in_ok-right-2.ensures.form (c.in_ok-left-2.ensures.given x is))
    c.in_ok-right-2.ensures.given)
