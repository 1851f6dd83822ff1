use Rattle.std.proofs.Common.{FitsSigned, rules, ap, ◌∙◌}
use Rattle.std.proofs.lemmas.Int.{to_z-of_z}
use mir.Syntax.{w128}
use Rattle.row_model.specs.Envelopes.{Side}
use Rattle.linear_program.specs.declared.terms.Term.{Term}
use Rattle.box_space.specs.Lines.{terms_from}
use Rattle.mccormick.specs.Coefs.{side_coef}
use Rattle.mccormick.proofs.ThreeTerms.{swapped}
use Rattle.mccormick.proofs.written.envelope.Goals as goal

pub returns-then-a-b-clause-terms : goal.returns-then-a-b-clause-terms
returns-then-a-b-clause-terms c = λ n ha hb hw.
    let scale = c.ranges.scale in
    let a : FitsSigned w128 c.side_of-side.result.of_a = search rules in
    let b : FitsSigned w128 c.side_of-side.result.of_b = search rules in
    let w : FitsSigned w128 c.side_of-side.result.of_w = search rules in
    (simp to_z-of_z at (c.add_between.ensures.terms n ha hb hw)) ∙ ap (λ (s : Side). terms_from 0 (side_coef c.args.a c.args.b c.args.w s) n) (simp to_z-of_z at c.side_of-side.ensures)

pub returns-else-a-b-clause-terms : goal.returns-else-a-b-clause-terms
returns-else-a-b-clause-terms c = λ n ha hb hw.
    let scale = c.ranges.scale in
    let a : FitsSigned w128 c.side_of-side.result.of_a = search rules in
    let b : FitsSigned w128 c.side_of-side.result.of_b = search rules in
    let w : FitsSigned w128 c.side_of-side.result.of_w = search rules in
    let of_a : Term = record { var = c.args.a; coef = c.side_of-side.result.of_a } in
    let of_b : Term = record { var = c.args.b; coef = c.side_of-side.result.of_b } in
    let of_w : Term = record { var = c.args.w; coef = c.side_of-side.result.of_w } in
    (simp to_z-of_z at (c.add_between-else-a-b.ensures.terms n hb ha hw)) ∙ swapped of_a of_b of_w n
    ∙ ap (λ (s : Side). terms_from 0 (side_coef c.args.a c.args.b c.args.w s) n) (simp to_z-of_z at c.side_of-side.ensures)
