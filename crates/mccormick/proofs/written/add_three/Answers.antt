use Rattle.std.proofs.Common.{List, ◌++◌, FitsSigned, rules, ap, ◌∙◌}
use Rattle.std.proofs.lemmas.Int.{to_z-of_z}
use mir.Syntax.{w128}
use Rattle.linear_program.specs.declared.terms.Term.{Term}
use Rattle.box_space.specs.Lines.{term_of}
use Rattle.mccormick.proofs.ThreeTerms.{rising}
use Rattle.mccormick.proofs.written.add_three.Goals as goal

pub returns-clause-terms : goal.returns-clause-terms
returns-clause-terms c = λ n lt.
    let x = c.args.x in
    let y = c.args.y in
    let z = c.args.z in
    let a : FitsSigned w128 c.args.x.coef = search rules in
    let b : FitsSigned w128 c.args.y.coef = search rules in
    let d : FitsSigned w128 c.args.z.coef = search rules in
    (simp to_z-of_z at c.add_term-3.ensures.terms) ∙ ap (λ (ts : List Term). ts ++ term_of z.var z.coef) ((simp to_z-of_z at c.add_term-2.ensures.terms)
    ∙ ap (λ (ts : List Term). ts ++ term_of y.var y.coef) ((simp to_z-of_z at c.add_term.ensures.terms) ∙ ap (λ (ts : List Term). ts ++ term_of x.var x.coef) c.requires.empty))
    ∙ rising x y z n c.requires.first c.requires.second lt
