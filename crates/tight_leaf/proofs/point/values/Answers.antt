use Rattle.std.proofs.Common.{◌≡◌, ◌+◌, ◌∙◌, List, length, map, set, ap, sym, subst, arith}
use Rattle.std.proofs.lemmas.List.{length-map, map-set}
use Rattle.exact_num.specs.Fraction.{Fraction}
use Rattle.exact_num.specs.Views.{shown_frac}
use Rattle.exact_pivots.specs.Views.{Shown, program_of, state_of}
use Rattle.tight_leaf.proofs.Values.{AreTo, to-all, to-more, to-none}
use Rattle.tight_leaf.proofs.point.values.Goals as goal

pub loop-place-init : goal.loop-place-init
loop-place-init c =
    let items = c.loop-variable.values.items in
    let all : c.loop-variable.variable ≡ length c.args.program.now.variables.items = omega (arith, c.loop-variable-test.false, c.len-variable-end.ensures) in
    to-none (program_of c.args.program.now) (state_of c.args.tableau.now) (map shown_frac items)
    (length-map items shown_frac ∙ c.loop-variable.invariant.count ∙ all)
    (λ v lt. c.loop-variable.invariant.each v (omega (arith, all, lt)))

pub loop-place-preserved : goal.loop-place-preserved
loop-place-preserved c =
    let p = program_of c.args.program.now in
    let s = state_of c.args.tableau.now in
    let place = c.loop-place.place in
    let xs = map shown_frac c.loop-place.values.items in
    let line = c.line-line.result.now in
    let is : map shown_frac c.write.new.values.items ≡ set xs (s.basic place) (s.value place) =
    ap (map shown_frac) c.write.ensures
    ∙ map-set shown_frac c.loop-place.values.items line.basic line.value
    ∙ ap (λ (x : Shown). set xs x.basic x.value) c.line-line.ensures in
    subst (λ (ys : List Fraction). AreTo p s (place + 1) ys) (sym is)
    (to-more p s place xs c.requires.tidy (omega (arith, c.loop-place-test.true, c.len-place-end.ensures, c.requires.lines)) c.loop-place.invariant)

pub returns : goal.returns
returns c =
    to-all (program_of c.args.program.now) (state_of c.args.tableau.now) c.loop-place.place (map shown_frac c.loop-place.values.items)
    (omega (arith, c.loop-place-test.false, c.len-place-end.ensures, c.requires.lines)) c.loop-place.invariant
