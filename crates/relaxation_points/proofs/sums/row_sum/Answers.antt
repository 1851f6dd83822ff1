use Rattle.std.proofs.Common.{◌≡◌, ◌*◌, ◌^◌, pos, ◌*ℤ◌, get_or, unsigned_abs, FitsSigned, arith, rules, refl, ap}
use Rattle.std.proofs.lemmas.Int.{to_z-of_z}
use Rattle.std.proofs.lemmas.List.{take_all}
use Rattle.integers.proofs.Ring.{additive}
use mir.Syntax.{w128}
use Rattle.linear_program.specs.declared.terms.Term.{Term}
use Rattle.relaxation_points.specs.Lines.{terms_value}
use Rattle.relaxation_points.specs.Views.{shown_point}
use Rattle.relaxation_points.proofs.Adding.{more-terms, more-sizes, part-sizes}
use Rattle.relaxation_points.proofs.Comparing.{on_err}
use Rattle.relaxation_points.proofs.sums.row_sum.Goals as goal

pub returns-in_err-sum-2-clause-wide : goal.returns-in_err-sum-2-clause-wide
returns-in_err-sum-2-clause-wide c =
    let p = shown_point c.args.point.now in
    let d : Term = record { var = 0; coef = pos 0 } in
    let t : Term = get_or c.terms-terms.result.now c.loop-term.term-index d in
    let coef : FitsSigned w128 t.coef = search rules in
    let value : FitsSigned w128 (get_or c.as_slice-values.result.now t.var (pos 0)) = search rules in
    let value_is : get_or c.as_slice-values.result.now t.var (pos 0) ≡ p.value t.var = ap (λ xs. get_or xs t.var (pos 0)) c.as_slice-values.ensures.value in
    on_err c.from_residual-in_err-sum-2.result (part-sizes p c.terms-terms.result.now c.args.row.now.terms c.loop-term.term-index d (unsigned_abs c.args.row.now.constant * c.args.point.now.base) _ (2 ^ 126) t.coef _
    c.loop-term-test.true c.terms-terms.ensures c.loop-term.invariant.weight (simp to_z-of_z at c.in_err-sum-2.ensures.wide) refl value_is)

pub loop-term-preserved : goal.loop-term-preserved
loop-term-preserved c =
    let p = shown_point c.args.point.now in
    let d : Term = record { var = 0; coef = pos 0 } in
    let t : Term = get_or c.terms-terms.result.now c.loop-term.term-index d in
    let coef : FitsSigned w128 t.coef = search rules in
    let value : FitsSigned w128 (get_or c.as_slice-values.result.now t.var (pos 0)) = search rules in
    let sum : FitsSigned w128 c.in_ok-sum-2.sum = search rules in
    let value_is : get_or c.as_slice-values.result.now t.var (pos 0) ≡ p.value t.var = ap (λ xs. get_or xs t.var (pos 0)) c.as_slice-values.ensures.value in
    record {
      weight = more-sizes p c.terms-terms.result.now c.loop-term.term-index d (unsigned_abs c.args.row.now.constant * c.args.point.now.base) _ _ t.coef _
          c.loop-term-test.true c.loop-term.invariant.weight (simp to_z-of_z at c.in_ok-sum-2.ensures.weight) refl value_is;
      narrow = c.in_ok-sum-2.ensures.narrow;
      small = simp to_z-of_z c.in_ok-sum-2.ensures.small;
      value = simp to_z-of_z (more-terms p c.terms-terms.result.now c.loop-term.term-index d (c.args.row.now.constant *ℤ pos c.args.point.now.base) _ t.coef _ _
          c.loop-term-test.true c.loop-term.invariant.value (simp to_z-of_z at c.in_ok-sum-2.ensures.sum) refl value_is);
    }

pub returns-clause-value : goal.returns-clause-value
returns-clause-value c =
    let p = shown_point c.args.point.now in
    omega (
      arith,
      additive,
      c.loop-term.invariant.value,
      ap (terms_value p) (take_all c.loop-term.term-index c.terms-terms.result.now c.loop-term-test.false),
      ap (terms_value p) c.terms-terms.ensures,
    )
