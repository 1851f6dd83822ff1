use Rattle.std.proofs.Common.{◌≡◌, ℕ, ◌<◌, ℤ, pos, ◌+ℤ◌, FitsSigned, arith, rules, to_z, of_z, sym, ap, ◌∙◌}
use Rattle.std.proofs.lemmas.Int.{to_z-of_z, to_z_pos}
use Rattle.std.specs.Int.{int_div_euclid, int_rem_euclid}
use mir.Syntax.{w128}
use Rattle.text_pieces.proofs.Floors.{up_same, up_more, more_fits}
use Rattle.text_pieces.proofs.rounding.rounded_up.Goals as goal

pub returns-then-rem_euclid-eq0 : goal.returns-then-rem_euclid-eq0
returns-then-rem_euclid-eq0 c =
    let num = c.args.num in
    let den = c.args.den in
    let fits : FitsSigned w128 num = search rules in
    let whole : FitsSigned w128 c.div_euclid-low.result = search rules in
    let left : FitsSigned w128 c.rem_euclid.result = search rules in
    let num_is : to_z w128 (of_z w128 num) ≡ num = to_z-of_z w128 num fits in
    let den_is : to_z w128 den ≡ pos den = to_z_pos w128 den c.requires.1 in
    let q : c.div_euclid-low.result ≡ int_div_euclid num (pos den) =
    c.div_euclid-low.ensures ∙ ap (λ (z : ℤ). int_div_euclid z (to_z w128 den)) num_is ∙ ap (λ (z : ℤ). int_div_euclid num z) den_is in
    let r : c.rem_euclid.result ≡ int_rem_euclid num (pos den) =
    c.rem_euclid.ensures.value ∙ ap (λ (z : ℤ). int_rem_euclid z (to_z w128 den)) num_is ∙ ap (λ (z : ℤ). int_rem_euclid num z) den_is in
    let none : c.rem_euclid.result ≡ pos 0 = sym (to_z-of_z w128 c.rem_euclid.result left) ∙ ap (λ (n : ℕ). to_z w128 n) c.if-rem_euclid-eq0.true in
    let positive : 0 < den = omega arith in
    to_z-of_z w128 c.div_euclid-low.result whole ∙ up_same num c.div_euclid-low.result c.rem_euclid.result den positive q r none

pub returns-else-rem_euclid-eq0 : goal.returns-else-rem_euclid-eq0
returns-else-rem_euclid-eq0 c =
    let num = c.args.num in
    let den = c.args.den in
    let fits : FitsSigned w128 num = search rules in
    let whole : FitsSigned w128 c.div_euclid-low.result = search rules in
    let num_is : to_z w128 (of_z w128 num) ≡ num = to_z-of_z w128 num fits in
    let den_is : to_z w128 den ≡ pos den = to_z_pos w128 den c.requires.1 in
    let q : c.div_euclid-low.result ≡ int_div_euclid num (pos den) =
    c.div_euclid-low.ensures ∙ ap (λ (z : ℤ). int_div_euclid z (to_z w128 den)) num_is ∙ ap (λ (z : ℤ). int_div_euclid num z) den_is in
    let r : c.rem_euclid.result ≡ int_rem_euclid num (pos den) =
    c.rem_euclid.ensures.value ∙ ap (λ (z : ℤ). int_rem_euclid z (to_z w128 den)) num_is ∙ ap (λ (z : ℤ). int_rem_euclid num z) den_is in
    let some : c.rem_euclid.result ≡ pos 0 → ⊥ = λ e. c.if-rem_euclid-eq0.false (ap (λ (z : ℤ). of_z w128 z) e) in
    let positive : 0 < den = omega arith in
    ap (λ (z : ℤ). to_z w128 (of_z w128 (z +ℤ pos 1))) (to_z-of_z w128 c.div_euclid-low.result whole)
    ∙ to_z-of_z w128 (c.div_euclid-low.result +ℤ pos 1) (more_fits num c.div_euclid-low.result den c.requires.0 fits q)
    ∙ up_more num c.div_euclid-low.result c.rem_euclid.result den positive q r some
