use Rattle.std.proofs.Common.{◌≡◌, ◌≤◌, ◌+◌, ◌*◌, ◌^◌, ℕ, get_or, pos, unsigned_abs, FitsSigned, rules, ap, subst, sym, ◌∙◌}
use mir.Syntax.{w128}
use Rattle.std.proofs.lemmas.Int.{to_z-of_z}
use Rattle.pool_model.specs.Network.{net_of}
use Rattle.point_checks.specs.QualSlices.{seen}
use Rattle.point_checks.proofs.qual_sums.mixed.Goals as goal

pub returns-clause-value : goal.returns-clause-value
returns-clause-value c =
    let s = c.args.point.now in
    let fits : FitsSigned w128 (get_or s.mix.now c.cell.result (pos 0)) = search rules in
    to_z-of_z w128 (get_or s.mix.now c.cell.result (pos 0)) fits
    ∙ ap (λ (i : ℕ). get_or s.mix.now i (pos 0)) (c.cell.ensures.place ∙ ap (λ w. c.args.out * w + c.args.quality) c.sizes-counts.ensures.counts.qualities)

pub returns-clause-small : goal.returns-clause-small
returns-clause-small c =
    let n = net_of c.args.net.now in
    let s = c.args.point.now in
    let fits : FitsSigned w128 (get_or s.mix.now c.cell.result (pos 0)) = search rules in
    let is = to_z-of_z w128 (get_or s.mix.now c.cell.result (pos 0)) fits
    ∙ ap (λ (i : ℕ). get_or s.mix.now i (pos 0)) (c.cell.ensures.place ∙ ap (λ w. c.args.out * w + c.args.quality) c.sizes-counts.ensures.counts.qualities) in
    subst (λ z. unsigned_abs z ≤ 10 ^ 11 * (seen n s).out c.args.out) (sym is) (c.requires.small.mixed c.args.out c.args.quality c.requires.out c.requires.quality)
