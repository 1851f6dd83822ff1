use Rattle.std.proofs.Common.{ℕ, ◌+◌, ◌*◌, get_or, pos, FitsSigned, rules, ap, ◌∙◌}
use mir.Syntax.{w128}
use Rattle.std.proofs.lemmas.Int.{to_z-of_z}
use Rattle.pool_model.specs.Network.{net_of}
use Rattle.point_checks.proofs.QualPoints.{has-same}
use Rattle.point_checks.proofs.qual_checks.has_quality.Goals as goal

pub returns : goal.returns
returns c =
    let n = net_of c.args.net.now in
    let s = c.args.point.now in
    let o = c.args.out in
    let k = c.args.quality in
    let width = c.sizes-counts.ensures.counts.qualities in
    let mixed_fits : FitsSigned w128 (get_or s.mix.now c.cell.result (pos 0)) = search rules in
    let held_fits : FitsSigned w128 (get_or s.quals.now c.cell-2.result (pos 0)) = search rules in
    has-same n s o k c.is_product.result _ _
    (to_z-of_z w128 (get_or s.mix.now c.cell.result (pos 0)) mixed_fits ∙ ap (λ (i : ℕ). get_or s.mix.now i (pos 0)) (c.cell.ensures.place ∙ ap (λ w. o * w + k) width))
    (to_z-of_z w128 (get_or s.quals.now c.cell-2.result (pos 0)) held_fits
    ∙ ap (λ (i : ℕ). get_or s.quals.now i (pos 0)) (c.cell-2.ensures.place ∙ ap (λ l. l * c.sizes-counts.result.qualities + k) c.out-pool.ensures.pool ∙ ap (λ w. n.out_pool o * w + k) width))
    c.is_product.ensures
