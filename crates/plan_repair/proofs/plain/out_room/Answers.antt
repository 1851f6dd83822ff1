use Rattle.std.proofs.Common.{FitsSigned, pos, ap, rules, ◌∙◌}
use Rattle.std.proofs.lemmas.Int.{to_z-of_z}
use mir.Syntax.{w64}
use Rattle.pool_model.specs.Network.{net_of}
use Rattle.plan_repair.proofs.Maxima.{room-is}
use Rattle.plan_repair.proofs.plain.out_room.Goals as goal

pub returns-clause-value : goal.returns-clause-value
returns-clause-value c =
    let n = net_of c.args.net.now in
    let ends = c.out-pool in
    let left : FitsSigned w64 c.pool_max.result = search rules in
    let right : FitsSigned w64 c.product_max.result = search rules in
    room-is (n.out_max c.args.out) (n.pool_max (n.out_pool c.args.out)) (n.product_max (n.out_product c.args.out))
    c.out_max.result c.pool_max.result c.product_max.result c.lesser_maximum-most.result c.capped.result c.out_max.ensures.value
    (c.pool_max.ensures ∙ ap (λ l. pos (n.pool_max l)) ends.ensures.pool)
    (c.product_max.ensures.value ∙ ap (λ j. pos (n.product_max j)) ends.ensures.product)
    (simp to_z-of_z at c.lesser_maximum-most.ensures.value) c.capped.ensures.value
