use Rattle.std.proofs.Common.{FitsSigned, pos, ap, rules, ◌∙◌}
use Rattle.std.proofs.lemmas.Int.{to_z-of_z}
use mir.Syntax.{w64}
use Rattle.pool_model.specs.Network.{net_of}
use Rattle.plan_repair.proofs.Maxima.{room-is}
use Rattle.plan_repair.proofs.plain.direct_room.Goals as goal

pub returns-clause-value : goal.returns-clause-value
returns-clause-value c =
    let n = net_of c.args.net.now in
    let ends = c.direct-source in
    let left : FitsSigned w64 c.source_max.result = search rules in
    let right : FitsSigned w64 c.product_max.result = search rules in
    room-is (n.direct_max c.args.direct) (n.source_max (n.direct_source c.args.direct)) (n.product_max (n.direct_product c.args.direct))
    c.direct_max.result c.source_max.result c.product_max.result c.lesser_maximum-most.result c.capped.result c.direct_max.ensures.value
    (c.source_max.ensures ∙ ap (λ i. pos (n.source_max i)) ends.ensures.source)
    (c.product_max.ensures.value ∙ ap (λ j. pos (n.product_max j)) ends.ensures.product)
    (simp to_z-of_z at c.lesser_maximum-most.ensures.value) c.capped.ensures.value
