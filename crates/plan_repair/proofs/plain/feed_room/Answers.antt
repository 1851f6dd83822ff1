use Rattle.std.proofs.Common.{FitsSigned, pos, ap, rules, ◌∙◌}
use Rattle.std.proofs.lemmas.Int.{to_z-of_z}
use mir.Syntax.{w64}
use Rattle.pool_model.specs.Network.{net_of}
use Rattle.plan_repair.proofs.Maxima.{room-is}
use Rattle.plan_repair.proofs.plain.feed_room.Goals as goal

pub returns-clause-value : goal.returns-clause-value
returns-clause-value c =
    let n = net_of c.args.net.now in
    let ends = c.feed-source in
    let left : FitsSigned w64 c.source_max.result = search rules in
    let right : FitsSigned w64 c.pool_max.result = search rules in
    room-is (n.feed_max c.args.feed) (n.source_max (n.feed_source c.args.feed)) (n.pool_max (n.feed_pool c.args.feed))
    c.feed_max.result c.source_max.result c.pool_max.result c.lesser_maximum-most.result c.capped.result c.feed_max.ensures.value
    (c.source_max.ensures ∙ ap (λ i. pos (n.source_max i)) ends.ensures.source)
    (c.pool_max.ensures ∙ ap (λ l. pos (n.pool_max l)) ends.ensures.pool)
    (simp to_z-of_z at c.lesser_maximum-most.ensures.value) c.capped.ensures.value
