use Rattle.std.proofs.Common.{rules, FitsSigned, to_z, of_z, arith, refl, sym, ap, ◌∙◌, if◌then◌else◌, ◌≡◌, pos, true}
use Rattle.std.specs.Prelude.{unsigned_abs}
use Rattle.std.specs.Int.{w64}
use Rattle.std.proofs.lemmas.Int.{to_z-of_z}
use Rattle.pool_model.specs.Network.{net_of}
use Rattle.pool_model.specs.Paths.{path_at}
use Rattle.pool_model.specs.Starting.{path_flow as path_flow_of, path_room, suits, way_quality}
use Rattle.pool_model.specs.Starting.Way.{through}
use Rattle.start_ways.proofs.Ways.{path_room-read, path_room-most}
use Rattle.start_ways.proofs.flow.path_flow.Goals as goal

room_is : (c : goal.After-capped-then-suits) → c.capped-then-suits.result ≡ pos (path_room (net_of c.args.net.now) c.path-feed.result.0 c.path-feed.result.1)
room_is c =
    let source : FitsSigned w64 c.source_max.result = search rules in
    let pool : FitsSigned w64 c.pool_max.result = search rules in
    let product : FitsSigned w64 c.product_max.result = search rules in
    let lower : FitsSigned w64 c.min.result = search rules in
    let nodes : FitsSigned w64 c.min-nodes.result = search rules in
    let by_feed : FitsSigned w64 c.capped.result = search rules in
    path_room-read (net_of c.args.net.now) c.path-feed.result.0 c.path-feed.result.1 c.feed-source.result.0 c.out-pool.result.0 c.out-pool.result.1
    c.feed-source.ensures.source c.out-pool.ensures.pool c.out-pool.ensures.product c.source_max.result c.pool_max.result c.product_max.result c.min.result c.min-nodes.result c.capped.result
    c.capped-then-suits.result c.feed_max.result c.out_max.result c.source_max.ensures c.pool_max.ensures c.product_max.ensures.value (simp to_z-of_z at c.min.ensures.value)
    (simp to_z-of_z at c.min-nodes.ensures.value) c.feed_max.ensures.value (simp to_z-of_z at c.capped.ensures) c.out_max.ensures.value (simp to_z-of_z at c.capped-then-suits.ensures)

shown : (c : goal.After-capped-then-suits) → unsigned_abs (to_z w64 (of_z w64 c.capped-then-suits.result)) ≡ path_room (net_of c.args.net.now) c.path-feed.result.0 c.path-feed.result.1
shown c =
    let fits : FitsSigned w64 c.capped-then-suits.result = search rules in
    ap unsigned_abs (to_z-of_z w64 c.capped-then-suits.result fits ∙ room_is c)

pub returns-then-suits-clause-flow : goal.returns-then-suits-clause-flow
returns-then-suits-clause-flow c =
    let n = net_of c.args.net.now in
    let e = c.path-feed.result.0 in
    let o = c.path-feed.result.1 in
    let at = path_at n c.args.path in
    let feed : e ≡ at.feed = c.path-feed.ensures.feed in
    let out : o ≡ at.out = c.path-feed.ensures.out in
    let fits : suits n (way_quality n (through e o)) (n.out_product o) ≡ true =
    ap (λ x. suits n (way_quality n (through x o)) (n.out_product o)) feed ∙ ap (λ x. suits n (way_quality n (through at.feed x)) (n.out_product o)) out
    ∙ ap (suits n (way_quality n (through at.feed at.out))) (sym c.out-pool.ensures.product) ∙ sym c.suits.ensures ∙ c.if-suits.true in
    shown c ∙ sym (ap (λ b. if b then path_room n e o else 0) fits) ∙ ap (λ x. path_flow_of n x o) feed ∙ ap (path_flow_of n at.feed) out

pub returns-then-suits-clause-size : goal.returns-then-suits-clause-size
returns-then-suits-clause-size c =
    let most = path_room-most (net_of c.args.net.now) c.path-feed.result.0 c.path-feed.result.1 c.feed-source.result.0 c.out-pool.result.0 c.out-pool.result.1
    c.feed-source.ensures.source c.out-pool.ensures.pool c.out-pool.ensures.product in
    omega (arith, shown c, most, c.product_max.ensures.size)
