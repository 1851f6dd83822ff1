use Rattle.std.proofs.Common.{◌≡◌, map, length, get_or, pos, None, sym, ap, ◌∙◌}
use Rattle.std.proofs.lemmas.List.{length-map, get_or-map}
use Rattle.pool_model.specs.Network.{Arc, no_arc}
use Rattle.network_parts.specs.Views.{shown_arc, shown_path, joined_net, paths_behind}
use Rattle.network_checks.proofs.PathLists.{through_yes, through_no, behind_all}
use Rattle.network_checks.proofs.paths.add_pool_paths.Goals as goal
use Rattle.network_checks.proofs.paths.add_pool_paths.Goals.{then-feeds-feed+in_ok-add_feed_paths, else-feeds-feed}

pub loop-feed-preserved : goal.loop-feed-preserved
loop-feed-preserved c = λ pools.
    let e = c.loop-feed.feed in
    let feeds = map shown_arc c.args.feeds.now in
    let outs = map shown_arc c.args.outs.now in
    let net = joined_net pools (map shown_arc c.args.feeds.now) (map shown_arc c.args.outs.now) in
    let old = map shown_path c.args.paths.now.items in
    let was = map shown_path c.loop-feed.paths.items in
    let at = ap (λ (a : Arc). a.to) (get_or-map shown_arc c.args.feeds.now c.loop-feed.feed (record { from = 0; to = 0; cost = pos 0; max = None }) no_arc c.loop-feed-test.true) in
    elim c.if-feeds-feed.branch [
      | then-feeds-feed+in_ok-add_feed_paths w ↦
          let here : (get_or (map shown_arc c.args.feeds.now) c.loop-feed.feed no_arc).to ≡ c.args.pool = at ∙ w.if-feeds-feed.true in
          rw w.paths-is (through_yes net c.args.pool e was (map shown_path w.add_feed_paths.new.paths.items) old
          (paths_behind outs e c.args.pool (length c.args.outs.now)) (c.loop-feed.invariant pools) here w.in_ok-add_feed_paths.ensures
          (ap (paths_behind outs e c.args.pool) (sym (length-map c.args.outs.now shown_arc)) ∙ behind_all pools feeds outs e c.args.pool here))
      | else-feeds-feed w ↦ rw w.paths-is (through_no net c.args.pool e was old (c.loop-feed.invariant pools) (λ same. w.if-feeds-feed.false (sym at ∙ same)))
    ]
