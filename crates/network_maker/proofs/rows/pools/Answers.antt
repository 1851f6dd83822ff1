use Rattle.std.proofs.Common.{map, ap, ◌∙◌}
use Rattle.network_parts.specs.Parts.{pool_row}
use Rattle.blend_network.specs.Canonical.{canonical_pool}
use Rattle.drawn_numbers.specs.Draws.{state_after}
use Rattle.network_maker.specs.Generated.{drawn_pool}
use Rattle.drawn_numbers.proofs.Steps.{no_draw, one_more}
use Rattle.network_maker.proofs.Steps.{row_more}
use Rattle.network_maker.proofs.rows.pools.Goals as goal

pub loop-l-init : goal.loop-l-init
loop-l-init c = (ap (map pool_row) c.new-rows.ensures.items, no_draw c.args.draws.now.state)

pub loop-l-preserved : goal.loop-l-preserved
loop-l-preserved c =
    let s = c.args.draws.now.state in
    let at = c.loop-l.invariant.1 in (
      row_more pool_row (λ i. canonical_pool (drawn_pool (state_after s (i)) i)) c.loop-l.rows.items c.push.new.self.items c.in_ok-pool.field-0 c.loop-l.l
          c.loop-l.invariant.0 c.in_ok-push.ensures.items (c.in_ok-pool.ensures.row ∙ ap (λ t. canonical_pool (drawn_pool t c.loop-l.l)) at),
      one_more s c.loop-l.draws.state c.pool.new.draws.state c.loop-l.l at c.in_ok-pool.ensures.state,
    )
