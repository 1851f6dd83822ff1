use Rattle.std.proofs.Common.{◌*◌, map, ap, ◌∙◌}
use Rattle.network_parts.specs.Parts.{source_row}
use Rattle.blend_network.specs.Canonical.{canonical_source}
use Rattle.drawn_numbers.specs.Draws.{state_after}
use Rattle.network_maker.specs.Generated.{drawn_source}
use Rattle.drawn_numbers.proofs.Steps.{no_draw, four_more}
use Rattle.network_maker.proofs.Steps.{row_more}
use Rattle.network_maker.proofs.rows.sources.Goals as goal

pub loop-i-init : goal.loop-i-init
loop-i-init c = (ap (map source_row) c.new-rows.ensures.items, no_draw c.args.draws.now.state)

pub loop-i-preserved : goal.loop-i-preserved
loop-i-preserved c =
    let s = c.args.draws.now.state in
    let at = c.loop-i.invariant.1 in (
      row_more source_row (λ i. canonical_source (drawn_source (state_after s (4 * i)) i)) c.loop-i.rows.items c.push.new.self.items c.in_ok-source.field-0 c.loop-i.i
          c.loop-i.invariant.0 c.in_ok-push.ensures.items (c.in_ok-source.ensures.row ∙ ap (λ t. canonical_source (drawn_source t c.loop-i.i)) at),
      four_more s c.loop-i.draws.state c.source.new.draws.state c.loop-i.i at c.in_ok-source.ensures.state,
    )
