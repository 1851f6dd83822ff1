use Rattle.std.proofs.Common.{◌*◌, map, ap, ◌∙◌}
use Rattle.network_parts.specs.Parts.{product_row}
use Rattle.blend_network.specs.Canonical.{canonical_product}
use Rattle.drawn_numbers.specs.Draws.{state_after}
use Rattle.network_maker.specs.Generated.{drawn_product}
use Rattle.drawn_numbers.proofs.Steps.{no_draw, four_more}
use Rattle.network_maker.proofs.Steps.{row_more}
use Rattle.network_maker.proofs.rows.products.Goals as goal

pub loop-j-init : goal.loop-j-init
loop-j-init c = (ap (map product_row) c.new-rows.ensures.items, no_draw c.args.draws.now.state)

pub loop-j-preserved : goal.loop-j-preserved
loop-j-preserved c =
    let s = c.args.draws.now.state in
    let at = c.loop-j.invariant.1 in (
      row_more product_row (λ i. canonical_product (drawn_product (state_after s (4 * i)) i)) c.loop-j.rows.items c.push.new.self.items c.in_ok-product.field-0 c.loop-j.j
          c.loop-j.invariant.0 c.in_ok-push.ensures.items (c.in_ok-product.ensures.row ∙ ap (λ t. canonical_product (drawn_product t c.loop-j.j)) at),
      four_more s c.loop-j.draws.state c.product.new.draws.state c.loop-j.j at c.in_ok-product.ensures.state,
    )
