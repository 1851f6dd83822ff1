use Rattle.network_parts.specs.Parts.{rows_of}
use Rattle.network_maker.proofs.Faultless.{same_rows}
use Rattle.network_maker.proofs.rows.rows.Goals as goal

pub returns : goal.returns
returns c =
    same_rows c.args.seed c.sources.new.draws.state c.pools.new.draws.state
    (rows_of record { qualities = c.in_ok-qualities.field-0; sources = c.in_ok-sources.sources; pools = c.in_ok-pools.pools; products = c.in_ok-products.products; arcs = c.in_ok-arcs.field-0 })
    c.in_ok-qualities.ensures c.in_ok-sources.ensures.rows c.in_ok-sources.ensures.state c.in_ok-pools.ensures.rows c.in_ok-pools.ensures.state c.in_ok-products.ensures.rows c.in_ok-arcs.ensures
