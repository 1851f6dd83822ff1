use Rattle.serde_json.specs.View.{view}
use Rattle.network_parts.specs.Parts.{pool_row}
use Rattle.json_walk.specs.Walk.{place, texts, rows}
use Rattle.network_json.specs.Format.{pool}
use Rattle.json_walk.specs.declared.fault.Section.TheVariants.{Pools}
use Rattle.json_walk.proofs.Each.{row_step, row_stop}
use Rattle.network_json.proofs.tables.pool_rows.Goals as goal

pub returns-in_err-row : goal.returns-in_err-row
unfolding rows
returns-in_err-row c = row_stop (λ n. pool c.args.version (texts c.args.names.now) (place Pools n)) view pool_row c.args.values.now c.loop-i.i
    c.index-values-i.result c.loop-i.pools.items c.index-values-i.is c.loop-i-test.true c.loop-i.invariant _
    c.from_residual.result c.in_err-row.field-0.0 c.from_residual.ensures.1 (rw c.new.ensures at c.in_err-row.ensures)

pub loop-i-preserved : goal.loop-i-preserved
loop-i-preserved c = row_step (λ n. pool c.args.version (texts c.args.names.now) (place Pools n)) view pool_row c.args.values.now c.loop-i.i
    c.index-values-i.result c.loop-i.pools.items c.index-values-i.is c.loop-i-test.true c.loop-i.invariant
    c.in_ok-row.row c.push.new.self.items c.in_ok-push.ensures.items (rw (← c.new.ensures) c.in_ok-row.ensures)
