use Rattle.serde_json.specs.View.{view}
use Rattle.json_walk.specs.Walk.{text, place, rows}
use Rattle.json_walk.specs.declared.fault.Section.TheVariants.{Qualities}
use Rattle.json_walk.proofs.Each.{row_step, row_stop}
use Rattle.network_json.proofs.tables.names.Goals as goal

pub returns-in_err-name : goal.returns-in_err-name
unfolding rows
returns-in_err-name c = row_stop (λ n. text (place Qualities n)) view (λ s. s.now) c.args.values.now c.loop-i.i
    c.index-values-i.result c.loop-i.names.items c.index-values-i.is c.loop-i-test.true c.loop-i.invariant _
    c.from_residual.result c.in_err-name.field-0.0 c.from_residual.ensures.1 (rw c.new.ensures at c.in_err-name.ensures)

pub loop-i-preserved : goal.loop-i-preserved
loop-i-preserved c = row_step (λ n. text (place Qualities n)) view (λ s. s.now) c.args.values.now c.loop-i.i
    c.index-values-i.result c.loop-i.names.items c.index-values-i.is c.loop-i-test.true c.loop-i.invariant
    c.in_ok-name.name c.push.new.self.items c.in_ok-push.ensures.items (rw (← c.new.ensures) c.in_ok-name.ensures)
