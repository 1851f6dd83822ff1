use Rattle.network_json.specs.Format.{limit}
use Rattle.std.proofs.Common.{None, [], get_or, List, ℕ, Bor}
use Rattle.std.proofs.lemmas.List.{get_or_default}
use Rattle.serde_json.specs.View.{view}
use Rattle.json_walk.specs.Walk.{allows}
use Rattle.json_walk.proofs.Each.{value_step, value_stop}
use Rattle.network_json.proofs.tables.limit_of_each.Goals as goal

abbrev no_text : Bor (List ℕ)
no_text = record { ref_ptr = (0, 0); now = [] }

pub returns-in_err-number : goal.returns-in_err-number
returns-in_err-number c = value_stop (λ n k. allows k None (limit c.args.at) (view c.args.value.now)) (λ s. s.now)
    c.args.names.now c.loop-name.name-index (get_or c.args.names.now c.loop-name.name-index no_text)
    (get_or_default _ _ _ _ c.loop-name-test.true) c.loop-name-test.true c.loop-name.row.items c.loop-name.invariant _
    c.from_residual.result c.in_err-number.field-0.0 c.from_residual.ensures.1 c.in_err-number.ensures

pub loop-name-preserved : goal.loop-name-preserved
loop-name-preserved c = value_step (λ n k. allows k None (limit c.args.at) (view c.args.value.now)) (λ s. s.now)
    c.args.names.now c.loop-name.name-index (get_or c.args.names.now c.loop-name.name-index no_text)
    (get_or_default _ _ _ _ c.loop-name-test.true) c.loop-name-test.true c.loop-name.row.items c.loop-name.invariant
    c.in_ok-number.number c.push.new.self.items c.in_ok-push.ensures.items c.in_ok-number.ensures
