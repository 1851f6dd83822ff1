use Rattle.std.proofs.Common.{◌≡◌, [], ◌∷◌, ◌++◌, rules, get_or, List, ℕ, Bor, FitsSigned}
use Rattle.std.proofs.lemmas.Int.{to_z-of_z}
use Rattle.std.proofs.lemmas.List.{get_or_default}
use Rattle.std.specs.Int.{w128}
use Rattle.serde_json.specs.View.{view}
use Rattle.json_walk.specs.Walk.{needs, quantity}
use Rattle.json_walk.proofs.Each.{value_step, value_stop}
use Rattle.network_json.proofs.tables.quantities.Goals as goal

abbrev no_text : Bor (List ℕ)
no_text = record { ref_ptr = (0, 0); now = [] }

pub returns-in_err-number : goal.returns-in_err-number
returns-in_err-number c = value_stop (λ n k. needs c.args.at k (quantity c.args.at) (view c.args.value.now))
    (λ s. s.now) c.args.names.now c.loop-name.name-index (get_or c.args.names.now c.loop-name.name-index no_text)
    (get_or_default _ _ _ _ c.loop-name-test.true) c.loop-name-test.true c.loop-name.row.items c.loop-name.invariant _
    c.from_residual.result c.in_err-number.field-0.0 c.from_residual.ensures.1 c.in_err-number.ensures

pub loop-name-preserved : goal.loop-name-preserved
loop-name-preserved c =
    let fits : FitsSigned w128 c.in_ok-number.number = search rules in
    let pushed : c.push.new.self.items ≡ c.loop-name.row.items ++ c.in_ok-number.number ∷ [] = simp to_z-of_z at c.in_ok-push.ensures.items in
    value_step (λ n k. needs c.args.at k (quantity c.args.at) (view c.args.value.now)) (λ s. s.now) c.args.names.now
    c.loop-name.name-index (get_or c.args.names.now c.loop-name.name-index no_text)
    (get_or_default _ _ _ _ c.loop-name-test.true) c.loop-name-test.true c.loop-name.row.items c.loop-name.invariant
    c.in_ok-number.number c.push.new.self.items pushed c.in_ok-number.ensures
