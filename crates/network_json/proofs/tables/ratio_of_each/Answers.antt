use Rattle.std.proofs.Common.{◌≡◌, pos, [], ◌∷◌, ◌++◌, rules, get_or, List, ℕ, Bor, FitsSigned}
use Rattle.std.proofs.lemmas.Int.{to_z-of_z}
use Rattle.std.proofs.lemmas.List.{get_or_default}
use Rattle.std.specs.Int.{w128}
use Rattle.serde_json.specs.View.{view}
use Rattle.json_walk.specs.Walk.{allows, ratio}
use Rattle.json_walk.proofs.Each.{value_step, value_stop}
use Rattle.network_json.proofs.tables.ratio_of_each.Goals as goal

abbrev no_text : Bor (List ℕ)
no_text = record { ref_ptr = (0, 0); now = [] }

pub returns-in_err-thousandths : goal.returns-in_err-thousandths
returns-in_err-thousandths c = value_stop (λ n k. allows k (pos 1000) (ratio c.args.at) (view c.args.value.now))
    (λ s. s.now) c.args.names.now c.loop-name.name-index (get_or c.args.names.now c.loop-name.name-index no_text)
    (get_or_default _ _ _ _ c.loop-name-test.true) c.loop-name-test.true c.loop-name.row.items c.loop-name.invariant _
    c.from_residual.result c.in_err-thousandths.field-0.0 c.from_residual.ensures.1 c.in_err-thousandths.ensures

pub loop-name-preserved : goal.loop-name-preserved
loop-name-preserved c =
    let fits : FitsSigned w128 c.in_ok-thousandths.thousandths = search rules in
    let pushed : c.push.new.self.items ≡ c.loop-name.row.items ++ c.in_ok-thousandths.thousandths ∷ [] = simp to_z-of_z at c.in_ok-push.ensures.items in
    value_step (λ n k. allows k (pos 1000) (ratio c.args.at) (view c.args.value.now)) (λ s. s.now) c.args.names.now
    c.loop-name.name-index (get_or c.args.names.now c.loop-name.name-index no_text)
    (get_or_default _ _ _ _ c.loop-name-test.true) c.loop-name-test.true c.loop-name.row.items c.loop-name.invariant
    c.in_ok-thousandths.thousandths c.push.new.self.items pushed c.in_ok-thousandths.ensures
