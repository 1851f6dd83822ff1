use Rattle.std.proofs.Common.{◌≡◌, ◌∙◌, ◌*◌, ◌≤◌, ◌^◌, ℕ, Bool, true, false, ◌==◌, if◌then◌else◌, ℤ, pos, unsigned_abs, FitsSigned, rules, sym, ap, subst, arith}
use Rattle.std.proofs.lemmas.Int.{to_z-of_z}
use mir.Syntax.{w128}
use Rattle.pool_model.specs.Network.{Net, net_of}
use Rattle.pool_model.specs.Plan.{outflow, plan_of}
use Rattle.pool_model.specs.Starting.{feeds_before, first_weight}
use Rattle.plan_core.specs.Views.{shown_plan}
use Rattle.tight_leaf.proofs.PlanValues.{share-none, share-weight, weight-small}
use Rattle.tight_leaf.proofs.plan_point.share.Goals as goal

pub returns-then-pool_flow-gt0-clause-value : goal.returns-then-pool_flow-gt0-clause-value
returns-then-pool_flow-gt0-clause-value c =
    let n = net_of c.args.net.now in
    let w = shown_plan c.args.plan.now in
    let fits : FitsSigned w128 c.weight.result = search rules in
    to_z-of_z w128 c.weight.result fits ∙ c.weight.ensures.value
    ∙ ap pos (sym (share-weight n w c.requires.limited c.requires.written c.args.feed c.pool_flow.result
    (c.pool_flow.ensures.flow ∙ ap (outflow n (plan_of n w)) c.feed-pool.ensures.pool) (omega arith)))

pub returns-then-pool_flow-gt0-clause-small : goal.returns-then-pool_flow-gt0-clause-small
returns-then-pool_flow-gt0-clause-small c =
    let n = net_of c.args.net.now in
    let w = shown_plan c.args.plan.now in
    let fits : FitsSigned w128 c.weight.result = search rules in
    let small = weight-small n w c.requires.limited c.requires.written c.args.feed c.requires.feed in
    subst (λ (z : ℤ). unsigned_abs z ≤ 2 ^ 20) (sym (to_z-of_z w128 c.weight.result fits ∙ c.weight.ensures.value)) (omega (arith, small, c.requires.written.base))

abbrev choose : Bool → ℕ
choose b = if b then 1 else 0

first-yes : (n : Net) (e : ℕ) (t : Bool) → t ≡ (feeds_before n e == 0) → t ≡ true → first_weight n e ≡ 1
first-yes n e t h k = ap choose (sym h ∙ k)

first-no : (n : Net) (e : ℕ) (t : Bool) → t ≡ (feeds_before n e == 0) → t ≡ false → first_weight n e ≡ 0
first-no n e t h k = ap choose (sym h ∙ k)

times-one : (b : ℕ) → b ≡ b * 1
times-one b = omega arith

times-none : (b : ℕ) → 0 ≡ b * 0
times-none b = omega arith

pub returns-then-is_first_feed-clause-value : goal.returns-then-is_first_feed-clause-value
returns-then-is_first_feed-clause-value c =
    let n = net_of c.args.net.now in
    let w = shown_plan c.args.plan.now in
    let fits : FitsSigned w128 c.from.result = search rules in
    to_z-of_z w128 c.from.result fits ∙ c.from.ensures
    ∙ ap pos (times-one w.base ∙ sym (share-none n w c.requires.limited c.requires.written c.args.feed c.pool_flow.result 1
    (c.pool_flow.ensures.flow ∙ ap (outflow n (plan_of n w)) c.feed-pool.ensures.pool) (omega arith) (first-yes n c.args.feed c.is_first_feed.result c.is_first_feed.ensures c.if-is_first_feed.true)))

pub returns-else-is_first_feed-clause-value : goal.returns-else-is_first_feed-clause-value
returns-else-is_first_feed-clause-value c =
    let n = net_of c.args.net.now in
    let w = shown_plan c.args.plan.now in
    ap pos (times-none w.base ∙ sym (share-none n w c.requires.limited c.requires.written c.args.feed c.pool_flow.result 0
    (c.pool_flow.ensures.flow ∙ ap (outflow n (plan_of n w)) c.feed-pool.ensures.pool) (omega arith) (first-no n c.args.feed c.is_first_feed.result c.is_first_feed.ensures c.if-is_first_feed.false)))
