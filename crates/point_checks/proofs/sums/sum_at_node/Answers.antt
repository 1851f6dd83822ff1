use Rattle.std.proofs.Common.{ℕ, List, get_or, ap, ◌∙◌}
use Rattle.std.specs.List.{sum_by}
use Rattle.std.proofs.lemmas.List.{take_all}
use Rattle.pool_model.specs.Network.{net_of}
use Rattle.blend_network.specs.Keys.{count_of, key_of}
use Rattle.integers.proofs.Numbers.{numbers_at-total}
use Rattle.point_checks.proofs.sums.sum_at_node.Goals as goal

pub returns-clause-sum : goal.returns-clause-sum
returns-clause-sum c =
    let n = net_of c.args.net.now in
    let flow = λ (i : ℕ). get_or c.args.flows.now i 0 in
    c.loop-number.invariant.0
    ∙ ap (λ (xs : List ℕ). sum_by flow xs) (take_all c.loop-number.number-index c.numbers_at-number-items.result.now c.loop-number-test.false ∙ c.numbers_at-number-items.ensures.numbers)
    ∙ numbers_at-total flow (key_of n c.args.key) c.args.node (count_of n c.args.key)
