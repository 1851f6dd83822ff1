use Rattle.std.proofs.Common.{ℕ, List, get_or, ap, ◌∙◌}
use Rattle.std.specs.List.{sum_by}
use Rattle.std.proofs.lemmas.List.{take_all}
use Rattle.pool_model.specs.Network.{net_of}
use Rattle.integers.proofs.Numbers.{numbers_at-total}
use Rattle.program_points.proofs.flows.total.Goals as goal

pub returns-clause-sum : goal.returns-clause-sum
returns-clause-sum c =
    let n = net_of c.args.net.now in
    let flow = λ (o : ℕ). get_or c.args.outflows.now o 0 in
    c.loop-out.invariant.0
    ∙ ap (λ (xs : List ℕ). sum_by flow xs) (take_all c.loop-out.out-index c.numbers_at-outs.result.now c.loop-out-test.false ∙ c.numbers_at-outs.ensures.numbers)
    ∙ numbers_at-total flow n.out_pool c.args.pool n.outs
