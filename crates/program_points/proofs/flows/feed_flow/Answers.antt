use Rattle.std.proofs.Common.{ℕ, List, ◌*◌, length, get_or, arith, ap, ◌∙◌}
use Rattle.integers.proofs.Tabulate.{length-tabulate, get_or-tabulate}
use Rattle.pool_model.specs.Network.{net_of}
use Rattle.pool_model.specs.Plan.{weight, written_outflow}
use Rattle.plan_core.specs.Views.{shown_plan}
use Rattle.program_points.proofs.flows.feed_flow.Goals as goal

pub bounds-totals-pool : goal.bounds-totals-pool
bounds-totals-pool c =
    let n = net_of c.args.net.now in
    omega (arith, ap (λ (xs : List ℕ). length xs) c.requires.totals, length-tabulate (written_outflow n (shown_plan c.args.plan.now)) n.pools, c.feed-pool.ensures.known_pool)

pub returns : goal.returns
returns c =
    let n = net_of c.args.net.now in
    let w = shown_plan c.args.plan.now in
    let total = ap (λ (xs : List ℕ). get_or xs c.feed-pool.result.1 0) c.requires.totals
    ∙ get_or-tabulate (written_outflow n w) n.pools c.feed-pool.result.1 0 c.feed-pool.ensures.known_pool
    ∙ ap (written_outflow n w) c.feed-pool.ensures.pool in
    c.parted.ensures ∙ ap (λ (x : ℕ). x * get_or c.args.totals.now c.feed-pool.result.1 0) (ap (λ (xs : List ℕ). get_or xs c.args.feed 0) c.as_slice.ensures.value)
    ∙ ap (λ (t : ℕ). weight w c.args.feed * t) total
