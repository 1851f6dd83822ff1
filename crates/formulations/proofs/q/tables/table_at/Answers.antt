use Rattle.std.proofs.Common.{◌≡◌, ℕ, ◌-◌, ap, arith, length, get_or, sym, unsigned_abs, ◌∙◌}
use Rattle.pool_model.specs.Network.{net_of}
use Rattle.pool_model.specs.Limits.{Limit, most_limits, least_limits, no_limit}
use Rattle.row_model.specs.Catalogue.{feed_row, path_most_row, path_least_row}
use Rattle.formulations.proofs.FamiliesOfQ.{at_proportions, at_feed, at_most, at_least}
use Rattle.formulations.proofs.InParts.{limit-few}
use Rattle.formulations.proofs.q.tables.table_at.Goals as goal

pub returns-then-n-counts-clause-row : goal.returns-then-n-counts-clause-row
returns-then-n-counts-clause-row c = λ b.
    let n = net_of c.args.net.now in
    c.proportions.ensures.row n ∙ sym (at_proportions n b c.args.n (omega (arith, c.sizes-counts.ensures.counts.pools)))

pub returns-then-n-counts-clause-table : goal.returns-then-n-counts-clause-table
returns-then-n-counts-clause-table c = c.proportions.ensures.table (net_of c.args.net.now) (omega (arith, c.sizes-counts.ensures.counts.pools))

pub returns-then-n-counts-2-clause-row : goal.returns-then-n-counts-2-clause-row
returns-then-n-counts-2-clause-row c = λ b.
    let n = net_of c.args.net.now in
    let counts = c.sizes-counts.ensures.counts in
    let place : c.args.n - c.sizes-counts.result.pools ≡ c.args.n - n.pools = ap (λ (z : ℕ). c.args.n - z) counts.pools in
    c.feed.ensures.row n ∙ ap (feed_row n) place ∙ sym (at_feed n b c.args.n (omega (arith, counts.pools)) (omega (arith, counts.pools, counts.feeds)))

pub returns-then-n-most-clause-row : goal.returns-then-n-most-clause-row
returns-then-n-most-clause-row c = λ b.
    let n = net_of c.args.net.now in
    let counts = c.sizes-counts.ensures.counts in
    let place : c.args.n - c.sizes-counts.result.pools - c.sizes-counts.result.feeds ≡ c.args.n - n.pools - n.feeds = omega (arith, counts.pools, counts.feeds) in
    c.path_most.ensures.row ∙ ap (path_most_row n) (c.limit_at.ensures.limit ∙ ap (λ (z : ℕ). get_or (most_limits n) z no_limit) place)
    ∙ sym (at_most n b c.args.n (omega (arith, counts.pools)) (omega (arith, counts.pools, counts.feeds)) (omega (arith, counts.pools, counts.feeds, c.count_limits-most.ensures.count)))

pub returns-clause-row : goal.returns-clause-row
returns-clause-row c = λ b.
    let n = net_of c.args.net.now in
    let counts = c.sizes-counts.ensures.counts in
    let most = c.count_limits-most.ensures.count in
    let place : c.args.n - c.sizes-counts.result.pools - c.sizes-counts.result.feeds - c.count_limits-most.result
    ≡ c.args.n - n.pools - n.feeds - length (most_limits n) = omega (arith, counts.pools, counts.feeds, most) in
    c.path_least.ensures.row ∙ ap (path_least_row n) (c.limit_at-2.ensures.limit ∙ ap (λ (z : ℕ). get_or (least_limits n) z no_limit) place)
    ∙ sym (at_least n b c.args.n (omega (arith, counts.pools)) (omega (arith, counts.pools, counts.feeds))
    (omega (arith, counts.pools, counts.feeds, most)) (omega (arith, counts.pools, counts.feeds, most)))

pub returns-then-n-most-clause-table : goal.returns-then-n-most-clause-table
returns-then-n-most-clause-table c = c.path_most.ensures.table

pub returns-clause-table : goal.returns-clause-table
returns-clause-table c = c.path_least.ensures.table

pub path_most-requires-clause-limit : goal.path_most-requires-clause-limit
path_most-requires-clause-limit c =
    let n = net_of c.args.net.now in
    let few = limit-few n n.most c.sizes-counts.ensures.limited.most_limits (c.args.n - c.sizes-counts.result.pools - c.sizes-counts.result.feeds)
    (omega (arith, c.count_limits-most.ensures.count)) in
    omega (arith, few.limit, ap (λ (u : Limit). unsigned_abs u.limit) c.limit_at.ensures.limit)

pub path_least-requires-clause-limit : goal.path_least-requires-clause-limit
path_least-requires-clause-limit c =
    let n = net_of c.args.net.now in
    let counts = c.sizes-counts.ensures.counts in
    let few = limit-few n n.least c.sizes-counts.ensures.limited.least_limits (c.args.n - c.sizes-counts.result.pools - c.sizes-counts.result.feeds - c.count_limits-most.result)
    (omega (arith, counts.pools, counts.feeds, c.count_limits-most.ensures.count)) in
    omega (arith, few.limit, ap (λ (u : Limit). unsigned_abs u.limit) c.limit_at-2.ensures.limit)
