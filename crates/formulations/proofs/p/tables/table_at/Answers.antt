use Rattle.std.proofs.Common.{◌≡◌, ℕ, ◌-◌, ◌*◌, ◌/◌, ◌%◌, ◌<◌, ap, arith, length, get_or, sym, unsigned_abs, ◌∙◌}
use Rattle.pool_model.specs.Network.{net_of}
use Rattle.pool_model.specs.Limits.{Limit, most_limits, least_limits, no_limit}
use Rattle.row_model.specs.Catalogue.{mixing_row, mixed_most_row, mixed_least_row}
use Rattle.integers.proofs.Grids.{grid-row, grid-column}
use Rattle.formulations.proofs.FamiliesOfP.{at_mixing, at_most, at_least}
use Rattle.formulations.proofs.InParts.{limit-few}
use Rattle.formulations.proofs.p.tables.table_at.Goals as goal

pub returns-then-n-mixing_rows-clause-row : goal.returns-then-n-mixing_rows-clause-row
returns-then-n-mixing_rows-clause-row c = λ b.
    let n = net_of c.args.net.now in
    let counts = c.sizes-counts.ensures.counts in
    let rows : c.mixings-mixing_rows.result ≡ n.pools * n.qualities =
    omega (arith, c.mixings-mixing_rows.ensures.value, ap (λ (z : ℕ). z * c.sizes-counts.result.qualities) counts.pools, ap (λ (z : ℕ). n.pools * z) counts.qualities) in
    c.mixing.ensures.row n ∙ ap (λ (q : ℕ). mixing_row n (c.args.n / q) (c.args.n % q)) counts.qualities ∙ sym (at_mixing n b c.args.n (omega (arith, rows)))

pub returns-then-n-mixing_rows-clause-table : goal.returns-then-n-mixing_rows-clause-table
returns-then-n-mixing_rows-clause-table c =
    let n = net_of c.args.net.now in
    let counts = c.sizes-counts.ensures.counts in
    let among : c.args.n < c.sizes-counts.result.pools * c.sizes-counts.result.qualities = omega (arith, c.mixings-mixing_rows.ensures.value) in
    c.mixing.ensures.table n (omega (arith, counts.pools, grid-row c.sizes-counts.result.pools c.sizes-counts.result.qualities c.args.n among))
    (omega (arith, counts.qualities, grid-column c.sizes-counts.result.pools c.sizes-counts.result.qualities c.args.n among))

pub returns-then-n-most-clause-row : goal.returns-then-n-most-clause-row
returns-then-n-most-clause-row c = λ b.
    let n = net_of c.args.net.now in
    let counts = c.sizes-counts.ensures.counts in
    let rows : c.mixings-mixing_rows.result ≡ n.pools * n.qualities =
    omega (arith, c.mixings-mixing_rows.ensures.value, ap (λ (z : ℕ). z * c.sizes-counts.result.qualities) counts.pools, ap (λ (z : ℕ). n.pools * z) counts.qualities) in
    let place : c.args.n - c.mixings-mixing_rows.result ≡ c.args.n - n.pools * n.qualities = omega (arith, rows) in
    c.mixed_most.ensures.row ∙ ap (mixed_most_row n) (c.limit_at.ensures.limit ∙ ap (λ (z : ℕ). get_or (most_limits n) z no_limit) place)
    ∙ sym (at_most n b c.args.n (omega (arith, rows)) (omega (arith, rows, c.count_limits-most.ensures.count)))

pub returns-clause-row : goal.returns-clause-row
returns-clause-row c = λ b.
    let n = net_of c.args.net.now in
    let counts = c.sizes-counts.ensures.counts in
    let most = c.count_limits-most.ensures.count in
    let rows : c.mixings-mixing_rows.result ≡ n.pools * n.qualities =
    omega (arith, c.mixings-mixing_rows.ensures.value, ap (λ (z : ℕ). z * c.sizes-counts.result.qualities) counts.pools, ap (λ (z : ℕ). n.pools * z) counts.qualities) in
    let place : c.args.n - c.mixings-mixing_rows.result - c.count_limits-most.result ≡ c.args.n - n.pools * n.qualities - length (most_limits n) = omega (arith, rows, most) in
    c.mixed_least.ensures.row ∙ ap (mixed_least_row n) (c.limit_at-2.ensures.limit ∙ ap (λ (z : ℕ). get_or (least_limits n) z no_limit) place)
    ∙ sym (at_least n b c.args.n (omega (arith, rows)) (omega (arith, rows, most)) (omega (arith, rows, most)))

pub returns-then-n-most-clause-table : goal.returns-then-n-most-clause-table
returns-then-n-most-clause-table c = c.mixed_most.ensures.table

pub returns-clause-table : goal.returns-clause-table
returns-clause-table c = c.mixed_least.ensures.table

pub mixed_most-requires-clause-limit : goal.mixed_most-requires-clause-limit
mixed_most-requires-clause-limit c =
    let n = net_of c.args.net.now in
    let few = limit-few n n.most c.sizes-counts.ensures.limited.most_limits (c.args.n - c.mixings-mixing_rows.result) (omega (arith, c.count_limits-most.ensures.count)) in
    omega (arith, few.limit, ap (λ (u : Limit). unsigned_abs u.limit) c.limit_at.ensures.limit)

pub mixed_least-requires-clause-limit : goal.mixed_least-requires-clause-limit
mixed_least-requires-clause-limit c =
    let n = net_of c.args.net.now in
    let counts = c.sizes-counts.ensures.counts in
    let rows : c.mixings-mixing_rows.result ≡ n.pools * n.qualities =
    omega (arith, c.mixings-mixing_rows.ensures.value, ap (λ (z : ℕ). z * c.sizes-counts.result.qualities) counts.pools, ap (λ (z : ℕ). n.pools * z) counts.qualities) in
    let few = limit-few n n.least c.sizes-counts.ensures.limited.least_limits (c.args.n - c.mixings-mixing_rows.result - c.count_limits-most.result)
    (omega (arith, rows, c.count_limits-most.ensures.count)) in
    omega (arith, few.limit, ap (λ (u : Limit). unsigned_abs u.limit) c.limit_at-2.ensures.limit)
