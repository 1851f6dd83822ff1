-- Every row of the catalogue holds at the point of each plan that obeys and lies in the box.
use Rattle.std.proofs.Common.{ℕ, ◌+◌, ◌*◌, ◌/◌, ◌%◌, ◌<◌, ◌++◌, get_or}
use Rattle.integers.specs.Sums.{product_below}
use Rattle.pool_model.specs.Network.{Net, IsLimited}
use Rattle.pool_model.specs.Plan.{Plan, Obeys, factor}
use Rattle.row_model.specs.Boxes.{Box, LiesIn}
use Rattle.row_model.specs.Variables.{path_count}
use Rattle.pool_model.specs.Limits.{most_limits, least_limits, no_limit}
use Rattle.row_model.specs.Catalogue.{HoldsOfEach, network_families, p_families, q_families, pq_families, catalogue, rows, row_at}
use Rattle.row_model.specs.Lift.{lift, HoldsAt}
use Rattle.integers.proofs.Grids.{grid-row, grid-column}
use Rattle.pool_model.proofs.Limits.{most_limit-set, least_limit-set}
use Rattle.row_model.proofs.Families.{each_row, each-append}
use Rattle.row_model.proofs.NetworkRows.{network_rows-met}
use Rattle.row_model.proofs.PRows.{mixing_row-holds, mixed_most_row-holds, mixed_least_row-holds, quality_envelope_row-holds}
use Rattle.row_model.proofs.QRows.{proportions_row-holds, feed_row-holds, path_most_row-holds, path_least_row-holds, proportion_envelope_row-holds}
use Rattle.row_model.proofs.PqRows.{out_row-holds, share_row-holds}

p_families-hold : (n : Net) (b : Box) (p : Plan) → IsLimited n → Obeys n p → LiesIn n p b → HoldsOfEach (HoldsAt n p) (p_families n b)
p_families-hold n b p lim o lies = (
  λ i lt. mixing_row-holds n p (i / n.qualities) (i % n.qualities) lim o.carries (grid-row n.pools n.qualities i lt) (grid-column n.pools n.qualities i lt),
  (
    λ i lt. let u = most_limit-set n i lt in mixed_most_row-holds n p (get_or (most_limits n) i no_limit) o.blends u.product u.quality u.set,
    (
      λ i lt. let u = least_limit-set n i lt in mixed_least_row-holds n p (get_or (least_limits n) i no_limit) o.blends u.product u.quality u.set,
      (
        λ i lt.
            quality_envelope_row-holds n b p (i / (n.qualities * 4)) (i % (n.qualities * 4) / 4) (i % 4 + 1) lim lies (grid-row n.outs (n.qualities * 4) i lt)
            (grid-row n.qualities 4 (i % (n.qualities * 4)) (grid-column n.outs (n.qualities * 4) i lt)),
        tt,
      ),
    ),
  ),
)

q_families-hold : (n : Net) (b : Box) (p : Plan) → IsLimited n → Obeys n p → LiesIn n p b → HoldsOfEach (HoldsAt n p) (q_families n b)
q_families-hold n b p lim o lies = (
  λ l lt. proportions_row-holds n p l lim o.carries lt,
  (
    λ e lt. feed_row-holds n p e lim o.carries lt,
    (
      λ i lt. let u = most_limit-set n i lt in path_most_row-holds n p (get_or (most_limits n) i no_limit) lim o.blends u.product u.quality u.set,
      (
        λ i lt. let u = least_limit-set n i lt in path_least_row-holds n p (get_or (least_limits n) i no_limit) lim o.blends u.product u.quality u.set,
        (
          λ i lt. proportion_envelope_row-holds n b p (i / 4) (i % 4 + 1) lim lies (grid-row (path_count n) 4 i lt),
          tt,
        ),
      ),
    ),
  ),
)

pq_families-hold : (n : Net) (p : Plan) → IsLimited n → Obeys n p → HoldsOfEach (HoldsAt n p) (pq_families n)
pq_families-hold n p lim o = (
  λ i lt. out_row-holds n p i lim o.carries lt,
  (
    λ e lt. share_row-holds n p e lim o.carries lt,
    tt,
  ),
)

pub row_at-holds : (n : Net) (b : Box) (p : Plan) (id : ℕ) → IsLimited n → Obeys n p → LiesIn n p b → id < rows n → HoldsAt n p (row_at n b id)
row_at-holds n b p id lim o lies =
    let holds = HoldsAt n p in
    each_row holds (catalogue n b)
    (each-append holds (network_families n) (p_families n b ++ (q_families n b ++ pq_families n)) (network_rows-met n (product_below (factor n p) n.pools) p (lift n p) o.carries)
    (each-append holds (p_families n b) (q_families n b ++ pq_families n) (p_families-hold n b p lim o lies)
    (each-append holds (q_families n b) (pq_families n) (q_families-hold n b p lim o lies) (pq_families-hold n p lim o)))) id
