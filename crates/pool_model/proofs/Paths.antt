-- The list of paths: which paths stand in it, and in which order.
use Rattle.std.proofs.Common.{◌≡◌, ℕ, zero, suc, ◌<◌, inl, inr, length, refl, sym, ap, subst, ◌∙◌, arith}
use Rattle.std.specs.List.{All, AllPairs, Contains}
use Rattle.std.proofs.lemmas.List.Elements.{All-nil, All-append, All-map, All-weaker, at_from_Contains, Contains-append_left, Contains-append_right}
use Rattle.integers.proofs.AtKey.{same_or_other}
use Rattle.pool_model.specs.Network.{Net}
use Rattle.integers.specs.Numbers.{numbers_at}
use Rattle.integers.proofs.Elements.{All-flat_map, Contains-map, Contains-flat_map}
use Rattle.integers.proofs.Pairwise.{AllPairs-nil, AllPairs-append, AllPairs-map, AllPairs-weaker, AllPairs-flat_map}
use Rattle.integers.proofs.Numbers.{numbers_at-each, numbers_at-every, numbers_at-rise}
use Rattle.pool_model.specs.Paths.{Path, feed_paths, pool_paths, paths_below, paths_of, no_path, path_at, ComesBefore}
use Rattle.pool_model.specs.Starting.{IsWay, through}

-- ---- which paths there are
-- a path that begins with this feed
record BeginsWith (n : Net) (e : ℕ) (p : Path) : Type 0 where
  feed : p.feed ≡ e
  out : p.out < n.outs
  joined : n.out_pool p.out ≡ n.feed_pool e

feed_paths-each : (n : Net) (e : ℕ) → All (BeginsWith n e) (feed_paths n e)
feed_paths-each n e =
    All-map (BeginsWith n e) (λ o. record { feed = e; out = o }) (numbers_at n.out_pool (n.feed_pool e) n.outs)
    (All-weaker (λ o. (o < n.outs) × (n.out_pool o ≡ n.feed_pool e)) (λ o. BeginsWith n e record { feed = e; out = o })
    (λ o h. record { feed = refl; out = h.0; joined = h.1 }) (numbers_at n.out_pool (n.feed_pool e) n.outs) (numbers_at-each n.out_pool (n.feed_pool e) n.outs))

-- a path through this pool
record GoesThrough (n : Net) (l : ℕ) (p : Path) : Type 0 where
  way : IsWay n (through p.feed p.out)
  pool : n.feed_pool p.feed ≡ l

begins_through : (n : Net) (l e : ℕ) (p : Path) → e < n.feeds → n.feed_pool e ≡ l → BeginsWith n e p → GoesThrough n l p
begins_through n l e p lt at b = record {
  way = (subst (λ (f : ℕ). f < n.feeds) (sym b.feed) lt, b.out, ap n.feed_pool b.feed ∙ sym b.joined);
  pool = ap n.feed_pool b.feed ∙ at;
}

pool_paths-each : (n : Net) (l : ℕ) → All (GoesThrough n l) (pool_paths n l)
pool_paths-each n l =
    All-flat_map (GoesThrough n l) (feed_paths n) (numbers_at n.feed_pool l n.feeds)
    (All-weaker (λ e. (e < n.feeds) × (n.feed_pool e ≡ l)) (λ e. All (GoesThrough n l) (feed_paths n e))
    (λ e h. All-weaker (BeginsWith n e) (GoesThrough n l) (λ p b. begins_through n l e p h.0 h.1 b) (feed_paths n e) (feed_paths-each n e))
    (numbers_at n.feed_pool l n.feeds) (numbers_at-each n.feed_pool l n.feeds))

-- a path through a pool below a number
record GoesBelow (n : Net) (l : ℕ) (p : Path) : Type 0 where
  way : IsWay n (through p.feed p.out)
  pool : n.feed_pool p.feed < l

paths_below-each : (n : Net) (l : ℕ) → All (GoesBelow n l) (paths_below n l)
paths_below-each n zero = All-nil (GoesBelow n zero)
paths_below-each n (suc l) = All-append (GoesBelow n (suc l)) (paths_below n l) (pool_paths n l)
    (All-weaker (GoesBelow n l) (GoesBelow n (suc l)) (λ p g. record { way = g.way; pool = omega (arith, g.pool) }) (paths_below n l) (paths_below-each n l))
    (All-weaker (GoesThrough n l) (GoesBelow n (suc l)) (λ p g. record { way = g.way; pool = omega (arith, g.pool) }) (pool_paths n l) (pool_paths-each n l))

pub paths_of-each : (n : Net) → All (λ p. IsWay n (through p.feed p.out)) (paths_of n)
paths_of-each n = All-weaker (GoesBelow n n.pools) (λ p. IsWay n (through p.feed p.out)) (λ p g. g.way) (paths_of n) (paths_below-each n n.pools)

-- what is read of a path of the list
pub path_at-way : (n : Net) (a e o : ℕ) → a < length (paths_of n) → e ≡ (path_at n a).feed → o ≡ (path_at n a).out → IsWay n (through e o)
path_at-way n a e o lt feed out =
    let way = paths_of-each n a no_path lt in
    (subst (λ (z : ℕ). z < n.feeds) (sym feed) way.0, subst (λ (z : ℕ). z < n.outs) (sym out) way.1, ap n.feed_pool feed ∙ way.2 ∙ sym (ap n.out_pool out))

pool_paths-every : (n : Net) (e o : ℕ) → IsWay n (through e o) → Contains (pool_paths n (n.feed_pool e)) record { feed = e; out = o }
pool_paths-every n e o way =
    Contains-flat_map (feed_paths n) (numbers_at n.feed_pool (n.feed_pool e) n.feeds) e record { feed = e; out = o } (numbers_at-every n.feed_pool (n.feed_pool e) n.feeds e way.0 refl)
    (Contains-map (λ (i : ℕ). let p : Path = record { feed = e; out = i } in p) (numbers_at n.out_pool (n.feed_pool e) n.outs) o
    (numbers_at-every n.out_pool (n.feed_pool e) n.outs o way.1 (sym way.2)))

paths_below-every : (n : Net) (l e o : ℕ) → IsWay n (through e o) → n.feed_pool e < l → Contains (paths_below n l) record { feed = e; out = o }
paths_below-every n zero e o way lt = absurd (omega arith)
paths_below-every n (suc l) e o way lt = elim (same_or_other (n.feed_pool e) l) [
  | inl same ↦ Contains-append_right (paths_below n l) (pool_paths n l) record { feed = e; out = o }
      (subst (λ (k : ℕ). Contains (pool_paths n k) record { feed = e; out = o }) same (pool_paths-every n e o way))
  | inr d ↦ Contains-append_left (paths_below n l) (pool_paths n l) record { feed = e; out = o } (paths_below-every n l e o way (omega arith))
]

pub paths_of-every : (n : Net) (e o : ℕ) → IsWay n (through e o) → n.feed_pool e < n.pools → Contains (paths_of n) record { feed = e; out = o }
paths_of-every n e o way lt = paths_below-every n n.pools e o way lt

pub path_at-every : (n : Net) (e o : ℕ) → IsWay n (through e o) → n.feed_pool e < n.pools → (a : ℕ) × (a < length (paths_of n)) × (path_at n a ≡ record { feed = e; out = o })
path_at-every n e o way lt =
    let at = at_from_Contains (paths_of n) record { feed = e; out = o } (paths_of-every n e o way lt) in
    (at.0, at.1, at.2 no_path)

-- ---- their order
feed_paths-rise : (n : Net) (e : ℕ) → AllPairs (ComesBefore n) (feed_paths n e)
feed_paths-rise n e =
    AllPairs-map (ComesBefore n) (λ o. record { feed = e; out = o }) (numbers_at n.out_pool (n.feed_pool e) n.outs)
    (AllPairs-weaker (λ i j. i < j) (λ i j. ComesBefore n record { feed = e; out = i } record { feed = e; out = j })
    (numbers_at n.out_pool (n.feed_pool e) n.outs) (λ i j lt. inr (refl, inr (refl, lt))) (numbers_at-rise n.out_pool (n.feed_pool e) n.outs))

-- two feeds of one pool
later_feed : (n : Net) (l e f : ℕ) → n.feed_pool e ≡ l → n.feed_pool f ≡ l → e < f → All (λ p. All (ComesBefore n p) (feed_paths n f)) (feed_paths n e)
later_feed n l e f at to lt =
    All-weaker (BeginsWith n e) (λ p. All (ComesBefore n p) (feed_paths n f))
    (λ p b. All-weaker (BeginsWith n f) (ComesBefore n p)
    (λ q c. inr (ap n.feed_pool b.feed ∙ at ∙ sym (ap n.feed_pool c.feed ∙ to), inl (omega (arith, b.feed, c.feed)))) (feed_paths n f) (feed_paths-each n f))
    (feed_paths n e) (feed_paths-each n e)

pool_paths-rise : (n : Net) (l : ℕ) → AllPairs (ComesBefore n) (pool_paths n l)
pool_paths-rise n l =
    AllPairs-flat_map (λ e. (e < n.feeds) × (n.feed_pool e ≡ l)) (λ e f. e < f) (ComesBefore n) (feed_paths n) (numbers_at n.feed_pool l n.feeds)
    (numbers_at-each n.feed_pool l n.feeds) (numbers_at-rise n.feed_pool l n.feeds)
    (λ e h. feed_paths-rise n e)
    (λ e f h k lt. later_feed n l e f h.1 k.1 lt)

paths_below-rise : (n : Net) (l : ℕ) → AllPairs (ComesBefore n) (paths_below n l)
paths_below-rise n zero = AllPairs-nil (ComesBefore n)
paths_below-rise n (suc l) = AllPairs-append (ComesBefore n) (paths_below n l) (pool_paths n l) (paths_below-rise n l) (pool_paths-rise n l)
    (All-weaker (GoesBelow n l) (λ p. All (ComesBefore n p) (pool_paths n l))
    (λ p g. All-weaker (GoesThrough n l) (ComesBefore n p) (λ q h. inl (omega (arith, g.pool, h.pool))) (pool_paths n l) (pool_paths-each n l))
    (paths_below n l) (paths_below-each n l))

pub paths_of-rise : (n : Net) → AllPairs (ComesBefore n) (paths_of n)
paths_of-rise n = paths_below-rise n n.pools
