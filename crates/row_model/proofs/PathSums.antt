-- The paths of a network: their ends, and sums over them by feed and by out.
use Rattle.std.proofs.Common.{◌≡◌, ℕ, zero, suc, ◌<◌, ◌==◌, if◌then◌else◌, ℤ, pos, arith, refl, sym, ◌∙◌}
use Rattle.integers.specs.Sums.{int_sum_by, int_sum_below, int_sum_at, sum_at}
use Rattle.integers.proofs.Ring.{additive}
use Rattle.integers.proofs.ByIndex.{int_sum_below-same}
use Rattle.integers.proofs.AtKey.{chosen, passed, pos-sum_at, int_sum_at-same}
use Rattle.integers.proofs.ByNode.{int_sum_below-one, int_sum_at-nothing}
use Rattle.pool_model.specs.Network.{Net}
use Rattle.integers.specs.Numbers.{numbers_at}
use Rattle.integers.proofs.Numbers.{numbers_at-sum}
use Rattle.pool_model.specs.Paths.{Path, feed_paths, pool_paths, paths_below, paths_of, no_path}
use Rattle.pool_model.proofs.Paths.{path_at-way}
use Rattle.row_model.specs.Variables.{path_count, path_feed, path_out}
use Rattle.integers.proofs.ByList.{int_sum_by-append, int_sum_by-map, int_sum_by-flat_map, int_sum_by-index}
use Rattle.integers.proofs.Pairs.{int_sum_at-keys, int_sum_at-swap, int_sum_at-whole}
use Rattle.integers.proofs.Order.{same_pos}

-- the feeds go to pools of the network
pub record HasFeedPools (n : Net) : Type 0 where
  pub each : (e : ℕ) → e < n.feeds → n.feed_pool e < n.pools

-- ---- the ends of a path

pub path_feed-below : (n : Net) (q : ℕ) → q < path_count n → path_feed n q < n.feeds
path_feed-below n q lt = (path_at-way n q (path_feed n q) (path_out n q) lt refl refl).0

pub path_out-below : (n : Net) (q : ℕ) → q < path_count n → path_out n q < n.outs
path_out-below n q lt = (path_at-way n q (path_feed n q) (path_out n q) lt refl refl).1

pub path-joined : (n : Net) (q : ℕ) → q < path_count n → n.out_pool (path_out n q) ≡ n.feed_pool (path_feed n q)
path-joined n q lt = sym (path_at-way n q (path_feed n q) (path_out n q) lt refl refl).2

-- ---- sums over all paths
feed_paths-sum : (n : Net) (f : ℕ → ℕ → ℤ) (e : ℕ) → int_sum_by (λ p. f p.feed p.out) (feed_paths n e) ≡ int_sum_at n.out_pool (n.feed_pool e) (f e) n.outs
feed_paths-sum n f e =
    int_sum_by-map (λ (p : Path). f p.feed p.out) (λ o. record { feed = e; out = o }) (numbers_at n.out_pool (n.feed_pool e) n.outs)
    ∙ numbers_at-sum (f e) n.out_pool (n.feed_pool e) n.outs

pool_paths-sum : (n : Net) (f : ℕ → ℕ → ℤ) (l : ℕ)
    → int_sum_by (λ p. f p.feed p.out) (pool_paths n l) ≡ int_sum_at n.feed_pool l (λ e. int_sum_at n.out_pool (n.feed_pool e) (f e) n.outs) n.feeds
pool_paths-sum n f l =
    int_sum_by-flat_map (λ (p : Path). f p.feed p.out) (feed_paths n) (numbers_at n.feed_pool l n.feeds)
    ∙ numbers_at-sum (λ e. int_sum_by (λ p. f p.feed p.out) (feed_paths n e)) n.feed_pool l n.feeds
    ∙ int_sum_at-same n.feed_pool l (λ e. int_sum_by (λ p. f p.feed p.out) (feed_paths n e)) (λ e. int_sum_at n.out_pool (n.feed_pool e) (f e) n.outs) n.feeds (λ e lt is. feed_paths-sum n f e)

paths_below-sum : (n : Net) (f : ℕ → ℕ → ℤ) (m : ℕ)
    → int_sum_by (λ p. f p.feed p.out) (paths_below n m) ≡ int_sum_below (λ l. int_sum_at n.feed_pool l (λ e. int_sum_at n.out_pool (n.feed_pool e) (f e) n.outs) n.feeds) m
paths_below-sum n f zero = refl
paths_below-sum n f (suc m) = omega (arith, additive, int_sum_by-append (λ (p : Path). f p.feed p.out) (paths_below n m) (pool_paths n m), paths_below-sum n f m, pool_paths-sum n f m)

-- by feed
pub paths_by_feed : (n : Net) (f : ℕ → ℕ → ℤ) → HasFeedPools n
    → int_sum_below (λ q. f (path_feed n q) (path_out n q)) (path_count n) ≡ int_sum_below (λ e. int_sum_at n.out_pool (n.feed_pool e) (f e) n.outs) n.feeds
paths_by_feed n f h =
    sym (int_sum_by-index (λ (p : Path). f p.feed p.out) (paths_of n) no_path)
    ∙ paths_below-sum n f n.pools
    ∙ int_sum_at-keys n.feed_pool (λ e. int_sum_at n.out_pool (n.feed_pool e) (f e) n.outs) n.pools n.feeds h.each

-- by out
pub paths_by_out : (n : Net) (f : ℕ → ℕ → ℤ) → HasFeedPools n
    → int_sum_below (λ q. f (path_feed n q) (path_out n q)) (path_count n) ≡ int_sum_below (λ o. int_sum_at n.feed_pool (n.out_pool o) (λ e. f e o) n.feeds) n.outs
paths_by_out n f h = paths_by_feed n f h ∙ int_sum_at-swap f n.feed_pool n.out_pool n.feeds n.outs

-- ---- sums over some paths

-- the paths that begin with a feed
pub paths_at_feed : (n : Net) (f : ℕ → ℕ → ℤ) (e : ℕ) → HasFeedPools n → e < n.feeds
    → int_sum_at (path_feed n) e (λ q. f (path_feed n q) (path_out n q)) (path_count n) ≡ int_sum_at n.out_pool (n.feed_pool e) (f e) n.outs
paths_at_feed n f e h lt =
    paths_by_feed n (λ i o. if i == e then f i o else pos 0) h
    ∙ int_sum_below-one (λ i. int_sum_at n.out_pool (n.feed_pool i) (λ o. if i == e then f i o else pos 0) n.outs) e n.feeds lt
    (λ i li ne. int_sum_at-nothing n.out_pool (n.feed_pool i) (λ o. if i == e then f i o else pos 0) n.outs (λ o lo. passed i e (f i o) (pos 0) ne))
    ∙ int_sum_at-same n.out_pool (n.feed_pool e) (λ o. if e == e then f e o else pos 0) (f e) n.outs (λ o lo is. chosen e e (f e o) (pos 0) refl)

-- the paths that end with an out
pub paths_at_out : (n : Net) (f : ℕ → ℕ → ℤ) (o : ℕ) → HasFeedPools n → o < n.outs
    → int_sum_at (path_out n) o (λ q. f (path_feed n q) (path_out n q)) (path_count n) ≡ int_sum_at n.feed_pool (n.out_pool o) (λ e. f e o) n.feeds
paths_at_out n f o h lt =
    paths_by_out n (λ e i. if i == o then f e i else pos 0) h
    ∙ int_sum_below-one (λ i. int_sum_at n.feed_pool (n.out_pool i) (λ e. if i == o then f e i else pos 0) n.feeds) o n.outs lt
    (λ i li ne. int_sum_at-nothing n.feed_pool (n.out_pool i) (λ e. if i == o then f e i else pos 0) n.feeds (λ e le. passed i o (f e i) (pos 0) ne))
    ∙ int_sum_at-same n.feed_pool (n.out_pool o) (λ e. if o == o then f e o else pos 0) (λ e. f e o) n.feeds (λ e le is. chosen o o (f e o) (pos 0) refl)

-- the paths whose outs have a key: by out
pub paths_at_key : (n : Net) (f : ℕ → ℕ → ℤ) (key : ℕ → ℕ) (j : ℕ) → HasFeedPools n
    → int_sum_at (λ q. key (path_out n q)) j (λ q. f (path_feed n q) (path_out n q)) (path_count n)
    ≡ int_sum_at key j (λ o. int_sum_at n.feed_pool (n.out_pool o) (λ e. f e o) n.feeds) n.outs
paths_at_key n f key j h =
    paths_by_out n (λ e o. if key o == j then f e o else pos 0) h
    ∙ int_sum_below-same (λ o. int_sum_at n.feed_pool (n.out_pool o) (λ e. if key o == j then f e o else pos 0) n.feeds)
    (λ o. if key o == j then int_sum_at n.feed_pool (n.out_pool o) (λ e. f e o) n.feeds else pos 0) n.outs
    (λ o lo. int_sum_at-whole (key o == j) n.feed_pool (n.out_pool o) (λ e. f e o) n.feeds)

-- ---- the same of natural numbers
pub natural_paths_at_feed : (n : Net) (f : ℕ → ℕ) (e : ℕ) → HasFeedPools n → e < n.feeds
    → sum_at (path_feed n) e (λ q. f (path_out n q)) (path_count n) ≡ sum_at n.out_pool (n.feed_pool e) f n.outs
natural_paths_at_feed n f e h lt = same_pos (sum_at (path_feed n) e (λ q. f (path_out n q)) (path_count n)) (sum_at n.out_pool (n.feed_pool e) f n.outs)
    (sym (pos-sum_at (path_feed n) e (λ q. f (path_out n q)) (path_count n))
    ∙ paths_at_feed n (λ i o. pos (f o)) e h lt
    ∙ pos-sum_at n.out_pool (n.feed_pool e) f n.outs)

pub natural_paths_at_out : (n : Net) (f : ℕ → ℕ) (o : ℕ) → HasFeedPools n → o < n.outs
    → sum_at (path_out n) o (λ q. f (path_feed n q)) (path_count n) ≡ sum_at n.feed_pool (n.out_pool o) f n.feeds
natural_paths_at_out n f o h lt = same_pos (sum_at (path_out n) o (λ q. f (path_feed n q)) (path_count n)) (sum_at n.feed_pool (n.out_pool o) f n.feeds)
    (sym (pos-sum_at (path_out n) o (λ q. f (path_feed n q)) (path_count n))
    ∙ paths_at_out n (λ e i. pos (f e)) o h lt
    ∙ pos-sum_at n.feed_pool (n.out_pool o) f n.feeds)
