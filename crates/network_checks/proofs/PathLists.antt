-- The list of paths, one arc after another.
use Rattle.std.proofs.Common.{◌≡◌, ◌≢◌, ℕ, zero, suc, ◌+◌, List, ◌++◌, length, get_or, refl, sym, ap, ◌∙◌}
use Rattle.std.specs.List.{flat_map}
use Rattle.std.proofs.lemmas.List.{flat_map_more}
use Rattle.integers.specs.Numbers.{numbers_at}
use Rattle.integers.proofs.Numbers.{numbers_at-yes, numbers_at-no}
use Rattle.pool_model.specs.Network.{Arc, Net, Network, net_of, no_arc}
use Rattle.pool_model.specs.Paths.{feed_paths, pool_paths, paths_below, paths_of}
use Rattle.pool_model.specs.Paths as paths
use Rattle.network_parts.specs.Views.{joined_net, paths_behind}

-- one more feed of the pool
pub through_yes : (net : Net) (pool e : ℕ) (was now old more : List paths.Path) → was ≡ old ++ flat_map (feed_paths net) (numbers_at net.feed_pool pool e) → net.feed_pool e ≡ pool
    → now ≡ was ++ more → more ≡ feed_paths net e → now ≡ old ++ flat_map (feed_paths net) (numbers_at net.feed_pool pool (e + 1))
through_yes net pool e was now old more is at made same =
    made
    ∙ ap (λ xs. xs ++ more) is
    ∙ ap (λ xs. (old ++ flat_map (feed_paths net) (numbers_at net.feed_pool pool e)) ++ xs) same
    ∙ flat_map_more (feed_paths net) old (numbers_at net.feed_pool pool e) e
    ∙ ap (λ xs. old ++ flat_map (feed_paths net) xs) (sym (numbers_at-yes net.feed_pool pool e at))

pub through_no : (net : Net) (pool e : ℕ) (was old : List paths.Path) → was ≡ old ++ flat_map (feed_paths net) (numbers_at net.feed_pool pool e) → net.feed_pool e ≢ pool
    → was ≡ old ++ flat_map (feed_paths net) (numbers_at net.feed_pool pool (e + 1))
through_no net pool e was old is at = is ∙ ap (λ xs. old ++ flat_map (feed_paths net) xs) (sym (numbers_at-no net.feed_pool pool e at))

-- the paths of a feed are those behind it
pub behind_all : (pools : ℕ) (feeds outs : List Arc) (e pool : ℕ) → (get_or feeds e no_arc).to ≡ pool → paths_behind outs e pool (length outs) ≡ feed_paths (joined_net pools feeds outs) e
behind_all pools feeds outs e pool at = ap (λ l. paths_behind outs e l (length outs)) (sym at)

-- the paths of a network are those of its pools, feeds and outs
same_below : (n : Network) (pools l : ℕ) → paths_below (joined_net pools n.feeds n.outs) l ≡ paths_below (net_of n) l
unfolding net_of
same_below n pools zero = refl
same_below n pools (suc l) = ap (λ xs. xs ++ pool_paths (joined_net pools n.feeds n.outs) l) (same_below n pools l)

pub same_paths : (n : Network) (pools : ℕ) (feeds outs : List Arc) → pools ≡ length n.pools → feeds ≡ n.feeds → outs ≡ n.outs → paths_of (joined_net pools feeds outs) ≡ paths_of (net_of n)
unfolding net_of
same_paths n pools feeds outs p f o =
    ap (λ xs. paths_of (joined_net pools xs outs)) f
    ∙ ap (λ xs. paths_of (joined_net pools n.feeds xs)) o
    ∙ ap (paths_below (joined_net pools n.feeds n.outs)) p
    ∙ same_below n pools (length n.pools)
