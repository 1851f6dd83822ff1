-- The groups of arcs and paths by each key.
use Rattle.std.proofs.Common.{◌≡◌, ℕ, ◌+◌, ◌<◌, ◌≤◌, List, [], ◌∷◌, ◌++◌, length, map, take, get_or, refl, sym, ap, ◌∙◌, arith}
use Rattle.std.proofs.lemmas.List.{length-map, get_or-map, map-append, take_more}
use Rattle.number_groups.specs.Groups.{groups_of}
use Rattle.number_groups.proofs.Grouped.{groups_of-same}
use Rattle.pool_model.specs.Rows.{Rows}
use Rattle.pool_model.specs.Naming.{network_of}
use Rattle.pool_model.specs.Network as model
use Rattle.pool_model.specs.Network.{Net, net_of, IsLimited, no_arc}
use Rattle.pool_model.specs.Paths as path
use Rattle.pool_model.specs.Paths.{paths_of, no_path, path_at}
use Rattle.pool_model.proofs.Paths.{path_at-way}
use Rattle.network_parts.specs.Ready.{AreArcsOf}
use Rattle.blend_network.specs.Keys.{key_of, nodes_of, count_of, groups_by, keys, key_number, IsIndexOf}
use Rattle.blend_network.specs.Kept.{no_kept_arc, no_kept_path, kept_key, kept_count, IsAlong}
use Rattle.network_parts.specs.Views.{shown_arc, shown_path}
use Rattle.blend_network.specs.declared.keys.Key.{Key}
use Rattle.blend_network.specs.declared.keys.Key.TheVariants.{FeedsFrom, FeedsInto, OutsFrom, OutsInto, DirectsFrom, DirectsInto, PathsFrom, PathsAlong, PathsInto}
use Rattle.network_parts.specs.declared.arcs.Arc.{Arc}
use Rattle.network_parts.specs.declared.arcs.Path.{Path}
use Rattle.network_parts.specs.declared.arcs.Arcs.{Arcs}

-- ---- a key of a network

-- each node is there
pub key_known : (n : Net) → IsLimited n → (key : Key) (i : ℕ) → i < count_of n key → key_of n key i < nodes_of n key
key_known n limited FeedsFrom i lt = limited.feed_sources i lt
key_known n limited FeedsInto i lt = limited.feed_pools i lt
key_known n limited OutsFrom i lt = limited.out_pools i lt
key_known n limited OutsInto i lt = limited.out_products i lt
key_known n limited DirectsFrom i lt = limited.direct_sources i lt
key_known n limited DirectsInto i lt = limited.direct_products i lt
key_known n limited PathsFrom i lt = (path_at-way n i (path_at n i).feed (path_at n i).out lt refl refl).0
key_known n limited PathsAlong i lt = (path_at-way n i (path_at n i).feed (path_at n i).out lt refl refl).1
key_known n limited PathsInto i lt = limited.out_products (path_at n i).out (path_at-way n i (path_at n i).feed (path_at n i).out lt refl refl).1

-- the arcs and the paths are few
pub key_few : (n : Net) → IsLimited n → length (paths_of n) ≤ 512 → (key : Key) → count_of n key ≤ 512
key_few n limited few FeedsFrom = omega (arith, limited.feeds)
key_few n limited few FeedsInto = omega (arith, limited.feeds)
key_few n limited few OutsFrom = omega (arith, limited.outs)
key_few n limited few OutsInto = omega (arith, limited.outs)
key_few n limited few DirectsFrom = omega (arith, limited.directs)
key_few n limited few DirectsInto = omega (arith, limited.directs)
key_few n limited few PathsFrom = few
key_few n limited few PathsAlong = few
key_few n limited few PathsInto = few

-- the groups of a key among those of all
pub index_at : (n : Net) (index : List (List (List ℕ))) (key : Key) (d : List (List ℕ)) → IsIndexOf n index → get_or index (key_number key) d ≡ groups_by n key
index_at n index FeedsFrom d is = ap (λ gs. get_or gs 0 d) is
index_at n index FeedsInto d is = ap (λ gs. get_or gs 1 d) is
index_at n index OutsFrom d is = ap (λ gs. get_or gs 2 d) is
index_at n index OutsInto d is = ap (λ gs. get_or gs 3 d) is
index_at n index DirectsFrom d is = ap (λ gs. get_or gs 4 d) is
index_at n index DirectsInto d is = ap (λ gs. get_or gs 5 d) is
index_at n index PathsFrom d is = ap (λ gs. get_or gs 6 d) is
index_at n index PathsAlong d is = ap (λ gs. get_or gs 7 d) is
index_at n index PathsInto d is = ap (λ gs. get_or gs 8 d) is

-- ---- the same as the code keeps it

-- what is kept at a place is what the network has there
arc_at : (xs : List Arc) (all : List model.Arc) → map shown_arc xs ≡ all → (i : ℕ) → i < length xs → shown_arc (get_or xs i no_kept_arc) ≡ get_or all i no_arc
arc_at xs all is i lt = sym (get_or-map shown_arc xs i no_kept_arc no_arc lt) ∙ ap (λ xs. get_or xs i no_arc) is

kept_path_at : (n : Net) (xs : List Path) → map shown_path xs ≡ paths_of n → (i : ℕ) → i < length xs → shown_path (get_or xs i no_kept_path) ≡ path_at n i
kept_path_at n xs is i lt = sym (get_or-map shown_path xs i no_kept_path no_path lt) ∙ ap (λ ps. get_or ps i no_path) is

pub count_is : (r : Rows) (arcs : Arcs) → AreArcsOf r arcs → (key : Key) → kept_count arcs key ≡ count_of (net_of (network_of r)) key
unfolding net_of
count_is r arcs found FeedsFrom = sym (length-map arcs.feeds.items shown_arc) ∙ ap length found.feeds
count_is r arcs found FeedsInto = sym (length-map arcs.feeds.items shown_arc) ∙ ap length found.feeds
count_is r arcs found OutsFrom = sym (length-map arcs.outs.items shown_arc) ∙ ap length found.outs
count_is r arcs found OutsInto = sym (length-map arcs.outs.items shown_arc) ∙ ap length found.outs
count_is r arcs found DirectsFrom = sym (length-map arcs.directs.items shown_arc) ∙ ap length found.directs
count_is r arcs found DirectsInto = sym (length-map arcs.directs.items shown_arc) ∙ ap length found.directs
count_is r arcs found PathsFrom = sym (length-map arcs.paths.items shown_path) ∙ ap length found.paths
count_is r arcs found PathsAlong = sym (length-map arcs.paths.items shown_path) ∙ ap length found.paths
count_is r arcs found PathsInto = sym (length-map arcs.paths.items shown_path) ∙ ap length found.paths

-- each path runs along an out
pub along : (r : Rows) (arcs : Arcs) → AreArcsOf r arcs → IsAlong arcs
along r arcs found i d lt =
    let n = net_of (network_of r) in
    let there : i < length (paths_of (net_of (network_of r))) = omega (arith, count_is r arcs found PathsAlong, lt) in
    let at : shown_path (get_or arcs.paths.items i d) ≡ path_at (net_of (network_of r)) i = sym (get_or-map shown_path arcs.paths.items i d no_path lt) ∙ ap (λ ps. get_or ps i no_path) found.paths in
    let below : (path_at (net_of (network_of r)) i).out < (net_of (network_of r)).outs = (path_at-way n i (path_at n i).feed (path_at n i).out there refl refl).1 in
    omega (arith, below, count_is r arcs found OutsFrom, ap (λ (p : path.Path). p.out) at)

pub key_is : (r : Rows) (arcs : Arcs) → AreArcsOf r arcs → (key : Key) (i : ℕ) → i < kept_count arcs key → kept_key arcs key i ≡ key_of (net_of (network_of r)) key i
unfolding net_of
key_is r arcs found FeedsFrom i lt = ap (λ (a : model.Arc). a.from) (arc_at arcs.feeds.items (network_of r).feeds found.feeds i lt)
key_is r arcs found FeedsInto i lt = ap (λ (a : model.Arc). a.to) (arc_at arcs.feeds.items (network_of r).feeds found.feeds i lt)
key_is r arcs found OutsFrom i lt = ap (λ (a : model.Arc). a.from) (arc_at arcs.outs.items (network_of r).outs found.outs i lt)
key_is r arcs found OutsInto i lt = ap (λ (a : model.Arc). a.to) (arc_at arcs.outs.items (network_of r).outs found.outs i lt)
key_is r arcs found DirectsFrom i lt = ap (λ (a : model.Arc). a.from) (arc_at arcs.directs.items (network_of r).directs found.directs i lt)
key_is r arcs found DirectsInto i lt = ap (λ (a : model.Arc). a.to) (arc_at arcs.directs.items (network_of r).directs found.directs i lt)
key_is r arcs found PathsFrom i lt = ap (λ (p : path.Path). p.feed) (kept_path_at (net_of (network_of r)) arcs.paths.items found.paths i lt)
key_is r arcs found PathsAlong i lt = ap (λ (p : path.Path). p.out) (kept_path_at (net_of (network_of r)) arcs.paths.items found.paths i lt)
key_is r arcs found PathsInto i lt =
    ap (λ (a : model.Arc). a.to) (arc_at arcs.outs.items (network_of r).outs found.outs (get_or arcs.paths.items i no_kept_path).out (along r arcs found i no_kept_path lt))
    ∙ ap (λ (p : path.Path). (net_of (network_of r)).out_product p.out) (kept_path_at (net_of (network_of r)) arcs.paths.items found.paths i lt)

pub grouped_is : (r : Rows) (arcs : Arcs) → AreArcsOf r arcs → (key : Key) (nodes : ℕ) → nodes ≡ nodes_of (net_of (network_of r)) key
    → groups_of (kept_key arcs key) (kept_count arcs key) nodes ≡ groups_by (net_of (network_of r)) key
grouped_is r arcs found key nodes is =
    let n = net_of (network_of r) in
    groups_of-same (kept_key arcs key) (key_of n key) (kept_count arcs key) nodes (key_is r arcs found key)
    ∙ ap (λ count. groups_of (key_of n key) count nodes) (count_is r arcs found key)
    ∙ ap (groups_of (key_of n key) (count_of n key)) is

pub kept_known : (r : Rows) (arcs : Arcs) → AreArcsOf r arcs → IsLimited (net_of (network_of r)) → (key : Key) (nodes : ℕ) → nodes ≡ nodes_of (net_of (network_of r)) key
    → (i : ℕ) → i < kept_count arcs key → kept_key arcs key i < nodes
kept_known r arcs found limited key nodes is i lt =
    let there : i < count_of (net_of (network_of r)) key = omega (arith, count_is r arcs found key, lt) in
    omega (arith, key_is r arcs found key i lt, key_known (net_of (network_of r)) limited key i there, is)

-- the groups of one key more
pub index_more : (n : Net) (was now : List (List (List ℕ))) (i : ℕ) (groups : List (List ℕ))
    → was ≡ map (groups_by n) (take i keys) → i < 9 → groups ≡ groups_by n (get_or keys i FeedsFrom)
    → now ≡ was ++ groups ∷ []
    → now ≡ map (groups_by n) (take (i + 1) keys)
index_more n was now i groups is lt here more =
    more
    ∙ ap (λ gs. gs ++ groups ∷ []) is
    ∙ ap (λ g. map (groups_by n) (take i keys) ++ g ∷ []) here
    ∙ sym (map-append (groups_by n) (take i keys) (get_or keys i FeedsFrom ∷ []))
    ∙ ap (map (groups_by n)) (sym (take_more keys i FeedsFrom lt))
