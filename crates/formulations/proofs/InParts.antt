-- Limits, and what ways bring of a quality, in parts of the scale: at most 10^14 in size.
use Rattle.std.proofs.Common.{◌≡◌, ℕ, ◌^◌, ◌<◌, ◌≤◌, length, get_or, Option, Some, ℤ, pos, ◌*ℤ◌, unsigned_abs, arith}
use Rattle.std.proofs.lemmas.List.Elements.{All-get_or}
use Rattle.integers.proofs.Order.{abs-mul-le}
use Rattle.pool_model.specs.Network.{Net, IsLimited, IsWithin}
use Rattle.pool_model.specs.Limits.{Limit, limits, no_limit}
use Rattle.pool_model.specs.Starting.{straight, way_quality}
use Rattle.pool_model.proofs.Limits.{IsSet, limits-set}
use Rattle.pool_model.proofs.Sizes.{size-within}
use Rattle.row_model.specs.Variables.{path_count, path_feed, path_out}
use Rattle.row_model.specs.Catalogue.{limit_parts, path_quality}
use Rattle.row_model.proofs.PathSums.{path_feed-below, path_out-below}

-- a limit of one of the qualities, at most 10^11 in size
pub record IsFewLimit (n : Net) (u : Limit) : Type 0 where
  pub quality : u.quality < n.qualities
  pub limit : unsigned_abs u.limit ≤ 10 ^ 11

pub limit-few : (n : Net) (limit : ℕ → ℕ → Option ℤ) → ((j k : ℕ) (u : ℤ) → j < n.products → k < n.qualities → limit j k ≡ Some u → IsWithin (10 ^ 11) u)
    → (i : ℕ) → i < length (limits limit n.products n.qualities) → IsFewLimit n (get_or (limits limit n.products n.qualities) i no_limit)
limit-few n limit each i lt =
    let u = get_or (limits limit n.products n.qualities) i no_limit in
    let is = All-get_or (IsSet limit n.products n.qualities) (limits limit n.products n.qualities) i no_limit lt (limits-set limit n.products n.qualities) in
    record { quality = is.quality; limit = size-within (10 ^ 11) u.limit (each u.product u.quality u.limit is.product is.quality is.set) }

-- so many parts of a quality
pub parts-few : (parts : ℕ) (z : ℤ) → parts ≤ 1000 → unsigned_abs z ≤ 10 ^ 11 → unsigned_abs (pos parts *ℤ z) ≤ 10 ^ 14
parts-few parts z h k = omega (arith, abs-mul-le (pos parts) z 1000 (10 ^ 11) h k)

module _ (n : Net) (limited : IsLimited n) where
  pub retained-few : (l k : ℕ) → l < n.pools → k < n.qualities → n.retained l k ≤ 1000
  retained-few l k lt lk = omega (arith, limited.shares_retained l k lt lk, limited.scale.1)

  pub limit_parts-few : (u : Limit) → unsigned_abs u.limit ≤ 10 ^ 11 → unsigned_abs (limit_parts n u) ≤ 10 ^ 14
  limit_parts-few u h = parts-few n.scale u.limit limited.scale.1 h

  pub direct_quality-few : (e k : ℕ) → e < n.directs → k < n.qualities → unsigned_abs (way_quality n (straight e) k) ≤ 10 ^ 14
  direct_quality-few e k lt lk =
      parts-few n.scale (n.source_quality (n.direct_source e) k) limited.scale.1
      (size-within (10 ^ 11) (n.source_quality (n.direct_source e) k) (limited.source_qualities (n.direct_source e) k (limited.direct_sources e lt) lk))

  pub path_quality-few : (q k : ℕ) → q < path_count n → k < n.qualities → unsigned_abs (path_quality n q k) ≤ 10 ^ 14
  path_quality-few q k lt lk =
      let e = path_feed n q in
      let o = path_out n q in
      parts-few (n.retained (n.out_pool o) k) (n.source_quality (n.feed_source e) k) (retained-few (n.out_pool o) k (limited.out_pools o (path_out-below n q lt)) lk)
      (size-within (10 ^ 11) (n.source_quality (n.feed_source e) k) (limited.source_qualities (n.feed_source e) k (limited.feed_sources e (path_feed-below n q lt)) lk))
