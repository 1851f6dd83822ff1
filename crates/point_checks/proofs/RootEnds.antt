-- The ends between which a pool's quality lies are as small as the qualities of sources.
use Rattle.std.proofs.Common.{ℕ, zero, suc, ◌<◌, ◌^◌, Bool, true, false, ◌==◌, if◌then◌else◌, Option, Some, None, ℤ, pos, arith}
use Rattle.std.specs.Prelude.{IfSome, unwrap_or}
use Rattle.std.proofs.lemmas.Int.{clamps}
use Rattle.integers.proofs.Ring.{additive}
use Rattle.pool_model.specs.Network.{Net, IsLimited, IsWithin}
use Rattle.pool_model.specs.Starting.{lesser, least_below}
use Rattle.row_model.specs.Boxes.{qual, greater, greatest_below, fed_quality, root_low, root_high}

lesser-within : (size : ℕ) (a b : Option ℤ) → IfSome a (IsWithin size) → IfSome b (IsWithin size) → IfSome (lesser a b) (IsWithin size)
lesser-within size None b h k = k
lesser-within size (Some x) None h k = h
lesser-within size (Some x) (Some y) h k = (omega (arith, additive, clamps, h.0, k.0), omega (arith, additive, clamps, h.1, k.1))

greater-within : (size : ℕ) (a b : Option ℤ) → IfSome a (IsWithin size) → IfSome b (IsWithin size) → IfSome (greater a b) (IsWithin size)
greater-within size None b h k = k
greater-within size (Some x) None h k = h
greater-within size (Some x) (Some y) h k = (omega (arith, additive, clamps, h.0, k.0), omega (arith, additive, clamps, h.1, k.1))

least-within : (size : ℕ) (f : ℕ → Option ℤ) (m : ℕ) → ((i : ℕ) → i < m → IfSome (f i) (IsWithin size)) → IfSome (least_below f m) (IsWithin size)
least-within size f zero h = tt
least-within size f (suc m) h = lesser-within size (least_below f m) (f m) (least-within size f m (λ i lt. h i (omega arith))) (h m (omega arith))

greatest-within : (size : ℕ) (f : ℕ → Option ℤ) (m : ℕ) → ((i : ℕ) → i < m → IfSome (f i) (IsWithin size)) → IfSome (greatest_below f m) (IsWithin size)
greatest-within size f zero h = tt
greatest-within size f (suc m) h = greater-within size (greatest_below f m) (f m) (greatest-within size f m (λ i lt. h i (omega arith))) (h m (omega arith))

chosen-within : (size : ℕ) (b : Bool) (q : ℤ) → IsWithin size q → IfSome (if b then Some q else None) (IsWithin size)
chosen-within size true q h = h
chosen-within size false q h = tt

or_nothing : (size : ℕ) (o : Option ℤ) → IfSome o (IsWithin size) → IsWithin size (unwrap_or o (pos 0))
or_nothing size None h = (omega (arith, additive), omega (arith, additive))
or_nothing size (Some q) h = h

fed-within : (n : Net) (l k : ℕ) → IsLimited n → k < n.qualities → (e : ℕ) → e < n.feeds → IfSome (fed_quality n l k e) (IsWithin (10 ^ 11))
fed-within n l k lim lk e lt =
    chosen-within (10 ^ 11) (n.feed_pool e == l) (n.source_quality (n.feed_source e) k) (lim.source_qualities (n.feed_source e) k (lim.feed_sources e lt) lk)

pub root_low-within : (n : Net) (l k : ℕ) → IsLimited n → k < n.qualities → IsWithin (10 ^ 11) (root_low n (qual l k))
root_low-within n l k lim lk = or_nothing (10 ^ 11) (least_below (fed_quality n l k) n.feeds) (least-within (10 ^ 11) (fed_quality n l k) n.feeds (fed-within n l k lim lk))

pub root_high-within : (n : Net) (l k : ℕ) → IsLimited n → k < n.qualities → IsWithin (10 ^ 11) (root_high n (qual l k))
root_high-within n l k lim lk = or_nothing (10 ^ 11) (greatest_below (fed_quality n l k) n.feeds) (greatest-within (10 ^ 11) (fed_quality n l k) n.feeds (fed-within n l k lim lk))
