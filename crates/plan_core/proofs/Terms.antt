-- The parts of a product's quality as the code computes them, and how large they are.
use Rattle.std.proofs.Common.{◌≡◌, ℕ, ◌*◌, ◌^◌, ◌<◌, ◌≤◌, ℤ, pos, ◌*ℤ◌, unsigned_abs, FitsSigned, arith, ap, ◌∙◌}
use Rattle.std.proofs.Math.Nat.{mul-le-mul}
use Rattle.std.proofs.lemmas.Int.{ints, to_z-of_z}
use mir.Syntax.{w64, w128}
use mir.Val.{to_z, of_z}
use Rattle.pool_model.specs.Network.{Net, IsLimited}
use Rattle.pool_model.specs.Plan.{Written, weight, written_out, plan_of}
use Rattle.plan_core.specs.Weighed.{weighed, leaving, HasRoom}
use Rattle.plan_core.proofs.Reaching.{leaving-most, scaled-most}
use Rattle.plan_core.proofs.Supply.{abs-within}
use Rattle.plan_core.proofs.Tables.{read_wide, term_size}

-- so many parts of a number, as the code reads both
parts_are : (parts : ℕ) (read number wide left : ℤ) → read ≡ pos parts → parts ≤ 1000 → wide ≡ number → unsigned_abs number ≤ 2 ^ 57
    → left ≡ to_z w64 (of_z w64 read) *ℤ to_z w128 (of_z w128 wide) → left ≡ pos parts *ℤ number
parts_are parts read number wide left e few f small g =
    let first : to_z w64 (of_z w64 read) ≡ pos parts = omega (arith, ints, e, few) in
    let second : to_z w128 (of_z w128 wide) ≡ number = read_wide wide (2 ^ 57) (omega (arith, small, ap unsigned_abs f)) (omega arith) ∙ f in
    g ∙ ap (λ z. z *ℤ to_z w128 (of_z w128 wide)) first ∙ ap (λ z. pos parts *ℤ z) second

-- what an out brings
pub record IsOutPart (n : Net) (w : Written) (k arc : ℕ) (part : ℤ) : Type 0 where
  pub exact : part ≡ leaving n w (n.out_pool arc) k *ℤ pos (written_out w arc)
  pub size : unsigned_abs part ≤ 2 ^ 123

-- a pool's quality as it is read
pub mix_small : (n : Net) (w : Written) (k arc pool : ℕ) (mix : ℤ) → HasRoom n w → n.out_pool arc < n.pools → k < n.qualities → pool ≡ n.out_pool arc → mix ≡ weighed n w pool k
    → unsigned_abs (to_z w128 (of_z w128 mix)) ≤ 2 ^ 57
mix_small n w k arc pool mix room in_pools in_qualities is mixed =
    let small = room.weighed (n.out_pool arc) k in_pools in_qualities in
    let mean : mix ≡ weighed n w (n.out_pool arc) k = mixed ∙ ap (λ l. weighed n w l k) is in
    let same : to_z w128 (of_z w128 mix) ≡ mix = read_wide mix (2 ^ 57) (omega (arith, small, ap unsigned_abs mean)) (omega arith) in
    omega (arith, small, ap unsigned_abs (same ∙ mean))

module _ (n : Net) (w : Written) (k arc pool : ℕ) (kept mix left : ℤ) (limited : IsLimited n) (room : HasRoom n w) (lt : arc < n.outs) (in_qualities : k < n.qualities)
    (is : pool ≡ n.out_pool arc) (read : kept ≡ pos (n.retained pool k)) (mixed : mix ≡ weighed n w pool k) (parted : left ≡ to_z w64 (of_z w64 kept) *ℤ to_z w128 (of_z w128 mix)) where
  left_is : left ≡ leaving n w (n.out_pool arc) k
  left_is =
      let l = n.out_pool arc in
      let in_pools = limited.out_pools arc lt in
      parts_are (n.retained l k) kept (weighed n w l k) mix left (read ∙ ap (λ i. pos (n.retained i k)) is) (omega (arith, limited.shares_retained l k in_pools in_qualities, limited.scale))
      (mixed ∙ ap (λ i. weighed n w i k) is) (room.weighed l k in_pools in_qualities) parted

  left_read : to_z w128 (of_z w128 left) ≡ leaving n w (n.out_pool arc) k
  left_read =
      read_wide left (1000 * 2 ^ 57) (omega (arith, leaving-most n w k limited room in_qualities (n.out_pool arc) (limited.out_pools arc lt), ap unsigned_abs left_is)) (omega arith) ∙ left_is

  pub out_size : (flow from : ℕ) → from ≡ flow → flow ≡ written_out w arc → unsigned_abs (to_z w128 (of_z w128 left)) * from ≤ 2 ^ 123
  out_size flow from e f =
      let small : unsigned_abs (to_z w128 (of_z w128 left)) ≤ 1000 * 2 ^ 57 =
      omega (arith, leaving-most n w k limited room in_qualities (n.out_pool arc) (limited.out_pools arc lt), ap unsigned_abs left_read) in
      let few : from ≤ 2 ^ 56 = omega (arith, room.outflows arc lt, e, f) in
      omega (arith, mul-le-mul small few)

  pub out_part : (flow from : ℕ) (part : ℤ) → from ≡ flow → flow ≡ written_out w arc → part ≡ to_z w128 (of_z w128 left) *ℤ pos from → IsOutPart n w k arc part
  out_part flow from part e f g =
      let l = n.out_pool arc in
      let exact = g ∙ ap (λ z. z *ℤ pos from) left_read ∙ ap (λ m. leaving n w l k *ℤ pos m) (e ∙ f) in
      record {
        exact = exact;
        size = omega (
          arith,
          term_size part (leaving n w l k) (written_out w arc) (1000 * 2 ^ 57) (2 ^ 56) exact (leaving-most n w k limited room in_qualities l (limited.out_pools arc lt)) (room.outflows arc lt),
        );
      }

-- what a direct brings
pub record IsDirectPart (n : Net) (w : Written) (k arc : ℕ) (part : ℤ) : Type 0 where
  pub exact : part ≡ pos n.scale *ℤ n.source_quality (n.direct_source arc) k *ℤ pos ((plan_of n w).direct arc)
  pub size : unsigned_abs part ≤ 2 ^ 123

-- a source's quality as it is read
pub quality_is : (n : Net) (k arc source : ℕ) (narrow wide : ℤ) → FitsSigned w64 narrow → source ≡ n.direct_source arc → narrow ≡ n.source_quality source k → wide ≡ to_z w64 (of_z w64 narrow)
    → wide ≡ n.source_quality (n.direct_source arc) k
quality_is n k arc source narrow wide fits is e f = f ∙ to_z-of_z w64 narrow fits ∙ e ∙ ap (λ i. n.source_quality i k) is

pub wide_small : (n : Net) (k arc : ℕ) (wide : ℤ) → IsLimited n → arc < n.directs → k < n.qualities → wide ≡ n.source_quality (n.direct_source arc) k
    → unsigned_abs (to_z w128 (of_z w128 wide)) ≤ 2 ^ 57
wide_small n k arc wide limited lt in_qualities quality =
    let small = abs-within (10 ^ 11) (n.source_quality (n.direct_source arc) k) (limited.source_qualities (n.direct_source arc) k (limited.direct_sources arc lt) in_qualities) in
    let same : to_z w128 (of_z w128 wide) ≡ wide = read_wide wide (10 ^ 11) (omega (arith, small, ap unsigned_abs quality)) (omega arith) in
    omega (arith, small, ap unsigned_abs (same ∙ quality))

module _ (n : Net) (w : Written) (k arc : ℕ) (scale wide sent : ℤ) (limited : IsLimited n) (room : HasRoom n w) (lt : arc < n.directs) (in_qualities : k < n.qualities)
    (read : scale ≡ pos n.scale) (quality : wide ≡ n.source_quality (n.direct_source arc) k) (parted : sent ≡ to_z w64 (of_z w64 scale) *ℤ to_z w128 (of_z w128 wide)) where
  abbrev scaled : ℤ
  scaled = pos n.scale *ℤ n.source_quality (n.direct_source arc) k

  quality_small : unsigned_abs (n.source_quality (n.direct_source arc) k) ≤ 10 ^ 11
  quality_small = abs-within (10 ^ 11) _ (limited.source_qualities (n.direct_source arc) k (limited.direct_sources arc lt) in_qualities)

  sent_is : sent ≡ scaled
  sent_is = parts_are n.scale scale (n.source_quality (n.direct_source arc) k) wide sent read (omega (arith, limited.scale)) quality (omega (arith, quality_small)) parted

  scaled_small : unsigned_abs scaled ≤ 10 ^ 14
  scaled_small = scaled-most n w k limited room in_qualities (n.direct_source arc) (limited.direct_sources arc lt)

  sent_read : to_z w128 (of_z w128 sent) ≡ scaled
  sent_read = read_wide sent (10 ^ 14) (omega (arith, scaled_small, ap unsigned_abs sent_is)) (omega arith) ∙ sent_is

  pub direct_size : (flow : ℕ) → flow ≡ (plan_of n w).direct arc → unsigned_abs (to_z w128 (of_z w128 sent)) * flow ≤ 2 ^ 123
  direct_size flow e =
      let small : unsigned_abs (to_z w128 (of_z w128 sent)) ≤ 10 ^ 14 = omega (arith, scaled_small, ap unsigned_abs sent_read) in
      let few : flow ≤ 2 ^ 76 = omega (arith, e, room.directs arc lt) in
      omega (arith, mul-le-mul small few)

  pub direct_part : (flow : ℕ) (part : ℤ) → flow ≡ (plan_of n w).direct arc → part ≡ to_z w128 (of_z w128 sent) *ℤ pos flow → IsDirectPart n w k arc part
  direct_part flow part e f =
      let exact = f ∙ ap (λ z. z *ℤ pos flow) sent_read ∙ ap (λ m. scaled *ℤ pos m) e in
      record { exact = exact; size = omega (arith, term_size part scaled ((plan_of n w).direct arc) (10 ^ 14) (2 ^ 76) exact scaled_small (room.directs arc lt)) }

-- what a feed brings
pub record IsFeedPart (n : Net) (w : Written) (k arc : ℕ) (part : ℤ) : Type 0 where
  pub exact : part ≡ n.source_quality (n.feed_source arc) k *ℤ pos (weight w arc)
  pub size : unsigned_abs part ≤ 2 ^ 69

pub feed_part : (n : Net) (w : Written) (k arc read : ℕ) (wide part : ℤ) → IsLimited n → arc < n.feeds → k < n.qualities → wide ≡ n.source_quality (n.feed_source arc) k
    → read ≡ weight w arc → weight w arc ≤ 2 ^ 32 → part ≡ to_z w128 (of_z w128 wide) *ℤ pos read → IsFeedPart n w k arc part
feed_part n w k arc read wide part limited lt in_qualities e f narrow g =
    let q = n.source_quality (n.feed_source arc) k in
    let small = abs-within (10 ^ 11) _ (limited.source_qualities (n.feed_source arc) k (limited.feed_sources arc lt) in_qualities) in
    let whole : to_z w128 (of_z w128 wide) ≡ q = read_wide wide (10 ^ 11) (omega (arith, small, ap unsigned_abs e)) (omega arith) ∙ e in
    let exact = g ∙ ap (λ z. z *ℤ pos read) whole ∙ ap (λ m. q *ℤ pos m) f in
    record { exact = exact; size = omega (arith, term_size part q (weight w arc) (10 ^ 11) (2 ^ 32) exact small narrow) }
