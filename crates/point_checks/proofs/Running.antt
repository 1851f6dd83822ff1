-- Running sums of signed numbers, each at most so much for its flow: they stay as small as all flows together.
use Rattle.std.proofs.Common.{◌≡◌, ℕ, ◌+◌, ◌*◌, ◌<◌, ◌≤◌, ◌^◌, List, length, get_or, take, ℤ, ◌+ℤ◌, unsigned_abs, FitsSigned, arith, ap}
use Rattle.std.specs.List.{sum_by}
use Rattle.std.proofs.lemmas.Int.{ints}
use Rattle.std.proofs.lemmas.List.Sums.{sum_by_more, sum_by_more_le}
use Rattle.std.proofs.Math.Nat.{mul-le-mul_left}
use mir.Syntax.{w128}
use mir.Val.{to_z, of_z}

-- what flows so far and by one more is no more than all
so_far : (flow : ℕ → ℕ) (items : List ℕ) (i total : ℕ) → i < length items → sum_by flow items ≡ total → sum_by flow (take i items) + flow (get_or items i 0) ≤ total
so_far flow items i total lt e = omega (arith, sum_by_more_le flow items i 0 lt, e)

-- so much for each unit of these flows
rooms : (cap : ℕ) (flow : ℕ → ℕ) (items : List ℕ) (i total : ℕ) → i < length items → sum_by flow items ≡ total → cap * total ≤ 2 ^ 123
    → cap * sum_by flow (take i items) + cap * flow (get_or items i 0) ≤ 2 ^ 123
rooms cap flow items i total lt e small = omega (arith, mul-le-mul_left cap (so_far flow items i total lt e), small)

-- one part alone
pub part-room : (cap : ℕ) (flow : ℕ → ℕ) (items : List ℕ) (i total : ℕ) → i < length items → sum_by flow items ≡ total → cap * total ≤ 2 ^ 123 → cap * flow (get_or items i 0) ≤ 2 ^ 123
part-room cap flow items i total lt e small = omega (arith, rooms cap flow items i total lt e small)

-- one part more: the sum fits, it is what is added, and it is no larger than the flows allow
pub record IsStep (cap : ℕ) (flow : ℕ → ℕ) (items : List ℕ) (i : ℕ) (s p : ℤ) : Type 0 where
  pub fits : FitsSigned w128 (s +ℤ to_z w128 (of_z w128 p))
  pub exact : to_z w128 (of_z w128 (s +ℤ to_z w128 (of_z w128 p))) ≡ s +ℤ p
  pub small : unsigned_abs (s +ℤ p) ≤ cap * sum_by flow (take (i + 1) items)

pub step : (cap : ℕ) (flow : ℕ → ℕ) (items : List ℕ) (i total : ℕ) (s p : ℤ) → i < length items → sum_by flow items ≡ total → cap * total ≤ 2 ^ 123
    → unsigned_abs s ≤ cap * sum_by flow (take i items) → unsigned_abs p ≤ cap * flow (get_or items i 0) → IsStep cap flow items i s p
step cap flow items i total s p lt e small hs hp =
    let a = cap * sum_by flow (take i items) in
    let b = cap * flow (get_or items i 0) in
    let room : a + b ≤ 2 ^ 123 = rooms cap flow items i total lt e small in
    record {
      fits = fits s p a b hs hp room;
      exact = exact s p a b hs hp room;
      small = omega (arith, together s p a b hs hp, ap (λ t. cap * t) (sum_by_more flow items i 0 lt));
    }
  where
    fits : (s p : ℤ) (a b : ℕ) → unsigned_abs s ≤ a → unsigned_abs p ≤ b → a + b ≤ 2 ^ 123 → FitsSigned w128 (s +ℤ to_z w128 (of_z w128 p))
    fits s p a b h k l = omega (arith, ints)

    exact : (s p : ℤ) (a b : ℕ) → unsigned_abs s ≤ a → unsigned_abs p ≤ b → a + b ≤ 2 ^ 123 → to_z w128 (of_z w128 (s +ℤ to_z w128 (of_z w128 p))) ≡ s +ℤ p
    exact s p a b h k l = omega (arith, ints)

    together : (s p : ℤ) (a b : ℕ) → unsigned_abs s ≤ a → unsigned_abs p ≤ b → unsigned_abs (s +ℤ p) ≤ a + b
    together s p a b h k = omega (arith, ints)

-- all parts together
pub whole-small : (cap : ℕ) (flow : ℕ → ℕ) (items : List ℕ) (total : ℕ) (s : ℤ) → sum_by flow items ≡ total → cap * total ≤ 2 ^ 123 → unsigned_abs s ≤ cap * sum_by flow items → unsigned_abs s ≤ 2 ^ 123
whole-small cap flow items total s e small h = omega (arith, h, small, ap (λ t. cap * t) e)
