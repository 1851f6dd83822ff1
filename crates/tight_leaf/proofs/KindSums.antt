-- What the products of two numbers for each variable come to, kind by kind.
use Rattle.std.proofs.Common.{◌≡◌, ◌∙◌, ℕ, zero, suc, ◌+◌, ◌*◌, ◌<◌, ℤ, pos, ◌+ℤ◌, ◌*ℤ◌, unsigned_abs, ap, sym, refl, arith}
use Rattle.integers.specs.Sums.{int_sum_below, sum_below}
use Rattle.integers.proofs.ByIndex.{int_sum_below-same}
use Rattle.integers.proofs.Order.{same_pos}
use Rattle.integers.proofs.Ring.{additive}
use Rattle.pool_model.specs.Network.{Net}
use Rattle.row_model.specs.Variables.{PerVariable, by_number, path_count, variables}
use Rattle.row_model.proofs.Numbering.{HoldsByKind, by_number-dot, by_number-each}

pos-sum : (f : ℕ → ℕ) (n : ℕ) → int_sum_below (λ i. pos (f i)) n ≡ pos (sum_below f n)
pos-sum f zero = refl
pos-sum f (suc n) = ap (λ (z : ℤ). z +ℤ pos (f n)) (pos-sum f n)

pos-sums : (f : ℕ → ℕ → ℕ) (m n : ℕ) → int_sum_below (λ i. int_sum_below (λ k. pos (f i k)) n) m ≡ pos (sum_below (λ i. sum_below (f i) n) m)
pos-sums f m n = int_sum_below-same (λ i. int_sum_below (λ k. pos (f i k)) n) (λ i. pos (sum_below (f i) n)) m (λ i lt. pos-sum (f i) n) ∙ pos-sum (λ i. sum_below (f i) n) m

-- the sizes of numbers
abbrev sizes_of : PerVariable → PerVariable
sizes_of a = record {
  x = λ e. pos (unsigned_abs (a.x e));
  y = λ o. pos (unsigned_abs (a.y o));
  z = λ e. pos (unsigned_abs (a.z e));
  w = λ q. pos (unsigned_abs (a.w q));
  proportion = λ e. pos (unsigned_abs (a.proportion e));
  quality = λ l k. pos (unsigned_abs (a.quality l k));
  mixed = λ o k. pos (unsigned_abs (a.mixed o k));
}

size-at : (n : Net) (a : PerVariable) (v : ℕ) → v < variables n → pos (unsigned_abs (by_number n a v)) ≡ by_number n (sizes_of a) v
size-at n a = by_number-each n (λ x y. pos (unsigned_abs x) ≡ y) a (sizes_of a) each
  where
    each : HoldsByKind n (λ x y. pos (unsigned_abs x) ≡ y) a (sizes_of a)
    each = record { x = λ e lt. refl; y = λ o lt. refl; z = λ e lt. refl; w = λ q lt. refl; proportion = λ e lt. refl; quality = λ l k lt lk. refl; mixed = λ o k lt lk. refl }

-- the sum over all variables of the sizes of both, multiplied
abbrev pub weight_of : Net → PerVariable → PerVariable → ℕ
weight_of n c s = sum_below (λ v. unsigned_abs (by_number n c v) * unsigned_abs (by_number n s v)) (variables n)

pub kind-sums : (n : Net) (c s : PerVariable)
    → weight_of n c s
    ≡ sum_below (λ e. unsigned_abs (c.x e) * unsigned_abs (s.x e)) n.feeds
    + sum_below (λ o. unsigned_abs (c.y o) * unsigned_abs (s.y o)) n.outs
    + sum_below (λ e. unsigned_abs (c.z e) * unsigned_abs (s.z e)) n.directs
    + sum_below (λ q. unsigned_abs (c.w q) * unsigned_abs (s.w q)) (path_count n)
    + sum_below (λ e. unsigned_abs (c.proportion e) * unsigned_abs (s.proportion e)) n.feeds
    + sum_below (λ l. sum_below (λ k. unsigned_abs (c.quality l k) * unsigned_abs (s.quality l k)) n.qualities) n.pools
    + sum_below (λ o. sum_below (λ k. unsigned_abs (c.mixed o k) * unsigned_abs (s.mixed o k)) n.qualities) n.outs
kind-sums n c s =
    same_pos (weight_of n c s) _
    (sym (pos-sum (λ v. unsigned_abs (by_number n c v) * unsigned_abs (by_number n s v)) (variables n))
    ∙ int_sum_below-same (λ v. pos (unsigned_abs (by_number n c v)) *ℤ pos (unsigned_abs (by_number n s v))) (λ v. by_number n (sizes_of c) v *ℤ by_number n (sizes_of s) v) (variables n)
    (λ v lt. ap (λ (z : ℤ). z *ℤ pos (unsigned_abs (by_number n s v))) (size-at n c v lt) ∙ ap (λ (z : ℤ). by_number n (sizes_of c) v *ℤ z) (size-at n s v lt))
    ∙ by_number-dot n (sizes_of c) (sizes_of s)
    ∙ seven
    (pos-sum (λ e. unsigned_abs (c.x e) * unsigned_abs (s.x e)) n.feeds)
    (pos-sum (λ o. unsigned_abs (c.y o) * unsigned_abs (s.y o)) n.outs)
    (pos-sum (λ e. unsigned_abs (c.z e) * unsigned_abs (s.z e)) n.directs)
    (pos-sum (λ q. unsigned_abs (c.w q) * unsigned_abs (s.w q)) (path_count n))
    (pos-sum (λ e. unsigned_abs (c.proportion e) * unsigned_abs (s.proportion e)) n.feeds)
    (pos-sums (λ l k. unsigned_abs (c.quality l k) * unsigned_abs (s.quality l k)) n.pools n.qualities)
    (pos-sums (λ o k. unsigned_abs (c.mixed o k) * unsigned_abs (s.mixed o k)) n.outs n.qualities))
  where
    seven : {a b c d e f g : ℤ} {a' b' c' d' e' f' g' : ℕ} → a ≡ pos a' → b ≡ pos b' → c ≡ pos c' → d ≡ pos d' → e ≡ pos e' → f ≡ pos f' → g ≡ pos g'
        → a +ℤ b +ℤ c +ℤ d +ℤ e +ℤ f +ℤ g ≡ pos (a' + b' + c' + d' + e' + f' + g')
    seven h i j k l m o = omega (arith, additive, h, i, j, k, l, m, o)
