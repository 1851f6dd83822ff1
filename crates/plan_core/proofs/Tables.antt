-- Tables of sums by node: one arc more adds its part at its node.
use Rattle.std.proofs.Common.{◌≡◌, ℕ, zero, suc, ◌+◌, ◌*◌, ◌<◌, ◌≤◌, inl, inr, List, length, get_or, set}
use Rattle.std.proofs.Common.{replicate, ℤ, pos, ◌+ℤ◌, ◌*ℤ◌, ◌^◌, unsigned_abs, FitsSigned, arith, refl, sym, ap, ◌∙◌, get_or-set_other, get_or-set_same, length-set}
use Rattle.std.proofs.lemmas.Int.{ints}
use mir.Syntax.{w128}
use mir.Val.{to_z, of_z}
use Rattle.integers.specs.Sums.{sum_at, int_sum_at}
use Rattle.integers.proofs.Ring.{additive}
use Rattle.integers.proofs.Order.{abs-mul-le}
use Rattle.integers.proofs.AtKey.{same_or_other, int_sum_at-more_yes, int_sum_at-more_no}
use Rattle.integers.proofs.ByNode.{sum_at-more_yes, sum_at-more_no}

-- a number that is not too large, as the code reads it
pub read_wide : (x : ℤ) (a : ℕ) → unsigned_abs x ≤ a → a ≤ 2 ^ 126 → to_z w128 (of_z w128 x) ≡ x
read_wide x a h k = omega (arith, ints)

-- the code's sum of two numbers that are not too large
pub wide_sum : (t p : ℤ) → unsigned_abs t ≤ 2 ^ 126 → unsigned_abs p ≤ 2 ^ 123 → to_z w128 (of_z w128 (to_z w128 (of_z w128 t) +ℤ to_z w128 (of_z w128 p))) ≡ t +ℤ p
wide_sum t p h k = omega (arith, ints)

pub wide_fits : (t p : ℤ) → unsigned_abs t ≤ 2 ^ 126 → unsigned_abs p ≤ 2 ^ 123 → FitsSigned w128 (to_z w128 (of_z w128 t) +ℤ to_z w128 (of_z w128 p))
wide_fits t p h k = omega (arith, ints)

-- how large a number is for so many units
pub term_size : (t q : ℤ) (m a b : ℕ) → t ≡ q *ℤ pos m → unsigned_abs q ≤ a → m ≤ b → unsigned_abs t ≤ a * b
term_size t q m a b e h k = rw e (abs-mul-le q (pos m) a b h k)

-- ---- tables

-- a table of sums by node, none of which passes a most
pub record IsTable (cells nodes : ℕ) (sum : ℕ → ℕ) (most : ℕ) (xs : List ℕ) : Type 0 where
  pub long : length xs ≡ cells
  pub exact : (i : ℕ) → i < nodes → get_or xs i 0 ≡ sum i
  pub size : (i : ℕ) → get_or xs i 0 ≤ most

-- a table of sums of signed numbers by node: how large they are follows from what they are
pub record IsSignedTable (cells nodes : ℕ) (sum : ℕ → ℤ) (xs : List ℤ) : Type 0 where
  pub long : length xs ≡ cells
  pub exact : (i : ℕ) → i < nodes → get_or xs i (pos 0) ≡ sum i

-- a table that begins with nothing
pub nothing : (n i : ℕ) → ◌≡◌ {A = ℕ} (get_or (replicate n 0) i 0) 0
nothing zero i = refl
nothing (suc n) zero = refl
nothing (suc n) (suc i) = nothing n i

pub int_nothing : (n i : ℕ) → get_or (replicate n (pos 0)) i (pos 0) ≡ pos 0
int_nothing zero i = refl
int_nothing (suc n) zero = refl
int_nothing (suc n) (suc i) = int_nothing n i

-- ---- natural numbers
added : (key : ℕ → ℕ) (f start : ℕ → ℕ) (e at v m : ℕ) (xs : List ℕ) → at < length xs → at ≡ key e → ((i : ℕ) → i < m → get_or xs i 0 ≡ start i + sum_at key i f e)
    → v ≡ get_or xs at 0 + f e → (i : ℕ) → i < m → get_or (set xs at v) i 0 ≡ start i + sum_at key i f (e + 1)
added key f start e at v m xs lt is before new i im = elim (same_or_other i at) [
  | inl q ↦ rw (q, get_or-set_same) (omega (arith, new, before i im, ap (λ z. get_or xs z 0) q, sum_at-more_yes key at f e (sym is), ap start q, ap (λ z. sum_at key z f e) q))
  | inr d ↦ rw get_or-set_other (omega (arith, before i im, sum_at-more_no key i f e (λ s. d (sym s ∙ sym is))))
]

-- the same for a table that begins with nothing
pub added_first : (key : ℕ → ℕ) (f : ℕ → ℕ) (e at v m : ℕ) (xs : List ℕ) → at < length xs → at ≡ key e → ((i : ℕ) → i < m → get_or xs i 0 ≡ sum_at key i f e)
    → v ≡ get_or xs at 0 + f e → (i : ℕ) → i < m → get_or (set xs at v) i 0 ≡ sum_at key i f (e + 1)
added_first key f e at v m xs lt is before new i im = omega (arith, added key f (λ _. 0) e at v m xs lt is (λ j jm. omega (arith, before j jm)) new i im)

pub added_size : (at v b s x : ℕ) (xs : List ℕ) → at < length xs → ((i : ℕ) → get_or xs i 0 ≤ b) → v ≡ get_or xs at 0 + x → x ≤ s → (i : ℕ) → get_or (set xs at v) i 0 ≤ b + s
added_size at v b s x xs lt before new small i = elim (same_or_other i at) [
  | inl q ↦ rw (q, get_or-set_same) (omega (arith, before at))
  | inr d ↦ rw get_or-set_other (omega (arith, before i))
]

pub more : (key : ℕ → ℕ) (f start : ℕ → ℕ) (e at nodes long before after part least : ℕ) (xs : List ℕ) → IsTable long nodes (λ i. start i + sum_at key i f e) before xs
    → at ≡ key e → at < nodes → nodes ≤ long → part ≡ f e → part ≤ least → before + least ≤ after
    → IsTable long nodes (λ i. start i + sum_at key i f (e + 1)) after (set xs at (get_or xs at 0 + part))
more key f start e at nodes long before after part least xs t is lt le same small room =
    let within : at < length xs = omega (arith, t.long) in
    let v = get_or xs at 0 + part in
    record {
      long = length-set xs at v ∙ t.long;
      exact = added key f start e at v nodes xs within is t.exact (ap (λ z. get_or xs at 0 + z) same);
      size = λ i. omega (arith, added_size at v before least part xs within t.size refl small i, room);
    }

-- the same for a table that begins with nothing
pub first_more : (key : ℕ → ℕ) (f : ℕ → ℕ) (e at nodes long before after part least : ℕ) (xs : List ℕ) → IsTable long nodes (λ i. sum_at key i f e) before xs
    → at ≡ key e → at < nodes → nodes ≤ long → part ≡ f e → part ≤ least → before + least ≤ after → IsTable long nodes (λ i. sum_at key i f (e + 1)) after (set xs at (get_or xs at 0 + part))
first_more key f e at nodes long before after part least xs t is lt le same small room =
    let later = more key f (λ _. 0) e at nodes long before after part least xs record { long = t.long; exact = λ i im. omega (arith, t.exact i im); size = t.size } is lt le same small room in
    record { long = later.long; exact = λ i im. omega (arith, later.exact i im); size = later.size }

-- ---- signed numbers
int_added : (key : ℕ → ℕ) (f start : ℕ → ℤ) (e at m : ℕ) (v : ℤ) (xs : List ℤ) → at < length xs → at ≡ key e → ((i : ℕ) → i < m → get_or xs i (pos 0) ≡ start i +ℤ int_sum_at key i f e)
    → v ≡ get_or xs at (pos 0) +ℤ f e → (i : ℕ) → i < m → get_or (set xs at v) i (pos 0) ≡ start i +ℤ int_sum_at key i f (e + 1)
int_added key f start e at m v xs lt is before new i im = elim (same_or_other i at) [
  | inl q ↦ rw (q, get_or-set_same)
      (omega (arith, additive, new, before i im, ap (λ z. get_or xs z (pos 0)) q, int_sum_at-more_yes key at f e (sym is), ap start q, ap (λ z. int_sum_at key z f e) q))
  | inr d ↦ rw get_or-set_other (omega (arith, additive, before i im, int_sum_at-more_no key i f e (λ s. d (sym s ∙ sym is))))
]

-- what the code puts in at a node
abbrev put_in : List ℤ → ℕ → ℤ → List ℤ
put_in xs at part = set xs at (to_z w128 (of_z w128 (to_z w128 (of_z w128 (get_or xs at (pos 0))) +ℤ to_z w128 (of_z w128 part))))

pub int_more : (key : ℕ → ℕ) (f start : ℕ → ℤ) (e at nodes long : ℕ) (part : ℤ) (xs : List ℤ) → IsSignedTable long nodes (λ i. start i +ℤ int_sum_at key i f e) xs
    → at ≡ key e → at < nodes → nodes ≤ long → part ≡ f e → unsigned_abs (get_or xs at (pos 0)) ≤ 2 ^ 126 → unsigned_abs part ≤ 2 ^ 123
    → IsSignedTable long nodes (λ i. start i +ℤ int_sum_at key i f (e + 1)) (put_in xs at part)
int_more key f start e at nodes long part xs t is lt le same room small =
    let within : at < length xs = omega (arith, t.long) in
    let new = wide_sum (get_or xs at (pos 0)) part room small in
    record {
      long = length-set xs at _ ∙ t.long;
      exact = int_added key f start e at nodes _ xs within is t.exact (new ∙ ap (λ z. get_or xs at (pos 0) +ℤ z) same);
    }

pub int_first_more : (key : ℕ → ℕ) (f : ℕ → ℤ) (e at nodes long : ℕ) (part : ℤ) (xs : List ℤ) → IsSignedTable long nodes (λ i. int_sum_at key i f e) xs
    → at ≡ key e → at < nodes → nodes ≤ long → part ≡ f e → unsigned_abs (get_or xs at (pos 0)) ≤ 2 ^ 126 → unsigned_abs part ≤ 2 ^ 123
    → IsSignedTable long nodes (λ i. int_sum_at key i f (e + 1)) (put_in xs at part)
int_first_more key f e at nodes long part xs t is lt le same room small =
    let start : IsSignedTable long nodes (λ i. pos 0 +ℤ int_sum_at key i f e) xs = record { long = t.long; exact = λ i im. omega (arith, additive, t.exact i im) } in
    let later = int_more key f (λ _. pos 0) e at nodes long part xs start is lt le same room small in
    record { long = later.long; exact = λ i im. omega (arith, additive, later.exact i im) }
