-- What pools retain: ratios in thousandths, and in parts of the scale.
use Rattle.std.proofs.Common.{◌≡◌, ℕ, zero, suc, ◌<◌, ◌≤◌, ◌==◌, ◌&&◌, Bool, true, false, if◌then◌else◌, List, [], ◌∷◌, length, map, get_or, All, IsTrue, ◌↔◌, refl, sym, subst, ◌∙◌, arith}
use Rattle.std.specs.List.{list_all}
use Rattle.std.proofs.lemmas.List.Elements.{All-nil, All-cons, All-head, All-tail}
use Rattle.std.proofs.lemmas.Bool.Decides.{nat_tests}
use Rattle.pool_model.specs.Network.{Network, net_of, IsLimited, no_pool, removes_nothing}
use Rattle.blend_network.specs.Ratios.{ratio_of}

both : (a b : Bool) → (a && b) ≡ true → (a ≡ true) × (b ≡ true)
both true b e = (refl, e)
both false b e = cc

list_all-map : {X Y : Type 0} (p : Y → Bool) (f : X → Y) (xs : List X) → list_all p (map f xs) ≡ list_all (λ x. p (f x)) xs
list_all-map p f [] = refl
list_all-map p f (x ∷ xs) = cc (list_all-map p f xs)

all_from : {X : Type 0} (p : X → Bool) (xs : List X) → list_all p xs ≡ true → All (λ x. IsTrue (p x)) xs
all_from p [] e = All-nil (λ x. IsTrue (p x))
all_from p (x ∷ xs) e = let parts = both (p x) (list_all p xs) e in All-cons (λ x. IsTrue (p x)) x xs parts.0 (all_from p xs parts.1)

all_to : {X : Type 0} (p : X → Bool) (xs : List X) → All (λ x. IsTrue (p x)) xs → list_all p xs ≡ true
all_to p [] h = refl
all_to p (x ∷ xs) h = rw (All-head (λ x. IsTrue (p x)) x xs h) (all_to p xs (All-tail (λ x. IsTrue (p x)) x xs h))

same_bool : (a b : Bool) → (a ≡ true → b ≡ true) → (b ≡ true → a ≡ true) → a ≡ b
same_bool true b h k = sym (h refl)
same_bool false true h k = k refl
same_bool false false h k = refl

-- a test that passes exactly where each element of a list that is shown passes
pub all_shown : {X Y : Type 0} (p : Y → Bool) (f : X → Y) (xs : List X) (b : Bool) → (IsTrue b ↔ All (λ x. IsTrue (p (f x))) xs) → b ≡ list_all p (map f xs)
all_shown p f xs b is =
    same_bool b (list_all (λ x. p (f x)) xs) (λ e. all_to (λ x. p (f x)) xs (is.0 e)) (λ e. is.1 (all_from (λ x. p (f x)) xs e)) ∙ sym (list_all-map p f xs)

-- what passes at each element passes at every place, if it does behind the end
all_at : {X : Type 0} (p : X → Bool) (d : X) (xs : List X) (i : ℕ) → p d ≡ true → list_all p xs ≡ true → p (get_or xs i d) ≡ true
all_at p d [] i h all = h
all_at p d (x ∷ xs) zero h all = (both (p x) (list_all p xs) all).0
all_at p d (x ∷ xs) (suc i) h all = all_at p d xs i h (both (p x) (list_all p xs) all).1

whole : (n : Network) (l k : ℕ) → removes_nothing n.pools ≡ true → ratio_of n l k ≡ 1000
whole n l k e =
    let here = all_at (λ p. list_all (λ r. r == 1000) p.ratio) no_pool n.pools l refl e in
    same (ratio_of n l k) (all_at (λ r. r == 1000) 1000 (get_or n.pools l no_pool).ratio k refl here)
  where
    same : (r : ℕ) → (r == 1000) ≡ true → r ≡ 1000
    same r e = grind (arith, nat_tests)

-- no more leaves a pool than enters it
pub ratio-most : (n : Network) → IsLimited (net_of n) → (l k : ℕ) → l < length n.pools → k < length n.qualities → ratio_of n l k ≤ 1000
unfolding net_of
ratio-most n lim l k h m = by_test (removes_nothing n.pools) refl (lim.shares_retained l k h m)
  where
    by_test : (b : Bool) → removes_nothing n.pools ≡ b
        → (if removes_nothing n.pools then 1 else ratio_of n l k) ≤ (if removes_nothing n.pools then 1 else 1000) → ratio_of n l k ≤ 1000
    by_test true e le = omega (arith, whole n l k e)
    by_test false e le = subst (λ b. (if b then 1 else ratio_of n l k) ≤ (if b then 1 else 1000)) e le

-- the scale, by whether no pool removes anything
abbrev pub scale_if : Bool → ℕ
scale_if b = if b then 1 else 1000

pub share-most : (b : Bool) (share : ℕ) → share ≤ 1000 → (if b then 1 else share) ≤ (if b then 1 else 1000)
share-most true share h = omega arith
share-most false share h = h

pub scale-least : (b : Bool) → 1 ≤ (if b then 1 else 1000)
scale-least true = omega arith
scale-least false = omega arith

pub scale-most : (b : Bool) → (if b then 1 else 1000) ≤ 1000
scale-most true = omega arith
scale-most false = omega arith
