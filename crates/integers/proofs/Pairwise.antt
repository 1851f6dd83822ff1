-- What holds of each element of a list and each later one.
use Rattle.std.proofs.Common.{suc, List, [], ◌∷◌, ◌++◌, get_or, map, arith}
use Rattle.std.specs.List.{All, AllPairs, flat_map}
use Rattle.std.proofs.lemmas.List.Elements.{All-head, All-tail, All-append, All-map}
use Rattle.std.proofs.lemmas.List.Kept.{AllPairs-cons}
use Rattle.integers.proofs.Elements.{All-flat_map}

pub AllPairs-nil : {X : Type 0} (R : X → X → Type 0) → AllPairs R []
AllPairs-nil R i j d lt within = absurd (omega arith)

pub AllPairs-tail : {X : Type 0} (R : X → X → Type 0) (x : X) (xs : List X) → AllPairs R (x ∷ xs) → AllPairs R xs
AllPairs-tail R x xs h i j d lt within = h (suc i) (suc j) d (omega arith) (omega arith)

pub AllPairs-head : {X : Type 0} (R : X → X → Type 0) (x : X) (xs : List X) → AllPairs R (x ∷ xs) → All (R x) xs
AllPairs-head R x xs h k d within = h 0 (suc k) d (omega arith) (omega arith)

pub AllPairs-append : {X : Type 0} (R : X → X → Type 0) (xs ys : List X) → AllPairs R xs → AllPairs R ys → All (λ x. All (R x) ys) xs → AllPairs R (xs ++ ys)
AllPairs-append R [] ys h k between = k
AllPairs-append R (x ∷ xs) ys h k between =
    AllPairs-cons R x (xs ++ ys) (All-append (R x) xs ys (AllPairs-head R x xs h) (All-head (λ z. All (R z) ys) x xs between))
    (AllPairs-append R xs ys (AllPairs-tail R x xs h) k (All-tail (λ z. All (R z) ys) x xs between))

pub AllPairs-map : {X Y : Type 0} (R : Y → Y → Type 0) (f : X → Y) (xs : List X) → AllPairs (λ x y. R (f x) (f y)) xs → AllPairs R (map f xs)
AllPairs-map R f [] h = AllPairs-nil R
AllPairs-map R f (x ∷ xs) h =
    AllPairs-cons R (f x) (map f xs) (All-map (R (f x)) f xs (AllPairs-head (λ y z. R (f y) (f z)) x xs h)) (AllPairs-map R f xs (AllPairs-tail (λ y z. R (f y) (f z)) x xs h))

pub AllPairs-weaker : {X : Type 0} (R S : X → X → Type 0) (xs : List X) → ((x y : X) → R x y → S x y) → AllPairs R xs → AllPairs S xs
AllPairs-weaker R S xs weaker h i j d lt within = weaker (get_or xs i d) (get_or xs j d) (h i j d lt within)

-- pieces that are in order, of elements that are in order
pub AllPairs-flat_map : {X Y : Type 0} (P : X → Type 0) (S : X → X → Type 0) (R : Y → Y → Type 0) (f : X → List Y) (xs : List X) → All P xs → AllPairs S xs → ((x : X) → P x → AllPairs R (f x))
    → ((x z : X) → P x → P z → S x z → All (λ y. All (R y) (f z)) (f x)) → AllPairs R (flat_map f xs)
AllPairs-flat_map P S R f [] each ordered inside between = AllPairs-nil R
AllPairs-flat_map {X} {Y} P S R f (x ∷ xs) each ordered inside between =
    AllPairs-append R (f x) (flat_map f xs) (inside x (All-head P x xs each)) (AllPairs-flat_map P S R f xs (All-tail P x xs each) (AllPairs-tail S x xs ordered) inside between)
    (λ k d lt. All-flat_map (R (get_or (f x) k d)) f xs (λ i e at. between x (get_or xs i e) (All-head P x xs each) (All-tail P x xs each i e at) (AllPairs-head S x xs ordered i e at) k d lt))
