-- What holds of each element of lists that are made of lists.
use Rattle.std.proofs.Common.{◌≡◌, ℕ, zero, suc, ◌≤◌, List, [], ◌∷◌, length, map, All, Option, Some, None, refl, sym, ap, subst, arith}
use Rattle.std.specs.List.{Contains, flat_map, filter_map, cons_option}
use Rattle.std.proofs.lemmas.List.Elements.{All-nil, All-cons, All-head, All-tail, All-append, Contains-append_left, Contains-append_right}

pub All-flat_map : {X Y : Type 0} (P : Y → Type 0) (f : X → List Y) (xs : List X) → All (λ x. All P (f x)) xs → All P (flat_map f xs)
All-flat_map P f [] h = All-nil P
All-flat_map P f (x ∷ xs) h =
    All-append P (f x) (flat_map f xs) (All-head (λ y. All P (f y)) x xs h) (All-flat_map P f xs (All-tail (λ y. All P (f y)) x xs h))

-- what holds of each value that is there
pub All-filter_map : {X Y : Type 0} (P : X → Type 0) (Q : Y → Type 0) (h : X → Option Y) (xs : List X) → ((x : X) (y : Y) → P x → h x ≡ Some y → Q y) → All P xs → All Q (filter_map h xs)
All-filter_map P Q h [] each a = All-nil Q
All-filter_map P Q h (x ∷ xs) each a = there Q (h x) (filter_map h xs) (λ y e. each x y (All-head P x xs a) e) (All-filter_map P Q h xs each (All-tail P x xs a))
  where
    there : {Y : Type 0} (Q : Y → Type 0) (o : Option Y) (ys : List Y) → ((y : Y) → o ≡ Some y → Q y) → All Q ys → All Q (cons_option o ys)
    there Q None ys each a = a
    there Q (Some y) ys each a = All-cons Q y ys (each y refl) a

-- ---- how many a filter keeps
step_length : {Z : Type 0} (o : Option Z) (rest : List Z) (n : ℕ) → length rest ≤ n → length (cons_option o rest) ≤ suc n
step_length None rest n h = omega arith
step_length (Some z) rest n h = omega arith

pub length-filter_map : {X Z : Type 0} (h : X → Option Z) (xs : List X) → length (filter_map h xs) ≤ length xs
length-filter_map h [] = omega arith
length-filter_map h (x ∷ xs) = step_length (h x) (filter_map h xs) (length xs) (length-filter_map h xs)

-- ---- what is among them
pub Contains-map : {X Y : Type 0} (f : X → Y) (xs : List X) (x : X) → Contains xs x → Contains (map f xs) (f x)
Contains-map f [] x (k, lt, is) = absurd (omega arith)
Contains-map f (y ∷ ys) x (zero, lt, is) = (zero, omega arith, ap f is)
Contains-map f (y ∷ ys) x (suc k, lt, is) = let rest = Contains-map f ys x (k, omega arith, is) in (suc rest.0, omega arith, rest.2)

pub Contains-flat_map : {X Y : Type 0} (f : X → List Y) (xs : List X) (x : X) (y : Y) → Contains xs x → Contains (f x) y → Contains (flat_map f xs) y
Contains-flat_map f [] x y (k, lt, is) at = absurd (omega arith)
Contains-flat_map {Y} f (z ∷ zs) x y (zero, lt, is) at = Contains-append_left (f z) (flat_map f zs) y (subst (λ (w : List Y). Contains w y) (sym (ap f is)) at)
Contains-flat_map f (z ∷ zs) x y (suc k, lt, is) at = Contains-append_right (f z) (flat_map f zs) y (Contains-flat_map f zs x y (k, omega arith, is) at)
