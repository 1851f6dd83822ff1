-- A list is walked row by row: what one more row does, and what a fault does.
use Rattle.std.proofs.Common.{◌≡◌, ◌≢◌, ℕ, zero, suc, ◌+◌, ◌<◌, List, [], ◌∷◌, ◌++◌, length, get_or, take, map, Result, Ok, Err, refl, ap, ◌∙◌, arith, add-zero, zero-add, add-one}
use Rattle.std.specs.Prelude.{IsErrAnd}
use Rattle.std.proofs.lemmas.List.{map-append}
use Rattle.json_walk.specs.declared.fault.ReadNet.{ReadNet}
use Rattle.json_walk.specs.declared.fault.ReadNet.TheVariants.{Memory}
use Rattle.json_walk.specs.Walk.{◌>>=◌, Gives, each}

pub bind_ok : {A B : Type 0} (r : Result A ReadNet) (f : A → Result B ReadNet) (y : B) → (r >>= f) ≡ Ok y → (x : A) × (r ≡ Ok x) × (f x ≡ Ok y)
bind_ok (Ok x) f y e = (x, refl, e)
bind_ok (Err d) f y e = absurd cc

abbrev done : {A : Type 0} → A → Result A ReadNet
done x = Ok x

ok_is : {A : Type 0} (x y : A) → done x ≡ done y → x ≡ y
ok_is x y e = cc

abbrev with_first : {X : Type 0} → X → List X → Result (List X) ReadNet
with_first x xs = Ok (x ∷ xs)

both_ok : {X : Type 0} (r : Result X ReadNet) (m : Result (List X) ReadNet) (z : X) (zs : List X) → r ≡ Ok z → m ≡ Ok zs → (r >>= λ x. m >>= with_first x) ≡ Ok (z ∷ zs)
both_ok r m z zs p q = rw (p, q) refl

first_then_fault : {X : Type 0} (r : Result X ReadNet) (m : Result (List X) ReadNet) (z : X) (e : ReadNet) → r ≡ Ok z → m ≡ Err e → (r >>= λ x. m >>= with_first x) ≡ Err e
first_then_fault r m z e p q = rw (p, q) refl

-- the rows of the items so far, and one more
pub each-push : {A B X : Type 0} (w : ℕ → B → Result X ReadNet) (f : A → B) (xs : List A) (n i : ℕ) (d : A) (ys : List X) (y : X) → i < length xs
    → each w n (map f (take i xs)) ≡ Ok ys → w (n + i) (f (get_or xs i d)) ≡ Ok y → each w n (map f (take (suc i) xs)) ≡ Ok (ys ++ y ∷ [])
each-push w f [] n i d ys y lt so here = absurd (omega arith)
each-push w f (x ∷ xs) n zero d ys y lt so here =
    let first : w n (f x) ≡ Ok y = rw add-zero at here in
    let one : each w n (map f (take 1 (x ∷ xs))) ≡ Ok (y ∷ []) = rw first refl in
    one ∙ ap (λ zs. done (zs ++ y ∷ [])) (ok_is [] ys so)
each-push w f (x ∷ xs) n (suc i) d ys y lt so here =
    let a = bind_ok (w n (f x)) (λ z. each w (n + 1) (map f (take i xs)) >>= with_first z) ys so in
    let b = bind_ok (each w (n + 1) (map f (take i xs))) (with_first a.0) ys a.2 in
    let k : n + suc i ≡ n + 1 + i = omega arith in
    let later = each-push w f xs (n + 1) i d b.0 y (omega arith) b.1 (rw k at here) in
    let one : each w n (map f (take (suc (suc i)) (x ∷ xs))) ≡ Ok (a.0 ∷ (b.0 ++ y ∷ [])) = both_ok (w n (f x)) (each w (n + 1) (map f (take (suc i) xs))) a.0 (b.0 ++ y ∷ []) a.1 later in
    one ∙ ap (λ zs. done (zs ++ y ∷ [])) (ok_is (a.0 ∷ b.0) ys b.2)

-- a fault at the next item is the fault of all
pub each-stop : {A B X : Type 0} (w : ℕ → B → Result X ReadNet) (f : A → B) (xs : List A) (n i : ℕ) (d : A) (ys : List X) (e : ReadNet) → i < length xs
    → each w n (map f (take i xs)) ≡ Ok ys → w (n + i) (f (get_or xs i d)) ≡ Err e → each w n (map f xs) ≡ Err e
each-stop w f [] n i d ys e lt so here = absurd (omega arith)
each-stop w f (x ∷ xs) n zero d ys e lt so here =
    let first : w n (f x) ≡ Err e = rw add-zero at here in
    rw first refl
each-stop w f (x ∷ xs) n (suc i) d ys e lt so here =
    let a = bind_ok (w n (f x)) (λ z. each w (n + 1) (map f (take i xs)) >>= with_first z) ys so in
    let b = bind_ok (each w (n + 1) (map f (take i xs))) (with_first a.0) ys a.2 in
    let k : n + suc i ≡ n + 1 + i = omega arith in
    let later = each-stop w f xs (n + 1) i d b.0 e (omega arith) b.1 (rw k at here) in
    first_then_fault (w n (f x)) (each w (n + 1) (map f xs)) a.0 e a.1 later

at_here : {A B X : Type 0} (w : ℕ → B → Result X ReadNet) (f : A → B) (xs : List A) (i : ℕ) (d : A) → d ≡ get_or xs i d → (r : Result X ReadNet) → w i (f d) ≡ r → w (0 + i) (f (get_or xs i d)) ≡ r
at_here w f xs i d here r h = rw (zero-add, ← here) h

-- A loop over xs that pushes what w gives for each: its step, and its exit at a fault.
module _ {A B X : Type 0} (w : ℕ → B → Result X ReadNet) (f : A → B) (xs : List A) (i : ℕ) (d : A)
    (here : d ≡ get_or xs i d) (lt : i < length xs) (ys : List X) (so : each w 0 (map f (take i xs)) ≡ Ok ys) where
  pub value_step : (y : X) (new : List X) → new ≡ ys ++ y ∷ [] → w i (f d) ≡ Ok y → each w 0 (map f (take (i + 1) xs)) ≡ Ok new
  value_step y new is h = rw (add-one, is) (each-push w f xs 0 i d ys y lt so (at_here w f xs i d here (Ok y) h))

  pub value_stop : {Y : Type 0} (v : Y → List X) (result : Result Y ReadNet) (e : ReadNet) → IsErrAnd result (λ z. z ≡ e) → (e ≢ Memory → w i (f d) ≡ Err e) → Gives v result (each w 0 (map f xs))
  value_stop v (Ok z) e is h = absurd is
  value_stop v (Err z) e is h = λ other. each-stop w f xs 0 i d ys z lt so (at_here w f xs i d here (Err z) (rw is (h (rw is at other))))

-- The same where g sees a pushed row.
module _ {A B X R : Type 0} (w : ℕ → B → Result X ReadNet) (f : A → B) (g : R → X) (xs : List A) (i : ℕ) (d : A)
    (rows : List R) (here : d ≡ get_or xs i d) (lt : i < length xs)
    (so : each w 0 (map f (take i xs)) ≡ Ok (map g rows)) where
  pub row_step : (r : R) (new : List R) → new ≡ rows ++ r ∷ [] → w i (f d) ≡ Ok (g r) → each w 0 (map f (take (i + 1) xs)) ≡ Ok (map g new)
  row_step r new is h = value_step w f xs i d here lt (map g rows) so (g r) (map g new) (rw is (map-append g rows (r ∷ []))) h

  pub row_stop : {Y : Type 0} (v : Y → List X) (result : Result Y ReadNet) (e : ReadNet) → IsErrAnd result (λ y. y ≡ e) → (e ≢ Memory → w i (f d) ≡ Err e) → Gives v result (each w 0 (map f xs))
  row_stop v result e is h = value_stop w f xs i d here lt (map g rows) so v result e is h
