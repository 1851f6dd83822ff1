-- The loop over a count of items.
use Rattle.std.proofs.Common.{◌≡◌, ℕ, suc, ◌+◌, ◌-◌, ◌<◌, ◌≤◌, List, [], ◌∷◌, ◌++◌, Result, Ok, Err, refl, sym, ap, subst, ◌∙◌, append_assoc, arith}
use Rattle.std.specs.Prelude.{map}
use Rattle.std.proofs.lemmas.List.{append-nil, map-append}
use Rattle.std.proofs.Common.{Bool}
use Rattle.cert_text.specs.declared.fault.Stop.{Stop}
use Rattle.cert_text.specs.declared.fault.Stop.TheVariants.{Text, Source}
use Rattle.cert_text.specs.Reading.{At, ◌>>=◌, each_at, Stops}

-- the items read so far stand before those to come
abbrev pub with_front : {X : Type 0} → List X → Result (List X × At) ℕ → Result (List X × At) ℕ
with_front front read = read >>= λ x. Ok (front ++ x.0, x.1)

regroup : {X : Type 0} (front : List X) (x : X) (read : Result (List X × At) ℕ) → with_front front (read >>= λ xs. Ok (x ∷ xs.0, xs.1)) ≡ with_front (front ++ x ∷ []) read
regroup {X} front x (Ok xs) = ap (λ (ys : List X). Ok (ys, xs.1)) (sym (append_assoc front (x ∷ []) xs.0))
regroup front x (Err n) = refl

pub each-step : {X : Type 0} (r : ℕ → At → Result (X × At) ℕ) (n i : ℕ) (front : List X) (a b : At) (x : X) (total : Result (List X × At) ℕ) → i < n → r (n - (i + 1)) a ≡ Ok (x, b)
    → with_front front (each_at r (n - i) a) ≡ total → with_front (front ++ x ∷ []) (each_at r (n - (i + 1)) b) ≡ total
unfolding each_at
each-step r n i front a b x total lt e h =
    let k : n - i ≡ suc (n - (i + 1)) = omega arith in
    let one : with_front front (each_at r (n - i) a) ≡ with_front (front ++ x ∷ []) (each_at r (n - (i + 1)) b) = rw (k, e) (regroup front x (each_at r (n - (i + 1)) b)) in
    sym one ∙ h

pub each-fault : {X : Type 0} (r : ℕ → At → Result (X × At) ℕ) (n i : ℕ) (front : List X) (a : At) (l : ℕ) (total : Result (List X × At) ℕ) → i < n → r (n - (i + 1)) a ≡ Err l
    → with_front front (each_at r (n - i) a) ≡ total → total ≡ Err l
unfolding each_at
each-fault r n i front a l total lt e h =
    let k : n - i ≡ suc (n - (i + 1)) = omega arith in
    let one : with_front front (each_at r (n - i) a) ≡ Err l = rw (k, e) refl in
    sym h ∙ one

-- an item of a list stops
pub each-stops : {X : Type 0} (r : ℕ → At → Result (X × At) ℕ) (n i : ℕ) (front : List X) (a : At) (e : Stop) (broken : Bool)
    (total : Result (List X × At) ℕ) → i < n → Stops e broken (r (n - (i + 1)) a)
    → with_front front (each_at r (n - i) a) ≡ total → Stops e broken total
each-stops r n i front a (Text f) broken total lt h k = each-fault r n i front a f.line total lt h k
each-stops r n i front a Source broken total lt h k = h

pub each-end : {X : Type 0} (r : ℕ → At → Result (X × At) ℕ) (n i : ℕ) (front : List X) (a : At) (total : Result (List X × At) ℕ) → n ≤ i
    → with_front front (each_at r (n - i) a) ≡ total → total ≡ Ok (front, a)
unfolding each_at
each-end {X} r n i front a total le h =
    let k : n - i ≡ 0 = omega arith in
    let one : with_front front (each_at r (n - i) a) ≡ Ok (front, a) = rw k (ap (λ (xs : List X). Ok (xs, a)) (append-nil front)) in
    sym h ∙ one

-- one more item, as the format shows it
pub each-push : {X Y : Type 0} (view : X → Y) (r : ℕ → At → Result (Y × At) ℕ) (n i : ℕ) (xs ys : List X) (a b : At) (x : X)
    (total : Result (List Y × At) ℕ) → ys ≡ xs ++ x ∷ [] → i < n → r (n - (i + 1)) a ≡ Ok (view x, b)
    → with_front (map view xs) (each_at r (n - i) a) ≡ total → with_front (map view ys) (each_at r (n - (i + 1)) b) ≡ total
each-push {X} {Y} view r n i xs ys a b x total more lt e h =
    let items : map view ys ≡ map view xs ++ view x ∷ [] = ap (map view) more ∙ map-append view xs (x ∷ []) in
    subst (λ (zs : List Y). with_front zs (each_at r (n - (i + 1)) b) ≡ total) (sym items) (each-step r n i (map view xs) a b (view x) total lt e h)
