-- An element of a list that is seen through a map.
use Rattle.std.proofs.Common.{◌≡◌, ℕ, ◌+◌, ◌<◌, take, List, [], ◌∷◌, ◌++◌, length, map, get_or, sym, ap, subst, ◌∙◌, arith}
use Rattle.std.proofs.lemmas.List.{get_or-map, length-map, map-append, append_assoc, take_more}

-- what stands at a place of the mapped list, by what was read there
pub read-map : {X Y : Type 0} (f : X → Y) (xs : List X) (i : ℕ) (x : X) (e : Y) → i < length (map f xs) → x ≡ get_or xs i x → get_or (map f xs) i e ≡ f x
read-map f xs i x e h is = get_or-map f xs i x e (omega (arith, length-map xs f)) ∙ ap f (sym is)

-- the same through two maps
pub read-map_map : {X Y Z : Type 0} (g : Y → Z) (f : X → Y) (xs : List X) (i : ℕ) (x : X) (e : Z) → i < length (map g (map f xs)) → x ≡ get_or xs i x
    → get_or (map g (map f xs)) i e ≡ g (f x)
read-map_map g f xs i x e h is =
    let within : i < length (map f xs) = omega (arith, length-map (map f xs) g) in
    get_or-map g (map f xs) i (f x) e within ∙ ap g (read-map f xs i x (f x) within is)

-- what holds of what was read at a place holds of the mapped list there
pub holds_at : {X Y : Type 0} (P : Y → Type 0) (f : X → Y) (xs : List X) (n : ℕ) (x : X) (d : Y) → n < length xs → x ≡ get_or xs n x → P (f x) → P (get_or (map f xs) n d)
holds_at P f xs n x d h is good = subst P (sym (read-map f xs n x d (omega (arith, length-map xs f)) is)) good

pub held_at : {X Y : Type 0} (P : Y → Type 0) (f : X → Y) (xs : List X) (n : ℕ) (x : X) (d : Y) → n < length xs → x ≡ get_or xs n x → P (get_or (map f xs) n d) → P (f x)
held_at P f xs n x d h is good = subst P (read-map f xs n x d (omega (arith, length-map xs f)) is) good

-- a list that is mapped as far as it was read, and one element more
pub taken_more : {X Y : Type 0} (f : X → Y) (xs : List X) (done done' : List Y) (i : ℕ) (d : X) → done ≡ map f (take i xs) → i < length xs → done' ≡ done ++ f (get_or xs i d) ∷ []
    → done' ≡ map f (take (i + 1) xs)
taken_more f xs done done' i d is h pushed =
    pushed
    ∙ ap (λ ys. ys ++ f (get_or xs i d) ∷ []) is
    ∙ sym (map-append f (take i xs) (get_or xs i d ∷ []))
    ∙ ap (map f) (sym (take_more xs i d h))

-- a mapped list, one element after another
pub map_more : {X M Y E : Type 0} (known : E → Y) (g : M → Y) (f : X → M) (xs : List X) (done done' : List E) (n : ℕ) (x : X) (e : E)
    → map known done ≡ take n (map g (map f xs)) → n < length xs → x ≡ get_or xs n x → done' ≡ done ++ e ∷ [] → known e ≡ g (f x) → map known done' ≡ take (n + 1) (map g (map f xs))
map_more known g f xs done done' n x e is h at pushed same =
    let within : n < length (map g (map f xs)) = omega (arith, length-map (map f xs) g, length-map xs f) in
    ap (map known) pushed
    ∙ map-append known done (e ∷ [])
    ∙ ap (λ z. z ++ known e ∷ []) is
    ∙ ap (λ y. take n (map g (map f xs)) ++ y ∷ []) (same ∙ sym (read-map_map g f xs n x (known e) within at))
    ∙ sym (take_more (map g (map f xs)) n (known e) within)

-- a list that is made from another, one element after another
pub made_more : {R M X S : Type 0} (shown : X → S) (g : M → S) (f : R → M) (done done' : List X) (rest rest' : List R) (x : X) (r : R) (whole : List S)
    → map shown done ++ map g (map f rest) ≡ whole → rest ≡ r ∷ rest' → done' ≡ done ++ x ∷ [] → shown x ≡ g (f r) → map shown done' ++ map g (map f rest') ≡ whole
made_more shown g f done done' rest rest' x r whole e next pushed made =
    ap (λ d. map shown d ++ map g (map f rest')) pushed
    ∙ ap (λ z. z ++ map g (map f rest')) (map-append shown done (x ∷ []))
    ∙ append_assoc (map shown done) (shown x ∷ []) (map g (map f rest'))
    ∙ ap (λ s. map shown done ++ (s ∷ map g (map f rest'))) made
    ∙ ap (λ rs. map shown done ++ map g (map f rs)) (sym next)
    ∙ e
