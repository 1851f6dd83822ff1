-- What holds of all that a walk gives.
use Rattle.std.proofs.Common.{◌≡◌, ℕ, ◌+◌, suc, List, [], ◌∷◌, length, Option, Some, None, Result, Ok, Err, refl, ap}
use Rattle.std.specs.Prelude.{IfOk}
use Rattle.std.specs.List.{AllByRecursion}
use Rattle.serde_json.specs.Data.{Data}
use Rattle.json_walk.specs.declared.fault.Section.{Section}
use Rattle.json_walk.specs.declared.fault.Place.{Place}
use Rattle.json_walk.specs.declared.fault.ReadNet.{ReadNet}
use Rattle.serde_json.specs.Find.{get}
use Rattle.json_walk.specs.Walk.{◌>>=◌, Walk, each, rows, place, top, needs, allows, if_there, present, list, items}

-- from a fact of the first step
pub bind_if : {A B : Type 0} (P : A → Type 0) (Q : B → Type 0) (r : Result A ReadNet) (f : A → Result B ReadNet) → IfOk r P → ((x : A) → P x → IfOk (f x) Q) → IfOk (r >>= f) Q
bind_if P Q (Ok x) f p h = h x p
bind_if P Q (Err e) f p h = tt

-- whatever the first step gives
pub bind_any : {A B : Type 0} (Q : B → Type 0) (r : Result A ReadNet) (f : A → Result B ReadNet) → ((x : A) → IfOk (f x) Q) → IfOk (r >>= f) Q
bind_any Q (Ok x) f h = h x
bind_any Q (Err e) f h = tt

pub there_if : {X : Type 0} (P : X → Type 0) (walk : Walk X) (absent : X) (o : Option Data) → P absent → ((d : Data) → IfOk (walk d) P) → IfOk (if_there walk absent o) P
there_if P walk absent None h all = h
there_if P walk absent (Some d) h all = all d

pub needs_if : {X : Type 0} (P : X → Type 0) (at : Place) (k : List ℕ) (walk : Walk X) → ((d : Data) → IfOk (walk d) P) → (d : Data) → IfOk (needs at k walk d) P
needs_if P at k walk h d = bind_any P (present at k d) walk h

pub length-each : {A X : Type 0} (w : ℕ → A → Result X ReadNet) (n : ℕ) (ds : List A) → IfOk (each w n ds) (λ xs. length xs ≡ length ds)
length-each w n [] = refl
length-each w n (d ∷ ds) = bind_any _ (w n d) _ (λ x. bind_if (λ xs. length xs ≡ length ds) _ (each w (n + 1) ds) _ (length-each w (n + 1) ds) (λ xs h. ap suc h))

pub each_if : {A X : Type 0} (P : X → Type 0) (w : ℕ → A → Result X ReadNet) → ((n : ℕ) (d : A) → IfOk (w n d) P) → (n : ℕ) (ds : List A) → IfOk (each w n ds) (AllByRecursion P)
each_if P w h n [] = tt
each_if P w h n (d ∷ ds) = bind_if P _ (w n d) _ (h n d) (λ x p. bind_if (AllByRecursion P) _ (each w (n + 1) ds) _ (each_if P w h (n + 1) ds) (λ xs ps. (p, ps)))

rows_if : {X : Type 0} (P : X → Type 0) (section : Section) (walk : Place → Walk X)
    → ((at : Place) (d : Data) → IfOk (walk at d) P) → (d : Data) → IfOk (list section walk d) (AllByRecursion P)
unfolding rows
rows_if P section walk h d = bind_any (AllByRecursion P) (items top d) (rows section walk) (λ ds. each_if P (λ n. walk (place section n)) (λ n. h (place section n)) 0 ds)

-- the rows of a list that is needed, and of one that may be absent
pub list_if : {X : Type 0} (P : X → Type 0) (k : List ℕ) (section : Section) (walk : Place → Walk X)
    → ((at : Place) (d : Data) → IfOk (walk at d) P) → (d : Data)
    → IfOk (needs top k (list section walk) d) (AllByRecursion P)
list_if P k section walk h d = needs_if (AllByRecursion P) top k (list section walk) (rows_if P section walk h) d

pub list_there_if : {X : Type 0} (P : X → Type 0) (k : List ℕ) (section : Section) (walk : Place → Walk X)
    → ((at : Place) (d : Data) → IfOk (walk at d) P) → (d : Data)
    → IfOk (allows k [] (list section walk) d) (AllByRecursion P)
list_there_if P k section walk h d = there_if (AllByRecursion P) (list section walk) [] (get k d) tt (rows_if P section walk h)
