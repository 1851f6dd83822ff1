-- The steps of the walk answer with faults of their own: never with a refusal of rows, and never with want of memory.
use Rattle.std.proofs.Common.{ℕ, ◌+◌, Bool, true, false, List, [], ◌∷◌, Option, Some, None, Result, Ok, Err, eqb, cond, ◌||◌, is_some, option_map}
use Rattle.std.specs.Prelude.{IfErr, ⊤}
use Rattle.std.specs.List.{list_all}
use Rattle.std.specs.Option.{ok_or}
use Rattle.serde_json.specs.Data.{Data, number, string, Num, unsigned}
use Rattle.serde_json.specs.Find.{as_number, as_object, as_array, get}
use Rattle.json_walk.specs.declared.fault.Section.{Section}
use Rattle.json_walk.specs.declared.fault.Place.{Place}
use Rattle.json_walk.specs.declared.fault.ReadNet.{ReadNet}
use Rattle.json_walk.specs.declared.fault.ReadNet.TheVariants.{WrongKind, UnknownMember, Missing, WrongVersion, NotWhole, BadQuantity, Net, Memory}
use Rattle.json_walk.specs.declared.version.Version.TheVariants.{One, Two}
use Rattle.json_walk.specs.Walk.{◌>>=◌, Walk, each, rows, place, top, version_by, is_among, names_in, list_of, object, needs, allows, if_there, present, list, items, text, quantity, ratio, version}

-- a fault of the walk
abbrev pub IsFound : ReadNet → Type 0
IsFound Memory = ⊥
IsFound (Net fault) = ⊥
IsFound e = Unit {0}

abbrev pub OnlyFound : {X : Type 0} → Result X ReadNet → Type 0
OnlyFound r = IfErr r IsFound

-- ---- the steps

pub then_found : {A B : Type 0} (r : Result A ReadNet) (f : A → Result B ReadNet) → OnlyFound r → ((x : A) → OnlyFound (f x)) → OnlyFound (r >>= f)
then_found (Ok x) f p h = h x
then_found (Err e) f p h = p

pub ok_or_found : {X : Type 0} (o : Option X) (e : ReadNet) → IsFound e → OnlyFound (ok_or o e)
ok_or_found None e h = h
ok_or_found (Some x) e h = tt

pub either_found : {X : Type 0} (b : Bool) (r s : Result X ReadNet) → OnlyFound r → OnlyFound s → OnlyFound (cond b r s)
either_found true r s p q = p
either_found false r s p q = q

pub text_found : (at : Place) (d : Data) → OnlyFound (text at d)
unfolding text
text_found at d = ok_or_found _ (WrongKind at) tt

pub quantity_found : (at : Place) (d : Data) → OnlyFound (quantity at d)
unfolding quantity
quantity_found at (number n) = ok_or_found _ (NotWhole at) tt
quantity_found at (string s) = ok_or_found _ (BadQuantity at) tt
quantity_found at _ = tt

pub ratio_found : (at : Place) (d : Data) → OnlyFound (ratio at d)
unfolding ratio
ratio_found at (number n) = ok_or_found _ (NotWhole at) tt
ratio_found at _ = tt

version_by_found : (n : Num) → OnlyFound (version_by n)
version_by_found (unsigned n) =
    either_found (eqb n 1) (Ok One) (cond (eqb n 2) (Ok Two) (Err WrongVersion)) tt (either_found (eqb n 2) (Ok Two) (Err WrongVersion) tt tt)
version_by_found _ = tt

pub version_found : (at : Place) (d : Data) → OnlyFound (version at d)
unfolding version
version_found at d = then_found (ok_or (as_number d) (WrongKind at)) version_by (ok_or_found (as_number d) (WrongKind at) tt) version_by_found

-- a list of members that is known and whole, or a fault
abbrev judged : Place → Bool → Bool → Result ⊤ ReadNet
judged at known whole = cond known (cond whole (Ok tt) (Err (Missing at))) (Err (UnknownMember at))

members_found : (at : Place) (known whole : Bool) → OnlyFound (judged at known whole)
members_found at true true = tt
members_found at true false = tt
members_found at false c = tt

pub object_found : (at : Place) (needed others : List (List ℕ)) (d : Data) → OnlyFound (object at needed others d)
unfolding object
object_found at needed others d = then_found (ok_or (as_object d) (WrongKind at)) _
    (ok_or_found (as_object d) (WrongKind at) tt)
    (λ ms. members_found at (list_all (λ k. is_among needed k || is_among others k) (names_in ms))
    (list_all (λ k. is_some (get k d)) needed))

pub needs_found : {X : Type 0} (at : Place) (k : List ℕ) (walk : Walk X) → ((d : Data) → OnlyFound (walk d)) → (d : Data) → OnlyFound (needs at k walk d)
unfolding present
needs_found at k walk h d = then_found (present at k d) walk (ok_or_found (get k d) (Missing at) tt) h

pub there_found : {X : Type 0} (walk : Walk X) (absent : X) (o : Option Data) → ((d : Data) → OnlyFound (walk d)) → OnlyFound (if_there walk absent o)
there_found walk absent None h = tt
there_found walk absent (Some d) h = h d

-- what comes after an object, a member that is needed, and one that may be absent
pub after_object : {B : Type 0} (at : Place) (needed others : List (List ℕ)) (d : Data) (f : ⊤ → Result B ReadNet) → ((u : ⊤) → OnlyFound (f u)) → OnlyFound (object at needed others d >>= f)
after_object at needed others d f h = then_found (object at needed others d) f (object_found at needed others d) h

pub after_needed : {X B : Type 0} (at : Place) (k : List ℕ) (walk : Walk X) → ((d : Data) → OnlyFound (walk d))
    → (d : Data) (f : X → Result B ReadNet) → ((x : X) → OnlyFound (f x)) → OnlyFound (needs at k walk d >>= f)
after_needed at k walk found d f h = then_found (needs at k walk d) f (needs_found at k walk found d) h

pub after_allowed : {X B : Type 0} (k : List ℕ) (absent : X) (walk : Walk X) → ((d : Data) → OnlyFound (walk d))
    → (d : Data) (f : X → Result B ReadNet) → ((x : X) → OnlyFound (f x)) → OnlyFound (allows k absent walk d >>= f)
after_allowed k absent walk found d f h = then_found (allows k absent walk d) f (there_found walk absent (get k d) found) h

pub each_found : {A X : Type 0} (w : ℕ → A → Result X ReadNet) → ((n : ℕ) (d : A) → OnlyFound (w n d)) → (n : ℕ) (ds : List A) → OnlyFound (each w n ds)
each_found w h n [] = tt
each_found w h n (d ∷ ds) = then_found (w n d) _ (h n d) (λ x. then_found (each w (n + 1) ds) _ (each_found w h (n + 1) ds) (λ xs. tt))

pub items_found : (at : Place) (d : Data) → OnlyFound (items at d)
unfolding items
items_found at d = ok_or_found (option_map list_of (as_array d)) (WrongKind at) tt

pub list_found : {X : Type 0} (section : Section) (walk : Place → Walk X) → ((at : Place) (d : Data) → OnlyFound (walk at d)) → (d : Data) → OnlyFound (list section walk d)
unfolding rows
list_found section walk h d = then_found (items top d) (rows section walk) (items_found top d) (λ ds. each_found (λ n. walk (place section n)) (λ n. h (place section n)) 0 ds)
