-- How a value is walked: each place has a meaning, or the first fault that is met there.
use Rattle.std.specs.Prelude.{◌≡◌, ◌≢◌, ◌+◌, ◌*ℤ◌, ◌==◌, ◌||◌, ◌-◌, ◌^◌, min, ℕ, ℤ, pos, List, [], ◌∷◌, map, Bool, if◌then◌else◌, Option, Some, None, option_map, is_some, Result, Ok, Err, bytes_eq, ⊤}
use Rattle.std.specs.Borrow.{Bor}
use Rattle.std.specs.Option.{ok_or}
use Rattle.std.specs.List.{list_all, list_any}
use Rattle.serde_json.specs.Data.{Data, number, string, Num, unsigned, Items, no_items, item, Members, no_members, member}
use Rattle.serde_json.specs.Find.{get, as_str, as_array, as_object, as_number, as_integer}
use Rattle.pool_model.specs.Quantity as text_of
use Rattle.json_walk.specs.declared.fault.Section.{Section}
use Rattle.json_walk.specs.declared.fault.Section.TheVariants.{Top}
use Rattle.json_walk.specs.declared.fault.Place.{Place}
use Rattle.json_walk.specs.declared.fault.ReadNet.{ReadNet}
use Rattle.json_walk.specs.declared.fault.ReadNet.TheVariants.{WrongKind, UnknownMember, Missing, WrongVersion, NotWhole, BadQuantity, Memory}
use Rattle.json_walk.specs.declared.version.Version.{Version}
use Rattle.json_walk.specs.declared.version.Version.TheVariants.{One, Two}

-- one step and then the next, up to the first fault
infixl 10 ◌>>=◌
abbrev pub ◌>>=◌ : {A B : Type 0} → Result A ReadNet → (A → Result B ReadNet) → Result B ReadNet
(Ok x) >>= f = f x
(Err e) >>= f = Err e

-- What a function returned, seen by view, is what the walk gives, unless memory ran out.
abbrev pub Gives : {X Y : Type 0} → (X → Y) → Result X ReadNet → Result Y ReadNet → Type 0
Gives view (Ok x) walked = walked ≡ Ok (view x)
Gives view (Err e) walked = e ≢ Memory → walked ≡ Err e

-- ---- places

-- around the lists
abbrev pub top : Place
top = record { section = Top; index = 0 }

-- The n-th element of a section. A text that is read is far too short for 2^32 elements.
abbrev pub place : Section → ℕ → Place
place s n = record { section = s; index = min n (2 ^ 32 - 1) }

-- ---- texts and numbers

-- what a value means, or its first fault
abbrev pub Walk : Type 0 → Type 0
Walk X = Data → Result X ReadNet

-- a text
unfoldable pub text : Place → Walk (List ℕ)
text at d = ok_or (as_str d) (WrongKind at)

-- a whole number of units, or the text of a quantity
unfoldable pub quantity : Place → Walk ℤ
quantity at (number n) = ok_or (option_map (λ z. z *ℤ pos 1000000) (as_integer n)) (NotWhole at)
quantity at (string s) = ok_or (text_of.quantity s) (BadQuantity at)
quantity at _ = Err (WrongKind at)

-- a whole number as it stands
unfoldable pub ratio : Place → Walk ℤ
ratio at (number n) = ok_or (as_integer n) (NotWhole at)
ratio at _ = Err (WrongKind at)

-- ---- versions

-- the number that a file says of a version
abbrev pub version_number : Version → ℕ
version_number One = 1
version_number Two = 2

-- the version of a number: 1 or 2
abbrev pub version_by : Num → Result Version ReadNet
version_by (unsigned n) = if n == 1 then Ok One else (if n == 2 then Ok Two else Err WrongVersion)
version_by _ = Err WrongVersion

-- the version of the format
unfoldable pub version : Place → Walk Version
version at d = ok_or (as_number d) (WrongKind at) >>= version_by

-- ---- objects

-- the texts that references point to
abbrev pub texts : List (Bor (List ℕ)) → List (List ℕ)
texts names = map (λ s. s.now) names

-- the names of members
abbrev pub names_in : Members → List (List ℕ)
names_in no_members = []
names_in (member k d ms) = k ∷ names_in ms

-- whether a name is one of these
abbrev pub is_among : List (List ℕ) → List ℕ → Bool
is_among names k = list_any (λ name. bytes_eq name k) names

-- an object with no member but these, and all those that are needed
unfoldable pub object : Place → (needed others : List (List ℕ)) → Walk ⊤
object at needed others d = do
  ms ← ok_or (as_object d) (WrongKind at)
  if list_all (λ k. is_among needed k || is_among others k) (names_in ms)
      then (if list_all (λ k. is_some (get k d)) needed then Ok tt else Err (Missing at))
      else Err (UnknownMember at)

-- the value of a member that is needed
unfoldable pub present : Place → List ℕ → Walk Data
present at k d = ok_or (get k d) (Missing at)

-- a member that is needed
abbrev pub needs : {X : Type 0} → Place → List ℕ → Walk X → Walk X
needs at k walk d = present at k d >>= walk

-- what is walked where it is there, and else what stands in for it
abbrev pub if_there : {X : Type 0} → Walk X → X → Option Data → Result X ReadNet
if_there walk absent None = Ok absent
if_there walk absent (Some d) = walk d

-- what is walked and not kept
abbrev pub ignored : {X : Type 0} → Result X ReadNet → Result ⊤ ReadNet
ignored walked = walked >>= λ x. Ok tt

-- a member that may be absent
abbrev pub allows : {X : Type 0} → List ℕ → X → Walk X → Walk X
allows k absent walk d = if_there walk absent (get k d)

-- ---- lists

-- each by its number, from n on
abbrev pub each : {A X : Type 0} → (ℕ → A → Result X ReadNet) → ℕ → List A → Result (List X) ReadNet
each walk n [] = Ok []
each walk n (d ∷ ds) = do
  x ← walk n d
  xs ← each walk (n + 1) ds
  Ok (x ∷ xs)

-- the elements, as a list
abbrev pub list_of : Items → List Data
list_of no_items = []
list_of (item d ds) = d ∷ list_of ds

-- the elements of a list
unfoldable pub items : Place → Walk (List Data)
items at d = ok_or (option_map list_of (as_array d)) (WrongKind at)

-- the rows of a section
unfoldable pub rows : {X : Type 0} → Section → (Place → Walk X) → List Data → Result (List X) ReadNet
rows section walk ds = each (λ n. walk (place section n)) 0 ds

-- a top member's list of rows
abbrev pub list : {X : Type 0} → Section → (Place → Walk X) → Walk (List X)
list section walk d = items top d >>= rows section walk
