-- The values of a network's parts: the members of each object stand in byte order of their names.
use Rattle.std.specs.Prelude.{ℕ, ℤ, List, [], ◌∷◌, map, ◌/◌, ◌%◌, ◌^◌, ◌==◌, if◌then◌else◌, pos, int_lt, unsigned_abs, Option, Some, None, codes}
use Rattle.serde_json.specs.Data.{Data, number, unsigned, string, array, object, Members, no_members, member, put}
use Rattle.serde_json.specs.Find.{of_integer}
use Rattle.serde_json.specs.View.{items_of}
use Rattle.pool_model.specs.Quantity.{signed, shortest}
use Rattle.pool_model.specs.Rows.{ArcRow}
use Rattle.pool_model.specs.Network.{Source, Pool, Product}
use Rattle.json_walk.specs.declared.version.Version.{Version}
use Rattle.json_walk.specs.declared.version.Version.TheVariants.{One, Two}

-- ---- quantities and ratios

-- how many whole units a quantity has
abbrev pub units_of : ℤ → ℤ
units_of q = signed (int_lt q (pos 0)) (unsigned_abs q / 10 ^ 6)

-- whole units are a number, and every other quantity is its shortest text
abbrev pub quantity_data : ℤ → Data
quantity_data q = if unsigned_abs q % 10 ^ 6 == 0 then number (of_integer (units_of q)) else string (shortest q)

-- a ratio is its number of thousandths
abbrev pub ratio_data : ℕ → Data
ratio_data r = number (unsigned r)

-- what is set, under its name
abbrev pub set_at : {X : Type 0} → (X → Data) → List ℕ → Option X → Members → Members
set_at data_of name None ms = ms
set_at data_of name (Some x) ms = put name (data_of x) ms

-- all that is set, each under its name
abbrev pub set_members : {X : Type 0} → (X → Data) → List (List ℕ) → List (Option X) → Members
set_members data_of [] xs = no_members
set_members data_of (name ∷ names) [] = no_members
set_members data_of (name ∷ names) (x ∷ xs) = set_at data_of name x (set_members data_of names xs)

-- ---- nodes and arcs

-- an object of these members, which stand in byte order
abbrev pub members_in : List (List ℕ × Data) → Members
members_in [] = no_members
members_in (m ∷ ms) = member m.0 m.1 (members_in ms)

-- a list of what each is
abbrev pub list_data : {X : Type 0} → (X → Data) → List X → Data
list_data data_of xs = array (items_of (map data_of xs))

-- a source: every member
abbrev pub source_data : List (List ℕ) → Source → Data
source_data names s = object (members_in (
    (codes "cost", quantity_data s.cost)
    ∷ (codes "max", quantity_data (pos s.max))
    ∷ (codes "name", string s.name)
    ∷ (codes "quality", object (set_members quantity_data names (map Some s.quality)))
    ∷ []))

-- what is said of a pool in each version: its maximum and its name
abbrev pub pool_members : Pool → Members
pool_members p = members_in ((codes "max", quantity_data (pos p.max)) ∷ (codes "name", string p.name) ∷ [])

-- a pool, in version 2 with the ratio of each quality
abbrev pub pool_data : Version → List (List ℕ) → Pool → Data
pool_data One names p = object (pool_members p)
pool_data Two names p = object (put (codes "ratio") (object (set_members ratio_data names (map Some p.ratio))) (pool_members p))

-- a product: every member, with the limits that are set in `least` and `most`
abbrev pub product_data : List (List ℕ) → Product → Data
product_data names p = object (members_in (
    (codes "least", object (set_members quantity_data names p.least))
    ∷ (codes "max", quantity_data (pos p.max))
    ∷ (codes "min", quantity_data (pos p.min))
    ∷ (codes "most", object (set_members quantity_data names p.most))
    ∷ (codes "name", string p.name)
    ∷ (codes "price", quantity_data p.price)
    ∷ []))

-- an arc: in version 1 the names of its two ends, and in version 2 an object, with its maximum where it has one
abbrev pub arc_data : Version → ArcRow → Data
arc_data One a = list_data string (a.from ∷ a.to ∷ [])
arc_data Two a = object (set_at quantity_data (codes "max") a.max (members_in (
    (codes "cost", quantity_data a.cost)
    ∷ (codes "from", string a.from)
    ∷ (codes "to", string a.to)
    ∷ [])))
