-- The tables of the network file, member by member in the order of the walk.
use Rattle.std.specs.Prelude.{ℕ, ℤ, pos, List, [], ◌∷◌, length, map, Option, Some, None, is_some, Result, Ok, Err, codes, nat_lt, if◌then◌else◌}
use Rattle.std.specs.Option.{ok_or}
use Rattle.std.specs.Str.{is_utf8}
use Rattle.serde_json.specs.Data.{Data}
use Rattle.serde_json.specs.Find.{as_object}
use Rattle.serde_json.specs.Read.{read}
use Rattle.pool_model.specs.Rows.{SourceRow, PoolRow, ProductRow, ArcRow, Rows}
use Rattle.json_walk.specs.declared.fault.Section.TheVariants.{Qualities, Sources, Pools, Products, Arcs}
use Rattle.json_walk.specs.declared.fault.Place.{Place}
use Rattle.json_walk.specs.declared.fault.ReadNet.{ReadNet}
use Rattle.json_walk.specs.declared.fault.ReadNet.TheVariants.{TooLong, NotJson, WrongKind}
use Rattle.json_walk.specs.declared.version.Version.{Version}
use Rattle.json_walk.specs.declared.version.Version.TheVariants.{One, Two}
use Rattle.json_walk.specs.Walk.{◌>>=◌, Walk, top, text, quantity, ratio, version, object, needs, ignored, allows, each, items, list}

-- one quantity for every name, and no other member
unfoldable pub quality : List (List ℕ) → Place → Walk (List ℤ)
quality names at d = do
  members ← object at names [] d
  each (λ n k. needs at k (quantity at) d) 0 names

-- a quantity, where there may be none
unfoldable pub limit : Place → Walk (Option ℤ)
limit at d = do
  q ← quantity at d
  Ok (Some q)

-- quantities for some of the names, and no other member
unfoldable pub limits : List (List ℕ) → Place → Walk (List (Option ℤ))
limits names at d = do
  members ← object at [] names d
  each (λ n k. allows k None (limit at) d) 0 names

-- no limit on any of the names
unfoldable pub no_limits : List (List ℕ) → List (Option ℤ)
no_limits names = map (λ n. None) names

-- what a unit costs, how much there is at most, and its qualities
unfoldable pub source : List (List ℕ) → Place → Walk SourceRow
source names at d = do
  members ← object at (codes "name" ∷ codes "cost" ∷ codes "quality" ∷ []) (codes "max" ∷ []) d
  name ← needs at (codes "name") (text at) d
  cost ← needs at (codes "cost") (quantity at) d
  max ← allows (codes "max") None (limit at) d
  quality ← needs at (codes "quality") (quality names at) d
  Ok (record { name = name; cost = cost; max = max; quality = quality })

-- of each quality how many thousandths leave a pool, for some of the names, and no other member
unfoldable pub ratios : List (List ℕ) → Place → Walk (List ℤ)
ratios names at d = do
  members ← object at [] names d
  each (λ n k. allows k (pos 1000) (ratio at) d) 0 names

-- all of each quality
unfoldable pub untreated : List (List ℕ) → List ℤ
untreated names = map (λ n. pos 1000) names

-- the members of a pool that may be absent
abbrev pub pool_options : Version → List (List ℕ)
pool_options One = codes "max" ∷ []
pool_options Two = codes "max" ∷ codes "ratio" ∷ []

-- how much can flow through it, and how much of each quality leaves it
unfoldable pub pool : Version → List (List ℕ) → Place → Walk PoolRow
pool version names at d = do
  members ← object at (codes "name" ∷ []) (pool_options version) d
  name ← needs at (codes "name") (text at) d
  max ← allows (codes "max") None (limit at) d
  ratio ← allows (codes "ratio") (untreated names) (ratios names at) d
  Ok (record { name = name; max = max; ratio = ratio })

-- what a unit brings, how much is needed and how much is taken at most, and the limits on its qualities
unfoldable pub product : List (List ℕ) → Place → Walk ProductRow
product names at d = do
  members ← object at (codes "name" ∷ codes "price" ∷ codes "max" ∷ []) (codes "min" ∷ codes "least" ∷ codes "most" ∷ []) d
  name ← needs at (codes "name") (text at) d
  price ← needs at (codes "price") (quantity at) d
  min ← allows (codes "min") (pos 0) (quantity at) d
  max ← needs at (codes "max") (quantity at) d
  least ← allows (codes "least") (no_limits names) (limits names at) d
  most ← allows (codes "most") (no_limits names) (limits names at) d
  Ok (record { name = name; price = price; min = min; max = max; least = least; most = most })

-- two texts, and nothing else: the names of an arc's ends
abbrev pub two_texts : Place → List Data → Result ArcRow ReadNet
two_texts at (a ∷ b ∷ []) = do
  from ← text at a
  to ← text at b
  Ok (record { from = from; to = to; cost = pos 0; max = None })
two_texts at _ = Err (WrongKind at)

-- an arc that costs nothing and has no maximum
unfoldable pub plain_arc : Place → Walk ArcRow
plain_arc at d = items at d >>= two_texts at

-- the names of an arc's ends, what a unit costs along it, and how much it can carry
unfoldable pub priced_arc : Place → Walk ArcRow
priced_arc at d = do
  members ← object at (codes "from" ∷ codes "to" ∷ []) (codes "cost" ∷ codes "max" ∷ []) d
  from ← needs at (codes "from") (text at) d
  to ← needs at (codes "to") (text at) d
  cost ← allows (codes "cost") (pos 0) (quantity at) d
  max ← allows (codes "max") None (limit at) d
  Ok (record { from = from; to = to; cost = cost; max = max })

-- an arc is a list, and from version 2 on it may be an object
unfoldable pub arc : Version → Place → Walk ArcRow
arc One at d = plain_arc at d
arc Two at d = if is_some (as_object d) then priced_arc at d else plain_arc at d

-- the lists of rows, where these are the names of the qualities
unfoldable pub lists : Version → List (List ℕ) → Walk Rows
lists version names d = do
  sources ← needs top (codes "sources") (list Sources (source names)) d
  pools ← allows (codes "pools") [] (list Pools (pool version names)) d
  products ← needs top (codes "products") (list Products (product names)) d
  arcs ← needs top (codes "arcs") (list Arcs (arc version)) d
  Ok (record { qualities = names; sources = sources; pools = pools; products = products; arcs = arcs })

-- the whole file
unfoldable pub network : Walk Rows
network d = do
  members ← object top (codes "version" ∷ codes "sources" ∷ codes "products" ∷ codes "arcs" ∷ []) (codes "title" ∷ codes "qualities" ∷ codes "pools" ∷ []) d
  version ← needs top (codes "version") (version top) d
  title ← ignored (allows (codes "title") [] (text top) d)
  names ← allows (codes "qualities") [] (list Qualities text) d
  lists version names d

-- the value that serde_json reads from the bytes
unfoldable pub value_of : List ℕ → Option Data
value_of bytes = if is_utf8 bytes then read bytes else None

-- what a file says, or its first fault
unfoldable pub rows_in : List ℕ → Result Rows ReadNet
rows_in bytes = if nat_lt 4194304 (length bytes) then Err TooLong else ok_or (value_of bytes) NotJson >>= network
