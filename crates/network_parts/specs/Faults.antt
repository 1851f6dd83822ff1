-- When the rows of a file are no network: each reason to refuse them.
use Rattle.std.specs.Prelude.{◌≡◌, ℕ, ◌^◌, ◌<◌, ◌≤◌, ◌⊎◌, List, [], ◌++◌, length, map, take, get_or, All, Contains, Option, None, Some, ℤ, pos, ◌≤ℤ◌}
use Rattle.std.specs.Option.{ForSome}
use Rattle.pool_model.specs.Rows.{SourceRow, PoolRow, ProductRow, ArcRow, Rows}
use Rattle.pool_model.specs.Naming.{source_names, pool_names, product_names, network_of}
use Rattle.pool_model.specs.Network.{net_of, IsWithin}
use Rattle.pool_model.specs.Paths.{paths_of}
use Rattle.network_parts.specs.declared.fault.Kind.{Kind}
use Rattle.network_parts.specs.declared.fault.Kind.TheVariants.{Source, Pool, Product, Quality, Arc}

-- ---- lists

abbrev pub row_count : Rows → Kind → ℕ
row_count r Source = length r.sources
row_count r Pool = length r.pools
row_count r Product = length r.products
row_count r Quality = length r.qualities
row_count r Arc = length r.arcs

-- how many rows of a kind there may be
abbrev pub row_limit : Kind → ℕ
row_limit Source = 64
row_limit Pool = 16
row_limit Product = 64
row_limit Quality = 8
row_limit Arc = 256

abbrev pub IsTooMany : Rows → Kind → Type 0
IsTooMany r kind = row_limit kind < row_count r kind

-- ---- names

-- the names of the rows of a kind: arcs have none
abbrev pub row_names : Rows → Kind → List (List ℕ)
row_names r Source = source_names r
row_names r Pool = pool_names r
row_names r Product = product_names r
row_names r Quality = r.qualities
row_names r Arc = []

-- 1 to 40 bytes, each from a space to `~`
pub record IsName (name : List ℕ) : Type 0 where
  pub least : 1 ≤ length name
  pub most : length name ≤ 40
  pub printable : All (λ b. (32 ≤ b) × (b ≤ 126)) name

-- the name at a place breaks the rule
abbrev pub IsBadAt : List (List ℕ) → ℕ → Type 0
IsBadAt names n = (n < length names) × ¬ IsName (get_or names n [])

abbrev pub IsBadName : Rows → Kind → ℕ → Type 0
IsBadName r kind n = IsBadAt (row_names r kind) n

-- the name at a place is among these or stood before
abbrev pub IsRepeatAt : List (List ℕ) → List (List ℕ) → ℕ → Type 0
IsRepeatAt before names n = (n < length names) × Contains (before ++ take n names) (get_or names n [])

-- the names of the kinds before this one that share its names: sources, pools and products share theirs, in this order
abbrev pub names_before : Rows → Kind → List (List ℕ)
names_before r Source = []
names_before r Pool = source_names r
names_before r Product = source_names r ++ pool_names r
names_before r Quality = []
names_before r Arc = []

abbrev pub IsDuplicateName : Rows → Kind → ℕ → Type 0
IsDuplicateName r kind n = IsRepeatAt (names_before r kind) (row_names r kind) n

-- ---- arcs

abbrev pub node_names : Rows → List (List ℕ)
node_names r = source_names r ++ pool_names r ++ product_names r

-- what stands behind the end of a list of arcs
abbrev pub no_arc_row : ArcRow
no_arc_row = record { from = []; to = []; cost = pos 0; max = None }

-- the names of the two ends of an arc
abbrev pub row_ends : ArcRow → List ℕ × List ℕ
row_ends a = (a.from, a.to)

abbrev pub ends_of : Rows → ℕ → List ℕ × List ℕ
ends_of r n = row_ends (get_or r.arcs n no_arc_row)

-- an end names no node
abbrev pub IsUnknownName : Rows → ℕ → Type 0
IsUnknownName r n = (n < length r.arcs) × ((¬ Contains (node_names r) (ends_of r n).0) ⊎ (¬ Contains (node_names r) (ends_of r n).1))

-- the arc starts at a product or ends at a source
abbrev pub IsArcBackwards : Rows → ℕ → Type 0
IsArcBackwards r n = (n < length r.arcs) × (Contains (product_names r) (ends_of r n).0 ⊎ Contains (source_names r) (ends_of r n).1)

abbrev pub IsPoolToPool : Rows → ℕ → Type 0
IsPoolToPool r n = (n < length r.arcs) × Contains (pool_names r) (ends_of r n).0 × Contains (pool_names r) (ends_of r n).1

-- the same two ends stood before, whatever the arcs cost and carry
abbrev pub IsDuplicateArc : Rows → ℕ → Type 0
IsDuplicateArc r n = (n < length r.arcs) × Contains (take n (map row_ends r.arcs)) (ends_of r n)

-- no feed goes to the pool
abbrev pub IsPoolWithoutInput : Rows → ℕ → Type 0
IsPoolWithoutInput r l = (l < length r.pools) × All (λ a. ¬ (a.to ≡ l)) (network_of r).feeds

-- no out starts at the pool
abbrev pub IsPoolWithoutOutput : Rows → ℕ → Type 0
IsPoolWithoutOutput r l = (l < length r.pools) × All (λ a. ¬ (a.from ≡ l)) (network_of r).outs

abbrev pub IsTooManyPaths : Rows → Type 0
IsTooManyPaths r = 512 < length (paths_of (net_of (network_of r)))

-- ---- numbers

-- from 0 to this size
abbrev pub IsUpTo : ℕ → ℤ → Type 0
IsUpTo size z = (pos 0 ≤ℤ z) × (z ≤ℤ pos size)

pub record IsSourceInRange (s : SourceRow) : Type 0 where
  pub cost : IsWithin (10 ^ 12) s.cost
  pub max : ForSome s.max (IsUpTo (10 ^ 14))
  pub quality : All (IsWithin (10 ^ 11)) s.quality

pub record IsPoolInRange (p : PoolRow) : Type 0 where
  pub max : ForSome p.max (IsUpTo (10 ^ 14))
  pub ratio : All (IsUpTo 1000) p.ratio

-- the limits that are set are in range
abbrev pub AreLimits : List (Option ℤ) → Type 0
AreLimits limits = All (λ u. ForSome u (IsWithin (10 ^ 11))) limits

pub record IsProductInRange (p : ProductRow) : Type 0 where
  pub price : IsWithin (10 ^ 12) p.price
  pub min : IsUpTo (10 ^ 12) p.min
  pub max : IsUpTo (10 ^ 12) p.max
  pub least : AreLimits p.least
  pub most : AreLimits p.most

pub record IsArcInRange (a : ArcRow) : Type 0 where
  pub cost : IsWithin (10 ^ 12) a.cost
  pub max : ForSome a.max (IsUpTo (10 ^ 14))

-- what stands behind the end of a list of rows
abbrev pub no_source_row : SourceRow
no_source_row = record { name = []; cost = pos 0; max = None; quality = [] }

abbrev pub no_pool_row : PoolRow
no_pool_row = record { name = []; max = None; ratio = [] }

abbrev pub no_product_row : ProductRow
no_product_row = record { name = []; price = pos 0; min = pos 0; max = pos 0; least = []; most = [] }

-- a number of the row at a place is outside its range
abbrev pub IsSourceOutAt : List SourceRow → ℕ → Type 0
IsSourceOutAt rows n = (n < length rows) × ¬ IsSourceInRange (get_or rows n no_source_row)

abbrev pub IsPoolOutAt : List PoolRow → ℕ → Type 0
IsPoolOutAt rows n = (n < length rows) × ¬ IsPoolInRange (get_or rows n no_pool_row)

abbrev pub IsProductOutAt : List ProductRow → ℕ → Type 0
IsProductOutAt rows n = (n < length rows) × ¬ IsProductInRange (get_or rows n no_product_row)

abbrev pub IsArcOutAt : List ArcRow → ℕ → Type 0
IsArcOutAt rows n = (n < length rows) × ¬ IsArcInRange (get_or rows n no_arc_row)

abbrev pub IsOutOfRange : Rows → Kind → ℕ → Type 0
IsOutOfRange r Source n = IsSourceOutAt r.sources n
IsOutOfRange r Pool n = IsPoolOutAt r.pools n
IsOutOfRange r Product n = IsProductOutAt r.products n
IsOutOfRange r Quality n = ⊥
IsOutOfRange r Arc n = IsArcOutAt r.arcs n

-- a least limit is at most a most limit, where both are set
abbrev pub IsInOrder : Option ℤ → Option ℤ → Type 0
IsInOrder least most = (a b : ℤ) → least ≡ Some a → most ≡ Some b → a ≤ℤ b

-- the same at each quality
abbrev pub AreOrderly : List (Option ℤ) → List (Option ℤ) → Type 0
AreOrderly least most = (k : ℕ) → IsInOrder (get_or least k None) (get_or most k None)

-- the minimum is at most the maximum, and the limits on each quality are in order
pub record IsOrderly (p : ProductRow) : Type 0 where
  pub amount : p.min ≤ℤ p.max
  pub limits : AreOrderly p.least p.most

abbrev pub IsDisorderlyAt : List ProductRow → ℕ → Type 0
IsDisorderlyAt rows n = (n < length rows) × ¬ IsOrderly (get_or rows n no_product_row)

abbrev pub IsLeastAboveMost : Rows → ℕ → Type 0
IsLeastAboveMost r n = IsDisorderlyAt r.products n

-- ---- all of them

-- no reason to refuse the rows
pub record IsFaultless (r : Rows) : Type 0 where
  pub counts : (kind : Kind) → ¬ IsTooMany r kind
  pub names : (kind : Kind) (n : ℕ) → ¬ IsBadName r kind n
  pub distinct : (kind : Kind) (n : ℕ) → ¬ IsDuplicateName r kind n
  pub known : (n : ℕ) → ¬ IsUnknownName r n
  pub forward : (n : ℕ) → ¬ IsArcBackwards r n
  pub single : (n : ℕ) → ¬ IsPoolToPool r n
  pub once : (n : ℕ) → ¬ IsDuplicateArc r n
  pub inputs : (l : ℕ) → ¬ IsPoolWithoutInput r l
  pub outputs : (l : ℕ) → ¬ IsPoolWithoutOutput r l
  pub paths : ¬ IsTooManyPaths r
  pub ranges : (kind : Kind) (n : ℕ) → ¬ IsOutOfRange r kind n
  pub orderly : (n : ℕ) → ¬ IsLeastAboveMost r n
