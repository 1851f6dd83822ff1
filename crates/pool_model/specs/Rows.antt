-- The rows of a network file: what it says, before names are looked up and absent maxima are filled in.
-- Quantities are whole numbers of millionths, texts are lists of bytes.
use Rattle.std.specs.Prelude.{◌≡◌, ℕ, ℤ, List, length, Option, All}

-- a source: what a unit costs, how much it can send, and its qualities in the order of the file's list
pub record SourceRow : Type 0 where
  pub name : List ℕ
  pub cost : ℤ
  pub max : Option ℤ
  pub quality : List ℤ

-- a pool: how much can flow through it, and of each quality that enters it how many thousandths leave it, in the order of the
-- file's list: 1000 where the pool removes nothing
pub record PoolRow : Type 0 where
  pub name : List ℕ
  pub max : Option ℤ
  pub ratio : List ℤ

-- a product: what a unit brings, how much must and can flow into it, and the limits on each quality
pub record ProductRow : Type 0 where
  pub name : List ℕ
  pub price : ℤ
  pub min : ℤ
  pub max : ℤ
  pub least : List (Option ℤ)
  pub most : List (Option ℤ)

-- an arc, by the names of its two ends: what a unit along it costs, and how much it can carry
pub record ArcRow : Type 0 where
  pub from : List ℕ
  pub to : List ℕ
  pub cost : ℤ
  pub max : Option ℤ

-- a file: its lists in file order
pub record Rows : Type 0 where
  pub qualities : List (List ℕ)
  pub sources : List SourceRow
  pub pools : List PoolRow
  pub products : List ProductRow
  pub arcs : List ArcRow

-- each list of qualities has one place per quality
pub record IsRectangular (r : Rows) : Type 0 where
  pub sources : All (λ s. length s.quality ≡ length r.qualities) r.sources
  pub least : All (λ p. length p.least ≡ length r.qualities) r.products
  pub most : All (λ p. length p.most ≡ length r.qualities) r.products
  pub ratio : All (λ p. length p.ratio ≡ length r.qualities) r.pools
