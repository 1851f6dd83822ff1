-- Blocks of variables: the variables of one kind, numbered one after another. Qualities of pools, and those times flows along
-- outs, make a block for each quality.
use Rattle.std.specs.Prelude.{ℕ, ◌+◌, ◌*◌, ◌<◌, ℤ, pos}
use Rattle.pool_model.specs.Network.{Net}
use Rattle.pool_model.specs.Starting.{straight, way_quality}
use Rattle.row_model.specs.Variables.{PerVariable, path_count}
use Rattle.row_model.specs.Catalogue.{when, path_quality}
use Rattle.box_space.specs.declared.table.Block.{Block}
use Rattle.box_space.specs.declared.table.Block.TheVariants.{Feeds, Outs, Directs, Paths, Proportions, Qualities, Mixed}

-- ---- the first variable of each kind; the flows along feeds begin at 0

abbrev pub first_outs : Net → ℕ
first_outs n = n.feeds

abbrev pub first_directs : Net → ℕ
first_directs n = first_outs n + n.outs

abbrev pub first_paths : Net → ℕ
first_paths n = first_directs n + n.directs

abbrev pub first_proportions : Net → ℕ
first_proportions n = first_paths n + path_count n

abbrev pub first_qualities : Net → ℕ
first_qualities n = first_proportions n + n.feeds

abbrev pub first_mixed : Net → ℕ
first_mixed n = first_qualities n + n.pools * n.qualities

-- ---- blocks

-- the quality that the block names is there
abbrev pub IsBlock : Net → Block → Type 0
IsBlock n (Qualities k) = k < n.qualities
IsBlock n (Mixed k) = k < n.qualities
IsBlock n _ = Unit {0}

-- the place of a block's kind among the kinds
abbrev pub rank : Block → ℕ
rank Feeds = 0
rank Outs = 1
rank Directs = 2
rank Paths = 3
rank Proportions = 4
rank (Qualities k) = 5
rank (Mixed k) = 6

-- how many variables the block has
abbrev pub size_of : Net → Block → ℕ
size_of n Feeds = n.feeds
size_of n Outs = n.outs
size_of n Directs = n.directs
size_of n Paths = path_count n
size_of n Proportions = n.feeds
size_of n (Qualities k) = n.pools
size_of n (Mixed k) = n.outs

-- the number of a block's variable among all variables
abbrev pub number_of : Net → Block → ℕ → ℕ
number_of n Feeds i = 0 + i
number_of n Outs i = first_outs n + i
number_of n Directs i = first_directs n + i
number_of n Paths i = first_paths n + i
number_of n Proportions i = first_proportions n + i
number_of n (Qualities k) i = first_qualities n + (i * n.qualities + k)
number_of n (Mixed k) i = first_mixed n + (i * n.qualities + k)

-- What a unit of a block's variable brings of a quality: a feed what its source has; a direct and a path the same in parts of
-- the scale, less what the path's pool removes; and a mixed variable, which counts quality times flow, what its pool retains.
abbrev pub brought : Net → Block → ℕ → ℕ → ℤ
brought n Feeds e k = n.source_quality (n.feed_source e) k
brought n Directs e k = way_quality n (straight e) k
brought n Paths p k = path_quality n p k
brought n (Mixed h) o k = pos (n.retained (n.out_pool o) k)
brought n _ i k = pos 0

-- variables that bring qualities
abbrev pub Brings : Block → Type 0
Brings Feeds = Unit {0}
Brings Directs = Unit {0}
Brings Paths = Unit {0}
Brings (Mixed h) = Unit {0}
Brings _ = ⊥

-- the same numbers, but those of a block, which are f
abbrev pub with_block : Block → (ℕ → ℤ) → PerVariable → PerVariable
with_block Feeds f a = record a { x = f }
with_block Outs f a = record a { y = f }
with_block Directs f a = record a { z = f }
with_block Paths f a = record a { w = f }
with_block Proportions f a = record a { proportion = f }
with_block (Qualities k) f a = record a { quality = λ l h. when h k (f l) }
with_block (Mixed k) f a = record a { mixed = λ o h. when h k (f o) }
