-- The innermost cut above a node at a coordinate, and where a tree keeps it.
use Rattle.std.specs.Prelude.{◌≡◌, ◌≢◌, ℕ, ◌+◌, ◌<◌, ◌⊎◌, List, length}
use Rattle.map_versions.specs.Versions.{Versions, count, number_at, most_keys}
use Rattle.row_model.specs.Trees.{Split, split_at, left_node, right_node}

-- the node is one of the halves that a split makes
abbrev pub IsHalf : ℕ → ℕ → Type 0
IsHalf t node = (node ≡ left_node t) ⊎ (node ≡ right_node t)

-- From a node up to the root, this is the first node that a split on the coordinate makes, and the root where there is none.
pub data IsInnermost (splits : List Split) (coord found : ℕ) : ℕ → Type 0 where
  root : {node : ℕ} → node ≡ 0 → found ≡ 0 → IsInnermost splits coord found node
  here : {node : ℕ} → (t : ℕ) → t < length splits → IsHalf t node → (split_at splits t).coord ≡ coord → found ≡ node → IsInnermost splits coord found node
  above : {node : ℕ} → (t : ℕ) → t < length splits → IsHalf t node → (split_at splits t).coord ≢ coord
      → IsInnermost splits coord found (split_at splits t).leaf → IsInnermost splits coord found node

-- the coordinates of the splits are keys of a map
abbrev pub HaveKeys : List Split → Type 0
HaveKeys splits = (t : ℕ) → t < length splits → (split_at splits t).coord < most_keys

-- Version 0 is the map of the root, and version t + 1 that of the leaf of split t: what it has at a coordinate is the innermost node.
pub record AreMapped (splits : List Split) (maps : Versions) : Type 0 where
  pub counted : count maps ≡ length splits + 1
  pub none : (coord : ℕ) → number_at maps 0 coord ≡ 0
  pub innermost : HaveKeys splits → (t : ℕ) → t < length splits → (coord : ℕ) → coord < most_keys
      → IsInnermost splits coord (number_at maps (t + 1) coord) (split_at splits t).leaf
