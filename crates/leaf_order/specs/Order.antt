-- Leaves by bound and then by number, and what becomes of a set of them.
use Rattle.std.specs.Prelude.{◌≡◌, ◌≢◌, ◌<◌, ◌⊎◌, ◌↔◌, ℕ, List, length, get_or, Option, Some, pos, ◌<ℤ◌}
use Rattle.std.specs.List.{Contains}
use Rattle.leaf_order.specs.declared.leaf.OpenLeaf.{OpenLeaf}

-- One leaf comes before another: by its bound, and at a tie by its number.
abbrev pub ComesBefore : OpenLeaf → OpenLeaf → Type 0
ComesBefore a b = (a.bound <ℤ b.bound) ⊎ ((a.bound ≡ b.bound) × (a.node < b.node))

-- what stands behind the last leaf
abbrev pub no_leaf : OpenLeaf
no_leaf = record { bound = pos 0; node = 0 }

abbrev pub leaf_at : List OpenLeaf → ℕ → OpenLeaf
leaf_at leaves i = get_or leaves i no_leaf

-- each leaf comes before those behind it
abbrev pub AreOrdered : List OpenLeaf → Type 0
AreOrdered leaves = (i j : ℕ) → i < j → j < length leaves → ComesBefore (leaf_at leaves i) (leaf_at leaves j)

-- one of the leaves, and no other comes before it
pub record IsFirst (leaves : List OpenLeaf) (leaf : OpenLeaf) : Type 0 where
  pub here : Contains leaves leaf
  pub first : (other : OpenLeaf) → Contains leaves other → ¬ ComesBefore other leaf

-- The new leaves are the old ones, and up to two more.
abbrev pub ArePut : Option OpenLeaf → Option OpenLeaf → List OpenLeaf → List OpenLeaf → Type 0
ArePut left right old new = (leaf : OpenLeaf) → Contains new leaf ↔ ((left ≡ Some leaf) ⊎ ((right ≡ Some leaf) ⊎ Contains old leaf))

-- The new leaves are the old ones, without this one where there is one.
abbrev pub IsTakenOut : Option OpenLeaf → List OpenLeaf → List OpenLeaf → Type 0
IsTakenOut out old new = (leaf : OpenLeaf) → Contains new leaf ↔ (Contains old leaf × (out ≢ Some leaf))

-- The new leaves are one in the place of another, and the other old ones.
abbrev pub IsReplaced : Option OpenLeaf → Option OpenLeaf → List OpenLeaf → List OpenLeaf → Type 0
IsReplaced out put old new = (leaf : OpenLeaf) → Contains new leaf ↔ ((put ≡ Some leaf) ⊎ (Contains old leaf × (out ≢ Some leaf)))

-- ---- one leaf

-- the new leaves are the old ones, and this one where there is one
abbrev pub IsPut : Option OpenLeaf → List OpenLeaf → List OpenLeaf → Type 0
IsPut put old new = (leaf : OpenLeaf) → Contains new leaf ↔ ((put ≡ Some leaf) ⊎ Contains old leaf)

-- the leaf that is put in, and it is none of the old ones
pub record IsNew (put : Option OpenLeaf) (old : List OpenLeaf) (leaf : OpenLeaf) : Type 0 where
  pub is : put ≡ Some leaf
  pub absent : ¬ Contains old leaf
