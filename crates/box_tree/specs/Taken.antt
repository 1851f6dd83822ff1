-- An entry that was taken, and what a split makes of what a tree keeps.
use Rattle.std.specs.Prelude.{◌≡◌, ℕ, ◌+◌, List, [], ◌∷◌, ◌++◌, get_or, slice_set, Option, Some, ℤ}
use Rattle.pool_model.specs.Network.{Net}
use Rattle.pool_model.specs.Plan.{Written}
use Rattle.plan_core.specs.declared.plan.Cost.{Cost}
use Rattle.row_model.specs.Multipliers.{Proof}
use Rattle.row_model.specs.Trees.{Split}
use Rattle.row_model.specs.Entries.{Entry, after, IsEntryInOrder}
use Rattle.split_tree.specs.declared.span.Span.{Span}
use Rattle.split_tree.specs.Splits.{with_split}
use Rattle.box_tree.specs.Kept.{Kept, searched_of, IsKeptOf}

-- the entry was in order on what was kept, and what is kept now is what it makes of it
pub record IsTaken (n : Net) (e : Entry) (old new : Kept) : Type 0 where
  pub in_order : IsEntryInOrder n (searched_of old) e
  pub made : searched_of new ≡ after (searched_of old) e
  pub kept : IsKeptOf n new

-- a plan, and its cost
abbrev pub improved : Kept → Written → Cost → Kept
improved k plan cost = record k { best = Some plan; cost = Some cost }

-- a proof of the root, and its bound
abbrev pub rooted : Kept → Proof → Option ℤ → Kept
rooted k proof bound = record k { proofs = slice_set k.proofs 0 (Some proof); bounds = slice_set k.bounds 0 bound }

-- one split more on a coordinate
abbrev pub counted : List ℕ → ℕ → List ℕ
counted counts coord = slice_set counts coord (get_or counts coord 0 + 1)

-- a split with the ends of its leaf, and two nodes with their proofs and bounds
abbrev pub grown : Kept → Split → Span → (left right : Option Proof) → (left_bound right_bound : Option ℤ) → Kept
grown k split span left right left_bound right_bound = record {
  splits = with_split k.splits split span;
  cuts = counted k.cuts split.coord;
  proofs = k.proofs ++ left ∷ right ∷ [];
  bounds = k.bounds ++ left_bound ∷ right_bound ∷ [];
  best = k.best;
  cost = k.cost;
}
