-- Names, and the tables that find them.
use Rattle.std.specs.Prelude.{◌≡◌, ℕ, List, [], ◌∷◌, ◌++◌, map, Contains, Bool, true, false}
use Rattle.std.specs.Borrow.{Bor}
use Rattle.indexmap.specs.IndexSet.{IndexSet}
use Rattle.std.specs.declared.hash.FoldHasher.{FoldHasher}
use Rattle.std.specs.declared.hash.BuildHasherDefault.{BuildHasherDefault}

-- the names in a table, in the order in which they were added
abbrev pub names_in : IndexSet (Bor (List ℕ)) (BuildHasherDefault FoldHasher) → List (List ℕ)
names_in s = map (λ k. k.now) s.keys

-- a name was added last, if it was new
abbrev pub AddsName : List (List ℕ) → List (List ℕ) → List ℕ → Bool → Type 0
AddsName old new name true = (¬ Contains old name) × (new ≡ old ++ name ∷ [])
AddsName old new name false = Contains old name × (new ≡ old)
