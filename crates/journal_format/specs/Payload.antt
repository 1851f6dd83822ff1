-- The bytes of an entry, in either version, and those of the Turn.
use Rattle.std.specs.Prelude.{ℕ, ◌^◌, ◌<◌, List, [], ◌∷◌, ◌++◌, length, Option, None, Some, FitsSigned}
use Rattle.std.specs.Int.{w64}
use Rattle.std.specs.List.{flat_map, AllByRecursion}
use Rattle.pool_model.specs.Plan.{Written}
use Rattle.row_model.specs.Multipliers.{Part, Proof}
use Rattle.row_model.specs.Trees.{Split}
use Rattle.row_model.specs.Entries.{Entry, root_proof, split_of, improve}
use Rattle.journal_format.specs.Fields.{field, signed_field}
use Rattle.journal_format.specs.Versions.{split_kind, leaf_width}
use Rattle.journal_format.specs.declared.version.Version.{Version}

-- a row, and its multiplier
abbrev pub part_bytes : Part → List ℕ
part_bytes p = field 4 p.row ++ signed_field p.mult

-- the scale, how many parts there are, and the parts
abbrev pub proof_bytes : Proof → List ℕ
proof_bytes p = field 8 p.scale ++ field 4 (length p.parts) ++ flat_map part_bytes p.parts

-- 0 where a half has no proof, else 1 and the proof
abbrev pub half_bytes : Option Proof → List ℕ
half_bytes None = 0 ∷ []
half_bytes (Some p) = 1 ∷ proof_bytes p

-- the leaf, the coordinate and the cut
abbrev pub split_bytes : Version → Split → List ℕ
split_bytes v s = field (leaf_width v) s.leaf ++ field 4 s.coord ++ signed_field s.cut

-- how many numbers there are, and the numbers, each in a field of so many bytes
abbrev pub list_bytes : ℕ → List ℕ → List ℕ
list_bytes bytes xs = field 2 (length xs) ++ flat_map (field bytes) xs

-- the two bases, the weights, the outflows and the flows of directs
abbrev pub plan_bytes : Written → List ℕ
plan_bytes w = field 4 w.base ++ field 4 w.flow_base ++ list_bytes 4 w.weights ++ list_bytes 8 w.outflows ++ list_bytes 8 w.direct

-- the kind of the entry, and what it has
abbrev pub payload : Version → Entry → List ℕ
payload v (root_proof proof) = 0 ∷ proof_bytes proof
payload v (split_of split left right) = split_kind v ∷ split_bytes v split ++ half_bytes left ++ half_bytes right
payload v (improve plan) = 2 ∷ plan_bytes plan

-- the payload of the Turn, behind which a file of version 1 goes on in version 2
abbrev pub turn_payload : List ℕ
turn_payload = 4 ∷ []

-- ---- what fits

pub record PartFits (p : Part) : Type 0 where
  pub row : p.row < 2 ^ 32
  pub mult : FitsSigned w64 p.mult

pub record ProofFits (p : Proof) : Type 0 where
  pub scale : p.scale < 2 ^ 64
  pub count : length p.parts < 2 ^ 32
  pub parts : AllByRecursion PartFits p.parts

abbrev pub HalfFits : Option Proof → Type 0
HalfFits None = Unit {0}
HalfFits (Some p) = ProofFits p

pub record SplitFits (v : Version) (s : Split) : Type 0 where
  pub leaf : s.leaf < 256 ^ leaf_width v
  pub coord : s.coord < 2 ^ 32
  pub cut : FitsSigned w64 s.cut

-- the list can be counted in 16 bits, and each number fits its field
pub record ListFits (bytes : ℕ) (xs : List ℕ) : Type 0 where
  pub count : length xs < 2 ^ 16
  pub each : AllByRecursion (λ x. x < 256 ^ bytes) xs

pub record PlanFits (w : Written) : Type 0 where
  pub base : w.base < 2 ^ 32
  pub flow_base : w.flow_base < 2 ^ 32
  pub weights : ListFits 4 w.weights
  pub outflows : ListFits 8 w.outflows
  pub direct : ListFits 8 w.direct

-- each number of the entry fits its field
abbrev pub EntryFits : Version → Entry → Type 0
EntryFits v (root_proof proof) = ProofFits proof
EntryFits v (split_of split left right) = SplitFits v split × HalfFits left × HalfFits right
EntryFits v (improve plan) = PlanFits plan

-- ---- what is counted in 16 bits

pub record IsNarrowPlan (w : Written) : Type 0 where
  pub weights : length w.weights < 2 ^ 16
  pub outflows : length w.outflows < 2 ^ 16
  pub direct : length w.direct < 2 ^ 16

-- the length of each list of a plan fits 16 bits
abbrev pub IsNarrow : Entry → Type 0
IsNarrow (root_proof proof) = Unit {0}
IsNarrow (split_of split left right) = Unit {0}
IsNarrow (improve plan) = IsNarrowPlan plan
