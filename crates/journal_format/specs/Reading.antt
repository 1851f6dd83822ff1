-- Reading the bytes of an entry from left to right, in either version.
use Rattle.std.specs.Prelude.{ℕ, zero, suc, List, [], ◌∷◌, length, Option, Some, None, ◌==◌, if◌then◌else◌}
use Rattle.pool_model.specs.Plan.{Written}
use Rattle.row_model.specs.Multipliers.{Part, Proof}
use Rattle.row_model.specs.Trees.{Split}
use Rattle.row_model.specs.Entries.{Entry, root_proof, split_of, improve}
use Rattle.journal_format.specs.Fields.{number_at, signed_at}
use Rattle.journal_format.specs.Versions.{leaf_width}
use Rattle.journal_format.specs.declared.version.Version.{Version}
use Rattle.journal_format.specs.declared.version.Version.TheVariants.{One, Two}

infixl 10 ◌>>=◌
abbrev pub ◌>>=◌ : {A B : Type 0} → Option A → (A → Option B) → Option B
None >>= f = None
(Some x) >>= f = f x

-- Each of these answers what it read and the bytes behind it, or None where the bytes are no such thing.

unfoldable pub part_at : List ℕ → Option (Part × List ℕ)
part_at bytes = do
  row ← number_at 4 bytes
  mult ← signed_at row.1
  Some (record { row = row.0; mult = mult.0 }, mult.1)

unfoldable pub parts_at : ℕ → List ℕ → Option (List Part × List ℕ)
parts_at zero bytes = Some ([], bytes)
parts_at (suc n) bytes = do
  first ← part_at bytes
  others ← parts_at n first.1
  Some (first.0 ∷ others.0, others.1)

unfoldable pub proof_at : List ℕ → Option (Proof × List ℕ)
proof_at bytes = do
  scale ← number_at 8 bytes
  count ← number_at 4 scale.1
  parts ← parts_at count.0 count.1
  Some (record { scale = scale.0; parts = parts.0 }, parts.1)

unfoldable pub half_at : List ℕ → Option (Option Proof × List ℕ)
half_at [] = None
half_at (zero ∷ rest) = Some (None, rest)
half_at (suc zero ∷ rest) = do
  proof ← proof_at rest
  Some (Some proof.0, proof.1)
half_at (suc (suc b) ∷ rest) = None

unfoldable pub split_at : Version → List ℕ → Option (Split × List ℕ)
split_at v bytes = do
  leaf ← number_at (leaf_width v) bytes
  coord ← number_at 4 leaf.1
  cut ← signed_at coord.1
  Some (record { leaf = leaf.0; coord = coord.0; cut = cut.0 }, cut.1)

-- so many numbers, each in a field of so many bytes
unfoldable pub numbers_at : ℕ → ℕ → List ℕ → Option (List ℕ × List ℕ)
numbers_at width zero bytes = Some ([], bytes)
numbers_at width (suc n) bytes = do
  first ← number_at width bytes
  others ← numbers_at width n first.1
  Some (first.0 ∷ others.0, others.1)

unfoldable pub list_at : ℕ → List ℕ → Option (List ℕ × List ℕ)
list_at width bytes = do
  count ← number_at 2 bytes
  numbers_at width count.0 count.1

unfoldable pub plan_at : List ℕ → Option (Written × List ℕ)
plan_at bytes = do
  base ← number_at 4 bytes
  flow_base ← number_at 4 base.1
  weights ← list_at 4 flow_base.1
  outflows ← list_at 8 weights.1
  direct ← list_at 8 outflows.1
  Some (record { base = base.0; flow_base = flow_base.0; weights = weights.0; outflows = outflows.0; direct = direct.0 }, direct.1)

unfoldable pub root_entry_at : List ℕ → Option (Entry × List ℕ)
root_entry_at bytes = do
  proof ← proof_at bytes
  Some (root_proof proof.0, proof.1)

unfoldable pub split_entry_at : Version → List ℕ → Option (Entry × List ℕ)
split_entry_at v bytes = do
  split ← split_at v bytes
  left ← half_at split.1
  right ← half_at left.1
  Some (split_of split.0 left.0 right.0, right.1)

unfoldable pub plan_entry_at : List ℕ → Option (Entry × List ℕ)
plan_entry_at bytes = do
  plan ← plan_at bytes
  Some (improve plan.0, plan.1)

-- the kinds 0 and 2 are those of either version; a split is of kind 1 in version 1, and of kind 3 in version 2
unfoldable pub entry_at : Version → List ℕ → Option (Entry × List ℕ)
entry_at v [] = None
entry_at v (zero ∷ rest) = root_entry_at rest
entry_at One (suc zero ∷ rest) = split_entry_at One rest
entry_at Two (suc zero ∷ rest) = None
entry_at v (suc (suc zero) ∷ rest) = plan_entry_at rest
entry_at One (suc (suc (suc kind)) ∷ rest) = None
entry_at Two (suc (suc (suc zero)) ∷ rest) = split_entry_at Two rest
entry_at Two (suc (suc (suc (suc kind))) ∷ rest) = None

-- the entry whose bytes these are, all of them
unfoldable pub payload_at : Version → List ℕ → Option Entry
payload_at v bytes = do
  entry ← entry_at v bytes
  if length entry.1 == 0 then Some entry.0 else None
