-- How many bytes an entry has.
use Rattle.std.proofs.Common.{◌≡◌, ℕ, ◌+◌, ◌*◌, ◌<◌, ◌≤◌, List, [], ◌∷◌, ◌++◌, length, map, Option, Some, None, option_map, take, get_or, refl, sym, ap, ◌∙◌, arith, length-append, length-take}
use Rattle.std.proofs.lemmas.List.{length-map}
use Rattle.std.specs.Int.{w64, cast_unsigned}
use Rattle.std.specs.List.{flat_map}
use Rattle.pool_model.specs.Plan.{Written}
use Rattle.row_model.specs.Multipliers.{Part, Proof}
use Rattle.row_model.specs.Trees.{Split}
use Rattle.journal_format.specs.Fields.{field, signed_field}
use Rattle.row_model.specs.Entries.{Entry, root_proof, split_of, improve}
use Rattle.journal_format.specs.Versions.{leaf_width}
use Rattle.journal_format.specs.declared.version.Version.{Version}
use Rattle.journal_format.specs.Payload.{part_bytes, proof_bytes, half_bytes, split_bytes, list_bytes, plan_bytes, payload}
use Rattle.journal_format.proofs.Numbers.{length-field}

pub length-part_bytes : (p : Part) → length (part_bytes p) ≡ 12
length-part_bytes p = omega (arith, length-append (field 4 p.row) (signed_field p.mult), length-field 4 p.row, length-field 8 (cast_unsigned w64 p.mult))

pub length-parts_bytes : (ps : List Part) → length (flat_map part_bytes ps) ≡ 12 * length ps
length-parts_bytes [] = refl
length-parts_bytes (p ∷ ps) = omega (arith, length-append (part_bytes p) (flat_map part_bytes ps), length-part_bytes p, length-parts_bytes ps)

pub length-proof_bytes : (p : Proof) → length (proof_bytes p) ≡ 12 + 12 * length p.parts
length-proof_bytes p =
    omega (
      arith,
      length-append (field 8 p.scale ++ field 4 (length p.parts)) (flat_map part_bytes p.parts),
      length-append (field 8 p.scale) (field 4 (length p.parts)),
      length-field 8 p.scale,
      length-field 4 (length p.parts),
      length-parts_bytes p.parts,
    )

pub length-split_bytes : (v : Version) (s : Split) → length (split_bytes v s) ≡ 12 + leaf_width v
length-split_bytes v s =
    omega (
      arith,
      length-append (field (leaf_width v) s.leaf ++ field 4 s.coord) (signed_field s.cut),
      length-append (field (leaf_width v) s.leaf) (field 4 s.coord),
      length-field (leaf_width v) s.leaf,
      length-field 4 s.coord,
      length-field 8 (cast_unsigned w64 s.cut),
    )

pub length-numbers : (width : ℕ) (xs : List ℕ) → length (flat_map (field width) xs) ≡ width * length xs
length-numbers width [] = omega arith
length-numbers width (x ∷ xs) = omega (arith, length-append (field width x) (flat_map (field width) xs), length-field width x, length-numbers width xs)

pub length-list_bytes : (width : ℕ) (xs : List ℕ) → length (list_bytes width xs) ≡ 2 + width * length xs
length-list_bytes width xs = omega (arith, length-append (field 2 (length xs)) (flat_map (field width) xs), length-field 2 (length xs), length-numbers width xs)

pub length-plan_bytes : (w : Written) → length (plan_bytes w) ≡ 14 + 4 * length w.weights + 8 * length w.outflows + 8 * length w.direct
length-plan_bytes w =
    omega (
      arith,
      length-append (field 4 w.base ++ field 4 w.flow_base ++ list_bytes 4 w.weights ++ list_bytes 8 w.outflows) (list_bytes 8 w.direct),
      length-append (field 4 w.base ++ field 4 w.flow_base ++ list_bytes 4 w.weights) (list_bytes 8 w.outflows),
      length-append (field 4 w.base ++ field 4 w.flow_base) (list_bytes 4 w.weights),
      length-append (field 4 w.base) (field 4 w.flow_base),
      length-field 4 w.base,
      length-field 4 w.flow_base,
      length-list_bytes 4 w.weights,
      length-list_bytes 8 w.outflows,
      length-list_bytes 8 w.direct,
    )

-- no payload is as short as the Turn's
pub payload-long : (v : Version) (e : Entry) → 2 ≤ length (payload v e)
payload-long v (root_proof proof) = omega (arith, length-proof_bytes proof)
payload-long v (split_of split left right) =
    omega (
      arith,
      length-append (split_bytes v split ++ half_bytes left) (half_bytes right),
      length-append (split_bytes v split) (half_bytes left),
      length-split_bytes v split,
    )
payload-long v (improve plan) = omega (arith, length-plan_bytes plan)

-- the lengths of all that is written
pub ruleset sizes = (
  length-append,
  length-take,
  length-map,
  length-field,
  length-part_bytes,
  length-parts_bytes,
  length-proof_bytes,
  length-split_bytes,
  length-numbers,
  length-list_bytes,
  length-plan_bytes,
)
