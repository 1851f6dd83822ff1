-- How long a line of a certificate is.
use Rattle.std.proofs.Common.{◌≡◌, ℕ, suc, ◌+◌, ◌*◌, ◌^◌, ◌<◌, ◌≤◌, List, [], ◌∷◌, ◌++◌, length, All, refl, arith, lit<, length-append}
use Rattle.std.specs.Prelude.{ℤ, pos, negsuc, FitsSigned, map, decimal, codes}
use Rattle.std.specs.List.{flat_map}
use Rattle.std.specs.Int.{w64, w128}
use Rattle.std.specs.Fmt.{signed_decimal}
use Rattle.std.proofs.lemmas.Fmt.{length-decimal-le_wide}
use Rattle.std.proofs.lemmas.Int.{ints}
use Rattle.std.proofs.lemmas.List.Elements.{All-head, All-tail}
use Rattle.std.proofs.lemmas.List.Sums.{sum_by-cons}
use Rattle.row_model.specs.Multipliers.{Part}
use Rattle.row_model.specs.Trees.{Split}
use Rattle.cert_writing.specs.Cert.{NodeProof, IsPartInRange, IsSplitInRange, IsProofInRange}
use Rattle.cert_writing.specs.Text.{field, line, part_fields, split_line, proof_line}
use Rattle.cert_lengths.specs.Lengths.{parts_in, part_count, part_bytes, split_bytes, proof_bytes}

-- ---- numbers

pub length-u32 : (n : ℕ) → n < 2 ^ 32 → length (decimal n) ≤ 10
length-u32 n h = length-decimal-le_wide 10 n (lit< tt) (omega arith) (omega arith)

pub length-u64 : (n : ℕ) → n < 2 ^ 64 → length (decimal n) ≤ 20
length-u64 n h = length-decimal-le_wide 20 n (lit< tt) (omega arith) (omega arith)

pub length-i64 : (z : ℤ) → FitsSigned w64 z → length (signed_decimal z) ≤ 20
length-i64 (pos n) h = omega (arith, length-decimal-le_wide 19 n (lit< tt) (omega (arith, ints)) (omega (arith, ints)))
length-i64 (negsuc n) h = omega (arith, length-decimal-le_wide 19 (suc n) (lit< tt) (omega (arith, ints)) (omega (arith, ints)))

pub length-i128 : (z : ℤ) → FitsSigned w128 z → length (signed_decimal z) ≤ 40
length-i128 (pos n) h = omega (arith, length-decimal-le_wide 39 n (lit< tt) (omega (arith, ints)) (omega (arith, ints)))
length-i128 (negsuc n) h = omega (arith, length-decimal-le_wide 39 (suc n) (lit< tt) (omega (arith, ints)) (omega (arith, ints)))

-- ---- fields

-- each with the space before it
abbrev pub field_bytes : List (List ℕ) → ℕ
field_bytes [] = 0
field_bytes (f ∷ fs) = 1 + length f + field_bytes fs

length-fields : (fs : List (List ℕ)) → length (flat_map field fs) ≡ field_bytes fs
length-fields [] = refl
length-fields (f ∷ fs) = omega (arith, length-append (field f) (flat_map field fs), length-fields fs)

pub length-line : (word : List ℕ) (fs : List (List ℕ)) → length (line word fs) ≡ length word + field_bytes fs + 1
length-line word fs = omega (arith, length-append word (flat_map field fs ++ 10 ∷ []), length-append (flat_map field fs) (10 ∷ []), length-fields fs)

-- numbers of at most so many digits
pub number_fields : (P : ℕ → Type 0) (k : ℕ) → ((n : ℕ) → P n → length (decimal n) ≤ k) → (xs : List ℕ) → All P xs → field_bytes (map decimal xs) ≤ (1 + k) * length xs
number_fields P k few [] h = omega arith
number_fields P k few (x ∷ xs) h = omega (arith, few x (All-head P x xs h), number_fields P k few xs (All-tail P x xs h))

pub length-part : (p : Part) → IsPartInRange p → length (flat_map field (part_fields p)) ≤ part_bytes
length-part p is = omega (arith, length-fields (part_fields p), length-u32 p.row is.row, length-i64 p.mult is.mult)

pub length-parts : (parts : List Part) → All IsPartInRange parts → field_bytes (flat_map part_fields parts) ≤ part_bytes * length parts
length-parts [] h = omega arith
length-parts (p ∷ ps) h =
    let is : IsPartInRange p = All-head IsPartInRange p ps h in
    omega (arith, length-u32 p.row is.row, length-i64 p.mult is.mult, length-parts ps (All-tail IsPartInRange p ps h))

-- ---- lines

pub length-split : (s : Split) → IsSplitInRange s → length (split_line s) ≤ split_bytes
length-split s is =
    omega (
      arith,
      length-line (codes "split") (decimal s.leaf ∷ decimal s.coord ∷ signed_decimal s.cut ∷ []),
      length-u32 s.leaf is.leaf,
      length-u32 s.coord is.coord,
      length-i64 s.cut is.cut,
    )

pub length-splits : (splits : List Split) → All IsSplitInRange splits → length (flat_map split_line splits) ≤ split_bytes * length splits
length-splits [] h = omega arith
length-splits (s ∷ ss) h =
    omega (
      arith,
      length-append (split_line s) (flat_map split_line ss),
      length-split s (All-head IsSplitInRange s ss h),
      length-splits ss (All-tail IsSplitInRange s ss h),
    )

pub length-proof : (p : NodeProof) → IsProofInRange p → parts_in p < 2 ^ 32 → length (proof_line p) ≤ proof_bytes + part_bytes * parts_in p
length-proof p is few =
    omega (
      arith,
      length-line (codes "proof") (decimal p.node ∷ decimal p.proof.scale ∷ decimal (length p.proof.parts) ∷ flat_map part_fields p.proof.parts),
      length-u32 p.node is.node,
      length-u64 p.proof.scale is.scale,
      length-u32 (length p.proof.parts) few,
      length-parts p.proof.parts is.parts,
    )

abbrev pub HasFewParts : NodeProof → Type 0
HasFewParts p = parts_in p < 2 ^ 32

pub length-proofs : (proofs : List NodeProof) → All IsProofInRange proofs → All HasFewParts proofs
    → length (flat_map proof_line proofs) ≤ proof_bytes * length proofs + part_bytes * part_count proofs
length-proofs [] h few = omega arith
length-proofs (p ∷ ps) h few =
    omega (
      arith,
      sum_by-cons parts_in p ps,
      length-append (proof_line p) (flat_map proof_line ps),
      length-proof p (All-head IsProofInRange p ps h) (All-head HasFewParts p ps few),
      length-proofs ps (All-tail IsProofInRange p ps h) (All-tail HasFewParts p ps few),
    )
