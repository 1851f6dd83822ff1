-- How long the text of a certificate is.
use Rattle.std.proofs.Common.{ℕ, ◌+◌, ◌*◌, ◌^◌, ◌<◌, ◌≤◌, List, [], ◌∷◌, ◌++◌, length, get_or, arith, length-append}
use Rattle.std.specs.Prelude.{ℤ, FitsSigned, map, decimal, codes}
use Rattle.std.specs.List.{flat_map}
use Rattle.std.specs.Int.{w128}
use Rattle.std.specs.Fmt.{signed_decimal}
use Rattle.pool_model.specs.Plan.{Written}
use Rattle.pool_model.specs.Claim.{Claimed, with_gap, with_bound, no_plan}
use Rattle.cert_writing.specs.Cert.{Cert, IsCert, ClaimFits, IsPlanInRange, IsClaimInRange}
use Rattle.cert_writing.specs.Text.{line, kind_of, head_lines, plan_lines, claimed_plan_lines, split_line, split_lines, proof_line, proof_lines, gap_lines, number_lines, rest_lines, text_of}
use Rattle.cert_lengths.specs.Lengths.{part_count, part_bytes, split_bytes, proof_bytes, plan_bytes, room_of}
use Rattle.cert_lengths.proofs.Lines.{length-u32, length-u64, length-i128, length-line, number_fields, length-splits, length-proofs}

-- ---- the head

length-kind : (claim : Claimed) → length (kind_of claim) ≤ 5
length-kind (with_gap plan cost base bound gap) = omega arith
length-kind (with_bound bound) = omega arith
length-kind no_plan = omega arith

length-head : (c : Cert) → IsCert c → length (head_lines c) ≤ 105
length-head c is =
    let kind = line (codes "kind") (kind_of c.claim ∷ []) in
    let shape = line (codes "shape") (map decimal c.shape) in
    omega (
      arith,
      length-append (line (codes "poolcert") (codes "1" ∷ [])) (kind ++ shape),
      length-append kind shape,
      length-line (codes "kind") (kind_of c.claim ∷ []),
      length-kind c.claim,
      length-line (codes "shape") (map decimal c.shape),
      number_fields (λ n. n < 2 ^ 32) 10 length-u32 c.shape is.counts,
      is.seven,
    )

-- ---- the plan

length-plan : (plan : Written) → IsPlanInRange plan → length (plan_lines plan) ≤ 51 + plan_bytes (length plan.weights) (length plan.outflows) (length plan.direct)
length-plan plan is =
    let bases = line (codes "plan") (decimal plan.base ∷ decimal plan.flow_base ∷ []) in
    let weights = line (codes "weights") (map decimal plan.weights) in
    let outflows = line (codes "outflows") (map decimal plan.outflows) in
    let direct = line (codes "direct") (map decimal plan.direct) in
    omega (
      arith,
      length-append bases (weights ++ (outflows ++ direct)),
      length-append weights (outflows ++ direct),
      length-append outflows direct,
      length-line (codes "plan") (decimal plan.base ∷ decimal plan.flow_base ∷ []),
      length-u32 plan.base is.base,
      length-u32 plan.flow_base is.flow_base,
      length-line (codes "weights") (map decimal plan.weights),
      number_fields (λ n. n < 2 ^ 32) 10 length-u32 plan.weights is.weights,
      length-line (codes "outflows") (map decimal plan.outflows),
      number_fields (λ n. n < 2 ^ 64) 20 length-u64 plan.outflows is.outflows,
      length-line (codes "direct") (map decimal plan.direct),
      number_fields (λ n. n < 2 ^ 64) 20 length-u64 plan.direct is.direct,
    )

length-claimed_plan : (shape : List ℕ) (claim : Claimed) → ClaimFits shape claim → IsClaimInRange claim
    → length (claimed_plan_lines claim) ≤ 51 + plan_bytes (get_or shape 4 0) (get_or shape 5 0) (get_or shape 6 0)
length-claimed_plan shape (with_gap plan cost base bound gap) fits is = omega (arith, length-plan plan is.0, fits.feeds, fits.outs, fits.directs)
length-claimed_plan shape (with_bound bound) fits is = omega arith
length-claimed_plan shape no_plan fits is = omega arith

-- ---- the numbers that are claimed

length-bound : (bound : ℤ) → FitsSigned w128 bound → length (line (codes "bound") (signed_decimal bound ∷ [])) ≤ 47
length-bound bound is = omega (arith, length-line (codes "bound") (signed_decimal bound ∷ []), length-i128 bound is)

-- a number of 128 bits over a base
length-over : (word : List ℕ) (num : ℤ) (base : ℕ) → FitsSigned w128 num → base < 2 ^ 64 → length (line word (signed_decimal num ∷ decimal base ∷ [])) ≤ length word + 63
length-over word num base is small = omega (arith, length-line word (signed_decimal num ∷ decimal base ∷ []), length-i128 num is, length-u64 base small)

length-gap : (cost : ℤ) (base : ℕ) (bound gap : ℤ) → FitsSigned w128 cost → base < 2 ^ 64 → FitsSigned w128 bound → FitsSigned w128 gap → length (gap_lines cost base bound gap) ≤ 180
length-gap cost base bound gap c b d g =
    let first = line (codes "cost") (signed_decimal cost ∷ decimal base ∷ []) in
    let second = line (codes "bound") (signed_decimal bound ∷ []) in
    let third = line (codes "gap") (signed_decimal gap ∷ decimal base ∷ []) in
    omega (
      arith,
      length-append first (second ++ third),
      length-append second third,
      length-over (codes "cost") cost base c b,
      length-bound bound d,
      length-over (codes "gap") gap base g b,
    )

length-numbers : (claim : Claimed) → IsClaimInRange claim → length (number_lines claim) ≤ 180
length-numbers (with_gap plan cost base bound gap) is = length-gap cost base bound gap is.1 is.2 is.3 is.4
length-numbers (with_bound bound) is = omega (arith, length-bound bound is)
length-numbers no_plan is = omega arith

-- ---- the whole

-- the line of a count
length-count : (word : List ℕ) (n : ℕ) → n < 2 ^ 32 → length (line word (decimal n ∷ [])) ≤ length word + 12
length-count word n small = omega (arith, length-line word (decimal n ∷ []), length-u32 n small)

length-rest : (c : Cert) → IsCert c → length (rest_lines c) ≤ 220 + split_bytes * length c.splits + proof_bytes * length c.proofs + part_bytes * part_count c.proofs
length-rest c is =
    let splits = split_lines c.splits in
    let proofs = proof_lines c.proofs in
    let numbers = number_lines c.claim in
    let end = line (codes "end") [] in
    omega (
      arith,
      length-append splits (proofs ++ (numbers ++ end)),
      length-append proofs (numbers ++ end),
      length-append numbers end,
      length-append (line (codes "splits") (decimal (length c.splits) ∷ [])) (flat_map split_line c.splits),
      length-count (codes "splits") (length c.splits) is.shaped.splits,
      length-splits c.splits is.splits,
      length-append (line (codes "proofs") (decimal (length c.proofs) ∷ [])) (flat_map proof_line c.proofs),
      length-count (codes "proofs") (length c.proofs) is.shaped.proofs,
      length-proofs c.proofs is.proofs is.shaped.parts,
      length-numbers c.claim is.claim,
    )

pub length-text : (c : Cert) → IsCert c → length (text_of c) ≤ room_of c
length-text c is =
    omega (
      arith,
      length-append (head_lines c) (claimed_plan_lines c.claim ++ rest_lines c),
      length-append (claimed_plan_lines c.claim) (rest_lines c),
      length-head c is,
      length-claimed_plan c.shape c.claim is.shaped.claim is.claim,
      length-rest c is,
    )
