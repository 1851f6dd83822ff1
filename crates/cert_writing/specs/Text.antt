-- The one text of each certificate, line by line.
use Rattle.std.specs.Prelude.{ℕ, ℤ, List, [], ◌∷◌, ◌++◌, length, map, decimal, codes}
use Rattle.std.specs.List.{flat_map}
use Rattle.std.specs.Fmt.{signed_decimal}
use Rattle.pool_model.specs.Plan.{Written}
use Rattle.pool_model.specs.Claim.{Claimed, with_gap, with_bound, no_plan}
use Rattle.row_model.specs.Multipliers.{Part}
use Rattle.row_model.specs.Trees.{Split}
use Rattle.cert_writing.specs.Cert.{Cert, NodeProof}

-- a field, with one space before it
abbrev pub field : List ℕ → List ℕ
field text = 32 ∷ text

-- a line: a word and fields, and one line feed
abbrev pub line : List ℕ → List (List ℕ) → List ℕ
line word fields = word ++ (flat_map field fields ++ 10 ∷ [])

-- the kind of a claim
abbrev pub kind_of : Claimed → List ℕ
kind_of (with_gap plan cost base bound gap) = codes "gap"
kind_of (with_bound bound) = codes "bound"
kind_of no_plan = codes "none"

-- the first lines: what text this is, the kind of its claim, and the shape of the network
abbrev pub head_lines : Cert → List ℕ
head_lines c =
    line (codes "poolcert") (codes "1" ∷ [])
    ++ (line (codes "kind") (kind_of c.claim ∷ [])
    ++ line (codes "shape") (map decimal c.shape))

-- the lines of a plan
abbrev pub plan_lines : Written → List ℕ
plan_lines plan =
    line (codes "plan") (decimal plan.base ∷ decimal plan.flow_base ∷ [])
    ++ (line (codes "weights") (map decimal plan.weights)
    ++ (line (codes "outflows") (map decimal plan.outflows)
    ++ line (codes "direct") (map decimal plan.direct)))

-- the lines of the plan that is claimed, where there is one
abbrev pub claimed_plan_lines : Claimed → List ℕ
claimed_plan_lines (with_gap plan cost base bound gap) = plan_lines plan
claimed_plan_lines (with_bound bound) = []
claimed_plan_lines no_plan = []

-- the line of a split
abbrev pub split_line : Split → List ℕ
split_line s = line (codes "split") (decimal s.leaf ∷ decimal s.coord ∷ signed_decimal s.cut ∷ [])

-- the fields of a part: its row and its multiplier
abbrev pub part_fields : Part → List (List ℕ)
part_fields p = decimal p.row ∷ signed_decimal p.mult ∷ []

-- the line of a proof: its node, its scale, how many parts it has, and these
abbrev pub proof_line : NodeProof → List ℕ
proof_line p = line (codes "proof") (decimal p.node ∷ decimal p.proof.scale ∷ decimal (length p.proof.parts) ∷ flat_map part_fields p.proof.parts)

-- the count of the splits, and their lines
abbrev pub split_lines : List Split → List ℕ
split_lines splits = line (codes "splits") (decimal (length splits) ∷ []) ++ flat_map split_line splits

-- the count of the proofs, and their lines
abbrev pub proof_lines : List NodeProof → List ℕ
proof_lines proofs = line (codes "proofs") (decimal (length proofs) ∷ []) ++ flat_map proof_line proofs

-- the lines of a cost over a base, a bound and their gap over that base
abbrev pub gap_lines : ℤ → ℕ → ℤ → ℤ → List ℕ
gap_lines cost base bound gap =
    line (codes "cost") (signed_decimal cost ∷ decimal base ∷ [])
    ++ (line (codes "bound") (signed_decimal bound ∷ [])
    ++ line (codes "gap") (signed_decimal gap ∷ decimal base ∷ []))

-- the lines of the numbers that are claimed
abbrev pub number_lines : Claimed → List ℕ
number_lines (with_gap plan cost base bound gap) = gap_lines cost base bound gap
number_lines (with_bound bound) = line (codes "bound") (signed_decimal bound ∷ [])
number_lines no_plan = []

-- the lines behind the plan: the tree, the numbers that are claimed, and the end
abbrev pub rest_lines : Cert → List ℕ
rest_lines c = split_lines c.splits ++ (proof_lines c.proofs ++ (number_lines c.claim ++ line (codes "end") []))

-- the text of a certificate
abbrev pub text_of : Cert → List ℕ
text_of c = head_lines c ++ (claimed_plan_lines c.claim ++ rest_lines c)
