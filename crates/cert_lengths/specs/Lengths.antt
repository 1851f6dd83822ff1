-- How many bytes the text of a certificate has at the most.
use Rattle.std.specs.Prelude.{ℕ, ◌+◌, ◌*◌, ◌≤◌, List, length, get_or}
use Rattle.std.specs.List.{sum_by}
use Rattle.pool_model.specs.Network.{Net}
use Rattle.row_model.specs.Catalogue.{rows}
use Rattle.cert_writing.specs.Cert.{Cert, NodeProof}

-- ---- what is counted

-- how many parts a proof has
abbrev pub parts_in : NodeProof → ℕ
parts_in p = length p.proof.parts

-- how many parts all proofs have together
abbrev pub part_count : List NodeProof → ℕ
part_count proofs = sum_by parts_in proofs

-- ---- bytes at the most

-- a space and a number of 32 bits: 10 digits
abbrev pub u32_field : ℕ
u32_field = 11

-- a space and a number of 64 bits: 20 digits, or 19 and a sign
abbrev pub u64_field : ℕ
u64_field = 21

-- a space and a number of 128 bits with its sign: 39 digits and a sign
abbrev pub i128_field : ℕ
i128_field = 41

-- a part: its row and its multiplier
abbrev pub part_bytes : ℕ
part_bytes = u32_field + u64_field

-- the line of a split: its word, its node, its coordinate, its cut, and the line feed
abbrev pub split_bytes : ℕ
split_bytes = 5 + u32_field + u32_field + u64_field + 1

-- the line of a proof without its parts: its word, its node, its scale, how many parts it has, and the line feed
abbrev pub proof_bytes : ℕ
proof_bytes = 5 + u32_field + u64_field + u32_field + 1

-- a weight for each feed, and a flow for each out and each direct
abbrev pub plan_bytes : (feeds outs directs : ℕ) → ℕ
plan_bytes feeds outs directs = u32_field * feeds + u64_field * (outs + directs)

-- all else: the lines that stand once, without the weights and the flows of a plan
abbrev pub other_bytes : ℕ
other_bytes = 376

-- the text of a certificate, by the lengths of its lists
abbrev pub room_of : Cert → ℕ
room_of c =
    other_bytes
    + plan_bytes (get_or c.shape 4 0) (get_or c.shape 5 0) (get_or c.shape 6 0)
    + split_bytes * length c.splits
    + proof_bytes * length c.proofs
    + part_bytes * part_count c.proofs

-- The same for a network, where each node of the tree has a proof: by how many splits there are, and how many parts all proofs have
-- together.
abbrev pub room_for : Net → (splits parts : ℕ) → ℕ
room_for n splits parts =
    other_bytes
    + plan_bytes n.feeds n.outs n.directs
    + split_bytes * splits
    + proof_bytes * (2 * splits + 1)
    + part_bytes * parts

-- ---- limits

-- how many rows of a network, node by node, a certificate may speak of
abbrev pub most_rows : ℕ
most_rows = 32000000

-- a tree of so many splits has few enough nodes for the rows of the network
abbrev pub HasFewRows : Net → (splits : ℕ) → Type 0
HasFewRows n splits = (2 * splits + 1) * rows n ≤ most_rows

-- how many bytes the text of a certificate may have that is checked
abbrev pub most_bytes : ℕ
most_bytes = 1073741824
