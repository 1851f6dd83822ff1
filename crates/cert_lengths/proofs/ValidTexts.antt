-- How many proofs and parts a valid certificate has, and how long its text is.
use Rattle.std.proofs.Common.{◌≡◌, ℕ, ◌+◌, ◌*◌, ◌≤◌, max, ◌⊎◌, inl, inr, All, length, get_or, arith, sym, ap, subst}
use Rattle.std.specs.Prelude.{pos}
use Rattle.std.proofs.lemmas.List.Elements.{All-from_get_or}
use Rattle.std.proofs.lemmas.List.Sums.{sum_by-le}
use Rattle.std.proofs.Math.Nat.{mul-le-mul_left}
use Rattle.pool_model.specs.Network.{Net, IsLimited}
use Rattle.row_model.specs.Catalogue.{rows}
use Rattle.row_model.specs.Trees.{nodes}
use Rattle.row_book.proofs.Rising.{no_more}
use Rattle.cert_writing.specs.Cert.{Cert, IsCert}
use Rattle.cert_writing.specs.Text.{text_of}
use Rattle.cert_format.specs.Valid.{IsValid, no_proof}
use Rattle.proof_lines.proofs.Lines.{proof-here}
use Rattle.cert_lengths.specs.Lengths.{parts_in, part_count, room_for, most_bytes, HasFewRows}
use Rattle.cert_lengths.proofs.Texts.{length-text}

-- a proof has at most one part for each row
pub few_parts : (n : Net) (c : Cert) → IsValid n c → All (λ p. parts_in p ≤ rows n) c.proofs
few_parts n c is =
    All-from_get_or (λ p. parts_in p ≤ rows n) c.proofs no_proof (λ k lt.
    let p = get_or c.proofs k no_proof in
    let order = is.tree.proofs p.node p.proof (proof-here c.proofs k is.rising lt) in
    no_more (λ i. (get_or p.proof.parts i record { row = 0; mult = pos 0 }).row) (length p.proof.parts) (rows n) order.rising (λ i below. order.known i record { row = 0; mult = pos 0 } below))

-- a node has at most one proof
pub few_proofs : (n : Net) (c : Cert) → IsValid n c → length c.proofs ≤ nodes c.splits
few_proofs n c is = no_more (λ k. (get_or c.proofs k no_proof).node) (length c.proofs) (nodes c.splits) is.rising (λ k lt. is.placed k no_proof lt)

pub few_in_all : (n : Net) (c : Cert) → IsValid n c → part_count c.proofs ≤ nodes c.splits * rows n
few_in_all n c is = omega (arith, sum_by-le parts_in (rows n) c.proofs (few_parts n c is), mul-le-mul_left (rows n) (few_proofs n c is))

pub length-valid : (n : Net) (c : Cert) → IsCert c → IsValid n c → length (text_of c) ≤ room_for n (length c.splits) (part_count c.proofs)
length-valid n c held is =
    omega (
      arith,
      length-text c held,
      few_proofs n c is,
      ap (λ s. get_or s 4 0) is.shape,
      ap (λ s. get_or s 5 0) is.shape,
      ap (λ s. get_or s 6 0) is.shape,
    )

pub short_enough : (n : Net) (c : Cert) → IsLimited n → IsCert c → IsValid n c → HasFewRows n (length c.splits) → length (text_of c) ≤ most_bytes
short_enough n c limited held is within = omega (arith, length-valid n c held is, few_in_all n c is, is.tree.few, limited.arcs, within)

-- ---- trees that grow

of_greater : (n : Net) (a b : ℕ) → HasFewRows n a → HasFewRows n b → HasFewRows n (max a b)
of_greater n a b h k = elim (greater a b) [ inl e ↦ subst (HasFewRows n) (sym e) h | inr e ↦ subst (HasFewRows n) (sym e) k ]
  where
    greater : (a b : ℕ) → (max a b ≡ a) ⊎ (max a b ≡ b)
    greater a b = grind arith

pub few_rows-fewer : (n : Net) (splits more : ℕ) → splits ≤ more → HasFewRows n more → HasFewRows n splits
few_rows-fewer n splits more le few =
    let nodes_le : 2 * splits + 1 ≤ 2 * more + 1 = omega (arith, le) in
    omega (arith, mul-le-mul_left (rows n) nodes_le, few)

pub few_rows-grown : (n : Net) (splits asked begun : ℕ) → splits ≤ max asked begun → HasFewRows n asked → HasFewRows n begun → HasFewRows n splits
few_rows-grown n splits asked begun le h k = few_rows-fewer n splits (max asked begun) le (of_greater n asked begun h k)
