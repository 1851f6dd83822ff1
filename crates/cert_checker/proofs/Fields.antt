-- The fields of a certificate, by the items that its text begins with.
use Rattle.std.proofs.Common.{◌≡◌, ℕ, ◌<◌, ◌≤◌, List, [], ◌∷◌, ◌++◌, length, refl, sym, ap, ◌∙◌, append_assoc, arith}
use Rattle.std.specs.Prelude.{map}
use Rattle.std.specs.List.{flat_map}
use Rattle.row_model.specs.Multipliers.{Part}
use Rattle.cert_format.specs.Cert.{NodeProof}
use Rattle.cert_stream.specs.Items.{Field, head, one_part, proof_items}

-- ---- lists of one field each

-- the first of one list are those of another
pub fields-front : {X : Type 0} (item : X → Field) → ((x y : X) → item x ≡ item y → x ≡ y) → (xs ys : List X) (us vs : List Field) → length ys ≤ length xs
    → map item xs ++ us ≡ map item ys ++ vs → (more : List X) × (xs ≡ ys ++ more) × (map item more ++ us ≡ vs)
fields-front {X} item one xs [] us vs h e = (xs, refl, e)
fields-front {X} item one [] (y ∷ ys) us vs h e = absurd (omega arith)
fields-front {X} item one (x ∷ xs) (y ∷ ys) us vs h e =
    let first : item x ≡ item y = cc in
    let rest : map item xs ++ us ≡ map item ys ++ vs = cc in
    let f = fields-front item one xs ys us vs (omega arith) rest in
    (f.0, ap (λ (z : X). z ∷ xs) (one x y first) ∙ ap (λ (l : List X). y ∷ l) f.1, f.2)

-- two lists of one length are the same
pub fields-same : {X : Type 0} (item : X → Field) → ((x y : X) → item x ≡ item y → x ≡ y) → (xs ys : List X) (us vs : List Field) → length xs ≡ length ys
    → map item xs ++ us ≡ map item ys ++ vs → (xs ≡ ys) × (us ≡ vs)
fields-same {X} item one [] [] us vs h e = (refl, e)
fields-same {X} item one [] (y ∷ ys) us vs h e = absurd (omega arith)
fields-same {X} item one (x ∷ xs) [] us vs h e = absurd (omega arith)
fields-same {X} item one (x ∷ xs) (y ∷ ys) us vs h e =
    let first : item x ≡ item y = cc in
    let rest : map item xs ++ us ≡ map item ys ++ vs = cc in
    let f = fields-same item one xs ys us vs (omega arith) rest in
    (ap (λ (z : X). z ∷ xs) (one x y first) ∙ ap (λ (l : List X). y ∷ l) f.0, f.1)

-- ---- proof lines

one_part_is : (p q : Part) → one_part p ≡ one_part q → p ≡ q
one_part_is p q e = cc

-- the first line of two texts, and what is behind it
line-same : (p q : NodeProof) (us vs : List Field) → proof_items p ++ us ≡ proof_items q ++ vs → (p ≡ q) × (us ≡ vs)
line-same p q us vs e =
    let heads : head p.node p.proof.scale (length p.proof.parts) ≡ head q.node q.proof.scale (length q.proof.parts) = cc in
    let node : p.node ≡ q.node = cc in
    let scale : p.proof.scale ≡ q.proof.scale = cc in
    let long : length p.proof.parts ≡ length q.proof.parts = cc in
    let rest : map one_part p.proof.parts ++ us ≡ map one_part q.proof.parts ++ vs = cc in
    let parts = fields-same one_part one_part_is p.proof.parts q.proof.parts us vs long rest in
    ((λ i. record { node = node i; proof = record { scale = scale i; parts = parts.0 i } }), parts.1)

pub lines-front : (ps qs : List NodeProof) (us vs : List Field) → length qs ≤ length ps → flat_map proof_items ps ++ us ≡ flat_map proof_items qs ++ vs
    → (more : List NodeProof) × (ps ≡ qs ++ more) × (flat_map proof_items more ++ us ≡ vs)
lines-front ps [] us vs h e = (ps, refl, e)
lines-front [] (q ∷ qs) us vs h e = absurd (omega arith)
lines-front (p ∷ ps) (q ∷ qs) us vs h e =
    let l = line-same p q (flat_map proof_items ps ++ us) (flat_map proof_items qs ++ vs)
    (sym (append_assoc (proof_items p) (flat_map proof_items ps) us) ∙ e ∙ append_assoc (proof_items q) (flat_map proof_items qs) vs) in
    let f = lines-front ps qs us vs (omega arith) l.1 in
    (f.0, ap (λ (r : NodeProof). r ∷ ps) l.0 ∙ ap (λ (rs : List NodeProof). q ∷ rs) f.1, f.2)

pub lines-same : (ps qs : List NodeProof) (us vs : List Field) → length ps ≡ length qs → flat_map proof_items ps ++ us ≡ flat_map proof_items qs ++ vs → (ps ≡ qs) × (us ≡ vs)
lines-same [] [] us vs h e = (refl, e)
lines-same [] (q ∷ qs) us vs h e = absurd (omega arith)
lines-same (p ∷ ps) [] us vs h e = absurd (omega arith)
lines-same (p ∷ ps) (q ∷ qs) us vs h e =
    let l = line-same p q (flat_map proof_items ps ++ us) (flat_map proof_items qs ++ vs)
    (sym (append_assoc (proof_items p) (flat_map proof_items ps) us) ∙ e ∙ append_assoc (proof_items q) (flat_map proof_items qs) vs) in
    let f = lines-same ps qs us vs (omega arith) l.1 in
    (ap (λ (r : NodeProof). r ∷ ps) l.0 ∙ ap (λ (rs : List NodeProof). q ∷ rs) f.0, f.1)

-- the node of the line that comes next
pub line-head : (ps : List NodeProof) (node scale count : ℕ) (us vs : List Field) → 0 < length ps → flat_map proof_items ps ++ us ≡ head node scale count ∷ vs
    → (p : NodeProof) × (more : List NodeProof) × (ps ≡ p ∷ more) × (p.node ≡ node)
line-head [] node scale count us vs h e = absurd (omega arith)
line-head (p ∷ ps) node scale count us vs h e = (p, ps, refl, cc)
