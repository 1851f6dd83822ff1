-- The claim and the whole certificate are read as they are spelled.
use Rattle.std.proofs.Common.{◌≡◌, ℕ, ◌-◌, ◌^◌, ◌<◌, true, eqb, List, [], ◌∷◌, ◌++◌, length, Result, Ok, refl, sym, ap, ◌∙◌, append_assoc}
use Rattle.std.specs.Prelude.{ℤ, pos, FitsSigned, codes, map, All}
use Rattle.std.specs.Int.{w128}
use Rattle.std.specs.Fmt.{decimal, signed_decimal}
use Rattle.std.proofs.lemmas.Bool.{eqb-true, eq-eqb}
use Rattle.std.proofs.lemmas.List.{append-nil}
use Rattle.std.proofs.lemmas.List.Elements.{All-from_recursion, recursion_from_All}
use Rattle.pool_model.specs.Plan.{Written}
use Rattle.pool_model.specs.Claim.{Claimed, with_gap, with_bound, no_plan}
use Rattle.row_model.specs.Trees.{Split}
use Rattle.cert_text.specs.declared.pieces.Ends.TheVariants.{Space, Line}
use Rattle.cert_text.specs.Reading.{At, ◌>>=◌, word_at, number_spelling, int_spelling, same_at, end_of, u64_at, i128_at}
use Rattle.cert_text.proofs.Laws.{Reads, bind_reads, done_reads, reworded, AreItems}
use Rattle.cert_text.proofs.NumberLaws.{below, u64_reads, i128_reads, same_reads, word_then}
use Rattle.cert_format.specs.declared.reading.Kind.{Kind}
use Rattle.cert_format.specs.declared.reading.Kind.TheVariants as kinds
use Rattle.cert_writing.specs.Cert.{Cert, NodeProof, ClaimFits, IsClaimInRange, IsSplitInRange, IsProofInRange, IsCert}
use Rattle.cert_format.specs.Reading.{Opened, with_plan, bound_alone, none, kind_spelling, kind_at, shape_at, plan_at, opened_at, splits_at, proofs_at, bound_at, gap_at, claim_at, cert_at}
use Rattle.cert_writing.specs.Text.{line, kind_of, plan_lines, claimed_plan_lines, split_lines, proof_lines, number_lines, rest_lines, text_of}
use Rattle.cert_format.proofs.LineLaws.{Any, IsPlanOf, kind_reads, shape_reads, plan_reads, AreLines, IsCounted, splits_reads, proofs_reads, bound_reads, two_numbers}

-- ---- the numbers of a gap

abbrev i128 : ℤ → Type 0
i128 z = FitsSigned w128 z

cost_of : Claimed → ℤ
cost_of (with_gap w c b d g) = c
cost_of (with_bound d) = pos 0
cost_of no_plan = pos 0

base_of : Claimed → ℕ
base_of (with_gap w c b d g) = b
base_of (with_bound d) = 0
base_of no_plan = 0

bound_of : Claimed → ℤ
bound_of (with_gap w c b d g) = d
bound_of (with_bound d) = d
bound_of no_plan = pos 0

gap_of : Claimed → ℤ
gap_of (with_gap w c b d g) = g
gap_of (with_bound d) = pos 0
gap_of no_plan = pos 0

-- a claim of a gap with this plan
abbrev IsGap : Written → Claimed → Type 0
IsGap w z = (z ≡ with_gap w (cost_of z) (base_of z) (bound_of z) (gap_of z)) × i128 (cost_of z) × below 64 (base_of z) × i128 (bound_of z) × i128 (gap_of z)

-- what is known of the whole behind each field
abbrev G5 : Written → ℤ → ℕ → ℤ → ℤ → Claimed → Type 0
G5 w c b d g z = (below 64 (base_of z) × (eqb (base_of z) b ≡ true)) × ((z ≡ with_gap w c b d g) × (base_of z ≡ b))

abbrev G4 : Written → ℤ → ℕ → ℤ → Claimed → Type 0
G4 w c b d z = i128 (gap_of z) × G5 w c b d (gap_of z) z

abbrev G3 : Written → ℤ → ℕ → Claimed → Type 0
G3 w c b z = i128 (bound_of z) × G4 w c b (bound_of z) z

abbrev G2 : Written → ℤ → Claimed → Type 0
G2 w c z = below 64 (base_of z) × G3 w c (base_of z) z

abbrev G1 : Written → Claimed → Type 0
G1 w z = i128 (cost_of z) × G2 w (cost_of z) z

abbrev bound_line : ℤ → List ℕ
bound_line z = line (codes "bound") (signed_decimal z ∷ [])

abbrev g5 : Claimed → List ℕ
g5 z = number_spelling (end_of Line) (base_of z) ++ []

abbrev g4 : Claimed → List ℕ
g4 z = int_spelling (end_of Space) (gap_of z) ++ g5 z

abbrev g3 : Claimed → List ℕ
g3 z = bound_line (bound_of z) ++ (codes "gap " ++ g4 z)

abbrev g2 : Claimed → List ℕ
g2 z = number_spelling (end_of Line) (base_of z) ++ g3 z

abbrev g1 : Claimed → List ℕ
g1 z = int_spelling (end_of Space) (cost_of z) ++ g2 z

abbrev r5 : Written → ℤ → ℕ → ℤ → ℤ → At → Result (Claimed × At) ℕ
r5 w c b d g a = same_at (2 ^ 64 - 1) (end_of Line) b a >>= λ x. Ok (with_gap w c b d g, x.1)

abbrev r4 : Written → ℤ → ℕ → ℤ → At → Result (Claimed × At) ℕ
r4 w c b d a = i128_at Space a >>= λ g. r5 w c b d g.0 g.1

abbrev r3 : Written → ℤ → ℕ → At → Result (Claimed × At) ℕ
r3 w c b a = bound_at a >>= λ d. word_at (codes "gap ") d.1 >>= λ v. r4 w c b d.0 v.1

abbrev r2 : Written → ℤ → At → Result (Claimed × At) ℕ
r2 w c a = u64_at Line a >>= λ b. r3 w c b.0 b.1

abbrev r1 : Written → At → Result (Claimed × At) ℕ
r1 w a = i128_at Space a >>= λ c. r2 w c.0 c.1

reads5 : (w : Written) (c : ℤ) (b : ℕ) (d g : ℤ) → below 64 b → Reads Claimed (G5 w c b d g) g5 (r5 w c b d g)
unfolding base_of
reads5 w c b d g le = bind_reads ℕ Claimed (λ m. below 64 m × (eqb m b ≡ true)) (number_spelling (end_of Line)) (same_at (2 ^ 64 - 1) (end_of Line) b)
    (λ m z. (z ≡ with_gap w c b d g) × (m ≡ b)) (λ _ _. []) (λ m a. Ok (with_gap w c b d g, a)) base_of (same_reads b le)
    (λ m i. reworded Claimed (λ z. z ≡ with_gap w c b d g) (λ z. (z ≡ with_gap w c b d g) × (m ≡ b)) (λ _. []) (λ _. [])
    (λ a. Ok (with_gap w c b d g, a)) (done_reads Claimed (with_gap w c b d g)) (λ z e. (e, eqb-true m b i.1)) (λ z h. h.0) (λ z h. refl))
    (λ m z h. ap base_of h.0 ∙ sym h.1)

reads4 : (w : Written) (c : ℤ) (b : ℕ) (d : ℤ) → below 64 b → Reads Claimed (G4 w c b d) g4 (r4 w c b d)
unfolding gap_of
reads4 w c b d le = bind_reads ℤ Claimed i128 (int_spelling (end_of Space)) (i128_at Space) (λ g z. G5 w c b d g z) (λ _ z. g5 z)
    (λ g a. r5 w c b d g a) gap_of (i128_reads Space) (λ g i. reads5 w c b d g le) (λ g z h. ap gap_of h.1.0)

reads3 : (w : Written) (c : ℤ) (b : ℕ) → below 64 b → Reads Claimed (G3 w c b) g3 (r3 w c b)
unfolding bound_of
reads3 w c b le = bind_reads ℤ Claimed i128 bound_line bound_at (λ d z. G4 w c b d z) (λ _ z. codes "gap " ++ g4 z)
    (λ d a. word_at (codes "gap ") a >>= λ v. r4 w c b d v.1) bound_of bound_reads (λ d i. word_then (codes "gap ") refl (reads4 w c b d le)) (λ d z h. ap bound_of h.1.1.0)

reads2 : (w : Written) (c : ℤ) → Reads Claimed (G2 w c) g2 (r2 w c)
unfolding base_of
reads2 w c = bind_reads ℕ Claimed (below 64) (number_spelling (end_of Line)) (u64_at Line) (λ b z. G3 w c b z) (λ _ z. g3 z)
    (λ b a. r3 w c b a) base_of (u64_reads Line) (λ b i. reads3 w c b i) (λ b z h. ap base_of h.1.1.1.0)

reads1 : (w : Written) → Reads Claimed (G1 w) g1 (r1 w)
unfolding cost_of
reads1 w = bind_reads ℤ Claimed i128 (int_spelling (end_of Space)) (i128_at Space) (λ c z. G2 w c z) (λ _ z. g2 z) (λ c a. r2 w c a) cost_of
    (i128_reads Space) (λ c i. reads2 w c) (λ c z h. ap cost_of h.1.1.1.1.0)

gap_reads : (w : Written) → Reads Claimed (IsGap w) number_lines (gap_at w)
unfolding gap_at cost_of base_of bound_of gap_of
gap_reads w = reworded Claimed (G1 w) (IsGap w) (λ z. codes "cost " ++ g1 z) number_lines (gap_at w) (word_then (codes "cost ") refl (reads1 w))
    (λ z h. (h.1.1.1.1.1.0, h.0, h.1.0, h.1.1.0, h.1.1.1.0))
    (λ z h. (h.1, (h.2, (h.3, (h.4, ((h.2, eq-eqb (base_of z) (base_of z) refl), (h.0, refl)))))))
    same
  where
    same : (z : Claimed) → IsGap w z → codes "cost " ++ g1 z ≡ number_lines z
    same (with_gap v c b d g) h =
        ap (λ (r : List ℕ). codes "cost " ++
        (int_spelling (end_of Space) c ++ (number_spelling (end_of Line) b ++ (bound_line d ++ (codes "gap " ++ r))))) (two_numbers (signed_decimal g) (decimal b) [] ∙ append-nil _)
        ∙ ap (λ (r : List ℕ). codes "cost " ++ r) (two_numbers (signed_decimal c) (decimal b) (bound_line d ++ line (codes "gap") (signed_decimal g ∷ decimal b ∷ [])))
    same (with_bound d) h = absurd (let e = h.0 in cc)
    same no_plan h = absurd (let e = h.0 in cc)

-- ---- what depends on the kind

opening_of : Claimed → Opened
opening_of (with_gap w c b d g) = with_plan w
opening_of (with_bound d) = bound_alone
opening_of no_plan = none

opening_kind : Opened → Kind
opening_kind (with_plan w) = kinds.Gap
opening_kind bound_alone = kinds.Bound
opening_kind none = kinds.NoPlan

plan_in : Opened → Written
plan_in (with_plan w) = w
plan_in bound_alone = record { base = 0; flow_base = 0; weights = []; outflows = []; direct = [] }
plan_in none = record { base = 0; flow_base = 0; weights = []; outflows = []; direct = [] }

abbrev IsOpening : Kind → List ℕ → Opened → Type 0
IsOpening kinds.Gap sh o = IsPlanOf sh (plan_in o) × (o ≡ with_plan (plan_in o))
IsOpening kinds.Bound sh o = o ≡ bound_alone
IsOpening kinds.NoPlan sh o = o ≡ none

abbrev opening_text : Opened → List ℕ
opening_text (with_plan w) = plan_lines w
opening_text bound_alone = []
opening_text none = []

opening_reads : (k : Kind) (sh : List ℕ) → Reads Opened (IsOpening k sh) opening_text (opened_at k sh)
unfolding opened_at plan_in
opening_reads kinds.Gap sh = reworded Opened (IsOpening kinds.Gap sh) (IsOpening kinds.Gap sh) (λ o. plan_lines (plan_in o) ++ []) opening_text (opened_at kinds.Gap sh)
    (bind_reads Written Opened (IsPlanOf sh) plan_lines (plan_at sh) (λ w o. o ≡ with_plan w) (λ _ _. []) (λ w a. Ok (with_plan w, a)) plan_in
    (plan_reads sh) (λ w i. done_reads Opened (with_plan w)) (λ w o e. ap plan_in e))
    (λ o h. h) (λ o h. h) same
  where
    same : (o : Opened) → IsOpening kinds.Gap sh o → plan_lines (plan_in o) ++ [] ≡ opening_text o
    same (with_plan w) h = append-nil (plan_lines w)
    same bound_alone h = absurd (let e = h.1 in cc)
    same none h = absurd (let e = h.1 in cc)
opening_reads kinds.Bound sh =
    reworded Opened (λ o. o ≡ bound_alone) (λ o. o ≡ bound_alone) (λ _. []) opening_text (opened_at kinds.Bound sh) (done_reads Opened bound_alone)
    (λ o h. h) (λ o h. h) (λ o h. sym (ap opening_text h))
opening_reads kinds.NoPlan sh =
    reworded Opened (λ o. o ≡ none) (λ o. o ≡ none) (λ _. []) opening_text (opened_at kinds.NoPlan sh) (done_reads Opened none) (λ o h. h) (λ o h. h) (λ o h. sym (ap opening_text h))

opening_is : (k : Kind) (sh : List ℕ) (o : Opened) → IsOpening k sh o → opening_kind o ≡ k
unfolding opening_kind
opening_is kinds.Gap sh o h = ap opening_kind h.1
opening_is kinds.Bound sh o h = ap opening_kind h
opening_is kinds.NoPlan sh o h = ap opening_kind h

abbrev IsClaim : Opened → Claimed → Type 0
IsClaim (with_plan w) z = IsGap w z
IsClaim bound_alone z = i128 (bound_of z) × (z ≡ with_bound (bound_of z))
IsClaim none z = z ≡ no_plan

claim_reads : (o : Opened) → Reads Claimed (IsClaim o) number_lines (claim_at o)
unfolding claim_at bound_of
claim_reads (with_plan w) = gap_reads w
claim_reads bound_alone = reworded Claimed (λ z. i128 (bound_of z) × (z ≡ with_bound (bound_of z))) (IsClaim bound_alone) (λ z. bound_line (bound_of z) ++ []) number_lines (claim_at bound_alone)
    (bind_reads ℤ Claimed i128 bound_line bound_at (λ d z. z ≡ with_bound d) (λ _ _. []) (λ d a. Ok (with_bound d, a)) bound_of bound_reads
    (λ d i. done_reads Claimed (with_bound d)) (λ d z e. ap bound_of e))
    (λ z i. i) (λ z i. i) same
  where
    same : (z : Claimed) → IsClaim bound_alone z → bound_line (bound_of z) ++ [] ≡ number_lines z
    same (with_gap v c b d g) i = absurd (let e = i.1 in cc)
    same (with_bound d) i = append-nil _
    same no_plan i = absurd (let e = i.1 in cc)
claim_reads none = reworded Claimed (λ z. z ≡ no_plan) (λ z. z ≡ no_plan) (λ _. []) number_lines (claim_at none) (done_reads Claimed no_plan) (λ z i. i) (λ z i. i) (λ z i. sym (ap number_lines i))

claim_opening : (o : Opened) (z : Claimed) → IsClaim o z → opening_of z ≡ o
unfolding opening_of
claim_opening (with_plan w) z h = ap opening_of h.0
claim_opening bound_alone z h = ap opening_of h.1
claim_opening none z h = ap opening_of h

-- ---- the whole

abbrev made : List ℕ → List Split → List NodeProof → Claimed → Cert
made sh ss ps cl = record { shape = sh; claim = cl; splits = ss; proofs = ps }

-- what is known of the whole behind each part
abbrev C6 : List ℕ → Opened → List Split → List NodeProof → Cert → Type 0
C6 sh o ss ps z = IsClaim o z.claim × (z ≡ made sh ss ps z.claim)

abbrev C5 : List ℕ → Opened → List Split → Cert → Type 0
C5 sh o ss z = AreLines IsCounted z.proofs × C6 sh o ss z.proofs z

abbrev C4 : List ℕ → Opened → Cert → Type 0
C4 sh o z = AreLines IsSplitInRange z.splits × C5 sh o z.splits z

abbrev C3 : Kind → List ℕ → Cert → Type 0
C3 k sh z = IsOpening k sh (opening_of z.claim) × C4 sh (opening_of z.claim) z

abbrev C2 : Kind → Cert → Type 0
C2 k z = AreItems (below 32) 7 z.shape × C3 k z.shape z

kind_in : Cert → Kind
kind_in z = opening_kind (opening_of z.claim)

abbrev C1 : Cert → Type 0
C1 z = Any (kind_in z) × C2 (kind_in z) z

abbrev c6 : Cert → List ℕ
c6 z = number_lines z.claim ++ (codes "end\n" ++ [])

abbrev c5 : Cert → List ℕ
c5 z = proof_lines z.proofs ++ c6 z

abbrev c4 : Cert → List ℕ
c4 z = split_lines z.splits ++ c5 z

abbrev c3 : Cert → List ℕ
c3 z = opening_text (opening_of z.claim) ++ c4 z

abbrev c2 : Cert → List ℕ
c2 z = line (codes "shape") (map decimal z.shape) ++ c3 z

abbrev c1 : Cert → List ℕ
c1 z = (codes "kind " ++ kind_spelling (kind_in z)) ++ c2 z

abbrev q7 : List ℕ → List Split → List NodeProof → Claimed → At → Result (Cert × At) ℕ
q7 sh ss ps cl a = word_at (codes "end\n") a >>= λ e. Ok (made sh ss ps cl, e.1)

abbrev q6 : List ℕ → Opened → List Split → List NodeProof → At → Result (Cert × At) ℕ
q6 sh o ss ps a = claim_at o a >>= λ cl. q7 sh ss ps cl.0 cl.1

abbrev q5 : List ℕ → Opened → List Split → At → Result (Cert × At) ℕ
q5 sh o ss a = proofs_at a >>= λ ps. q6 sh o ss ps.0 ps.1

abbrev q4 : List ℕ → Opened → At → Result (Cert × At) ℕ
q4 sh o a = splits_at a >>= λ ss. q5 sh o ss.0 ss.1

abbrev q3 : Kind → List ℕ → At → Result (Cert × At) ℕ
q3 k sh a = opened_at k sh a >>= λ o. q4 sh o.0 o.1

abbrev q2 : Kind → At → Result (Cert × At) ℕ
q2 k a = shape_at a >>= λ sh. q3 k sh.0 sh.1

abbrev q1 : At → Result (Cert × At) ℕ
q1 a = kind_at a >>= λ k. q2 k.0 k.1

creads6 : (sh : List ℕ) (o : Opened) (ss : List Split) (ps : List NodeProof) → Reads Cert (C6 sh o ss ps) c6 (q6 sh o ss ps)
creads6 sh o ss ps = bind_reads Claimed Cert (IsClaim o) number_lines (claim_at o) (λ cl z. z ≡ made sh ss ps cl) (λ _ _. codes "end\n" ++ []) (λ cl a. q7 sh ss ps cl a) (λ z. z.claim) (claim_reads o)
    (λ cl i. word_then (codes "end\n") refl (done_reads Cert (made sh ss ps cl))) (λ cl z e. ap (λ (y : Cert). y.claim) e)

creads5 : (sh : List ℕ) (o : Opened) (ss : List Split) → Reads Cert (C5 sh o ss) c5 (q5 sh o ss)
creads5 sh o ss = bind_reads (List NodeProof) Cert (AreLines IsCounted) proof_lines proofs_at (λ ps z. C6 sh o ss ps z) (λ _ z. c6 z) (λ ps a. q6 sh o ss ps a) (λ z. z.proofs) proofs_reads
    (λ ps i. creads6 sh o ss ps) (λ ps z i. ap (λ (y : Cert). y.proofs) i.1)

creads4 : (sh : List ℕ) (o : Opened) → Reads Cert (C4 sh o) c4 (q4 sh o)
creads4 sh o = bind_reads (List Split) Cert (AreLines IsSplitInRange) split_lines splits_at (λ ss z. C5 sh o ss z) (λ _ z. c5 z) (λ ss a. q5 sh o ss a) (λ z. z.splits) splits_reads
    (λ ss i. creads5 sh o ss) (λ ss z i. ap (λ (y : Cert). y.splits) i.1.1)

creads3 : (k : Kind) (sh : List ℕ) → Reads Cert (C3 k sh) c3 (q3 k sh)
creads3 k sh = bind_reads Opened Cert (IsOpening k sh) opening_text (opened_at k sh) (λ o z. C4 sh o z) (λ _ z. c4 z) (λ o a. q4 sh o a) (λ z. opening_of z.claim) (opening_reads k sh)
    (λ o i. creads4 sh o) (λ o z i. claim_opening o z.claim i.1.1.0)

creads2 : (k : Kind) → Reads Cert (C2 k) c2 (q2 k)
creads2 k = bind_reads (List ℕ) Cert (AreItems (below 32) 7) (λ ws. line (codes "shape") (map decimal ws)) shape_at (λ sh z. C3 k sh z) (λ _ z. c3 z) (λ sh a. q3 k sh a) (λ z. z.shape) shape_reads
    (λ sh i. creads3 k sh) (λ sh z i. ap (λ (y : Cert). y.shape) i.1.1.1.1)

creads1 : Reads Cert C1 c1 q1
unfolding kind_in
creads1 = bind_reads Kind Cert Any (λ k. codes "kind " ++ kind_spelling k) kind_at (λ k z. C2 k z) (λ k z. c2 z) (λ k a. q2 k a) kind_in kind_reads
    (λ k i. creads2 k) (λ k z i. opening_is k z.shape (opening_of z.claim) i.1.0)

-- proofs in range of counts of 32 bits
counted : (ps : List NodeProof) → All IsProofInRange ps → All (λ p. length p.proof.parts < 2 ^ 32) ps → All IsCounted ps
counted ps h g k d lt = record { range = h k d lt; count = g k d lt }

pub cert_reads : Reads Cert IsCert text_of cert_at
unfolding cert_at kind_in opening_of opening_kind plan_in cost_of base_of bound_of gap_of
cert_reads = reworded Cert C1 IsCert (λ z. codes "poolcert 1\n" ++ c1 z) text_of cert_at (word_then (codes "poolcert 1\n") refl creads1) to from same
  where
    all32 : (ws : List ℕ) → All (below 32) ws → All (λ n. n < 2 ^ 32) ws
    all32 ws h = h

    fits_to : (sh : List ℕ) (cl : Claimed) → IsOpening (opening_kind (opening_of cl)) sh (opening_of cl) → ClaimFits sh cl
    fits_to sh (with_gap w c b d g) p = record { feeds = p.0.1.1.0.0; outs = p.0.1.1.1.0.0; directs = p.0.1.1.1.1.0.0 }
    fits_to sh (with_bound d) p = tt
    fits_to sh no_plan p = tt

    range_to : (sh : List ℕ) (cl : Claimed) → IsOpening (opening_kind (opening_of cl)) sh (opening_of cl) → IsClaim (opening_of cl) cl → IsClaimInRange cl
    range_to sh (with_gap w c b d g) p h = (
      record {
        base = p.0.0;
        flow_base = p.0.1.0;
        weights = All-from_recursion (below 32) w.weights p.0.1.1.0.1;
        outflows = All-from_recursion (below 64) w.outflows p.0.1.1.1.0.1;
        direct = All-from_recursion (below 64) w.direct p.0.1.1.1.1.0.1;
      },
      h.1,
      h.2,
      h.3,
      h.4,
    )
    range_to sh (with_bound d) p h = h.0
    range_to sh no_plan p h = tt

    to : (z : Cert) → C1 z → IsCert z
    to z h =
        let ps : All IsCounted z.proofs = All-from_recursion IsCounted z.proofs h.1.1.1.1.0.1.1 in
        record {
          shaped = record { claim = fits_to z.shape z.claim h.1.1.0; splits = h.1.1.1.0.0; proofs = h.1.1.1.1.0.0; parts = λ k d lt. (ps k d lt).count };
          seven = h.1.0.0;
          counts = All-from_recursion (below 32) z.shape h.1.0.1;
          claim = range_to z.shape z.claim h.1.1.0 h.1.1.1.1.1.0;
          splits = All-from_recursion IsSplitInRange z.splits h.1.1.1.0.1.1;
          proofs = λ k d lt. (ps k d lt).range;
        }

    opening_from : (sh : List ℕ) (cl : Claimed) → ClaimFits sh cl → IsClaimInRange cl → IsOpening (opening_kind (opening_of cl)) sh (opening_of cl)
    opening_from sh (with_gap w c b d g) f h = (
      (
        h.0.base,
        (
          h.0.flow_base,
          (
            (f.feeds, recursion_from_All (below 32) w.weights h.0.weights),
            ((f.outs, recursion_from_All (below 64) w.outflows h.0.outflows), ((f.directs, recursion_from_All (below 64) w.direct h.0.direct), refl)),
          ),
        ),
      ),
      refl,
    )
    opening_from sh (with_bound d) f h = refl
    opening_from sh no_plan f h = refl

    claim_from : (cl : Claimed) → IsClaimInRange cl → IsClaim (opening_of cl) cl
    claim_from (with_gap w c b d g) h = (refl, h.1, h.2, h.3, h.4)
    claim_from (with_bound d) h = (h, refl)
    claim_from no_plan h = refl

    from : (z : Cert) → IsCert z → C1 z
    from z h = (
      tt,
      (
        (h.seven, recursion_from_All (below 32) z.shape h.counts),
        (
          opening_from z.shape z.claim h.shaped.claim h.claim,
          (
            (h.shaped.splits, (refl, recursion_from_All IsSplitInRange z.splits h.splits)),
            ((h.shaped.proofs, (refl, recursion_from_All IsCounted z.proofs (counted z.proofs h.proofs h.shaped.parts))), (claim_from z.claim h.claim, refl)),
          ),
        ),
      ),
    )

    kind_same : (cl : Claimed) → codes "kind " ++ kind_spelling (opening_kind (opening_of cl)) ≡ line (codes "kind") (kind_of cl ∷ [])
    kind_same (with_gap w c b d g) = refl
    kind_same (with_bound d) = refl
    kind_same no_plan = refl

    plan_same : (cl : Claimed) → opening_text (opening_of cl) ≡ claimed_plan_lines cl
    plan_same (with_gap w c b d g) = refl
    plan_same (with_bound d) = refl
    plan_same no_plan = refl

    same : (z : Cert) → IsCert z → codes "poolcert 1\n" ++ c1 z ≡ text_of z
    same z h =
        let shape : List ℕ = line (codes "shape") (map decimal z.shape) in
        ap (λ (w : List ℕ). codes "poolcert 1\n" ++ (w ++ c2 z)) (kind_same z.claim)
        ∙ ap (λ (w : List ℕ). codes "poolcert 1\n" ++ (line (codes "kind") (kind_of z.claim ∷ []) ++ (shape ++ (w ++ rest_lines z)))) (plan_same z.claim)
        ∙ ap (λ (w : List ℕ). codes "poolcert 1\n" ++ w) (sym (append_assoc (line (codes "kind") (kind_of z.claim ∷ [])) shape (claimed_plan_lines z.claim ++ rest_lines z)))
