-- What a certificate is whose items begin as those that were read.
use Rattle.std.proofs.Common.{◌≡◌, ℕ, ◌≤◌, List, [], ◌∷◌, ◌++◌, length, ℤ, refl, sym, ap, subst, ◌∙◌, append_assoc, arith}
use Rattle.std.specs.Prelude.{map}
use Rattle.std.specs.List.{flat_map}
use Rattle.pool_model.specs.Network.{Net, counts_of}
use Rattle.pool_model.specs.Plan.{Written}
use Rattle.pool_model.specs.Claim.{Claimed, with_gap, with_bound, no_plan}
use Rattle.row_model.specs.Trees.{Split}
use Rattle.plan_core.specs.Views.{shown_plan}
use Rattle.cert_format.specs.Cert.{Cert, FitsShape, ClaimFits, IsCert}
use Rattle.cert_format.specs.declared.reading.Kind.{Kind}
use Rattle.cert_format.specs.declared.reading.Kind.TheVariants as kinds
use Rattle.cert_stream.specs.Items.{Field, kind, shape, weight, outflow, direct, splits, cut, proofs, end_is, claimed_kind, plan_items}
use Rattle.cert_stream.specs.Items.{claimed_plan_items, proof_items, claim_items, items_of}
use Rattle.cert_checker.specs.declared.opening.Opening.{Opening}
use Rattle.cert_checker.specs.declared.opening.Opening.TheVariants as openings
use Rattle.cert_checker.specs.Parts.{opening_kind, opening_items, IsPlanned, IsClaimOf}
use Rattle.cert_checker.proofs.Fields.{fields-front, fields-same, lines-same}

-- ---- the items of a certificate, from a part on

abbrev pub behind_lines : Cert → List Field
behind_lines c = claim_items c.claim ++ end_is ∷ []

abbrev pub behind_splits : Cert → List Field
behind_splits c = proofs (length c.proofs) ∷ (flat_map proof_items c.proofs ++ behind_lines c)

abbrev pub behind_plan : Cert → List Field
behind_plan c = splits (length c.splits) ∷ (map cut c.splits ++ behind_splits c)

-- ---- the kind and the shape

pub begins-kind : (c : Cert) (k : Kind) (sh : List ℕ) (more : List Field) → items_of c ≡ kind k ∷ shape sh ∷ more → (claimed_kind c.claim ≡ k) × (c.shape ≡ sh)
    × (claimed_plan_items c.claim ++ behind_plan c ≡ more)
begins-kind c k sh more e = (cc, cc, cc)

-- ---- the plan

weight_is : (x y : ℕ) → weight x ≡ weight y → x ≡ y
weight_is x y e = cc

outflow_is : (x y : ℕ) → outflow x ≡ outflow y → x ≡ y
outflow_is x y e = cc

direct_is : (x y : ℕ) → direct x ≡ direct y → x ≡ y
direct_is x y e = cc

pub plan-same : (counts : List ℕ) (p q : Written) (us vs : List Field) → FitsShape counts p → FitsShape counts q → plan_items p ++ us ≡ plan_items q ++ vs → (p ≡ q) × (us ≡ vs)
plan-same counts p q us vs fp fq e =
    let base : p.base ≡ q.base = cc in
    let flow_base : p.flow_base ≡ q.flow_base = cc in
    let rest : (map weight p.weights ++ (map outflow p.outflows ++ map direct p.direct)) ++ us ≡ (map weight q.weights ++ (map outflow q.outflows ++ map direct q.direct)) ++ vs = cc in
    let ws = fields-same weight weight_is p.weights q.weights ((map outflow p.outflows ++ map direct p.direct) ++ us) ((map outflow q.outflows ++ map direct q.direct) ++ vs) (fp.feeds ∙ sym fq.feeds)
    (sym (append_assoc (map weight p.weights) (map outflow p.outflows ++ map direct p.direct) us) ∙ rest ∙ append_assoc (map weight q.weights) (map outflow q.outflows ++ map direct q.direct) vs) in
    let os = fields-same outflow outflow_is p.outflows q.outflows (map direct p.direct ++ us) (map direct q.direct ++ vs) (fp.outs ∙ sym fq.outs)
    (sym (append_assoc (map outflow p.outflows) (map direct p.direct) us) ∙ ws.1 ∙ append_assoc (map outflow q.outflows) (map direct q.direct) vs) in
    let ds = fields-same direct direct_is p.direct q.direct us vs (fp.directs ∙ sym fq.directs) os.1 in
    ((λ i. record { base = base i; flow_base = flow_base i; weights = ws.0 i; outflows = os.0 i; direct = ds.0 i }), ds.1)

-- a certificate of this kind and shape whose items go on with a plan claims that plan
pub begins-plan : (c : Cert) (plan : Written) (more : List Field) → IsCert c → claimed_kind c.claim ≡ kinds.Gap → FitsShape c.shape plan
    → claimed_plan_items c.claim ++ behind_plan c ≡ plan_items plan ++ more
    → (num bound gap : ℤ) × (base : ℕ) × (c.claim ≡ with_gap plan num base bound gap) × (behind_plan c ≡ more)
begins-plan c plan more is = by_claim c.claim is.shaped.claim
  where
    by_claim : (claim : Claimed) → ClaimFits c.shape claim → claimed_kind claim ≡ kinds.Gap → FitsShape c.shape plan → claimed_plan_items claim ++ behind_plan c ≡ plan_items plan ++ more
        → (num bound gap : ℤ) × (base : ℕ) × (claim ≡ with_gap plan num base bound gap) × (behind_plan c ≡ more)
    by_claim (with_gap written num base bound gap) fits k f e =
        let s = plan-same c.shape written plan (behind_plan c) more fits f e in
        (num, bound, gap, base, ap (λ (p : Written). with_gap p num base bound gap) s.0, s.1)
    by_claim (with_bound bound) fits k f e = absurd cc
    by_claim no_plan fits k f e = absurd cc

-- the same for what was opened, whatever its kind
pub begins-opening : (n : Net) (c : Cert) (o : Opening) (more : List Field) → IsCert c → claimed_kind c.claim ≡ opening_kind o → c.shape ≡ counts_of n → IsPlanned n o
    → claimed_plan_items c.claim ++ behind_plan c ≡ opening_items o ++ more → IsClaimOf o c.claim × (behind_plan c ≡ more)
begins-opening n c (openings.Gap plan cost) more is k same planned e =
    let b = begins-plan c (shown_plan plan) more is k (subst (λ (s : List ℕ). FitsShape s (shown_plan plan)) (sym same) planned.0) e in
    (subst (IsClaimOf (openings.Gap plan cost)) (sym b.4) refl, b.5)
begins-opening n c openings.Bound more is k same planned e = by_claim c.claim k e
  where
    by_claim : (claim : Claimed) → claimed_kind claim ≡ kinds.Bound → claimed_plan_items claim ++ behind_plan c ≡ more → IsClaimOf openings.Bound claim × (behind_plan c ≡ more)
    by_claim (with_gap written num base bound gap) k e = absurd cc
    by_claim (with_bound bound) k e = (tt, e)
    by_claim no_plan k e = absurd cc
begins-opening n c openings.NoPlan more is k same planned e = by_claim c.claim k e
  where
    by_claim : (claim : Claimed) → claimed_kind claim ≡ kinds.NoPlan → claimed_plan_items claim ++ behind_plan c ≡ more → IsClaimOf openings.NoPlan claim × (behind_plan c ≡ more)
    by_claim (with_gap written num base bound gap) k e = absurd cc
    by_claim (with_bound bound) k e = absurd cc
    by_claim no_plan k e = (tt, e)

-- ---- splits

pub cut_is : (s t : Split) → cut s ≡ cut t → s ≡ t
cut_is s t e = cc

-- the first splits are those of the certificate
pub begins-splits : (c : Cert) (count : ℕ) (front : List Split) (more : List Field) → length front ≤ count → behind_plan c ≡ splits count ∷ (map cut front ++ more)
    → (rest : List Split) × (c.splits ≡ front ++ rest) × (map cut rest ++ behind_splits c ≡ more)
begins-splits c count front more few e =
    let long : length c.splits ≡ count = cc in
    let rest : map cut c.splits ++ behind_splits c ≡ map cut front ++ more = cc in
    fields-front cut cut_is c.splits front (behind_splits c) more (omega (arith, few, long)) rest

-- all splits are those of the certificate
pub all-splits : (c : Cert) (list : List Split) (more : List Field) → behind_plan c ≡ splits (length list) ∷ (map cut list ++ more) → (c.splits ≡ list) × (behind_splits c ≡ more)
all-splits c list more e =
    let long : length c.splits ≡ length list = cc in
    let rest : map cut c.splits ++ behind_splits c ≡ map cut list ++ more = cc in
    fields-same cut cut_is c.splits list (behind_splits c) more long rest

-- ---- proof lines

pub begins-lines : (c : Cert) (count : ℕ) (more : List Field) → behind_splits c ≡ proofs count ∷ more → (length c.proofs ≡ count) × (flat_map proof_items c.proofs ++ behind_lines c ≡ more)
begins-lines c count more e = (cc, cc)

-- ---- the whole

-- a certificate with the items of another, whose plan fits its shape, is that one
claim-same : (counts : List ℕ) (x y : Claimed) (us vs : List Field) → ClaimFits counts x → ClaimFits counts y → claimed_kind x ≡ claimed_kind y
    → claimed_plan_items x ++ us ≡ claimed_plan_items y ++ vs → (claim_items x ≡ claim_items y → x ≡ y) × (us ≡ vs)
claim-same counts (with_gap p num base bound gap) (with_gap q num2 base2 bound2 gap2) us vs fx fy k e =
    let s = plan-same counts p q us vs fx fy e in
    ((λ same. let f : with_gap q num base bound gap ≡ with_gap q num2 base2 bound2 gap2 = cc in ap (λ (w : Written). with_gap w num base bound gap) s.0 ∙ f), s.1)
claim-same counts (with_bound b) (with_bound d) us vs fx fy k e = ((λ same. cc), e)
claim-same counts no_plan no_plan us vs fx fy k e = ((λ same. refl), e)
claim-same counts _ _ us vs fx fy k e = absurd cc

pub items-same : (c d : Cert) → IsCert c → ClaimFits d.shape d.claim → items_of c ≡ items_of d → c ≡ d
items-same c d is fits e =
    let b = begins-kind c (claimed_kind d.claim) d.shape (claimed_plan_items d.claim ++ behind_plan d) e in
    let cl = claim-same c.shape c.claim d.claim (behind_plan c) (behind_plan d) is.shaped.claim (subst (λ (s : List ℕ). ClaimFits s d.claim) (sym b.1) fits) b.0 b.2 in
    let ss = all-splits c d.splits (behind_splits d) cl.1 in
    let pl = begins-lines c (length d.proofs) (flat_map proof_items d.proofs ++ behind_lines d) ss.1 in
    let ps = lines-same c.proofs d.proofs (behind_lines c) (behind_lines d) pl.0 pl.1 in
    let claim : c.claim ≡ d.claim = cl.0 (ends-same (claim_items c.claim) (claim_items d.claim) ps.1) in
    λ i. record { shape = b.1 i; claim = claim i; splits = ss.0 i; proofs = ps.0 i }
  where
    -- the same last item is taken off
    ends-same : (us vs : List Field) → us ++ end_is ∷ [] ≡ vs ++ end_is ∷ [] → us ≡ vs
    ends-same [] [] e = refl
    ends-same [] (b ∷ []) e = absurd cc
    ends-same [] (b ∷ c ∷ vs) e = absurd cc
    ends-same (a ∷ []) [] e = absurd cc
    ends-same (a ∷ c ∷ us) [] e = absurd cc
    ends-same (a ∷ us) (b ∷ vs) e =
        let first : a ≡ b = cc in
        let rest : us ++ end_is ∷ [] ≡ vs ++ end_is ∷ [] = cc in
        ap (λ (x : Field). x ∷ us) first ∙ ap (λ (l : List Field). b ∷ l) (ends-same us vs rest)
