-- What the first items of a certificate show of all of it: the causes to refuse it that lie in them.
use Rattle.std.proofs.Common.{◌≡◌, ◌≢◌, ℕ, suc, ◌+◌, ◌<◌, inl, inr, List, [], ◌∷◌, ◌++◌, length, refl, sym, ap, subst, ◌∙◌, append_assoc, length-append, arith}
use Rattle.std.specs.Prelude.{map}
use Rattle.std.specs.List.{flat_map}
use Rattle.std.proofs.lemmas.List.{get_or_append_left}
use Rattle.std.proofs.Math.Seq.{take-append_seam, get_or-append_seam}
use Rattle.pool_model.specs.Network.{Net, counts_of}
use Rattle.pool_model.specs.Plan.{Written}
use Rattle.pool_model.specs.Claim.{Claimed, with_gap, with_bound, no_plan}
use Rattle.row_model.specs.Trees.{Split, nodes, IsSplitInOrder}
use Rattle.plan_core.specs.Faults as plans
use Rattle.split_tree.specs.Splits.{Splits, IsOf}
use Rattle.cert_format.specs.Cert.{Cert, NodeProof, FitsShape, IsCert}
use Rattle.cert_format.specs.declared.reading.Kind.{Kind}
use Rattle.cert_format.specs.Valid.{no_proof}
use Rattle.cert_stream.specs.Items.{Field, kind, shape, splits, cut, proofs, head, proof_items, items_of}
use Rattle.proof_lines.specs.declared.refusal.Refusal.{Refusal}
use Rattle.proof_lines.specs.declared.refusal.Refusal.TheVariants.{Shape, Split as SplitAt, ProofPlace, Proof as ProofOf, Memory}
use Rattle.cert_checker.specs.declared.opening.Opening.{Opening}
use Rattle.cert_checker.specs.declared.opening.Opening.TheVariants as openings
use Rattle.proof_lines.specs.Refusals.{node_at, IsPlaced, HasPlanFault, IsFirstRefusal}
use Rattle.proof_lines.specs.Trees.{AreSplits, IsFirstSplit, IsFirstPlace, IsTreeRefusal}
use Rattle.cert_checker.specs.Claims.{IsClaimCost}
use Rattle.proof_lines.specs.Parts.{IsWrongLine, IsUnproved, IsWrongLineList}
use Rattle.cert_checker.specs.Parts.{opening_kind, opening_items, opening_cost, IsPlanned, IsClaimOf, IsWrongPlan, IsWrongSplitList, IsRefusedFront}
use Rattle.cert_checker.proofs.Order.{shape-refused, plan-refused, tree-refused}
use Rattle.cert_checker.proofs.Within.{order-within}
use Rattle.proof_lines.proofs.Outcomes.{splits-of, proof-tree}
use Rattle.cert_checker.proofs.Fields.{lines-front, lines-same, line-head}
use Rattle.cert_checker.proofs.Openings.{behind_plan, behind_lines, begins-kind, begins-plan, begins-opening, begins-splits, all-splits, begins-lines}

-- ---- fronts of lists

-- a split is in order in a front as it is in the whole
pub order-front : (n : Net) (front rest : List Split) (t : ℕ) → t < length front → IsSplitInOrder n (front ++ rest) t ≡ IsSplitInOrder n front t
order-front n front rest t h =
    sym (order-within n (front ++ rest) (length front) t h) ∙ ap (λ (l : List Split). IsSplitInOrder n l t) (take-append_seam front rest)

-- the first wrong split of a front is that of the whole
pub split-front : (n : Net) (front rest : List Split) (t : ℕ) → IsFirstSplit n front t → IsFirstSplit n (front ++ rest) t
split-front n front rest t is =
    let same = order-front n front rest in
    record {
      wrong = record {
        there = omega (arith, is.wrong.there, length-append front rest);
        wrong = elim is.wrong.wrong [ inl e ↦ inl e | inr w ↦ inr (λ order. w (subst (λ (T : Type 0). T) (same t is.wrong.there) order)) ];
      };
      few = is.few;
      before = λ i lt. subst (λ (T : Type 0). T) (sym (same i (let h = is.wrong.there in omega arith))) (is.before i lt);
    }

node-front : (lines rest : List NodeProof) (j : ℕ) → j < length lines → node_at (lines ++ rest) j ≡ node_at lines j
node-front lines rest j h = ap (λ (p : NodeProof). p.node) (get_or_append_left lines rest no_proof j h)

placed-front : (count : ℕ) (lines rest : List NodeProof) (j : ℕ) → j < length lines → IsPlaced count lines j → IsPlaced count (lines ++ rest) j
placed-front count lines rest j h is = record {
  known = subst (λ (m : ℕ). m < count) (sym (node-front lines rest j h)) is.known;
  above = λ i e. subst (λ (m : ℕ). node_at (lines ++ rest) i < m) (sym (node-front lines rest j h))
      (subst (λ (m : ℕ). m < node_at lines j) (sym (node-front lines rest i (omega arith))) (is.above i e));
}

-- lines in their places, and one behind them that is not
pub place-front : (count node : ℕ) (lines rest : List NodeProof) (p : NodeProof) → p.node ≡ node → ((j : ℕ) → j < length lines → IsPlaced count lines j)
    → ¬ ((node < count) × ((j : ℕ) → j + 1 ≡ length lines → node_at lines j < node)) → IsFirstPlace count (lines ++ p ∷ rest) (length lines)
place-front count node lines rest p at placed wrong =
    let here : node_at (lines ++ p ∷ rest) (length lines) ≡ node = ap (λ (q : NodeProof). q.node) (get_or-append_seam lines p rest no_proof) ∙ at in
    record {
      wrong = record {
        there = let more : length (p ∷ rest) ≡ suc (length rest) = refl in omega (arith, length-append lines (p ∷ rest), more);
        wrong = λ is. wrong (
          subst (λ (m : ℕ). m < count) here is.known,
          λ j e. subst (λ (m : ℕ). m < node) (node-front lines (p ∷ rest) j (omega arith)) (subst (λ (m : ℕ). node_at (lines ++ p ∷ rest) j < m) here (is.above j e)),
        );
      };
      before = λ j lt. placed-front count lines (p ∷ rest) j lt (placed j lt);
    }

-- ---- refusals

pub shape-front : (n : Net) (k : Kind) (sh : List ℕ) → sh ≢ counts_of n → IsRefusedFront n (kind k ∷ shape sh ∷ []) Shape
shape-front n k sh other c more is e =
    let b = begins-kind c k sh more e in
    shape-refused n c (λ same. other (sym b.1 ∙ same))

-- the plan of the claim breaks the rule
pub plan-front : (n : Net) (k : Kind) (items : List Field) (r : Refusal) → IsWrongPlan n k items r → IsRefusedFront n (kind k ∷ shape (counts_of n) ∷ items) r
plan-front n k items r w c more is e =
    let b = begins-kind c k (counts_of n) (items ++ more) e in
    let gap = b.0 ∙ w.kind_is in
    let p = begins-plan c w.plan more is gap (subst (λ (s : List ℕ). FitsShape s w.plan) (sym b.1) w.fits) (b.2 ∙ ap (λ (l : List Field). l ++ more) w.items_are) in
    plan-refused n c r b.1 record { fault = w.fault; is = w.is; has = subst (λ (x : Claimed). HasPlanFault n x w.fault) (sym p.4) w.first }

-- what a plan costs is what the claim's costs
pub claim-cost : (n : Net) (o : Opening) (claim : Claimed) → IsPlanned n o → IsClaimOf o claim → IsClaimCost n claim (opening_cost o)
claim-cost n (openings.Gap plan cost) (with_gap written num base bound gap) planned is = subst (λ (w : Written). plans.IsCostOf n w cost) (sym is) planned.1
claim-cost n openings.Bound (with_bound bound) planned is = refl
claim-cost n openings.NoPlan no_plan planned is = refl
claim-cost n _ _ planned is = absurd is

module _ (n : Net) (o : Opening) (planned : IsPlanned n o) where
  -- the items up to the plan
  abbrev Front : List Field → List Field
  Front more = kind (opening_kind o) ∷ shape (counts_of n) ∷ (opening_items o ++ more)

  opened : (c : Cert) (more : List Field) → IsCert c → items_of c ≡ Front more → (c.shape ≡ counts_of n) × IsClaimCost n c.claim (opening_cost o) × (behind_plan c ≡ more)
  opened c more is e =
      let b = begins-kind c (opening_kind o) (counts_of n) (opening_items o ++ more) e in
      let p = begins-opening n c o more is b.0 b.1 planned b.2 in
      (b.1, claim-cost n o c.claim planned p.0, p.1)

  pub split-refused : (items more : List Field) (r : Refusal) (c : Cert) → IsWrongSplitList n items r → IsCert c → items_of c ≡ Front (items ++ more) → IsFirstRefusal n c r
  split-refused items more r c w is e =
      let a = opened c (items ++ more) is e in
      let b = begins-splits c w.count w.front more w.few (a.2 ∙ ap (λ (l : List Field). l ++ more) w.items_are) in
      let first = subst (λ (l : List Split). IsFirstSplit n l w.number) (sym b.1) (split-front n w.front b.0 w.number w.first) in
      subst (IsFirstRefusal n c) (sym w.is) (tree-refused n c (opening_cost o) (SplitAt w.number) a.0 a.1 first (λ x. cc))

  module _ (tree : Splits) (of : IsOf n tree) (count : ℕ) where
    -- the items up to the proof lines
    abbrev Lines : List Field → List Field
    Lines more = Front (splits (length tree.list) ∷ (map cut tree.list ++ proofs count ∷ more))

    listed : (c : Cert) (more : List Field) → IsCert c → items_of c ≡ Lines more
        → (c.shape ≡ counts_of n) × IsClaimCost n c.claim (opening_cost o) × (c.splits ≡ tree.list) × (length c.proofs ≡ count) × (flat_map proof_items c.proofs ++ behind_lines c ≡ more)
    listed c more is e =
        let a = opened c (splits (length tree.list) ∷ (map cut tree.list ++ proofs count ∷ more)) is e in
        let b = all-splits c tree.list (proofs count ∷ more) a.2 in
        let d = begins-lines c count more b.1 in
        (a.0, a.1, b.0, d.0, d.1)

    place-refused : (items more : List Field) (k : ℕ) (c : Cert) → IsWrongLine tree.list count items k → IsCert c → items_of c ≡ Lines (items ++ more) → IsFirstRefusal n c (ProofPlace k)
    place-refused items more k c w is e =
        let a = listed c (items ++ more) is e in
        let f = lines-front c.proofs w.lines (behind_lines c) (head w.node w.scale w.parts ∷ more) (let t = w.there in omega (arith, t, w.long, a.3))
        (a.4 ∙ ap (λ (l : List Field). l ++ more) w.items_are ∙ append_assoc (flat_map proof_items w.lines) (head w.node w.scale w.parts ∷ []) more) in
        let long : 0 < length f.0 = let t = w.there in omega (arith, t, w.long, a.3, ap length f.1, length-append w.lines f.0) in
        let h = line-head f.0 w.node w.scale w.parts (behind_lines c) more long f.2 in
        let placed : (j : ℕ) → j < length w.lines → IsPlaced (nodes tree.list) w.lines j = λ j lt. w.placed j (omega (arith, lt, w.long)) in
        let wrong : ¬ ((w.node < nodes tree.list) × ((j : ℕ) → j + 1 ≡ length w.lines → node_at w.lines j < w.node)) = λ x. w.wrong (x.0, λ j at. x.1 j (at ∙ sym w.long)) in
        let first = place-front (nodes tree.list) w.node w.lines h.1 h.0 h.3 placed wrong in
        let at : IsFirstPlace (nodes c.splits) c.proofs k = subst (λ (m : ℕ). IsFirstPlace (nodes c.splits) c.proofs m) w.long
        (subst (λ (l : List NodeProof). IsFirstPlace (nodes c.splits) l (length w.lines)) (sym (f.1 ∙ ap (λ (l : List NodeProof). w.lines ++ l) h.2))
        (subst (λ (l : List Split). IsFirstPlace (nodes l) (w.lines ++ h.0 ∷ h.1) (length w.lines)) (sym a.2) first)) in
        tree-refused n c (opening_cost o) (ProofPlace k) a.0 a.1 (subst (AreSplits n) (sym a.2) (splits-of n tree of), at) (λ x. cc)

    proof-refused : (items more : List Field) (r : Refusal) (c : Cert) → IsUnproved n tree.list count items r → r ≢ Memory → IsCert c → items_of c ≡ Lines (items ++ more) → IsFirstRefusal n c r
    proof-refused items more r c w other is e =
        let a = listed c (items ++ more) is e in
        let f = lines-same c.proofs w.lines (behind_lines c) more (a.3 ∙ sym w.long) (a.4 ∙ ap (λ (l : List Field). l ++ more) w.items_are) in
        let first = proof-tree n tree.list w.lines r (splits-of n tree of) w.placed w.wrong in
        tree-refused n c (opening_cost o) r a.0 a.1
        (subst (λ (l : List NodeProof). IsTreeRefusal n c.splits l r) (sym f.0) (subst (λ (l : List Split). IsTreeRefusal n l w.lines r) (sym a.2) first)) other

    pub line-refused : (items more : List Field) (r : Refusal) (c : Cert) → IsWrongLineList n tree.list count items r → IsCert c → items_of c ≡ Lines (items ++ more) → IsFirstRefusal n c r
    line-refused items more (ProofPlace k) c w is e = place-refused items more k c w is e
    line-refused items more (ProofOf node fault) c w is e = proof-refused items more (ProofOf node fault) c w (λ x. cc) is e
    line-refused items more _ c w is e = absurd w
