-- Nodes that are judged as no proof stands on them, and one that has a proof.
use Rattle.std.proofs.Common.{◌≡◌, ◌≢◌, ℕ, ◌+◌, ◌-◌, ◌/◌, ◌<◌, ◌≤◌, List, [], ◌∷◌, length, get_or, Option, None, Some, option_map, ℤ, length-append, refl, sym, ap, subst, ◌∙◌, arith}
use Rattle.std.proofs.lemmas.Option.{none-some, same_Some}
use Rattle.pool_model.specs.Network.{Net}
use Rattle.pool_model.specs.Starting.{reach_bound}
use Rattle.row_model.specs.Multipliers.{Proof, IsInOrder, Shown, shown_by}
use Rattle.row_model.specs.Trees.{Split, nodes, split_at, box_of, raised}
use Rattle.row_book.specs.Fitting.{Fits}
use Rattle.row_book.specs.Views.{shown_value}
use Rattle.row_book.specs.declared.shown.Shown as values
use Rattle.split_tree.specs.Splits.{Splits, IsOf}
use Rattle.cert_format.specs.Cert.{NodeProof}
use Rattle.cert_format.specs.Valid.{proof_of, no_proof, IsRising}
use Rattle.proof_lines.specs.declared.judge.Judge.{Judge}
use Rattle.proof_lines.specs.Judging.{AreJudged, IsNext}
use Rattle.proof_lines.specs.declared.line_judge.LineJudge.{LineJudge}
use Rattle.proof_lines.specs.declared.refusal.Refusal.{Refusal}
use Rattle.row_book.specs.declared.fault.ProofFault.{ProofFault}
use Rattle.proof_lines.specs.Lines.{IsAdded, IsKept, IsNextLine, IsFaultIn}
use Rattle.proof_lines.specs.Refusals.{node_at}
use Rattle.proof_lines.specs.Trees.{IsProofRefusal, tree_with}
use Rattle.proof_lines.proofs.Lines.{next-unnamed, unnamed-none, next-named, named-some}
use Rattle.proof_lines.proofs.Raising.{judged-next}

-- a node that no line names
pub goes-on : (n : Net) (t : Splits) (all : List NodeProof) (node : ℕ) (reach : ℤ) (before after : Judge) → IsOf n t → node < nodes t.list → reach ≡ reach_bound n
    → IsRising all → AreJudged n t.list all node before
    → (before.next < length all → node < node_at all before.next) → IsAdded t.list reach None before after → after.next ≡ before.next → after.scratch ≡ before.scratch
    → AreJudged n t.list all (node + 1) after
goes-on n t all node reach before after is there r rising judged above added next scratch =
    let other : before.next < length all → node_at all before.next ≢ node = λ lt e. let up = above lt in absurd (omega (arith, e, up)) in
    let none = unnamed-none all node before.next rising judged.next other in
    judged-next n t all node before after added.above None is there judged
    (λ e. added.root (judged.long ∙ e) ∙ ap (λ (z : ℤ). Some z) r)
    (λ some. added.child (subst (λ (i : ℕ). 0 < i) (sym judged.long) some) ∙ ap (λ (i : ℕ). get_or before.bounds.items (split_at t.list ((i - 1) / 2)).leaf None) judged.long)
    (sym (ap (option_map (shown_by n (box_of n t.list node))) none))
    (λ proof has. absurd (none-some proof (sym none ∙ has)))
    added.longer
    (subst (λ (i : ℕ). IsNext all (node + 1) i) (sym next) (next-unnamed all node before.next rising judged.next other))
    (subst (Fits n) (sym scratch) judged.fits)

-- a node that the next line names, with what its proof shows
pub takes-line : (n : Net) (t : Splits) (all : List NodeProof) (node : ℕ) (reach : ℤ) (before after : Judge) (proof : Proof) (shown : values.Shown) → IsOf n t
    → node < nodes t.list → reach ≡ reach_bound n → IsRising all
    → AreJudged n t.list all node before → before.next < length all → get_or all before.next no_proof ≡ record { node = node; proof = proof }
    → IsInOrder n (box_of n t.list node) proof → shown_value shown ≡ shown_by n (box_of n t.list node) proof
    → IsAdded t.list reach (Some shown) before after → after.next ≡ before.next + 1 → Fits n after.scratch → AreJudged n t.list all (node + 1) after
takes-line n t all node reach before after proof shown is there r rising judged lt line order value added next fits =
    let at : node_at all before.next ≡ node = ap (λ (p : NodeProof). p.node) line in
    let has : proof_of all node ≡ Some proof = named-some all node before.next rising lt at ∙ ap (λ (p : NodeProof). Some p.proof) line in
    judged-next n t all node before after added.above (Some (shown_value shown)) is there judged
    (λ e. added.root (judged.long ∙ e) ∙ ap (λ (z : ℤ). Some z) r)
    (λ some. added.child (subst (λ (i : ℕ). 0 < i) (sym judged.long) some) ∙ ap (λ (i : ℕ). get_or before.bounds.items (split_at t.list ((i - 1) / 2)).leaf None) judged.long)
    (ap (λ (z : Shown). Some z) value ∙ sym (ap (option_map (shown_by n (box_of n t.list node))) has))
    (λ q e. subst (IsInOrder n (box_of n t.list node)) (same_Some proof q (sym has ∙ e)) order)
    added.longer
    (subst (λ (i : ℕ). IsNext all (node + 1) i) (sym next) (next-named all node before.next rising judged.next lt at))
    fits

-- there is a bound more
pub added-long : (list : List Split) (reach : ℤ) (shown : Option values.Shown) (before after : Judge) → IsAdded list reach shown before after
    → length after.bounds.items ≡ length before.bounds.items + 1
added-long list reach shown before after added =
    let one : length (raised added.above (option_map shown_value shown) ∷ []) ≡ 1 = refl in
    ap length added.longer ∙ omega (arith, one, length-append before.bounds.items (raised added.above (option_map shown_value shown) ∷ []))

-- ---- a line that is read

module _ (n : Net) (t : Splits) (node : ℕ) (reach : ℤ) (excess : Option ProofFault) (before : LineJudge) (gone : Judge) (all : List NodeProof) (is : IsOf n t)
    (there : node < nodes t.list) (r : reach ≡ reach_bound n) where
  -- the judge has gone on to the node of the next line
  abbrev HasGone : Type 0
  HasGone = (IsRising all → AreJudged n t.list all (length before.judge.bounds.items) before.judge → (before.judge.next < length all → node ≤ node_at all before.judge.next)
      → AreJudged n t.list all node gone)

  gone-so : HasGone → IsNextLine n t.list node excess before all → AreJudged n t.list all node gone
  gone-so has next = has next.rising next.judged (λ lt. let at : node_at all before.judge.next ≡ node = ap (λ (p : NodeProof). p.node) next.line in omega (arith, at))

  pub line-taken : (shown : values.Shown) (seen mid after : Judge) → HasGone → gone.next ≡ before.judge.next → (next : IsNextLine n t.list node excess before all)
      → ((proof : Proof) → IsKept n proof before.proof excess → IsInOrder n (box_of n t.list node) proof × (shown_value shown ≡ shown_by n (box_of n t.list node) proof))
      → seen.bounds ≡ gone.bounds → seen.next ≡ gone.next → Fits n seen.scratch → IsAdded t.list reach (Some shown) seen mid → after.bounds ≡ mid.bounds
      → after.next ≡ seen.next + 1 → Fits n after.scratch → AreJudged n t.list all (node + 1) after
  line-taken shown seen mid after has kept_next next value bounds seen_next seen_fits added after_bounds after_next fits =
      let judged = gone-so has next in
      let here : AreJudged n t.list all node seen = record {
        long = ap (λ v. length v.items) bounds ∙ judged.long;
        bounds = λ m h. ap (λ v. get_or v.items m None) bounds ∙ judged.bounds m h;
        proved = judged.proved;
        next = subst (λ (i : ℕ). IsNext all node i) (sym seen_next) judged.next;
        fits = seen_fits;
      } in
      let at : seen.next ≡ before.judge.next = seen_next ∙ kept_next in
      let v = value next.proof next.kept in
      takes-line n t all node reach seen after next.proof shown is there r next.rising here
      (subst (λ (i : ℕ). i < length all) (sym at) next.there) (ap (λ (i : ℕ). get_or all i no_proof) at ∙ next.line) v.0 v.1
      record { above = added.above; root = added.root; child = added.child; longer = ap (λ v. v.items) after_bounds ∙ added.longer } after_next fits

  pub line-faulty : (refusal : Refusal) → HasGone → (next : IsNextLine n t.list node excess before all)
      → ((proof : Proof) → IsKept n proof before.proof excess → IsFaultIn n (box_of n t.list node) node proof refusal)
      → IsProofRefusal n (tree_with t.list all) refusal
  line-faulty refusal has next fault =
      let f = fault next.proof next.kept in
      let at : node_at all before.judge.next ≡ node = ap (λ (p : NodeProof). p.node) next.line in
      let named : proof_of all node ≡ Some next.proof = named-some all node before.judge.next next.rising next.there at ∙ ap (λ (p : NodeProof). Some p.proof) next.line in
      subst (IsProofRefusal n (tree_with t.list all)) (sym f.is) (record { proof = next.proof; has = named; first = f.first }, (gone-so has next).proved)
