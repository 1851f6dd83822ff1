-- The first cause to refuse a certificate, and that there is none for a valid one.
use Rattle.std.proofs.Common.{◌≡◌, ◌≢◌, ℕ, suc, ◌<◌, inl, inr, List, [], ◌∷◌, Option, None, Some, ℤ, arith, refl, sym, ap, subst, ◌∙◌}
use Rattle.std.proofs.lemmas.Option.{none-some, same_Some}
use Rattle.integers.proofs.Ring.{additive}
use Rattle.faults.specs.First.{IsBelow}
use Rattle.faults.proofs.First.{IsClear, clear-next, first-of, lone-first}
use Rattle.pool_model.specs.Network.{Net, counts_of}
use Rattle.pool_model.specs.Plan.{Written, plan_of}
use Rattle.pool_model.specs.Claim.{Claimed, with_gap, with_bound, no_plan}
use Rattle.pool_model.proofs.ArcCosts.{keeps-by_number}
use Rattle.row_model.specs.Multipliers.{Proof, IsInOrder}
use Rattle.row_model.specs.Trees.{Split, Tree, nodes, box_of, tree_bound}
use Rattle.plan_core.specs.Faults as plans
use Rattle.plan_core.specs.declared.plan.Cost.{Cost}
use Rattle.plan_core.specs.declared.fault.PlanFault.{PlanFault}
use Rattle.plan_core.specs.declared.fault.PlanFault.TheVariants as faults
use Rattle.cert_format.specs.Cert.{Cert, NodeProof}
use Rattle.cert_format.specs.Valid.{tree_of, IsShown, IsValid}
use Rattle.proof_lines.specs.declared.refusal.Refusal.{Refusal}
use Rattle.proof_lines.specs.declared.refusal.Refusal.TheVariants.{Text, Shape, Plan, Split as SplitAt, ProofPlace, Proof as ProofOf, WrongKind, WrongCost, WrongBound, WrongGap, Memory}
use Rattle.proof_lines.specs.Refusals.{HasPlanFault, IsWrongKind, IsWrongCost, IsWrongBound, IsWrongGap, Refuses, number, about, IsFirstRefusal}
use Rattle.proof_lines.specs.Trees.{AreSplits, ArePlaced, AreProved, IsFirstSplit, IsFirstPlace, IsBoundOf, IsTreeRefusal}
use Rattle.cert_checker.specs.Claims.{IsClaimCost, IsPlanRefusal, IsOtherCost, AreClaimed, IsClaimRefusal}
use Rattle.row_book.proofs.AgreedFaults.{no-fault}
use Rattle.proof_lines.proofs.Lines.{all-placed}

-- a certificate gives no cause of this number
abbrev Clears : Net → Cert → ℕ → Type 0
Clears n c s = (r : Refusal) → number r ≡ s → ¬ Refuses n c r

-- a certificate gives no cause before this number
abbrev ClearsTo : Net → Cert → ℕ → Type 0
ClearsTo n c s = IsClear number (Refuses n c) s

one_more : (n : Net) (c : Cert) (s : ℕ) → ClearsTo n c s → Clears n c s → ClearsTo n c (suc s)
one_more n c s before here = clear-next s before here

first_of : (n : Net) (c : Cert) (r : Refusal) → Refuses n c r → ClearsTo n c (number r) → ((e : Refusal) → number e ≡ number r → IsBelow (about e) (about r) → ¬ Refuses n c e) → IsFirstRefusal n c r
first_of n c r is before same = first-of {about = about} r is before same

lone : (n : Net) (c : Cert) (r : Refusal) → about r ≡ [] → Refuses n c r → ClearsTo n c (number r) → IsFirstRefusal n c r
lone n c r e is before = lone-first {about = about} r e is before

below_one : (i t : ℕ) → IsBelow (i ∷ []) (t ∷ []) → i < t
below_one i t (inl h) = h
below_one i t (inr h) = absurd h.1

-- ---- numbers that a certificate clears

clear_text : (n : Net) (c : Cert) → ClearsTo n c 2
clear_text n c = record { none = none }
  where
    none : (r : Refusal) → number r < 2 → ¬ Refuses n c r
    none (Text f) h k = k
    none _ h k = absurd (omega arith)

clear_shape : (n : Net) (c : Cert) → c.shape ≡ counts_of n → Clears n c 2
clear_shape n c same Shape e k = k same
clear_shape n c same _ e k = absurd (omega arith)

clear_plan : (n : Net) (c : Cert) → ((f : PlanFault) → ¬ HasPlanFault n c.claim f) → Clears n c 3
clear_plan n c none (Plan f) e k = none f k
clear_plan n c none _ e k = absurd (omega arith)

clear_splits : (n : Net) (c : Cert) → AreSplits n c.splits → Clears n c 4
clear_splits n c splits (SplitAt t) e k = elim k.wrong [ inl at ↦ absurd (omega (arith, k.there, splits.few)) | inr wrong ↦ wrong (splits.in_order t k.there) ]
clear_splits n c splits _ e k = absurd (omega arith)

clear_places : (n : Net) (c : Cert) → ArePlaced c.splits c.proofs → Clears n c 5
clear_places n c placed (ProofPlace k) e w = w.wrong (all-placed c.splits c.proofs k placed w.there)
clear_places n c placed _ e w = absurd (omega arith)

clear_proofs : (n : Net) (c : Cert) → ((node : ℕ) (proof : Proof) → (tree_of c).proof node ≡ Some proof → IsInOrder n (box_of n c.splits node) proof) → Clears n c 6
clear_proofs n c proofs (ProofOf node f) e w = no-fault n (box_of n c.splits node) w.proof f (proofs node w.proof w.has) w.first.holds
clear_proofs n c proofs _ e w = absurd (omega arith)

clear_kind : (n : Net) (c : Cert) → ¬ IsWrongKind (tree_bound n (tree_of c)) c.claim → Clears n c 7
clear_kind n c right WrongKind e w = right w
clear_kind n c right _ e w = absurd (omega arith)

clear_cost : (n : Net) (c : Cert) → ¬ IsWrongCost n c.claim → Clears n c 8
clear_cost n c right WrongCost e w = right w
clear_cost n c right _ e w = absurd (omega arith)

clear_bound : (n : Net) (c : Cert) → ¬ IsWrongBound (tree_bound n (tree_of c)) c.claim → Clears n c 9
clear_bound n c right WrongBound e w = right w
clear_bound n c right _ e w = absurd (omega arith)

-- ---- a plan with a cost has no fault

-- a plan with a cost breaks no rule
cost_no_fault : (n : Net) (w : Written) (c : Cost) (f : PlanFault) → plans.IsCostOf n w c → ¬ plans.Breaks n w f
cost_no_fault n w c faults.Shape is h = h record {
  base = is.written.base;
  flow_base = is.written.flow_base;
  weights = is.written.weights;
  outflows = is.written.outflows;
  direct = is.written.direct;
}
cost_no_fault n w c (faults.WeightSum l) is h = h.1 (is.written.weight_sums l h.0)
cost_no_fault n w c (faults.SourceOver i) is h = let k = is.obeys.carries.sources i h.0 in absurd (omega (arith, h.1))
cost_no_fault n w c (faults.PoolOver l) is h = let k = is.obeys.carries.pools l h.0 in absurd (omega (arith, h.1))
cost_no_fault n w c (faults.ProductOver j) is h = let k = is.obeys.carries.at_most j h.0 in absurd (omega (arith, h.1))
cost_no_fault n w c (faults.ProductUnder j) is h = let k = is.obeys.carries.at_least j h.0 in absurd (omega (arith, h.1))
cost_no_fault n w c (faults.QualityOver j k) is h = let b = is.obeys.blends.at_most j k h.2.most h.0 h.1 h.2.is in absurd (omega (arith, additive, b, h.2.above))
cost_no_fault n w c (faults.QualityUnder j k) is h = let b = is.obeys.blends.at_least j k h.2.least h.0 h.1 h.2.is in absurd (omega (arith, additive, b, h.2.below))
cost_no_fault n w c (faults.ArcOver a) is h = let k = keeps-by_number n (plan_of n w) is.obeys.carries.arcs a h.1.most h.0 h.1.is in absurd (omega (arith, k, h.1.above))

claim_no_fault : (n : Net) (claim : Claimed) (c : Option Cost) (f : PlanFault) → IsClaimCost n claim c → ¬ HasPlanFault n claim f
claim_no_fault n (with_gap plan cost base bound gap) None f is h = is
claim_no_fault n (with_gap plan cost base bound gap) (Some c) f is h = cost_no_fault n plan c f is h.holds
claim_no_fault n (with_bound bound) c f is h = h
claim_no_fault n no_plan c f is h = h

-- ---- refusals of each part

to_plan : (n : Net) (c : Cert) → c.shape ≡ counts_of n → ClearsTo n c 3
to_plan n c same = one_more n c 2 (clear_text n c) (clear_shape n c same)

pub shape-refused : (n : Net) (c : Cert) → c.shape ≢ counts_of n → IsFirstRefusal n c Shape
shape-refused n c other = lone n c Shape refl other (clear_text n c)

pub plan-refused : (n : Net) (c : Cert) (r : Refusal) → c.shape ≡ counts_of n → IsPlanRefusal n c.claim r → IsFirstRefusal n c r
plan-refused n c r same is = subst (IsFirstRefusal n c) (sym is.is) (lone n c (Plan is.fault) refl is.has (to_plan n c same))

to_splits : (n : Net) (c : Cert) (cost : Option Cost) → c.shape ≡ counts_of n → IsClaimCost n c.claim cost → ClearsTo n c 4
to_splits n c cost same is = one_more n c 3 (to_plan n c same) (clear_plan n c (λ f. claim_no_fault n c.claim cost f is))

to_places : (n : Net) (c : Cert) (cost : Option Cost) → c.shape ≡ counts_of n → IsClaimCost n c.claim cost → AreSplits n c.splits → ClearsTo n c 5
to_places n c cost same is splits = one_more n c 4 (to_splits n c cost same is) (clear_splits n c splits)

to_proofs : (n : Net) (c : Cert) (cost : Option Cost) → c.shape ≡ counts_of n → IsClaimCost n c.claim cost → AreSplits n c.splits → ArePlaced c.splits c.proofs → ClearsTo n c 6
to_proofs n c cost same is splits placed = one_more n c 5 (to_places n c cost same is splits) (clear_places n c placed)

before_split : (n : Net) (c : Cert) (t : ℕ) → IsFirstSplit n c.splits t → (e : Refusal) → number e ≡ 4 → IsBelow (about e) (t ∷ []) → ¬ Refuses n c e
before_split n c t is (SplitAt i) at lt w = let below = below_one i t lt in elim w.wrong [ inl h ↦ absurd (omega (arith, is.few)) | inr wrong ↦ wrong (is.before i below) ]
before_split n c t is _ at lt w = absurd (omega arith)

before_place : (n : Net) (c : Cert) (k : ℕ) → IsFirstPlace (nodes c.splits) c.proofs k → (e : Refusal) → number e ≡ 5 → IsBelow (about e) (k ∷ []) → ¬ Refuses n c e
before_place n c k is (ProofPlace j) at lt w = w.wrong (is.before j (below_one j k lt))
before_place n c k is _ at lt w = absurd (omega arith)

before_proof : (n : Net) (c : Cert) (node : ℕ) → AreProved n (tree_of c) node → (e : Refusal) → number e ≡ 6 → IsBelow (about e) (node ∷ []) → ¬ Refuses n c e
before_proof n c node is (ProofOf other f) at lt w = no-fault n (box_of n c.splits other) w.proof f (is other w.proof (below_one other node lt) w.has) w.first.holds
before_proof n c node is _ at lt w = absurd (omega arith)

pub tree-refused : (n : Net) (c : Cert) (cost : Option Cost) (r : Refusal) → c.shape ≡ counts_of n → IsClaimCost n c.claim cost
    → IsTreeRefusal n c.splits c.proofs r → r ≢ Memory → IsFirstRefusal n c r
tree-refused n c cost (SplitAt t) same is w other = first_of n c (SplitAt t) w.wrong (to_splits n c cost same is) (before_split n c t w)
tree-refused n c cost (ProofPlace k) same is w other = first_of n c (ProofPlace k) w.1.wrong (to_places n c cost same is w.0) (before_place n c k w.1)
tree-refused n c cost (ProofOf node f) same is w other = first_of n c (ProofOf node f) w.2 (to_proofs n c cost same is w.0 w.1) (before_proof n c node w.3)
tree-refused n c cost Memory same is w other = absurd (other refl)
tree-refused n c cost _ same is w other = absurd w

-- ---- claims

splits_of : (n : Net) (splits : List Split) (lines : List NodeProof) (bound : Option ℤ) → IsBoundOf n splits lines bound → AreSplits n splits
splits_of n splits lines bound is = record { few = is.tree.few; in_order = is.tree.splits }

to_kind : (n : Net) (c : Cert) (cost : Option Cost) (found : Option ℤ) → c.shape ≡ counts_of n → IsClaimCost n c.claim cost → IsBoundOf n c.splits c.proofs found → ClearsTo n c 7
to_kind n c cost found same is tree = one_more n c 6 (to_proofs n c cost same is (splits_of n c.splits c.proofs found tree) tree.placed) (clear_proofs n c tree.tree.proofs)

-- the cost that is claimed is another exactly where it is wrong
wrong_cost : (n : Net) (claim : Claimed) (cost : Option Cost) → IsClaimCost n claim cost → IsOtherCost cost claim → IsWrongCost n claim
wrong_cost n (with_gap plan num base bound gap) None is other = λ right. is
wrong_cost n (with_gap plan num base bound gap) (Some c) is other = λ right. other (ap Some (λ i. record { num = (is.num ∙ sym right.0) i; base = (is.base ∙ sym right.1) i }))
wrong_cost n (with_bound bound) cost is other = other
wrong_cost n no_plan cost is other = other

other_cost : (n : Net) (claim : Claimed) (cost : Option Cost) → IsClaimCost n claim cost → IsWrongCost n claim → IsOtherCost cost claim
other_cost n (with_gap plan num base bound gap) None is wrong = λ e. is
other_cost n (with_gap plan num base bound gap) (Some c) is wrong = λ e.
    let same = same_Some c record { num = num; base = base } e in
    wrong (sym (ap (λ x. x.num) same) ∙ is.num, sym (ap (λ x. x.base) same) ∙ is.base)
other_cost n (with_bound bound) cost is wrong = wrong
other_cost n no_plan cost is wrong = wrong

module _ (n : Net) (c : Cert) (cost : Option Cost) (same : c.shape ≡ counts_of n) (is : IsClaimCost n c.claim cost) (tree : IsBoundOf n c.splits c.proofs (tree_bound n (tree_of c))) where
  to_cost : ¬ IsWrongKind (tree_bound n (tree_of c)) c.claim → ClearsTo n c 8
  to_cost kind = one_more n c 7 (to_kind n c cost (tree_bound n (tree_of c)) same is tree) (clear_kind n c kind)

  to_bound : ¬ IsWrongKind (tree_bound n (tree_of c)) c.claim → ¬ IsOtherCost cost c.claim → ClearsTo n c 9
  to_bound kind right = one_more n c 8 (to_cost kind) (clear_cost n c (λ w. right (other_cost n c.claim cost is w)))

  claim_refused : (r : Refusal) → IsClaimRefusal cost (tree_bound n (tree_of c)) c.claim r → IsFirstRefusal n c r
  claim_refused WrongKind w = lone n c WrongKind refl w (to_kind n c cost (tree_bound n (tree_of c)) same is tree)
  claim_refused WrongCost w = lone n c WrongCost refl (wrong_cost n c.claim cost is w.1) (to_cost w.0)
  claim_refused WrongBound w = lone n c WrongBound refl w.2 (to_bound w.0 w.1)
  claim_refused WrongGap w = lone n c WrongGap refl w.3 (one_more n c 9 (to_bound w.0 w.1) (clear_bound n c w.2))
  claim_refused _ w = absurd w

pub claim-refused : (n : Net) (c : Cert) (cost : Option Cost) (found : Option ℤ) (r : Refusal) → c.shape ≡ counts_of n → IsClaimCost n c.claim cost
    → IsBoundOf n c.splits c.proofs found → IsClaimRefusal cost found c.claim r → IsFirstRefusal n c r
claim-refused n c cost found r same is tree w =
    claim_refused n c cost same is (subst (IsBoundOf n c.splits c.proofs) tree.bound_is tree) r (subst (λ b. IsClaimRefusal cost b c.claim r) tree.bound_is w)

-- ---- valid certificates

shown : (n : Net) (tree : Tree) (claim : Claimed) (cost : Option Cost) → IsClaimCost n claim cost → AreClaimed cost (tree_bound n tree) claim → IsShown n tree claim
shown n tree (with_gap plan num base bound gap) None is right = absurd is
shown n tree (with_gap plan num base bound gap) (Some c) is right =
    let same = same_Some c record { num = num; base = base } right.0 in
    record {
      written = is.written;
      obeys = is.obeys;
      cost_is = sym (ap (λ x. x.num) same) ∙ is.num;
      base_is = sym (ap (λ x. x.base) same) ∙ is.base;
      bound_is = right.1;
      gap_is = right.2;
    }
shown n tree (with_bound bound) cost is right = right
shown n tree no_plan cost is right = right

pub valid-is : (n : Net) (c : Cert) (cost : Option Cost) (found : Option ℤ) → c.shape ≡ counts_of n → IsClaimCost n c.claim cost
    → IsBoundOf n c.splits c.proofs found → AreClaimed cost found c.claim → IsValid n c
valid-is n c cost found same is tree right = record {
  shape = same;
  tree = tree.tree;
  placed = tree.placed.known;
  rising = tree.placed.rising;
  claim = shown n (tree_of c) c.claim cost is (subst (λ b. AreClaimed cost b c.claim) tree.bound_is right);
}

-- ---- a valid certificate gives no cause

claim_plan : (n : Net) (tree : Tree) (claim : Claimed) (f : PlanFault) → IsShown n tree claim → ¬ HasPlanFault n claim f
claim_plan n tree (with_gap plan cost base bound gap) f is h =
    cost_no_fault n plan record { num = cost; base = base } f record { written = is.written; obeys = is.obeys; num = is.cost_is; base = is.base_is } h.holds
claim_plan n tree (with_bound bound) f is h = h
claim_plan n tree no_plan f is h = h

claim_kind : (n : Net) (tree : Tree) (claim : Claimed) → IsShown n tree claim → ¬ IsWrongKind (tree_bound n tree) claim
claim_kind n tree (with_gap plan cost base bound gap) is h = none-some bound (sym h ∙ is.bound_is)
claim_kind n tree (with_bound bound) is h = none-some bound (sym h ∙ is)
claim_kind n tree no_plan is h = h is

claim_cost : (n : Net) (tree : Tree) (claim : Claimed) → IsShown n tree claim → ¬ IsWrongCost n claim
claim_cost n tree (with_gap plan cost base bound gap) is h = h (is.cost_is, is.base_is)
claim_cost n tree (with_bound bound) is h = h
claim_cost n tree no_plan is h = h

claim_bound : (n : Net) (tree : Tree) (claim : Claimed) → IsShown n tree claim → ¬ IsWrongBound (tree_bound n tree) claim
claim_bound n tree (with_gap plan cost base bound gap) is h = h is.bound_is
claim_bound n tree (with_bound bound) is h = h is
claim_bound n tree no_plan is h = h

claim_gap : (n : Net) (tree : Tree) (claim : Claimed) → IsShown n tree claim → ¬ IsWrongGap claim
claim_gap n tree (with_gap plan cost base bound gap) is h = h is.gap_is
claim_gap n tree (with_bound bound) is h = h
claim_gap n tree no_plan is h = h

pub valid-clear : (n : Net) (c : Cert) (r : Refusal) → IsValid n c → ¬ Refuses n c r
valid-clear n c (Text f) is h = h
valid-clear n c Shape is h = h is.shape
valid-clear n c (Plan f) is h = claim_plan n (tree_of c) c.claim f is.claim h
valid-clear n c (SplitAt t) is h = clear_splits n c record { few = is.tree.few; in_order = is.tree.splits } (SplitAt t) refl h
valid-clear n c (ProofPlace k) is h = clear_places n c record { known = is.placed; rising = is.rising } (ProofPlace k) refl h
valid-clear n c (ProofOf node f) is h = clear_proofs n c is.tree.proofs (ProofOf node f) refl h
valid-clear n c WrongKind is h = claim_kind n (tree_of c) c.claim is.claim h
valid-clear n c WrongCost is h = claim_cost n (tree_of c) c.claim is.claim h
valid-clear n c WrongBound is h = claim_bound n (tree_of c) c.claim is.claim h
valid-clear n c WrongGap is h = claim_gap n (tree_of c) c.claim is.claim h
valid-clear n c Memory is h = h
