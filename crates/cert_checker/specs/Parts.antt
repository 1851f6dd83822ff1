-- The parts of a certificate that is read as a stream: which items they are, and what is known of them once they are judged.
use Rattle.std.specs.Prelude.{◌≡◌, ℕ, ◌≤◌, List, [], ◌∷◌, ◌++◌, length, map, Option, None, Some, Result, Ok, Err, ℤ}
use Rattle.pool_model.specs.Network.{Net, counts_of}
use Rattle.pool_model.specs.Plan.{Written}
use Rattle.pool_model.specs.Claim.{Claimed, with_gap, with_bound, no_plan}
use Rattle.row_model.specs.Trees.{Split}
use Rattle.plan_core.specs.Faults as plans
use Rattle.plan_core.specs.Views.{shown_plan}
use Rattle.plan_core.specs.declared.fault.PlanFault.{PlanFault}
use Rattle.plan_core.specs.declared.plan.Cost.{Cost}
use Rattle.split_tree.specs.Splits.{Splits, IsOf}
use Rattle.cert_format.specs.Cert.{Cert, NodeProof, FitsShape, ClaimFits, IsCert}
use Rattle.cert_format.specs.declared.reading.Kind.{Kind}
use Rattle.cert_format.specs.declared.reading.Kind.TheVariants as kinds
use Rattle.cert_stream.specs.declared.fault.ItemFault.{ItemFault}
use Rattle.cert_items.specs.declared.items.State.{State}
use Rattle.cert_items.specs.declared.items.State.TheVariants as states
use Rattle.cert_stream.specs.Items.{Field, kind as kind_item, shape as shape_item, weight, outflow, direct, splits, cut, plan_items}
use Rattle.cert_stream.specs.Items.{claim_items, items_of, shaped_state}
use Rattle.cert_stream.specs.Streams.{IsAtEnd}
use Rattle.proof_lines.specs.declared.refusal.Refusal.{Refusal}
use Rattle.proof_lines.specs.declared.refusal.Refusal.TheVariants.{Plan, Split as SplitAt}
use Rattle.proof_lines.specs.declared.stream_refusal.StreamRefusal.{StreamRefusal}
use Rattle.cert_format.specs.Views.{shown_claim}
use Rattle.cert_writing.specs.declared.certificate.Claim.{Claim}
use Rattle.cert_checker.specs.declared.walk.Walked.{Walked}
use Rattle.cert_checker.specs.declared.opening.Opening.{Opening}
use Rattle.cert_checker.specs.declared.opening.Opening.TheVariants as openings
use Rattle.proof_lines.specs.Refusals.{IsFirstRefusal}
use Rattle.proof_lines.specs.Trees.{IsBoundOf, IsFirstSplit}
use Rattle.cert_checker.specs.Claims.{IsClaimCost}
use Rattle.proof_lines.specs.Runs.{Moment, Run, Failed, Halts, IsReady}

-- no refusal
abbrev pub Never : List Field → Refusal → Type 0
Never items r = ⊥

-- ---- what is claimed, before its numbers

-- a kind, and the network's counts
pub record IsBegun (n : Net) (kind : Kind) (items : List Field) (state : State) : Type 0 where
  pub items_are : items ≡ kind_item kind ∷ shape_item (counts_of n) ∷ []
  pub next_is : state ≡ shaped_state kind (counts_of n)

-- a plan with a weight or a flow more
abbrev pub with_number : Written → Field → Written
with_number p (weight w) = record { base = p.base; flow_base = p.flow_base; weights = p.weights ++ w ∷ []; outflows = p.outflows; direct = p.direct }
with_number p (outflow f) = record { base = p.base; flow_base = p.flow_base; weights = p.weights; outflows = p.outflows ++ f ∷ []; direct = p.direct }
with_number p (direct f) = record { base = p.base; flow_base = p.flow_base; weights = p.weights; outflows = p.outflows; direct = p.direct ++ f ∷ [] }
with_number p _ = p

-- the items of a plan with the network's counts
pub record IsPlan (n : Net) (plan : Written) (items : List Field) (state : State) : Type 0 where
  pub items_are : items ≡ plan_items plan
  pub fits : FitsShape (counts_of n) plan
  pub next_is : state ≡ states.Splits kinds.Gap

-- the kind of what is claimed
abbrev pub opening_kind : Opening → Kind
opening_kind (openings.Gap plan cost) = kinds.Gap
opening_kind openings.Bound = kinds.Bound
opening_kind openings.NoPlan = kinds.NoPlan

-- the items of the plan that is claimed, where there is one
abbrev pub opening_items : Opening → List Field
opening_items (openings.Gap plan cost) = plan_items (shown_plan plan)
opening_items openings.Bound = []
opening_items openings.NoPlan = []

-- what the plan that is claimed costs, where there is one
abbrev pub opening_cost : Opening → Option Cost
opening_cost (openings.Gap plan cost) = Some cost
opening_cost openings.Bound = None
opening_cost openings.NoPlan = None

-- the plan that is claimed has the network's counts, and its cost was counted
abbrev pub IsPlanned : Net → Opening → Type 0
IsPlanned n (openings.Gap plan cost) = FitsShape (counts_of n) (shown_plan plan) × plans.IsCostOf n (shown_plan plan) cost
IsPlanned n openings.Bound = Unit {0}
IsPlanned n openings.NoPlan = Unit {0}

-- what was claimed of this kind
pub record IsOpening (n : Net) (kind : Kind) (opening : Opening) (items : List Field) (state : State) : Type 0 where
  pub items_are : items ≡ opening_items opening
  pub kind_is : opening_kind opening ≡ kind
  pub planned : IsPlanned n opening
  pub next_is : state ≡ states.Splits kind

-- the items of a plan that breaks a rule, of which this is the first
pub record IsWrongPlan (n : Net) (kind : Kind) (items : List Field) (r : Refusal) : Type 0 where
  pub plan : Written
  pub kind_is : kind ≡ kinds.Gap
  pub items_are : items ≡ plan_items plan
  pub fits : FitsShape (counts_of n) plan
  pub fault : PlanFault
  pub is : r ≡ Plan fault
  pub first : plans.IsFirstFault n plan fault

-- ---- splits

-- the items of splits, each in order
pub record IsSplitList (n : Net) (kind : Kind) (tree : Splits) (items : List Field) (state : State) : Type 0 where
  pub items_are : items ≡ splits (length tree.list) ∷ map cut tree.list
  pub is : IsOf n tree
  pub next_is : state ≡ states.Proofs kind

-- the first of so many splits, of which the last is the first wrong one
pub record IsWrongSplitList (n : Net) (items : List Field) (r : Refusal) : Type 0 where
  pub count : ℕ
  pub front : List Split
  pub number : ℕ
  pub items_are : items ≡ splits count ∷ map cut front
  pub few : length front ≤ count
  pub is : r ≡ SplitAt number
  pub first : IsFirstSplit n front number

-- ---- the claim, and the whole

-- a claim of the plan that was read
abbrev pub IsClaimOf : Opening → Claimed → Type 0
IsClaimOf (openings.Gap plan cost) (with_gap written num base bound gap) = written ≡ shown_plan plan
IsClaimOf openings.Bound (with_bound bound) = Unit {0}
IsClaimOf openings.NoPlan no_plan = Unit {0}
IsClaimOf _ _ = ⊥

-- the items of a whole certificate with the network's counts, its claim, what its plan costs and its tree shows
pub record IsReadAs (n : Net) (claim : Claimed) (cost : Option Cost) (bound : Option ℤ) (items : List Field) : Type 0 where
  pub list : List Split
  pub lines : List NodeProof
  pub items_are : items ≡ items_of record { shape = counts_of n; claim = claim; splits = list; proofs = lines }
  pub fits : ClaimFits (counts_of n) claim
  pub cost_is : IsClaimCost n claim cost
  pub tree : IsBoundOf n list lines bound

-- a certificate whose items begin so is refused, first of all for this
abbrev pub IsRefusedFront : Net → List Field → Refusal → Type 0
IsRefusedFront n items r = (c : Cert) (more : List Field) → IsCert c → items_of c ≡ items ++ more → IsFirstRefusal n c r

-- what the claim's numbers are, behind the proofs
pub record IsClaimRead (opening : Opening) (m k : Moment) (claim : Claim) : Type 0 where
  pub run : Run m k (claim_items (shown_claim claim))
  pub ready : IsReady k states.End
  pub is : IsClaimOf opening (shown_claim claim)

abbrev pub ReadsClaim : Opening → Moment → Moment → Result Claim ItemFault → Type 0
ReadsClaim opening m k (Ok claim) = IsClaimRead opening m k claim
ReadsClaim opening m k (Err fault) = Failed m k fault

-- a whole certificate was read to the end of its file
pub record IsWalked (n : Net) (m k : Moment) (w : Walked) : Type 0 where
  pub items : List Field
  pub run : Run m k items
  pub over : k.reader.state ≡ states.Ended
  pub at_end : IsAtEnd k.reader
  pub is : IsReadAs n (shown_claim w.claim) w.cost w.bound items

-- a whole certificate was read, or it was refused before its end
abbrev pub Walks : Net → Moment → Moment → Result Walked StreamRefusal → Type 0
Walks n m k (Ok w) = IsWalked n m k w
Walks n m k (Err r) = Halts (IsRefusedFront n) m k r
