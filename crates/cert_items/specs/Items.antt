-- The text of a certificate as a stream of items.
use Rattle.std.specs.Prelude.{◌≡◌, ◌≢◌, ℕ, ◌-◌, ◌^◌, List, [], ◌∷◌, ◌++◌, Result, Ok, Err, Some, ◌==◌, if◌then◌else◌, codes, map, length, get_or, ℤ}
use Rattle.std.specs.List.{flat_map}
use Rattle.pool_model.specs.Plan.{Written}
use Rattle.pool_model.specs.Claim.{Claimed, with_gap, with_bound, no_plan}
use Rattle.row_model.specs.Multipliers.{Part}
use Rattle.row_model.specs.Trees.{Split}
use Rattle.cert_text.specs.Lines.{IsFaultyLine}
use Rattle.cert_text.specs.declared.pieces.Ends.TheVariants.{Space, Line, LineIfZero}
use Rattle.cert_text.specs.Reading.{At, ◌>>=◌, start, first_of, word_at, same_at, end_of, ends_before, u32_at, u64_at, i128_at}
use Rattle.box_space.specs.Views.{shown_split, shown_part}
use Rattle.cert_format.specs.declared.reading.Kind.{Kind}
use Rattle.cert_format.specs.declared.reading.Kind.TheVariants as kinds
use Rattle.cert_items.specs.declared.items.Item as declared
use Rattle.cert_items.specs.declared.items.Item.TheVariants as items
use Rattle.cert_items.specs.declared.items.State.{State}
use Rattle.cert_items.specs.declared.items.State.TheVariants as states
use Rattle.cert_format.specs.Cert.{Cert, NodeProof, IsCert}
use Rattle.cert_format.specs.Reading.{kind_at, shape_at, list_word_at, split_line_at, part_at, bound_at}
use Rattle.cert_format.specs.Text.{text_of}

-- a field of the text, or a group of them
pub data Field : Type 0 where
  kind : Kind → Field
  shape : List ℕ → Field
  bases : ℕ → ℕ → Field
  weight : ℕ → Field
  outflow : ℕ → Field
  direct : ℕ → Field
  splits : ℕ → Field
  cut : Split → Field
  proofs : ℕ → Field
  head : ℕ → ℕ → ℕ → Field
  one_part : Part → Field
  cost_is : ℤ → ℕ → Field
  bound_is : ℤ → Field
  gap_is : ℤ → ℕ → Field
  end_is : Field

-- an item, without where it lies in memory
abbrev pub shown_item : declared.Item → Field
shown_item (items.Kind k) = kind k
shown_item (items.Shape s) = shape s
shown_item (items.Bases b f) = bases b f
shown_item (items.Weight w) = weight w
shown_item (items.Outflow f) = outflow f
shown_item (items.Direct f) = direct f
shown_item (items.Splits n) = splits n
shown_item (items.Cut s) = cut (shown_split s)
shown_item (items.Proofs n) = proofs n
shown_item (items.ProofHead node scale count) = head node scale count
shown_item (items.OnePart p) = one_part (shown_part p)
shown_item (items.CostIs c b) = cost_is c b
shown_item (items.BoundIs d) = bound_is d
shown_item (items.GapIs g b) = gap_is g b
shown_item items.End = end_is

-- an item, and what comes behind it
abbrev pub shown : declared.Item × State → Field × State
shown p = (shown_item p.0, p.1)

-- ---- the items of a certificate

-- the kind of a claim
abbrev pub claimed_kind : Claimed → Kind
claimed_kind (with_gap plan cost base bound gap) = kinds.Gap
claimed_kind (with_bound bound) = kinds.Bound
claimed_kind no_plan = kinds.NoPlan

-- the items of a plan
abbrev pub plan_items : Written → List Field
plan_items plan = bases plan.base plan.flow_base ∷ (map weight plan.weights ++ (map outflow plan.outflows ++ map direct plan.direct))

-- the items of the plan that is claimed, where there is one
abbrev pub claimed_plan_items : Claimed → List Field
claimed_plan_items (with_gap plan cost base bound gap) = plan_items plan
claimed_plan_items (with_bound bound) = []
claimed_plan_items no_plan = []

-- the items of a proof
abbrev pub proof_items : NodeProof → List Field
proof_items p = head p.node p.proof.scale (length p.proof.parts) ∷ map one_part p.proof.parts

-- the items of the numbers that are claimed
abbrev pub claim_items : Claimed → List Field
claim_items (with_gap plan cost base bound gap) = cost_is cost base ∷ bound_is bound ∷ gap_is gap base ∷ []
claim_items (with_bound bound) = bound_is bound ∷ []
claim_items no_plan = []

-- the fields of a certificate's text, in order
abbrev pub items_of : Cert → List Field
items_of c = kind (claimed_kind c.claim) ∷ shape c.shape ∷ (claimed_plan_items c.claim
    ++ (splits (length c.splits) ∷ (map cut c.splits
    ++ (proofs (length c.proofs) ∷ (flat_map proof_items c.proofs
    ++ (claim_items c.claim ++ end_is ∷ []))))))

-- ---- one item after another

-- what comes behind the proofs
abbrev pub claim_state : Kind → State
claim_state kinds.Gap = states.Cost
claim_state kinds.Bound = states.Bound
claim_state kinds.NoPlan = states.End

-- so many splits, and what comes behind them
abbrev pub cuts_left : Kind → ℕ → State
cuts_left k n = if n == 0 then states.Proofs k else states.Cut k (n - 1)

-- so many proofs, and what comes behind them
abbrev pub proofs_left : Kind → ℕ → State
proofs_left k n = if n == 0 then claim_state k else states.Head k (n - 1)

-- so many parts, and what comes behind their line
abbrev pub parts_left : Kind → ℕ → ℕ → State
parts_left k n behind = if n == 0 then proofs_left k behind else states.Part k (n - 1) behind

-- so many direct flows, and what comes behind them
abbrev pub directs_left : ℕ → State
directs_left n = if n == 0 then states.Splits kinds.Gap else states.Direct (n - 1)

-- the words before so many direct flows, and those before what comes next where there are none
unfoldable pub direct_words_at : ℕ → At → Result (State × At) ℕ
direct_words_at n a = do
  w ← list_word_at (codes "direct") n a
  Ok (directs_left n, w.1)

-- the words before so many outflows, and those before what comes next where there are none
unfoldable pub outflow_words_at : ℕ → ℕ → At → Result (State × At) ℕ
outflow_words_at n directs_behind a = do
  w ← list_word_at (codes "outflows") n a
  if n == 0 then direct_words_at directs_behind w.1 else Ok (states.Outflow (n - 1) directs_behind, w.1)

-- the words before so many weights, and those before what comes next where there are none
unfoldable pub weight_words_at : ℕ → ℕ → ℕ → At → Result (State × At) ℕ
weight_words_at n outs directs_behind a = do
  w ← list_word_at (codes "weights") n a
  if n == 0 then outflow_words_at outs directs_behind w.1 else Ok (states.Weight (n - 1) outs directs_behind, w.1)

-- the first line and the kind
unfoldable pub begin_at : At → Result ((Field × State) × At) ℕ
begin_at a = do
  w ← word_at (codes "poolcert 1\n") a
  k ← kind_at w.1
  Ok ((kind k.0, states.Shape k.0), k.1)

-- what comes behind a shape
abbrev pub shaped_state : Kind → List ℕ → State
shaped_state kinds.Gap s = states.Bases (get_or s 4 0) (get_or s 5 0) (get_or s 6 0)
shaped_state kinds.Bound s = states.Splits kinds.Bound
shaped_state kinds.NoPlan s = states.Splits kinds.NoPlan

-- the shape
unfoldable pub shape_step_at : Kind → At → Result ((Field × State) × At) ℕ
shape_step_at k a = do
  s ← shape_at a
  Ok ((shape s.0, shaped_state k s.0), s.1)

-- the bases of a plan
unfoldable pub bases_step_at : ℕ → ℕ → ℕ → At → Result ((Field × State) × At) ℕ
bases_step_at feeds outs directs_behind a = do
  w ← word_at (codes "plan ") a
  base ← u32_at Space w.1
  flow_base ← u32_at Line base.1
  next ← weight_words_at feeds outs directs_behind flow_base.1
  Ok ((bases base.0 flow_base.0, next.0), next.1)

-- a weight, and so many behind it
unfoldable pub weight_step_at : ℕ → ℕ → ℕ → At → Result ((Field × State) × At) ℕ
weight_step_at behind outs directs_behind a = do
  w ← u32_at (ends_before behind) a
  next ← if behind == 0 then outflow_words_at outs directs_behind w.1 else Ok (states.Weight (behind - 1) outs directs_behind, w.1)
  Ok ((weight w.0, next.0), next.1)

-- an outflow, and so many behind it
unfoldable pub outflow_step_at : ℕ → ℕ → At → Result ((Field × State) × At) ℕ
outflow_step_at behind directs_behind a = do
  f ← u64_at (ends_before behind) a
  next ← if behind == 0 then direct_words_at directs_behind f.1 else Ok (states.Outflow (behind - 1) directs_behind, f.1)
  Ok ((outflow f.0, next.0), next.1)

-- a direct flow, and so many behind it
unfoldable pub direct_step_at : ℕ → At → Result ((Field × State) × At) ℕ
direct_step_at behind a = do
  f ← u64_at (ends_before behind) a
  Ok ((direct f.0, directs_left behind), f.1)

-- the head of a proof, and so many proofs behind it
unfoldable pub head_step_at : Kind → ℕ → At → Result ((Field × State) × At) ℕ
head_step_at k behind a = do
  w ← word_at (codes "proof ") a
  node ← u32_at Space w.1
  scale ← u64_at Space node.1
  count ← u32_at LineIfZero scale.1
  Ok ((head node.0 scale.0 count.0, parts_left k count.0 behind), count.1)

-- the next item of the lines behind the proofs
unfoldable pub claim_step_at : State → At → Result ((Field × State) × At) ℕ
claim_step_at states.Cost a = do
  w ← word_at (codes "cost ") a
  cost ← i128_at Space w.1
  base ← u64_at Line cost.1
  Ok ((cost_is cost.0 base.0, states.GapBound base.0), base.1)
claim_step_at (states.GapBound base) a = do
  bound ← bound_at a
  Ok ((bound_is bound.0, states.Gap base), bound.1)
claim_step_at (states.Gap base) a = do
  w ← word_at (codes "gap ") a
  gap ← i128_at Space w.1
  same ← same_at (2 ^ 64 - 1) (end_of Line) base gap.1
  Ok ((gap_is gap.0 base, states.End), same.1)
claim_step_at states.Bound a = do
  bound ← bound_at a
  Ok ((bound_is bound.0, states.End), bound.1)
claim_step_at states.End a = do
  w ← word_at (codes "end\n") a
  Ok ((end_is, states.Ended), w.1)
claim_step_at _ a = Err a.line

-- the next item, and what comes behind it
unfoldable pub next_at : State → At → Result ((Field × State) × At) ℕ
next_at states.Begin a = begin_at a
next_at (states.Shape k) a = shape_step_at k a
next_at (states.Bases feeds outs directs_behind) a = bases_step_at feeds outs directs_behind a
next_at (states.Weight behind outs directs_behind) a = weight_step_at behind outs directs_behind a
next_at (states.Outflow behind directs_behind) a = outflow_step_at behind directs_behind a
next_at (states.Direct behind) a = direct_step_at behind a
next_at (states.Splits k) a = do
  w ← word_at (codes "splits ") a
  n ← u32_at Line w.1
  Ok ((splits n.0, cuts_left k n.0), n.1)
next_at (states.Cut k behind) a = do
  s ← split_line_at a
  Ok ((cut s.0, cuts_left k behind), s.1)
next_at (states.Proofs k) a = do
  w ← word_at (codes "proofs ") a
  n ← u32_at Line w.1
  Ok ((proofs n.0, proofs_left k n.0), n.1)
next_at (states.Head k behind) a = head_step_at k behind a
next_at (states.Part k behind proofs_behind) a = do
  p ← part_at behind a
  Ok ((one_part p.0, parts_left k behind proofs_behind), p.1)
next_at s a = claim_step_at s a

-- ---- the calls so far

-- from this state and place the calls gave these items, and came to that state and place
abbrev pub Gave : State → At → List Field → State → At → Type 0
Gave s a [] t b = (s ≡ t) × (a ≡ b)
Gave s a (i ∷ is) t b = (u : State) × (c : At) × (s ≢ states.Ended) × (next_at s a ≡ Ok ((i, u), c)) × Gave u c is t b

-- at the end the bytes are the text of the one certificate that has these items
abbrev pub EndsRight : List ℕ → Type 0
EndsRight bytes = (is : List Field) (b : At) → Gave states.Begin (start bytes) is states.Ended b → b.rest ≡ []
    → (c : Cert) × IsCert c × (bytes ≡ text_of c) × (items_of c ≡ is)

-- before it the items are the first of the certificate's, where one has the text
abbrev pub BeginsRight : List ℕ → Type 0
BeginsRight bytes = (is : List Field) (s : State) (b : At) (c : Cert) → Gave states.Begin (start bytes) is s b → IsCert c
    → bytes ≡ text_of c → (more : List Field) × (items_of c ≡ is ++ more)

-- a fault is that of the first faulty line
abbrev pub FailsRight : List ℕ → Type 0
FailsRight bytes = (is : List Field) (s : State) (a : At) (n : ℕ) → Gave states.Begin (start bytes) is s a → s ≢ states.Ended
    → next_at s a ≡ Err n → IsFaultyLine Cert IsCert text_of bytes n

-- so is what stands behind the text
abbrev pub StopsRight : List ℕ → Type 0
StopsRight bytes = (is : List Field) (b : At) (c : ℕ) → Gave states.Begin (start bytes) is states.Ended b
    → first_of b ≡ Some c → IsFaultyLine Cert IsCert text_of bytes b.line
