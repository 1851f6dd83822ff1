-- Which items a text goes on with.
use Rattle.std.specs.Prelude.{◌≡◌, ℕ, ◌-◌, [], ◌∷◌, ℤ, Result, Ok, Err, ◌==◌, if◌then◌else◌}
use Rattle.cert_stream.specs.declared.fault.ItemFault.{ItemFault}
use Rattle.cert_items.specs.declared.items.Item as declared
use Rattle.cert_items.specs.declared.items.State.{State}
use Rattle.cert_items.specs.declared.items.State.TheVariants as states
use Rattle.cert_stream.specs.Items.{Field, kind, shape, bases, weight, outflow, direct, splits, cut, proofs, head, one_part, cost_is, bound_is, gap_is, end_is}
use Rattle.cert_stream.specs.Items.{shown_item, cuts_left, proofs_left, parts_left, directs_left, shaped_state}
use Rattle.cert_stream.specs.Streams.{IsAtEnd}
use Rattle.box_space.specs.declared.coordinates.Split.{Split}
use Rattle.linear_program.specs.declared.multipliers.Part.{Part}
use Rattle.box_space.specs.Views.{shown_split, shown_part}
use Rattle.proof_lines.specs.declared.steps.LineHead.{LineHead}
use Rattle.proof_lines.specs.Runs.{Moment, Run, Failed, IsReady}

-- so many outflows, and what comes behind them
abbrev pub outflows_left : ℕ → ℕ → State
outflows_left n directs_behind = if n == 0 then directs_left directs_behind else states.Outflow (n - 1) directs_behind

-- so many weights, and what comes behind them
abbrev pub weights_left : ℕ → ℕ → ℕ → State
weights_left n outs directs_behind = if n == 0 then outflows_left outs directs_behind else states.Weight (n - 1) outs directs_behind

-- the text may go on with this item
abbrev pub MayCome : State → Field → Type 0
MayCome states.Begin (kind k) = Unit {0}
MayCome (states.Shape k) (shape s) = Unit {0}
MayCome (states.Bases feeds outs directs) (bases b f) = Unit {0}
MayCome (states.Weight n outs directs) (weight w) = Unit {0}
MayCome (states.Outflow n directs) (outflow f) = Unit {0}
MayCome (states.Direct n) (direct f) = Unit {0}
MayCome (states.Splits k) (splits n) = Unit {0}
MayCome (states.Cut k n) (cut s) = Unit {0}
MayCome (states.Proofs k) (proofs n) = Unit {0}
MayCome (states.Head k behind) (head node scale n) = Unit {0}
MayCome (states.Part k n behind) (one_part p) = Unit {0}
MayCome states.Cost (cost_is c b) = Unit {0}
MayCome (states.GapBound b) (bound_is d) = Unit {0}
MayCome (states.Gap b) (gap_is g c) = c ≡ b
MayCome states.Bound (bound_is d) = Unit {0}
MayCome states.End end_is = Unit {0}
MayCome _ _ = ⊥

-- what it goes on with behind the item
abbrev pub behind_item : State → Field → State
behind_item states.Begin (kind k) = states.Shape k
behind_item (states.Shape k) (shape s) = shaped_state k s
behind_item (states.Bases feeds outs directs) (bases b f) = weights_left feeds outs directs
behind_item (states.Weight n outs directs) (weight w) = weights_left n outs directs
behind_item (states.Outflow n directs) (outflow f) = outflows_left n directs
behind_item (states.Direct n) (direct f) = directs_left n
behind_item (states.Splits k) (splits n) = cuts_left k n
behind_item (states.Cut k n) (cut s) = cuts_left k n
behind_item (states.Proofs k) (proofs n) = proofs_left k n
behind_item (states.Head k behind) (head node scale n) = parts_left k n behind
behind_item (states.Part k n behind) (one_part p) = parts_left k n behind
behind_item states.Cost (cost_is c b) = states.GapBound b
behind_item (states.GapBound b) (bound_is d) = states.Gap b
behind_item (states.Gap b) (gap_is g c) = states.End
behind_item states.Bound (bound_is d) = states.End
behind_item states.End end_is = states.Ended
behind_item s _ = s

-- The item that came is one that the text may go on with, and behind the last one nothing stands; or there was a fault.
abbrev pub Came : Moment → Moment → Result declared.Item ItemFault → Type 0
Came m k (Ok item) = Run m k (shown_item item ∷ []) × MayCome m.reader.state (shown_item item) × IsReady k (behind_item m.reader.state (shown_item item))
    × (k.reader.state ≡ states.Ended → IsAtEnd k.reader)
Came m k (Err fault) = Failed m k fault

-- What was read is one item, behind which the text goes on with a state; or there was a fault.
abbrev pub Reads : {X : Type 0} → (X → Field) → (X → State) → Moment → Moment → Result X ItemFault → Type 0
Reads item next m k (Ok x) = Run m k (item x ∷ []) × IsReady k (next x)
Reads item next m k (Err fault) = Failed m k fault

-- What was read is the last item, and nothing stands behind it; or there was a fault.
abbrev pub ReadsEnd : Moment → Moment → Result (Unit {0}) ItemFault → Type 0
ReadsEnd m k (Ok x) = Run m k (end_is ∷ []) × (k.reader.state ≡ states.Ended) × IsAtEnd k.reader
ReadsEnd m k (Err fault) = Failed m k fault

-- ---- items of several numbers

-- the bases of a plan
abbrev pub bases_item : ℕ × ℕ → Field
bases_item x = bases x.0 x.1

-- a split
abbrev pub cut_item : Split → Field
cut_item s = cut (shown_split s)

-- the head of a proof's line
abbrev pub head_item : LineHead → Field
head_item h = head h.node h.scale h.count

-- a part of a proof
abbrev pub part_item : Part → Field
part_item p = one_part (shown_part p)

-- a cost and its base
abbrev pub cost_item : ℤ × ℕ → Field
cost_item x = cost_is x.0 x.1

-- a gap over the base of the cost that came before it
abbrev pub gap_item : State → ℤ → Field
gap_item (states.Gap base) gap = gap_is gap base
gap_item s gap = gap_is gap 0
