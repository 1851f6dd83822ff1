use Rattle.std.proofs.Common.{◌≡◌, ◌≤◌, ◌+◌, ◌*◌, ℕ, List, ℤ, pos, ◌*ℤ◌, unsigned_abs, get_or, take, subst, sym, ap, ◌∙◌}
use mir.Syntax.{w128}
use mir.Val.{to_z}
use Rattle.std.specs.List.{sum_by}
use Rattle.std.proofs.lemmas.List.{take_all}
use Rattle.integers.specs.Sums.{int_sum_by}
use Rattle.integers.specs.Numbers.{numbers_at}
use Rattle.integers.proofs.Numbers.{numbers_at-sum, numbers_at-total}
use Rattle.integers.proofs.WideSums.{term-more}
use Rattle.pool_model.specs.Network.{Net, net_of}
use Rattle.blend_network.specs.Keys.{count_of, key_of}
use Rattle.blend_network.specs.declared.keys.Key.{Key}
use Rattle.point_checks.specs.Qualities.{flow_into, key_by, most_by, quality_by}
use Rattle.point_checks.specs.declared.carriers.Carrier.{Carrier}
use Rattle.point_checks.proofs.Running.{part-room, step, whole-small}
use Rattle.point_checks.proofs.qualities.quality_into.Goals as goal

-- what is walked is what ends at the node
all_items : (n : Net) (by : Carrier) (node : ℕ) (items : List ℕ) (key : Key) → items ≡ numbers_at (key_of n key) node (count_of n key) → key ≡ key_by by
    → items ≡ numbers_at (key_of n (key_by by)) node (count_of n (key_by by))
all_items n by node items key e f = e ∙ ap (λ (k : Key). numbers_at (key_of n k) node (count_of n k)) f

all_flow : (n : Net) (by : Carrier) (node : ℕ) (flow : ℕ → ℕ) (items : List ℕ) (key : Key) → items ≡ numbers_at (key_of n key) node (count_of n key) → key ≡ key_by by
    → sum_by flow items ≡ flow_into n by node flow
all_flow n by node flow items key e f =
    ap (λ (xs : List ℕ). sum_by flow xs) (all_items n by node items key e f) ∙ numbers_at-total flow (key_of n (key_by by)) node (count_of n (key_by by))

pub part-sum-requires-clause-small : goal.part-sum-requires-clause-small
part-sum-requires-clause-small c =
    let n = net_of c.args.net.now in
    let flow = λ (i : ℕ). get_or c.args.flows.now i 0 in
    let items = c.numbers_at-number-items.result.now in
    part-room (most_by c.args.by) flow items c.loop-number.number-index (flow_into n c.args.by c.args.node flow) c.loop-number-test.true
    (all_flow n c.args.by c.args.node flow items c.key.result c.numbers_at-number-items.ensures.numbers c.key.ensures) c.requires.small

pub overflow_add-sum : goal.overflow_add-sum
overflow_add-sum c =
    let n = net_of c.args.net.now in
    let flow = λ (i : ℕ). get_or c.args.flows.now i 0 in
    let items = c.numbers_at-number-items.result.now in
    (step (most_by c.args.by) flow items c.loop-number.number-index (flow_into n c.args.by c.args.node flow) (to_z w128 c.loop-number.sum-bits) c.part-sum.result c.loop-number-test.true
    (all_flow n c.args.by c.args.node flow items c.key.result c.numbers_at-number-items.ensures.numbers c.key.ensures) c.requires.small c.loop-number.invariant.size c.part-sum.ensures.small).fits

pub loop-number-preserved : goal.loop-number-preserved
loop-number-preserved c =
    let n = net_of c.args.net.now in
    let flow = λ (i : ℕ). get_or c.args.flows.now i 0 in
    let items = c.numbers_at-number-items.result.now in
    let i = c.loop-number.number-index in
    let s = to_z w128 c.loop-number.sum-bits in
    let p = c.part-sum.result in
    let term = λ (f : ℕ). quality_by n c.args.by f c.args.quality *ℤ pos (flow f) in
    let more = step (most_by c.args.by) flow items i (flow_into n c.args.by c.args.node flow) s p c.loop-number-test.true
    (all_flow n c.args.by c.args.node flow items c.key.result c.numbers_at-number-items.ensures.numbers c.key.ensures) c.requires.small c.loop-number.invariant.size c.part-sum.ensures.small in
    record {
      sum = more.exact ∙ term-more term items i s p c.loop-number-test.true c.loop-number.invariant.sum c.part-sum.ensures.value;
      size = subst (λ (z : ℤ). unsigned_abs z ≤ most_by c.args.by * sum_by flow (take (i + 1) items)) (sym more.exact) more.small;
    }

pub returns-clause-value : goal.returns-clause-value
returns-clause-value c =
    let n = net_of c.args.net.now in
    let items = c.numbers_at-number-items.result.now in
    let term = λ (f : ℕ). quality_by n c.args.by f c.args.quality *ℤ pos (get_or c.args.flows.now f 0) in
    c.loop-number.invariant.sum
    ∙ ap (λ (xs : List ℕ). int_sum_by term xs) (take_all c.loop-number.number-index items c.loop-number-test.false
    ∙ all_items n c.args.by c.args.node items c.key.result c.numbers_at-number-items.ensures.numbers c.key.ensures)
    ∙ numbers_at-sum term (key_of n (key_by c.args.by)) c.args.node (count_of n (key_by c.args.by))

pub returns-clause-small : goal.returns-clause-small
returns-clause-small c =
    let n = net_of c.args.net.now in
    let flow = λ (i : ℕ). get_or c.args.flows.now i 0 in
    let items = c.numbers_at-number-items.result.now in
    let s = to_z w128 c.loop-number.sum-bits in
    whole-small (most_by c.args.by) flow items (flow_into n c.args.by c.args.node flow) s
    (all_flow n c.args.by c.args.node flow items c.key.result c.numbers_at-number-items.ensures.numbers c.key.ensures) c.requires.small
    (subst (λ (xs : List ℕ). unsigned_abs s ≤ most_by c.args.by * sum_by flow xs) (take_all c.loop-number.number-index items c.loop-number-test.false) c.loop-number.invariant.size)
