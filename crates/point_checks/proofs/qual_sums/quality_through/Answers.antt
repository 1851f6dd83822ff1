use Rattle.std.proofs.Common.{◌≡◌, ◌≤◌, ◌+◌, ◌*◌, ◌^◌, ℕ, List, ℤ, pos, ◌*ℤ◌, unsigned_abs, take, arith, subst, sym, ap, ◌∙◌}
use mir.Syntax.{w128}
use mir.Val.{to_z}
use Rattle.std.specs.List.{sum_by}
use Rattle.std.proofs.lemmas.List.{take_all}
use Rattle.integers.specs.Sums.{int_sum_by, sum_at}
use Rattle.integers.proofs.Numbers.{numbers_at-sum, numbers_at-total}
use Rattle.integers.proofs.WideSums.{term-more}
use Rattle.pool_model.specs.Network.{net_of}
use Rattle.point_checks.specs.QualSlices.{seen}
use Rattle.point_checks.proofs.Running.{step, whole-small}
use Rattle.point_checks.proofs.qual_sums.quality_through.Goals as goal

pub overflow_add-sum : goal.overflow_add-sum
overflow_add-sum c =
    let n = net_of c.args.net.now in
    let s = c.args.point.now in
    let flow = (seen n s).out in
    let items = c.numbers_at-out-items.result.now in
    let i = c.loop-out.out-index in
    let small : 10 ^ 14 * sum_at n.out_product c.args.product (seen n s).out n.outs ≤ 2 ^ 123 = omega (arith, c.requires.small.inflow c.args.product c.requires.product) in
    let all : sum_by flow items ≡ sum_at n.out_product c.args.product flow n.outs =
    ap (λ (xs : List ℕ). sum_by flow xs) c.numbers_at-out-items.ensures.numbers ∙ numbers_at-total flow n.out_product c.args.product n.outs in
    (step (10 ^ 14) flow items i (sum_at n.out_product c.args.product flow n.outs) (to_z w128 c.loop-out.sum-bits) c.retained-sum.result c.loop-out-test.true all small c.loop-out.invariant.size c.retained-sum.ensures.small).fits

pub loop-out-preserved : goal.loop-out-preserved
loop-out-preserved c =
    let n = net_of c.args.net.now in
    let s = c.args.point.now in
    let flow = (seen n s).out in
    let items = c.numbers_at-out-items.result.now in
    let i = c.loop-out.out-index in
    let small : 10 ^ 14 * sum_at n.out_product c.args.product (seen n s).out n.outs ≤ 2 ^ 123 = omega (arith, c.requires.small.inflow c.args.product c.requires.product) in
    let all : sum_by flow items ≡ sum_at n.out_product c.args.product flow n.outs =
    ap (λ (xs : List ℕ). sum_by flow xs) c.numbers_at-out-items.ensures.numbers ∙ numbers_at-total flow n.out_product c.args.product n.outs in
    let term = λ (o : ℕ). pos (n.retained (n.out_pool o) c.args.quality) *ℤ (seen n s).mixed o c.args.quality in
    let more = step (10 ^ 14) flow items i (sum_at n.out_product c.args.product flow n.outs) (to_z w128 c.loop-out.sum-bits) c.retained-sum.result c.loop-out-test.true all small c.loop-out.invariant.size c.retained-sum.ensures.small in
    record {
      sum = more.exact ∙ term-more term items i (to_z w128 c.loop-out.sum-bits) c.retained-sum.result c.loop-out-test.true c.loop-out.invariant.sum c.retained-sum.ensures.value;
      size = subst (λ (z : ℤ). unsigned_abs z ≤ 10 ^ 14 * sum_by flow (take (i + 1) items)) (sym more.exact) more.small;
    }

pub returns-clause-value : goal.returns-clause-value
returns-clause-value c =
    let n = net_of c.args.net.now in
    let s = c.args.point.now in
    let term = λ (o : ℕ). pos (n.retained (n.out_pool o) c.args.quality) *ℤ (seen n s).mixed o c.args.quality in
    c.loop-out.invariant.sum
    ∙ ap (λ (xs : List ℕ). int_sum_by term xs) (take_all c.loop-out.out-index c.numbers_at-out-items.result.now c.loop-out-test.false ∙ c.numbers_at-out-items.ensures.numbers)
    ∙ numbers_at-sum term n.out_product c.args.product n.outs

pub returns-clause-small : goal.returns-clause-small
returns-clause-small c =
    let n = net_of c.args.net.now in
    let s = c.args.point.now in
    let flow = (seen n s).out in
    let items = c.numbers_at-out-items.result.now in
    let i = c.loop-out.out-index in
    let small : 10 ^ 14 * sum_at n.out_product c.args.product (seen n s).out n.outs ≤ 2 ^ 123 = omega (arith, c.requires.small.inflow c.args.product c.requires.product) in
    let all : sum_by flow items ≡ sum_at n.out_product c.args.product flow n.outs =
    ap (λ (xs : List ℕ). sum_by flow xs) c.numbers_at-out-items.ensures.numbers ∙ numbers_at-total flow n.out_product c.args.product n.outs in
    let sum = to_z w128 c.loop-out.sum-bits in
    whole-small (10 ^ 14) flow items (sum_at n.out_product c.args.product flow n.outs) sum all small
    (subst (λ (xs : List ℕ). unsigned_abs sum ≤ 10 ^ 14 * sum_by flow xs) (take_all i items c.loop-out-test.false) c.loop-out.invariant.size)
