use Rattle.std.proofs.Common.{◌≡◌, ◌≤◌, ◌+◌, ◌*◌, ◌^◌, ℕ, List, ℤ, pos, unsigned_abs, take, arith, subst, sym, ap, ◌∙◌}
use mir.Syntax.{w128}
use mir.Val.{to_z}
use Rattle.std.specs.List.{sum_by}
use Rattle.std.proofs.lemmas.List.{take_all}
use Rattle.integers.specs.Sums.{int_sum_by, sum_at}
use Rattle.integers.proofs.Numbers.{numbers_at-sum, numbers_at-total}
use Rattle.integers.proofs.WideSums.{term-more}
use Rattle.pool_model.specs.Network.{net_of}
use Rattle.point_checks.specs.QualSlices.{seen}
use Rattle.point_checks.proofs.Running.{step}
use Rattle.point_checks.proofs.qual_sums.quality_out.Goals as goal

pub overflow_add-sum : goal.overflow_add-sum
overflow_add-sum c =
    let n = net_of c.args.net.now in
    let s = c.args.point.now in
    let flow = (seen n s).out in
    let items = c.numbers_at-out-items.result.now in
    let i = c.loop-out.out-index in
    let small : 10 ^ 11 * sum_at n.out_pool c.args.pool (seen n s).out n.outs ≤ 2 ^ 123 = omega (arith, c.requires.small.sent c.args.pool c.requires.pool) in
    let all : sum_by flow items ≡ sum_at n.out_pool c.args.pool flow n.outs =
    ap (λ (xs : List ℕ). sum_by flow xs) c.numbers_at-out-items.ensures.numbers ∙ numbers_at-total flow n.out_pool c.args.pool n.outs in
    (step (10 ^ 11) flow items i (sum_at n.out_pool c.args.pool flow n.outs) (to_z w128 c.loop-out.sum-bits) c.mixed-sum.result c.loop-out-test.true all small c.loop-out.invariant.size c.mixed-sum.ensures.small).fits

pub loop-out-preserved : goal.loop-out-preserved
loop-out-preserved c =
    let n = net_of c.args.net.now in
    let s = c.args.point.now in
    let flow = (seen n s).out in
    let items = c.numbers_at-out-items.result.now in
    let i = c.loop-out.out-index in
    let small : 10 ^ 11 * sum_at n.out_pool c.args.pool (seen n s).out n.outs ≤ 2 ^ 123 = omega (arith, c.requires.small.sent c.args.pool c.requires.pool) in
    let all : sum_by flow items ≡ sum_at n.out_pool c.args.pool flow n.outs =
    ap (λ (xs : List ℕ). sum_by flow xs) c.numbers_at-out-items.ensures.numbers ∙ numbers_at-total flow n.out_pool c.args.pool n.outs in
    let term = λ (o : ℕ). (seen n s).mixed o c.args.quality in
    let more = step (10 ^ 11) flow items i (sum_at n.out_pool c.args.pool flow n.outs) (to_z w128 c.loop-out.sum-bits) c.mixed-sum.result c.loop-out-test.true all small c.loop-out.invariant.size c.mixed-sum.ensures.small in
    record {
      sum = more.exact ∙ term-more term items i (to_z w128 c.loop-out.sum-bits) c.mixed-sum.result c.loop-out-test.true c.loop-out.invariant.sum c.mixed-sum.ensures.value;
      size = subst (λ (z : ℤ). unsigned_abs z ≤ 10 ^ 11 * sum_by flow (take (i + 1) items)) (sym more.exact) more.small;
    }

pub returns : goal.returns
returns c =
    let n = net_of c.args.net.now in
    let s = c.args.point.now in
    let term = λ (o : ℕ). (seen n s).mixed o c.args.quality in
    c.loop-out.invariant.sum
    ∙ ap (λ (xs : List ℕ). int_sum_by term xs) (take_all c.loop-out.out-index c.numbers_at-out-items.result.now c.loop-out-test.false ∙ c.numbers_at-out-items.ensures.numbers)
    ∙ numbers_at-sum term n.out_pool c.args.pool n.outs
