use Rattle.std.proofs.Common.{◌<◌, ℕ, ℤ, pos, ◌+ℤ◌, get_or, FitsSigned, to_z, arith, rules}
use Rattle.std.proofs.lemmas.Int.{to_z-of_z}
use mir.Syntax.{w128}
use Rattle.pool_model.specs.Network.{net_of}
use Rattle.row_model.specs.Variables.{variables, by_number, lows, highs}
use Rattle.box_space.specs.Views.{shown_box}
use Rattle.row_book.proofs.Least.{room-here, sum-more, sum-more_fits}
use Rattle.row_book.proofs.multiplying.sum_of_ends.Goals as goal

pub least_at-total-requires-clause-room : goal.least_at-total-requires-clause-room
least_at-total-requires-clause-room c =
    let n = net_of c.args.net.now in
    let i = c.loop-var.var in
    let r : ℕ → ℤ = λ i. get_or c.args.rests.now i (pos 0) in
    let lt : i < variables n = omega (arith, c.vars-var-end.ensures.count) in
    let rest : FitsSigned w128 (get_or c.args.rests.now i (pos 0)) = search rules in
    simp to_z-of_z (room-here r (by_number n (lows n (shown_box c.args.v.now))) (by_number n (highs n (shown_box c.args.v.now))) i
    (variables n) lt c.requires.room)

pub overflow_add-total : goal.overflow_add-total
overflow_add-total c =
    let n = net_of c.args.net.now in
    let i = c.loop-var.var in
    let r : ℕ → ℤ = λ i. get_or c.args.rests.now i (pos 0) in
    let lt : i < variables n = omega (arith, c.vars-var-end.ensures.count) in
    let rest : FitsSigned w128 (get_or c.args.rests.now i (pos 0)) = search rules in
    let more : FitsSigned w128 c.least_at-total.result = search rules in
    let fits : FitsSigned w128 (to_z w128 c.loop-var.total-bits +ℤ c.least_at-total.result) =
    sum-more_fits r (by_number n (lows n (shown_box c.args.v.now))) (by_number n (highs n (shown_box c.args.v.now))) i
    (variables n) lt _ c.least_at-total.result c.loop-var.invariant (simp to_z-of_z at c.least_at-total.ensures) c.requires.room in
    simp to_z-of_z fits

pub loop-var-preserved : goal.loop-var-preserved
loop-var-preserved c =
    let n = net_of c.args.net.now in
    let i = c.loop-var.var in
    let r : ℕ → ℤ = λ i. get_or c.args.rests.now i (pos 0) in
    let lt : i < variables n = omega (arith, c.vars-var-end.ensures.count) in
    let rest : FitsSigned w128 (get_or c.args.rests.now i (pos 0)) = search rules in
    let more : FitsSigned w128 c.least_at-total.result = search rules in
    let fits : FitsSigned w128 (to_z w128 c.loop-var.total-bits +ℤ c.least_at-total.result) =
    sum-more_fits r (by_number n (lows n (shown_box c.args.v.now))) (by_number n (highs n (shown_box c.args.v.now))) i
    (variables n) lt _ c.least_at-total.result c.loop-var.invariant (simp to_z-of_z at c.least_at-total.ensures) c.requires.room in
    simp to_z-of_z (sum-more r (by_number n (lows n (shown_box c.args.v.now))) (by_number n (highs n (shown_box c.args.v.now))) i
    (variables n) lt _ c.least_at-total.result c.loop-var.invariant (simp to_z-of_z at c.least_at-total.ensures))
