use Rattle.std.proofs.Common.{◌≡◌, ◌*◌, pos, get_or, unsigned_abs, FitsSigned, add-one, arith, rules, ap}
use Rattle.std.proofs.lemmas.Int.{to_z-of_z}
use mir.Syntax.{w128}
use Rattle.pool_model.specs.Network.{net_of}
use Rattle.row_model.specs.Variables.{variables}
use Rattle.integers.proofs.AtKey.{sum_below-part}
use Rattle.box_space.specs.Views.{shown_box}
use Rattle.row_book.specs.Sizes.{end_size}
use Rattle.row_book.proofs.WeightSums.{on_err}
use Rattle.row_book.proofs.weighing.weigh_rests.Goals as goal

pub returns-in_err-add_end-clause-wide : goal.returns-in_err-add_end-clause-wide
returns-in_err-add_end-clause-wide c =
    let n = net_of c.args.net.now in
    let ends = end_size n (shown_box c.args.v.now) in
    let rest : FitsSigned w128 (get_or c.args.rests.now c.loop-var.var (pos 0)) = search rules in
    let size : c.unsigned_abs.result ≡ unsigned_abs (get_or c.args.rests.now c.loop-var.var (pos 0)) = simp to_z-of_z at c.unsigned_abs.ensures.value in
    on_err c.from_residual.result (omega (
      arith,
      c.in_err-add_end.ensures.wide,
      c.loop-var.invariant.weight,
      ap (λ z. z * ends c.loop-var.var) size,
      c.vars-var-end.ensures.count,
      sum_below-part (λ v. unsigned_abs (get_or c.args.rests.now v (pos 0)) * ends v) c.loop-var.var (variables n) (omega (arith, c.vars-var-end.ensures.count)),
    ))

pub loop-var-preserved : goal.loop-var-preserved
loop-var-preserved c =
    let n = net_of c.args.net.now in
    let rest : FitsSigned w128 (get_or c.args.rests.now c.loop-var.var (pos 0)) = search rules in
    let size : c.unsigned_abs.result ≡ unsigned_abs (get_or c.args.rests.now c.loop-var.var (pos 0)) = simp to_z-of_z at c.unsigned_abs.ensures.value in
    record {
      weight = rw add-one (omega (
        arith,
        c.in_ok-add_end.ensures.added,
        c.loop-var.invariant.weight,
        ap (λ z. z * end_size n (shown_box c.args.v.now) c.loop-var.var) size,
      ));
      narrow = c.in_ok-add_end.ensures.narrow;
    }
