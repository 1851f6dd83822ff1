use Rattle.std.proofs.Common.{pos, rules, arith, FitsSigned}
use Rattle.std.proofs.lemmas.Int.{to_z-of_z}
use mir.Syntax.{w128}
use Rattle.integers.proofs.Tabulate.{same-tabulate}
use Rattle.pool_model.specs.Network.{net_of}
use Rattle.row_model.specs.Variables.{by_number, variables, lows, highs}
use Rattle.box_space.specs.Views.{shown_box}
use Rattle.dual_rounding.proofs.Written.{numbers-more}
use Rattle.dual_rounding.proofs.program.write_ends.Goals as goal

pub loop-var-preserved : goal.loop-var-preserved
loop-var-preserved c =
    let n = net_of c.args.net.now in
    let b = shown_box c.args.v.now in
    let low : FitsSigned w128 c.var_ends-low.result.0 = search rules in
    let high : FitsSigned w128 c.var_ends-low.result.1 = search rules in
    record {
      low = simp to_z-of_z (numbers-more c.loop-var.least (by_number n (lows n b)) c.loop-var.var c.var_ends-low.result.0
          (omega (arith, c.vars-var-end.ensures.count)) c.loop-var.invariant.low c.var_ends-low.ensures.low);
      high = simp to_z-of_z (numbers-more c.loop-var.greatest (by_number n (highs n b)) c.loop-var.var c.var_ends-low.result.1
          (omega (arith, c.vars-var-end.ensures.count)) c.loop-var.invariant.high c.var_ends-low.ensures.high);
    }

pub returns-clause-low : goal.returns-clause-low
returns-clause-low c =
    let n = net_of c.args.net.now in
    let b = shown_box c.args.v.now in
    same-tabulate c.loop-var.least (by_number n (lows n b)) (variables n) (pos 0) (omega arith) (λ i lt. c.loop-var.invariant.low i (omega (arith, c.vars-var-end.ensures.count)))

pub returns-clause-high : goal.returns-clause-high
returns-clause-high c =
    let n = net_of c.args.net.now in
    let b = shown_box c.args.v.now in
    same-tabulate c.loop-var.greatest (by_number n (highs n b)) (variables n) (pos 0) (omega arith) (λ i lt. c.loop-var.invariant.high i (omega (arith, c.vars-var-end.ensures.count)))
