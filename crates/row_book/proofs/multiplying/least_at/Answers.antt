use Rattle.std.proofs.Common.{FitsSigned, rules}
use Rattle.std.proofs.lemmas.Int.{to_z-of_z}
use mir.Syntax.{w128}
use Rattle.pool_model.specs.Network.{net_of}
use Rattle.row_model.specs.Variables.{by_number, lows, highs}
use Rattle.box_space.specs.Views.{shown_box}
use Rattle.row_book.proofs.Least.{least-read}
use Rattle.row_book.proofs.multiplying.least_at.Goals as goal

pub returns : goal.returns
returns c =
    let n = net_of c.args.net.now in
    let b = shown_box c.args.v.now in
    let rest : FitsSigned w128 c.args.rest = search rules in
    let low : FitsSigned w128 c.var_ends-low.result.0 = search rules in
    let high : FitsSigned w128 c.var_ends-low.result.1 = search rules in
    let least : FitsSigned w128 c.least_product.result = search rules in
    simp to_z-of_z (least-read c.args.rest c.var_ends-low.result.0 c.var_ends-low.result.1 (by_number n (lows n b) c.args.var) (by_number n (highs n b) c.args.var)
    c.var_ends-low.ensures.low c.var_ends-low.ensures.high c.least_product.result (simp to_z-of_z at c.least_product.ensures))
