use Rattle.std.proofs.Common.{FitsSigned, rules}
use Rattle.std.specs.Int.{w128}
use Rattle.tree_certificate.proofs.Found.{read_gap_fits, read_gap_is, read_product_fits}
use Rattle.tree_certificate.proofs.certificate.gap_between.Goals as goal

pub overflow_mul-result : goal.overflow_mul-result
overflow_mul-result c =
    let bound : FitsSigned w128 c.args.bound = search rules in
    read_product_fits c.args.bound c.args.cost.num c.from.result c.args.cost.base bound c.from.ensures c.requires.low c.requires.few c.requires.above c.requires.size

pub overflow_sub-result : goal.overflow_sub-result
overflow_sub-result c =
    let num : FitsSigned w128 c.args.cost.num = search rules in
    let bound : FitsSigned w128 c.args.bound = search rules in
    read_gap_fits c.args.bound c.args.cost.num c.from.result c.args.cost.base num bound c.from.ensures c.requires.low c.requires.few c.requires.above c.requires.size

pub returns : goal.returns
returns c =
    let num : FitsSigned w128 c.args.cost.num = search rules in
    let bound : FitsSigned w128 c.args.bound = search rules in
    read_gap_is c.args.bound c.args.cost.num c.from.result c.args.cost.base num bound c.from.ensures c.requires.low c.requires.few c.requires.above c.requires.size
