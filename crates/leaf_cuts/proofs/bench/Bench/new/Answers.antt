use Rattle.std.proofs.Common.{sym, subst}
use Rattle.pool_model.specs.Network.{net_of}
use Rattle.row_model.specs.Boxes.{Box}
use Rattle.dual_rounding.specs.Programs.{IsProgramOf}
use Rattle.leaf_cuts.proofs.Giving.{view-same}
use Rattle.leaf_cuts.proofs.bench.Bench.new.Goals as goal

pub returns-clause-program : goal.returns-clause-program
returns-clause-program c =
    let same = view-same c.view-view.result c.args.ends.now c.view-view.ensures.low c.view-view.ensures.high in
    subst (λ (b : Box). IsProgramOf (net_of c.args.net.now) c.args.form b c.in_ok-new.field-0) (sym same) c.in_ok-new.ensures.program
