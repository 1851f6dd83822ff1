use Rattle.std.proofs.Common.{refl, ◌∙◌, rules, FitsSigned, to_z-of_z}
use mir.Syntax.{w128}
use Rattle.leaf_cuts.proofs.leaf.solve_node.Goals as goal

pub returns-clause-node : goal.returns-clause-node
returns-clause-node c =
    let fits : FitsSigned w128 c.args.bound = search rules in
    record {
      node = refl;
      bound = to_z-of_z fits;
      ends = c.in_ok-ends.ensures;
      point = c.in_ok-advice.ensures ∙ c.in_ok-bench.ensures.bench.network.low;
    }
