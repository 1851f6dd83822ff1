use Rattle.certificate_leaves.proofs.Held.{lies-in_one}
use Rattle.certificate_leaves.proofs.Least.{least-listed, none-listed}
use Rattle.certificate_leaves.proofs.Listed.{one-list}
use Rattle.row_model.specs.Trees.{nodes, leaf_bound}
use Rattle.certificate_leaves.proofs.laws.leaves_law.Goals as goal

pub returns : goal.returns
returns c = record {
  least = λ n tree leaves are. least-listed (leaf_bound n tree) (nodes tree.splits) leaves are;
  none = λ n tree leaves are. none-listed (leaf_bound n tree) (nodes tree.splits) leaves are;
  held = λ n tree leaves p limited is are obeys. lies-in_one n tree limited is p obeys leaves are;
  one = λ n tree leaves others are too. one-list (leaf_bound n tree) (nodes tree.splits) leaves others are too;
}
