use Rattle.row_model.proofs.TreeBound.{found-leaf, node-proper, tree-bound, tree-empty}
use Rattle.row_model.proofs.tree_laws.tree_law.Goals as goal

pub returns : goal.returns
returns c = record {
  leaf = λ n tree p limited is obeys. found-leaf n tree limited is p obeys;
  proper = λ n tree node limited is h. node-proper n tree limited is node h;
  bound = tree-bound;
  no_plan = tree-empty;
}
