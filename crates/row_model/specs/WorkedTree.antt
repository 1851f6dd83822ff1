-- A worked tree: two feeds whose proportions are cut twice, with a proof that they can't sum to 1 in the lower box.
use Rattle.std.specs.Prelude.{List, [], ◌∷◌, None, Some, pos, ◌==◌, if◌then◌else◌}
use Rattle.row_model.specs.Multipliers.{Proof}
use Rattle.row_model.specs.Trees.{Split, Tree}

abbrev pub two_splits : List Split
two_splits = record { leaf = 0; coord = 0; cut = pos 524288 } ∷ record { leaf = 1; coord = 1; cut = pos 262144 } ∷ []

abbrev pub too_few : Proof
too_few = record { scale = 0; parts = record { row = 11; mult = pos 1 } ∷ [] }

abbrev pub small_tree : Tree
small_tree = record { splits = two_splits; proof = λ node. if node == 3 then Some too_few else None }
