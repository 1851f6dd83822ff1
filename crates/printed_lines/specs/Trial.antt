-- The lines that tell how a trial went.
use Rattle.std.specs.Prelude.{ℕ, ◌+◌, length, List, [], ◌∷◌, ◌++◌, codes, pos}
use Rattle.std.specs.Fmt.{signed_decimal}
use Rattle.pool_model.specs.Network.{Net}
use Rattle.pool_model.specs.Paths.{paths_of}
use Rattle.row_model.specs.Catalogue.{rows}
use Rattle.text_pieces.specs.Pieces.{joined}
use Rattle.printed_lines.specs.declared.trial.Trial.{Trial}

-- how many sources, pools, products, qualities, arcs, paths and rows the network has
abbrev pub network_line : Net → List ℕ
network_line n =
    joined (codes "network " ∷ signed_decimal (pos n.sources) ∷ codes " " ∷ signed_decimal (pos n.pools) ∷ codes " " ∷ signed_decimal (pos n.products) ∷ codes " " ∷ signed_decimal (pos n.qualities)
    ∷ codes " arcs " ∷ signed_decimal (pos (n.feeds + n.outs + n.directs)) ∷ codes " paths " ∷ signed_decimal
    (pos (length (paths_of n))) ∷ codes " rows " ∷ signed_decimal (pos (rows n)) ∷ codes "\n" ∷ [])

-- the status, the cost over its base, the bound and the gap, and that the check accepts
abbrev pub outcome_lines : Trial → List ℕ
outcome_lines t =
    joined (codes "status " ∷ signed_decimal (pos t.status) ∷ codes "\ncost " ∷ signed_decimal t.cost ∷ codes " " ∷ signed_decimal (pos t.base) ∷ codes " bound " ∷ signed_decimal t.bound
    ∷ codes " gap " ∷ signed_decimal t.gap ∷ codes "\ncheck accepted\n" ∷ [])

-- the four lines of a trial
abbrev pub trial_text : Net → Trial → List ℕ
trial_text n t = network_line n ++ outcome_lines t
