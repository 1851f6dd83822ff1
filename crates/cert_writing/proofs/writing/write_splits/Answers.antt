use Rattle.std.proofs.Common.{[], ◌∷◌, ◌++◌, length, map}
use Rattle.std.specs.Prelude.{decimal, codes}
use Rattle.std.specs.List.{flat_map}
use Rattle.edge_io.proofs.Writes.{wrote-same}
use Rattle.box_space.specs.Views.{shown_split}
use Rattle.cert_writing.specs.Text.{line, split_line, split_lines}
use Rattle.cert_writing.proofs.Pieces.{counted_text}
use Rattle.cert_writing.proofs.writing.write_splits.Goals as goal

pub returns-clause-wrote : goal.returns-clause-wrote
returns-clause-wrote g c =
    let xs = c.args.splits.now in
    wrote-same c.write_counted.result (g.K.Sink.taken c.args.out.now) (line (codes "splits") (decimal (length xs) ∷ []) ++ flat_map (λ x. split_line (shown_split x)) xs)
    (split_lines (map shown_split xs)) (g.K.Sink.taken c.write_counted.new.out) (counted_text (codes "splits") split_line shown_split xs) c.write_counted.ensures.wrote
