use Rattle.std.proofs.Common.{[], ◌∷◌, ◌++◌, length, map}
use Rattle.std.specs.Prelude.{decimal, codes}
use Rattle.std.specs.List.{flat_map}
use Rattle.edge_io.proofs.Writes.{wrote-same}
use Rattle.cert_writing.specs.Text.{line}
use Rattle.cert_writing.proofs.Pieces.{counted_text}
use Rattle.tight_texts.specs.Texts.{mark_line, mark_lines}
use Rattle.tight_texts.specs.Views.{shown_leaf}
use Rattle.tight_texts.proofs.writing.write_mark_lines.Goals as goal

pub returns-clause-wrote : goal.returns-clause-wrote
returns-clause-wrote g c =
    let xs = c.args.marks.now in
    wrote-same c.write_counted.result (g.K.Sink.taken c.args.out.now) (line (codes "leaves") (decimal (length xs) ∷ []) ++ flat_map (λ x. mark_line (shown_leaf x)) xs)
    (mark_lines (map shown_leaf xs)) (g.K.Sink.taken c.write_counted.new.out) (counted_text (codes "leaves") mark_line shown_leaf xs) c.write_counted.ensures.wrote
