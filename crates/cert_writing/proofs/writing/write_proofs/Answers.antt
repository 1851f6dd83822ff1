use Rattle.std.proofs.Common.{[], ◌∷◌, ◌++◌, length, map}
use Rattle.std.specs.Prelude.{decimal, codes}
use Rattle.std.specs.List.{flat_map}
use Rattle.edge_io.proofs.Writes.{wrote-same}
use Rattle.cert_writing.specs.Views.{shown_node_proof}
use Rattle.cert_writing.specs.Text.{line, proof_line, proof_lines}
use Rattle.cert_writing.proofs.Pieces.{counted_text}
use Rattle.cert_writing.proofs.writing.write_proofs.Goals as goal

pub returns-clause-wrote : goal.returns-clause-wrote
returns-clause-wrote g c =
    let xs = c.args.proofs.now in
    wrote-same c.write_counted.result (g.K.Sink.taken c.args.out.now) (line (codes "proofs") (decimal (length xs) ∷ []) ++ flat_map (λ x. proof_line (shown_node_proof x)) xs)
    (proof_lines (map shown_node_proof xs)) (g.K.Sink.taken c.write_counted.new.out) (counted_text (codes "proofs") proof_line shown_node_proof xs) c.write_counted.ensures.wrote
