use Rattle.std.proofs.Common.{[], ◌++◌, map}
use Rattle.std.specs.Prelude.{codes}
use Rattle.std.proofs.lemmas.Result.{err_from_is_err_and}
use Rattle.edge_io.proofs.Writes.{front-first, front-second, front-third, wrote-four}
use Rattle.box_space.specs.Views.{shown_split}
use Rattle.cert_writing.specs.Views.{shown_claim, shown_node_proof}
use Rattle.cert_writing.specs.Text.{line, split_lines, proof_lines, number_lines}
use Rattle.cert_writing.proofs.writing.write_rest.Goals as goal

pub returns-in_err-write_splits-clause-wrote : goal.returns-in_err-write_splits-clause-wrote
returns-in_err-write_splits-clause-wrote g c =
    let p = err_from_is_err_and c.from_residual.result c.from_residual.ensures.1 in
    rw p.1 (front-first (g.K.Sink.taken c.args.out.now) (split_lines (map shown_split c.args.cert.now.splits.items))
    ((proof_lines (map shown_node_proof c.args.cert.now.proofs.items)) ++ ((number_lines (shown_claim c.args.cert.now.claim)) ++ ((line (codes "end") [])))) (g.K.Sink.taken c.write_splits.new.out)
    (rw c.as_slice.ensures.value at c.in_err-write_splits.ensures.wrote))

pub returns-in_err-write_proofs-clause-wrote : goal.returns-in_err-write_proofs-clause-wrote
returns-in_err-write_proofs-clause-wrote g c =
    let p = err_from_is_err_and c.from_residual-in_err-write_proofs.result c.from_residual-in_err-write_proofs.ensures.1 in
    rw p.1 (front-second (g.K.Sink.taken c.args.out.now) (split_lines (map shown_split c.args.cert.now.splits.items))
    (g.K.Sink.taken c.write_splits.new.out) (proof_lines (map shown_node_proof c.args.cert.now.proofs.items))
    ((number_lines (shown_claim c.args.cert.now.claim)) ++ ((line (codes "end") []))) (g.K.Sink.taken c.write_proofs.new.out)
    (rw c.as_slice.ensures.value at c.in_ok-write_splits.ensures.wrote) (rw c.as_slice-2.ensures.value at c.in_err-write_proofs.ensures.wrote))

pub returns-in_err-write_numbers-clause-wrote : goal.returns-in_err-write_numbers-clause-wrote
returns-in_err-write_numbers-clause-wrote g c =
    let p = err_from_is_err_and c.from_residual-in_err-write_numbers.result c.from_residual-in_err-write_numbers.ensures.1 in
    rw p.1 (front-third (g.K.Sink.taken c.args.out.now) (split_lines (map shown_split c.args.cert.now.splits.items))
    (g.K.Sink.taken c.write_splits.new.out) (proof_lines (map shown_node_proof c.args.cert.now.proofs.items))
    (g.K.Sink.taken c.write_proofs.new.out) (number_lines (shown_claim c.args.cert.now.claim)) ((line (codes "end") [])) (g.K.Sink.taken c.write_numbers.new.out)
    (rw c.as_slice.ensures.value at c.in_ok-write_splits.ensures.wrote) (rw c.as_slice-2.ensures.value at c.in_ok-write_proofs.ensures.wrote) c.in_err-write_numbers.ensures.wrote)

pub returns-clause-wrote : goal.returns-clause-wrote
returns-clause-wrote g c =
    wrote-four c.write_whole.result (g.K.Sink.taken c.args.out.now) (split_lines (map shown_split c.args.cert.now.splits.items))
    (g.K.Sink.taken c.write_splits.new.out) (proof_lines (map shown_node_proof c.args.cert.now.proofs.items))
    (g.K.Sink.taken c.write_proofs.new.out) (number_lines (shown_claim c.args.cert.now.claim)) (g.K.Sink.taken c.write_numbers.new.out) (line (codes "end") []) (g.K.Sink.taken c.write_whole.new.out)
    (rw c.as_slice.ensures.value at c.in_ok-write_splits.ensures.wrote)
    (rw c.as_slice-2.ensures.value at c.in_ok-write_proofs.ensures.wrote) c.in_ok-write_numbers.ensures.wrote c.write_whole.ensures.wrote
