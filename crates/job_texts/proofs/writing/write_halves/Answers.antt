use Rattle.std.specs.Prelude.{codes, option_map}
use Rattle.std.proofs.lemmas.Result.{err_from_is_err_and}
use Rattle.edge_io.proofs.Writes.{front-first, front-second, wrote-three}
use Rattle.std.proofs.Common.{◌++◌}
use Rattle.box_space.specs.Views.{shown_proof, shown_split}
use Rattle.job_texts.specs.Texts.{answer_line, half_line}
use Rattle.job_texts.proofs.writing.write_halves.Goals as goal

pub returns-in_err-write_cut-clause-wrote : goal.returns-in_err-write_cut-clause-wrote
returns-in_err-write_cut-clause-wrote g c =
    let p = err_from_is_err_and c.from_residual.result c.from_residual.ensures.1 in
    rw p.1 (front-first (g.K.Sink.taken c.args.out.now) (answer_line c.args.number (shown_split c.args.split.now))
    (half_line (codes "left") (option_map shown_proof c.args.left.now) ++ half_line (codes "right") (option_map shown_proof c.args.right.now))
    (g.K.Sink.taken c.write_cut.new.out) c.in_err-write_cut.ensures.wrote)

pub returns-in_err-write_half-clause-wrote : goal.returns-in_err-write_half-clause-wrote
returns-in_err-write_half-clause-wrote g c =
    let p = err_from_is_err_and c.from_residual-in_err-write_half.result c.from_residual-in_err-write_half.ensures.1 in
    rw p.1 (front-second (g.K.Sink.taken c.args.out.now) (answer_line c.args.number (shown_split c.args.split.now)) (g.K.Sink.taken c.write_cut.new.out)
    (half_line (codes "left") (option_map shown_proof c.args.left.now)) (half_line (codes "right") (option_map shown_proof c.args.right.now))
    (g.K.Sink.taken c.write_half.new.out) c.in_ok-write_cut.ensures.wrote c.in_err-write_half.ensures.wrote)

pub returns-clause-wrote : goal.returns-clause-wrote
returns-clause-wrote g c =
    wrote-three c.write_half-2.result (g.K.Sink.taken c.args.out.now) (answer_line c.args.number (shown_split c.args.split.now)) (g.K.Sink.taken c.write_cut.new.out)
    (half_line (codes "left") (option_map shown_proof c.args.left.now)) (g.K.Sink.taken c.write_half.new.out) (half_line (codes "right") (option_map shown_proof c.args.right.now))
    (g.K.Sink.taken c.write_half-2.new.out) c.in_ok-write_cut.ensures.wrote c.in_ok-write_half.ensures.wrote c.write_half-2.ensures.wrote
