use Rattle.std.proofs.Common.{ℕ, ◌+◌}
use Rattle.std.proofs.lemmas.Result.{err_from_is_err_and}
use Rattle.pool_model.specs.Network.{net_of}
use Rattle.box_space.specs.Views.{shown_box}
use Rattle.program_text.specs.Lines.{row_line}
use Rattle.text_pieces.proofs.Each.{front-each}
use Rattle.program_text.proofs.lines.write_rows.Goals as goal

pub returns-in_err-write_row-clause-wrote : goal.returns-in_err-write_row-clause-wrote
returns-in_err-write_row-clause-wrote g c =
    let n = net_of c.args.net.now in
    let b = shown_box c.args.v.now in
    let p = err_from_is_err_and c.from_residual.result c.from_residual.ensures.1 in
    rw p.1 (front-each (λ (i : ℕ). row_line n b (c.args.first + i)) c.loop-n.n c.args.count (g.K.Sink.taken c.args.out.now) (g.K.Sink.taken c.loop-n.out)
    (g.K.Sink.taken c.write_row.new.out) c.loop-n-test.true c.loop-n.invariant.0 c.in_err-write_row.ensures.wrote)
