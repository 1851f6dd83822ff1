use Rattle.std.proofs.Common.{arith}
use Rattle.std.proofs.lemmas.Result.{err_from_is_err_and}
use Rattle.pool_model.specs.Network.{net_of}
use Rattle.row_model.specs.Variables.{variables}
use Rattle.box_space.specs.Views.{shown_box}
use Rattle.program_text.specs.Lines.{ends_text}
use Rattle.edge_io.proofs.Counting.{grows-then}
use Rattle.text_pieces.proofs.Each.{front-each, more-each}
use Rattle.program_text.proofs.lines.write_ends.Goals as goal

pub returns-in_err-write_ends_of-clause-wrote : goal.returns-in_err-write_ends_of-clause-wrote
returns-in_err-write_ends_of-clause-wrote g c =
    let n = net_of c.args.net.now in
    let b = shown_box c.args.v.now in
    let p = err_from_is_err_and c.from_residual.result c.from_residual.ensures.1 in
    rw p.1 (front-each (ends_text n b c.args.form) c.loop-var.var (variables n) (g.K.Sink.taken c.args.out.now) (g.K.Sink.taken c.loop-var.out)
    (g.K.Sink.taken c.write_ends_of.new.out) (omega (arith, c.vars-var-end.ensures.count)) c.loop-var.invariant.0 c.in_err-write_ends_of.ensures.wrote)

pub loop-var-preserved : goal.loop-var-preserved
loop-var-preserved g c = (
  more-each (ends_text (net_of c.args.net.now) (shown_box c.args.v.now) c.args.form) c.loop-var.var (g.K.Sink.taken c.args.out.now) (g.K.Sink.taken c.loop-var.out)
      (g.K.Sink.taken c.write_ends_of.new.out) c.loop-var.invariant.0 c.in_ok-write_ends_of.ensures.wrote,
  grows-then (g.K.Sink.faults c.args.out.now) (g.K.Sink.faults c.loop-var.out) (g.K.Sink.faults c.write_ends_of.new.out) c.loop-var.invariant.1 c.write_ends_of.ensures.faults_grow,
)
