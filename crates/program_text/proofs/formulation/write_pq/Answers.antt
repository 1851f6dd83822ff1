use Rattle.edge_io.proofs.Writes.{wrote-behind}
use Rattle.pool_model.specs.Network.{net_of}
use Rattle.box_space.specs.Views.{shown_box}
use Rattle.program_text.specs.Programs.{q_lines, pq_lines}
use Rattle.program_text.proofs.formulation.write_pq.Goals as goal

pub returns-clause-wrote : goal.returns-clause-wrote
returns-clause-wrote g c =
    let n = net_of c.args.net.now in
    let b = shown_box c.args.v.now in
    wrote-behind c.write_group.result (g.K.Sink.taken c.args.out.now) (q_lines n b) (g.K.Sink.taken c.write_q.new.out) (pq_lines n b) (g.K.Sink.taken c.write_group.new.out)
    c.in_ok-write_q.ensures.wrote c.write_group.ensures.wrote
