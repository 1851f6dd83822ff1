use Rattle.std.proofs.lemmas.Result.{err_from_is_err_and}
use Rattle.edge_io.proofs.Writes.{front-first, wrote-behind}
use Rattle.pool_model.specs.Network.{net_of}
use Rattle.printed_lines.specs.Trial.{network_line, outcome_lines}
use Rattle.printed_lines.proofs.trial.put_trial.Goals as goal

pub returns-in_err-write_network-clause-wrote : goal.returns-in_err-write_network-clause-wrote
returns-in_err-write_network-clause-wrote g c =
    let p = err_from_is_err_and c.from_residual.result c.from_residual.ensures.1 in
    rw p.1 (front-first (g.K.Sink.taken c.args.out.now) (network_line (net_of c.args.net.now)) (outcome_lines c.args.trial.now) (g.K.Sink.taken c.write_network.new.out)
    c.in_err-write_network.ensures.wrote)

pub returns-clause-wrote : goal.returns-clause-wrote
returns-clause-wrote g c =
    wrote-behind c.write_outcome.result (g.K.Sink.taken c.args.out.now) (network_line (net_of c.args.net.now)) (g.K.Sink.taken c.write_network.new.out)
    (outcome_lines c.args.trial.now) (g.K.Sink.taken c.write_outcome.new.out) c.in_ok-write_network.ensures.wrote c.write_outcome.ensures.wrote
