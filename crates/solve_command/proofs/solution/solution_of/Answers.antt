use Rattle.pool_model.specs.Network.{net_of}
use Rattle.box_tree.specs.Kept.{searched_of}
use Rattle.cert_format.specs.Views.{shown_cert}
use Rattle.solve_command.proofs.Solutions.{solved}
use Rattle.solve_command.proofs.solution.solution_of.Goals as goal

pub returns-clause-solved : goal.returns-clause-solved
returns-clause-solved c =
    solved (net_of c.args.net.now) c.args.orders (searched_of c.in_ok-root.root.kept) (searched_of c.in_ok-outcome.outcome.tree.kept) c.in_ok-outcome.outcome.ended
    (shown_cert c.in_ok-certificate.certificate) c.certificate_of.ensures.limited c.in_ok-root.ensures.searched c.in_ok-outcome.ensures.run c.in_ok-outcome.ensures.found
    c.in_ok-certificate.ensures.found c.in_ok-certificate.ensures.valid
