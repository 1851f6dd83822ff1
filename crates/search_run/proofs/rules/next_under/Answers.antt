use Rattle.pool_model.specs.Network.{net_of}
use Rattle.search_core.specs.Searches.{searched}
use Rattle.search_run.proofs.Stepping.{each-weaker}
use Rattle.search_run.proofs.rules.next_under.Goals as goal

pub returns-clause-next : goal.returns-clause-next
returns-clause-next g c =
    let s = c.args.search.now in
    each-weaker (net_of c.args.net.now) s.options (searched s) s.repaired c.args.name _ c.next.result c.requires.rule c.next.ensures.next
