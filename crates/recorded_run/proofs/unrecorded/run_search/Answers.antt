use Rattle.std.proofs.Common.{sym, subst}
use Rattle.pool_model.specs.Network.{net_of}
use Rattle.box_tree.specs.Kept.{Held, searched_of}
use Rattle.search_core.specs.Searches.{searched}
use Rattle.search_run.specs.Runs.{IsRun}
use Rattle.search_run.proofs.Ending.{found-by}
use Rattle.recorded_run.proofs.unrecorded.run_search.Goals as goal

pub returns-in-Ok-clause-found : goal.returns-in-Ok-clause-found
returns-in-Ok-clause-found c =
    let n = net_of c.args.net.now in
    let o = c.args.orders in
    let ended = c.in-Ok.ended in
    let found = c.into_tree-tree.result in
    found-by n o (searched_of c.args.tree.kept) (searched_of found.kept) ended c.drive.new.search.start c.requires.tree.kept.searched c.in-Ok.ensures.ordered.search.start
    (subst (λ (b : Held). IsRun n o (searched_of b.kept) (searched_of found.kept) ended) c.in_ok-search.ensures.tree
    (subst (λ (f : Held). IsRun n o (searched c.in_ok-search.search) (searched_of f.kept) ended) (sym c.into_tree-tree.ensures) c.in-Ok.ensures.run))
