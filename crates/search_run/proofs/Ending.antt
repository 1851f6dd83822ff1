-- What holds at the end of a run.
use Rattle.std.proofs.Common.{◌≡◌, ◌≢◌, inl, inr, false, Option, None, arith, refl, sym, subst, ◌∙◌}
use Rattle.pool_model.specs.Network.{Net}
use Rattle.row_model.specs.Trees.{nodes, is_cut, leaf_bound, node_bound, tree_bound, box_of}
use Rattle.row_model.specs.Entries.{Searched, IsSearched}
use Rattle.dual_rounding.specs.Price.{IsPriced}
use Rattle.search_core.specs.Searches.{Costed, IsStartOf}
use Rattle.search_core.specs.Cases.{HasNoBetterStart}
use Rattle.search_run.specs.Runs.{IsEnd, IsRun}
use Rattle.search_run.specs.Found.{IsFound, IsPricedAt}
use Rattle.search_run.specs.declared.orders.Orders.{Orders}
use Rattle.search_core.specs.declared.ended.Ended.{Ended}
use Rattle.search_core.specs.declared.ended.Ended.TheVariants.{Closed, Stopped, Stuck, Infeasible, Undecided}
use Rattle.search_run.proofs.Covering.{covers}
use Rattle.search_run.proofs.Reaching.{tree-reached, least-none}
use Rattle.search_run.proofs.Rooting.{IsRootDone, done-now}
use Rattle.search_run.proofs.Sound.{IsSound, sound-start, sound-steps}

-- no starting plan is better at the end
end-start : (n : Net) (o : Orders) (s : Searched) (ended : Ended) → IsEnd n o s ended → HasNoBetterStart n s
end-start n o s Infeasible end = end.0
end-start n o s Closed end = end.0
end-start n o s Stopped end = end.0.apart.start
end-start n o s Stuck end = end.0.apart.start
end-start n o s Undecided end = end.0.apart.start

-- a root that is not cut holds no plan, where no leaf does
empty-root : (n : Net) (s : Searched) → tree_bound n s.tree ≡ None → is_cut s.tree.splits 0 ≡ false → IsPricedAt n s.tree 0
empty-root n s none uncut =
    let own : leaf_bound n s.tree 0 ≡ node_bound n s.tree 0 = cc (uncut) in
    subst (IsPriced n (box_of n s.tree.splits 0)) (sym (sym own ∙ least-none (leaf_bound n s.tree) (nodes s.tree.splits) 0 none (omega arith))) tt

empty-done : (n : Net) (s : Searched) → tree_bound n s.tree ≡ None → IsRootDone n s → IsPricedAt n s.tree 0
empty-done n s none (inl opens) = empty-root n s none opens.1
empty-done n s none (inr priced) = priced

end-root : (n : Net) (o : Orders) (s : Searched) (ended : Ended) → IsEnd n o s ended → ended ≢ Closed → IsRootDone n s → IsPricedAt n s.tree 0
end-root n o s Infeasible end other done = empty-done n s end.1 done
end-root n o s Closed end other done = absurd (other refl)
end-root n o s Stopped end other done = done-now n o.form s end.0.proved done
end-root n o s Stuck end other done = done-now n o.form s end.0.proved done
end-root n o s Undecided end other done = done-now n o.form s end.0.proved done

pub found-by : (n : Net) (o : Orders) (begun found : Searched) (ended : Ended) (start : Option Costed) → IsSearched n begun → IsStartOf n start → IsRun n o begun found ended
    → IsFound n o begun found ended
found-by n o begun found ended start is of run =
    let so : IsSound n o begun found = subst (IsSound n o begun) (sym run.made) (sound-steps n o begun begun run.entries (sound-start n o begun is) run.steps) in
    record {
      searched = so.searched;
      starts = covers n start found of (end-start n o found ended run.end);
      reached = tree-reached n found.tree;
      grown = so.grown;
      rooted = λ opens other. end-root n o found ended run.end other (so.rooted opens);
    }
