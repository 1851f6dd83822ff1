use Rattle.std.proofs.Common.{◌≡◌, false, sym, ap, subst, ◌∙◌}
use Rattle.pool_model.specs.Network.{net_of}
use Rattle.box_tree.specs.Views.{shown_entry}
use Rattle.box_tree.specs.declared.entry.Entry.{Entry}
use Rattle.search_core.specs.Searches.{Searching, searched}
use Rattle.search_core.specs.Cases.{IsRepairedAfter}
use Rattle.search_core.proofs.Repaired.{repaired-now}
use Rattle.search_core.proofs.search.Search.repaired_after.Goals as goal

pub returns-else-self : goal.returns-else-self
returns-else-self c =
    let n = net_of c.args.net.now in
    let s = c.args.self.now in
    let clear : s.repaired ≡ false = sym (ap (λ (v : Searching). v.repaired) c.self.view_is) ∙ c.if-self.false in
    subst (λ (e : Entry). IsRepairedAfter n (searched s) (shown_entry e) s.repaired c.is_none.result) (sym c.in-Improve.is)
    (repaired-now n (searched s) s.repaired c.is_none.result c.better_start.result clear c.is_none.ensures c.better_start.ensures.some c.better_start.ensures.none)
