use Rattle.std.proofs.Common.{◌≡◌, ◌==◌, length, Bool, IsTrue, false, sym, ap, ◌∙◌}
use Rattle.pool_model.specs.Network.{net_of}
use Rattle.search_core.specs.Searches.{Searching}
use Rattle.search_core.proofs.RootCut.{some-cut}
use Rattle.search_core.proofs.search.Search.is_root_open.Goals as goal

untrue : (b : Bool) → b ≡ false → IsTrue b → ⊥
untrue b e t = cc

pub returns-else-is_empty : goal.returns-else-is_empty
returns-else-is_empty c =
    let n = net_of c.args.net.now in
    let kept = c.args.self.now.tree.kept in
    let shows = c.splits.ensures ∙ ap (λ (v : Searching). v.tree.kept.splits.list) c.self.view_is in
    let some : (length c.splits.result.now == 0) ≡ false = sym c.is_empty.ensures ∙ c.if-is_empty.false in (
      λ t. absurd (untrue c.is_empty.result c.if-is_empty.false t),
      λ is. absurd (some-cut n kept.splits.list c.splits.result.now shows c.requires.tree.kept.searched.tree.splits some is.1),
    )
