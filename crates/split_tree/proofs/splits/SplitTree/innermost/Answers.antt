use Rattle.std.proofs.Common.{◌≢◌, ℕ, ◌-◌, ◌/◌, ◌<◌, List, length, arith, refl, ap, sym, subst, ◌∙◌}
use Rattle.map_versions.specs.Versions.{Versions}
use Rattle.row_model.specs.Trees.{Split, split_at}
use Rattle.split_tree.specs.Cuts.{IsInnermost, root as at_root, AreMapped}
use Rattle.split_tree.specs.Splits.{Splits}
use Rattle.split_tree.proofs.Innermost.{held_at, parent_below}
use Rattle.split_tree.proofs.Finding.{found-here, found-above}
use Rattle.split_tree.proofs.splits.SplitTree.innermost.Goals as goal

pub returns-then-node-eq0 : goal.returns-then-node-eq0
returns-then-node-eq0 c = at_root c.if-node-eq0.true refl

pub returns-then-splits-above : goal.returns-then-splits-above
returns-then-splits-above c =
    let list = c.args.self.now.list in
    let t = (c.args.node - 1) / 2 in
    let some : 0 < c.args.node = omega (arith, c.if-node-eq0.false) in
    let at = held_at c.splits.result.now list t c.splits.ensures (parent_below c.args.node (length list) some c.requires.there) in
    found-here list c.args.node c.args.coord some c.requires.there (ap (λ (s : Split). s.coord) (sym at) ∙ c.if-splits-above.true)

pub returns-else-splits-above : goal.returns-else-splits-above
returns-else-splits-above c =
    let list = c.args.self.now.list in
    let t = (c.args.node - 1) / 2 in
    let some : 0 < c.args.node = omega (arith, c.if-node-eq0.false) in
    let at = held_at c.splits.result.now list t c.splits.ensures (parent_below c.args.node (length list) some c.requires.there) in
    let other : (split_at list t).coord ≢ c.args.coord = λ f. c.if-splits-above.false (ap (λ (s : Split). s.coord) at ∙ f) in
    let kept : AreMapped list c.self.inside.maps.value = subst (λ (xs : List Split). AreMapped xs c.self.inside.maps.value) (ap (λ (v : Splits). v.list) c.self.view_is) c.self.invariant.1 in
    let mapped : AreMapped list c.deref.result.now = subst (λ (m : Versions). AreMapped list m) (sym c.deref.ensures) kept in
    subst (λ (z : ℕ). IsInnermost list c.args.coord z c.args.node) (sym c.number.ensures)
    (found-above list c.deref.result.now c.args.node c.args.coord mapped c.requires.keys c.requires.key some c.requires.there other)
