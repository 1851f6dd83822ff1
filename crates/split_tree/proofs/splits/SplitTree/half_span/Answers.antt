use Rattle.std.proofs.Common.{◌≡◌, ◌-◌, ◌/◌, length, get_or, ℤ, ap, sym, subst, rules, ◌∙◌, FitsSigned, to_z, of_z, to_z-of_z}
use mir.Syntax.{w64}
use Rattle.row_model.specs.Trees.{Split, split_at, box_of}
use Rattle.split_tree.specs.Splits.{Splits}
use Rattle.split_tree.specs.Spans.{no_span, IsSpanOf}
use Rattle.split_tree.proofs.Innermost.{no_held, held_at, parent_below}
use Rattle.split_tree.proofs.Spans.{span-left, span-right}
use Rattle.split_tree.proofs.Finding.{same-first}
use Rattle.split_tree.proofs.splits.SplitTree.half_span.Goals as goal

pub returns-then-node-eq1 : goal.returns-then-node-eq1
returns-then-node-eq1 c =
    let k = c.args.self.now in
    let node = c.args.node in
    let t = (node - 1) / 2 in
    let held = c.splits.result.now in
    let coord = (split_at k.list t).coord in
    let on : (get_or held t no_held).coord ≡ coord = ap (λ (s : Split). s.coord) (held_at held k.list t c.splits.ensures (parent_below node (length k.list) c.requires.some c.requires.there)) in
    let spans = c.as_slice.ensures.value ∙ ap (λ (v : Splits). v.spans) c.self.view_is in
    let low_fits : FitsSigned w64 (get_or c.as_slice.result.now t no_span).low = search rules in
    let cut_fits : FitsSigned w64 (get_or held t no_held).cut = search rules in
    λ n is.
    subst (λ (z : ℤ). IsSpanOf (box_of n k.list node) coord record { low = z; high = to_z w64 (of_z w64 (get_or held t no_held).cut) }) (sym (to_z-of_z low_fits))
    (subst (λ (z : ℤ). IsSpanOf (box_of n k.list node) coord record { low = (get_or c.as_slice.result.now t no_span).low; high = z }) (sym (to_z-of_z cut_fits))
    (span-left n k coord node node held is c.splits.ensures c.requires.some (same-first n k.list coord node c.requires.there) c.as_slice.result.now spans c.if-node-eq1.true on))

pub returns-else-node-eq1 : goal.returns-else-node-eq1
returns-else-node-eq1 c =
    let k = c.args.self.now in
    let node = c.args.node in
    let t = (node - 1) / 2 in
    let held = c.splits.result.now in
    let coord = (split_at k.list t).coord in
    let on : (get_or held t no_held).coord ≡ coord = ap (λ (s : Split). s.coord) (held_at held k.list t c.splits.ensures (parent_below node (length k.list) c.requires.some c.requires.there)) in
    let spans = c.as_slice.ensures.value ∙ ap (λ (v : Splits). v.spans) c.self.view_is in
    let high_fits : FitsSigned w64 (get_or c.as_slice.result.now t no_span).high = search rules in
    let cut_fits : FitsSigned w64 (get_or held t no_held).cut = search rules in
    λ n is.
    subst (λ (z : ℤ). IsSpanOf (box_of n k.list node) coord record { low = z; high = to_z w64 (of_z w64 (get_or c.as_slice.result.now t no_span).high) }) (sym (to_z-of_z cut_fits))
    (subst (λ (z : ℤ). IsSpanOf (box_of n k.list node) coord record { low = (get_or held t no_held).cut; high = z }) (sym (to_z-of_z high_fits))
    (span-right n k coord node node held is c.splits.ensures c.requires.some (same-first n k.list coord node c.requires.there) c.as_slice.result.now spans c.if-node-eq1.false on))
