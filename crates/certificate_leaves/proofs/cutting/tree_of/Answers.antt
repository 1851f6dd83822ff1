-- One split more.
use Rattle.std.proofs.Common.{◌≡◌, ◌<◌, ◌++◌, ◌∷◌, ℕ, [], List, length, get_or, map, pos, ap, sym, subst, ◌∙◌}
use Rattle.std.proofs.lemmas.List.{get_or-map, length-map}
use Rattle.pool_model.specs.Network.{Net, net_of}
use Rattle.row_model.specs.Trees.{Split, no_split, split_at}
use Rattle.box_space.specs.Views.{shown_split}
use Rattle.box_space.specs.declared.coordinates.Split as held
use Rattle.split_tree.specs.Splits.{Splits, MayCome}
use Rattle.cert_checker.proofs.Taking.{taken-next}
use Rattle.certificate_leaves.proofs.Taken.{may-come}
use Rattle.certificate_leaves.proofs.cutting.tree_of.Goals as goal

pub span_of-span-requires-clause-cuts : goal.span_of-span-requires-clause-cuts
span_of-span-requires-clause-cuts c =
    let n : Net = net_of c.args.net.now in
    let list : List Split = map shown_split c.args.splits.now in
    let t = c.loop-t.t in
    let behind : held.Split = record { leaf = 0; coord = 0; cut = pos 0 } in
    let here : split_at list t ≡ shown_split (get_or c.args.splits.now t behind) = get_or-map shown_split c.args.splits.now t behind no_split c.loop-t-test.true in
    let there : t < length list = subst (λ (m : ℕ). t < m) (sym (length-map c.args.splits.now shown_split)) c.loop-t-test.true in
    subst (MayCome n c.loop-t.tree.list) here (may-come n list t c.loop-t.tree there c.loop-t.invariant (c.requires.order t c.loop-t-test.true))

pub loop-t-preserved : goal.loop-t-preserved
loop-t-preserved c =
    let n : Net = net_of c.args.net.now in
    let list : List Split = map shown_split c.args.splits.now in
    let t = c.loop-t.t in
    let before : List Split = c.loop-t.tree.list in
    let behind : held.Split = record { leaf = 0; coord = 0; cut = pos 0 } in
    let here : split_at list t ≡ shown_split (get_or c.args.splits.now t behind) = get_or-map shown_split c.args.splits.now t behind no_split c.loop-t-test.true in
    let there : t < length list = subst (λ (m : ℕ). t < m) (sym (length-map c.args.splits.now shown_split)) c.loop-t-test.true in
    let cuts = subst (MayCome n before) here (may-come n list t c.loop-t.tree there c.loop-t.invariant (c.requires.order t c.loop-t-test.true)) in
    taken-next n list t c.loop-t.tree c.push.new.self there c.loop-t.invariant
    (ap (λ (s : Splits). s.list) c.in_ok-push.ensures.pushed ∙ ap (λ (s : Split). before ++ s ∷ []) (sym here))
    (c.in_ok-push.ensures.tree n c.loop-t.invariant.is cuts c.span_of-span.ensures)
