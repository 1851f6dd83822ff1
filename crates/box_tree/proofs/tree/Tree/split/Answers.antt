use Rattle.std.proofs.Common.{◌≡◌, ℕ, ◌<◌, ◌≤◌, false, get_or, Option, None, ℤ, option_map, ap, sym, subst, ◌∙◌}
use Rattle.std.proofs.lemmas.Result.{err_from_is_err_and}
use Rattle.pool_model.specs.Network.{net_of}
use Rattle.row_model.specs.Multipliers.{Shown, shown_by, IsInOrder}
use Rattle.row_model.specs.Trees.{raised, nodes, most_splits, is_cut}
use Rattle.row_model.specs.Entries.{split_of, IsSplitEntryInOrder}
use Rattle.box_space.specs.Views.{shown_proof, shown_split}
use Rattle.row_book.specs.Views.{shown_value}
use Rattle.std.specs.Option.{ForSome}
use Rattle.split_tree.specs.declared.span.Side.TheVariants.{Left, Right}
use Rattle.split_tree.specs.Spans.{half_at, CutsBetween}
use Rattle.split_tree.specs.Splits.{Splits, MayCome, IsOf as AreCut}
use Rattle.box_tree.specs.Kept.{Kept, searched_of}
use Rattle.box_tree.specs.Taken.{grown, IsTaken}
use Rattle.box_tree.proofs.Counting.{few-counted}
use Rattle.box_tree.proofs.Growing.{split-taken}
use Rattle.box_tree.proofs.Indexing.{cut-past}
use Rattle.box_tree.proofs.Refusals.{bad-split}
use Rattle.box_tree.proofs.tree.Tree.split.Goals as goal

pub returns-in_err-span-clause-fault : goal.returns-in_err-span-clause-fault
returns-in_err-span-clause-fault c =
    let p = err_from_is_err_and c.from_residual.result c.from_residual.ensures.1 in
    rw (p.1, p.2) (λ _. bad-split (net_of c.args.net.now) (searched_of c.args.self.now.kept) (shown_split c.args.split)
    (option_map shown_proof c.args.left) (option_map shown_proof c.args.right) c.in_err-span.field-0.0
    c.in_err-span.ensures.fault)

pub returns-clause-taken : goal.returns-clause-taken
returns-clause-taken c =
    let n = net_of c.args.net.now in
    let k = c.args.self.now.kept in
    let s = shown_split c.args.split in
    let left = option_map shown_proof c.args.left in
    let right = option_map shown_proof c.args.right in
    let cut = c.in_ok-span.ensures in
    let kept = c.in_ok-left_shown.ensures.kept in
    let same = c.in_ok-right_shown.ensures.kept ∙ kept in
    let left_half = half_at n k.splits.list s Left in
    let right_half = half_at n k.splits.list s Right in
    let order : IsSplitEntryInOrder n (searched_of k) s left right = record {
      cuts = cut.cuts;
      few = cut.few;
      left_proof = c.in_ok-left_shown.ensures.in_order;
      right_proof = subst (λ (z : Kept). ForSome right (IsInOrder n (half_at n z.splits.list s Right))) kept c.in_ok-right_shown.ensures.in_order;
    } in
    let above : c.node_bound-above.result ≡ get_or k.bounds s.leaf None = c.node_bound-above.ensures.kept ∙ ap (λ (z : Kept). get_or z.bounds s.leaf None) same in
    let raise = λ (o : Option Shown). ap (λ (b : Option ℤ). raised b o) above in
    let left_is : c.raised.result ≡ raised (get_or k.bounds s.leaf None) (option_map (shown_by n left_half) left) =
    c.raised.ensures ∙ raise (option_map shown_value c.in_ok-left_shown.left_shown) ∙ ap (raised (get_or k.bounds s.leaf None)) c.in_ok-left_shown.ensures.shown in
    let right_is : c.raised-2.result ≡ raised (get_or k.bounds s.leaf None) (option_map (shown_by n right_half) right) =
    c.raised-2.ensures ∙ raise (option_map shown_value c.in_ok-right_shown.right_shown) ∙ ap (raised (get_or k.bounds s.leaf None)) c.in_ok-right_shown.ensures.shown
    ∙ ap (λ (z : Kept). raised (get_or k.bounds s.leaf None) (option_map (shown_by n (half_at n z.splits.list s Right)) right)) kept in
    let grows = c.in_ok-grow.ensures.grown ∙ ap (λ (z : Kept). grown z s c.in_ok-span.span left right c.raised.result c.raised-2.result) same in
    let splits = subst (λ (t : Splits). AreCut n t) (ap (λ (z : Kept). z.splits) grows)
    (c.in_ok-grow.ensures.cut n (subst (λ (z : Kept). AreCut n z.splits) (sym same) c.requires.kept.splits) (subst (λ (z : Kept). MayCome n z.splits.list s) (sym same) cut.cuts)
    (subst (λ (z : Kept). CutsBetween n z.splits.list s c.in_ok-span.span) (sym same) cut.span)) in
    subst (λ (z : Kept). IsTaken n (split_of s left right) k z) (sym grows)
    (split-taken n k s c.in_ok-span.span left right c.raised.result c.raised-2.result c.requires.kept order splits left_is right_is)

pub grow-requires-clause-uncut : goal.grow-requires-clause-uncut
grow-requires-clause-uncut c =
    let n = net_of c.args.net.now in
    let same = c.in_ok-right_shown.ensures.kept ∙ c.in_ok-left_shown.ensures.kept in
    subst (λ (z : Kept). (node : ℕ) → nodes z.splits.list ≤ node → is_cut z.splits.list node ≡ false) (sym same) (cut-past n c.args.self.now.kept.splits c.requires.kept.splits)

pub grow-requires-clause-counted : goal.grow-requires-clause-counted
grow-requires-clause-counted c =
    let n = net_of c.args.net.now in
    let k = c.args.self.now.kept in
    let s = shown_split c.args.split in
    let same = c.in_ok-right_shown.ensures.kept ∙ c.in_ok-left_shown.ensures.kept in
    subst (λ (z : Kept). get_or z.cuts s.coord 0 < most_splits) (sym same) (few-counted n k.splits.list k.cuts s.coord c.in_ok-span.ensures.cuts.coord c.in_ok-span.ensures.few c.requires.kept.counted)
