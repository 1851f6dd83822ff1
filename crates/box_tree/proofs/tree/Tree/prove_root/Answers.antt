use Rattle.std.proofs.Common.{◌≡◌, get_or, false, Option, Some, None, ℤ, arith, ap, sym, subst, rules, ◌∙◌}
use Rattle.std.proofs.lemmas.Result.{err_from_is_err_and}
use Rattle.pool_model.specs.Network.{net_of}
use Rattle.row_model.specs.Boxes.{Box, root}
use Rattle.row_model.specs.Multipliers.{Shown, shown_by}
use Rattle.row_model.specs.Trees.{raised, is_cut}
use Rattle.row_model.specs.Entries.{root_proof}
use Rattle.row_model.proofs.TreeLaw.{box_is}
use Rattle.box_space.specs.Views.{shown_proof, AreEndsOf}
use Rattle.row_book.specs.Views.{shown_value}
use Rattle.box_tree.specs.Kept.{Kept, Held, searched_of}
use Rattle.box_tree.specs.Taken.{rooted, IsTaken}
use Rattle.box_tree.proofs.Rooting.{root-taken, late}
use Rattle.box_tree.proofs.Refusals.{bad-root, root-late}
use Rattle.box_tree.proofs.tree.Tree.prove_root.Goals as goal

pub returns-in_err-shown-clause-fault : goal.returns-in_err-shown-clause-fault
returns-in_err-shown-clause-fault c =
    let n = net_of c.args.net.now in
    let k = c.args.self.now.kept in
    let f = c.in_err-shown.field-0.0 in
    let top = subst (λ (b : Box). AreEndsOf n b c.in_ok-ends.ends) (box_is n k.splits.list 0 0 (omega arith) (omega arith)) c.in_ok-ends.ensures in
    let p = err_from_is_err_and c.from_residual-in_err-shown.result c.from_residual-in_err-shown.ensures.1 in
    rw (p.1, p.2) (λ _. bad-root n (searched_of k) (shown_proof c.args.proof) f (c.in_err-shown.ensures.fault (root n) top))

pub returns-then-not-is_root_open-clause-fault : goal.returns-then-not-is_root_open-clause-fault
returns-then-not-is_root_open-clause-fault c =
    let n = net_of c.args.net.now in
    let k = c.args.self.now.kept in
    let top = subst (λ (b : Box). AreEndsOf n b c.in_ok-ends.ends) (box_is n k.splits.list 0 0 (omega arith) (omega arith)) c.in_ok-ends.ensures in
    let open_not : ¬ ((get_or k.proofs 0 None ≡ None) × (is_cut k.splits.list 0 ≡ false)) = search rules in
    λ _. root-late n (searched_of k) (shown_proof c.args.proof) (c.in_ok-shown.ensures.in_order (root n) top) (late (get_or k.proofs 0 None) (is_cut k.splits.list 0) open_not)

pub returns-clause-taken : goal.returns-clause-taken
returns-clause-taken c =
    let n = net_of c.args.net.now in
    let k = c.args.self.now.kept in
    let proof = shown_proof c.args.proof in
    let top = subst (λ (b : Box). AreEndsOf n b c.in_ok-ends.ends) (box_is n k.splits.list 0 0 (omega arith) (omega arith)) c.in_ok-ends.ensures in
    let same = ap (λ (v : Held). v.kept) c.self.view_is in
    let is_open : (get_or k.proofs 0 None ≡ None) × (is_cut k.splits.list 0 ≡ false) = search rules in
    let shows : shown_value c.in_ok-shown.shown ≡ shown_by n (root n) proof = c.in_ok-shown.ensures.shown (root n) top in
    let before : c.node_bound.result ≡ get_or k.bounds 0 None = c.node_bound.ensures.kept ∙ ap (λ (z : Kept). get_or z.bounds 0 None) same in
    let bound_is : c.raised-bound.result ≡ raised (get_or k.bounds 0 None) (Some (shown_by n (root n) proof)) =
    c.raised-bound.ensures ∙ ap (λ (o : Option ℤ). raised o (Some (shown_value c.in_ok-shown.shown))) before ∙ ap (λ (z : Shown). raised (get_or k.bounds 0 None) (Some z)) shows in
    subst (λ (z : Kept). IsTaken n (root_proof proof) k z) (sym (c.in_ok-set_root.ensures.kept ∙ ap (λ (z : Kept). rooted z proof c.raised-bound.result) same))
    (root-taken n k proof c.raised-bound.result c.requires.kept (c.in_ok-shown.ensures.in_order (root n) top) is_open.0 is_open.1 bound_is)
