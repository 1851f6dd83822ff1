use Rattle.std.proofs.Common.{◌<◌, List, length, get_or, sym, ap, subst, ◌∙◌}
use Rattle.std.proofs.lemmas.Result.{err_from_is_err_and}
use Rattle.pool_model.specs.Network.{net_of}
use Rattle.leaf_order.specs.Order.{no_leaf}
use Rattle.tight_texts.specs.declared.marks.LeafMark.{LeafMark}
use Rattle.tight_checks.proofs.Judged.{held-at, leaf-there, judged-more, judged-bad}
use Rattle.tight_checks.proofs.Lists.{same-at}
use Rattle.tight_checks.proofs.judging.MarkJudge.least_bound.Goals as goal

pub judge-requires-clause-there : goal.judge-requires-clause-there
judge-requires-clause-there c =
    let n = net_of c.args.net.now in
    let f = c.args.found.now in
    let text = c.args.text.now in
    let lt = subst (λ (xs : List LeafMark). c.loop-i.i < length xs) c.as_slice-lines.ensures.value c.loop-i-test.true in
    leaf-there n f text c.requires.named c.requires.found c.loop-i.i (get_or c.leaves-leaves.result.now c.loop-i.i no_leaf) lt
    (held-at n f text c.requires.named c.leaves-leaves.result.now c.leaves-leaves.ensures c.loop-i.i no_leaf lt)

pub returns-in_err-left-clause-bad : goal.returns-in_err-left-clause-bad
returns-in_err-left-clause-bad c = λ tree is.
    let n = net_of c.args.net.now in
    let f = c.args.found.now in
    let text = c.args.text.now in
    let leaf = get_or c.leaves-leaves.result.now c.loop-i.i no_leaf in
    let line = get_or c.as_slice-lines.result.now c.loop-i.i c.index-lines-i.result in
    let lt = subst (λ (xs : List LeafMark). c.loop-i.i < length xs) c.as_slice-lines.ensures.value c.loop-i-test.true in
    let at = ap (λ (xs : List LeafMark). get_or xs c.loop-i.i line) (sym c.as_slice-lines.ensures.value) ∙ same-at c.as_slice-lines.result.now c.loop-i.i line c.index-lines-i.result c.loop-i-test.true in
    let here = held-at n f text c.requires.named c.leaves-leaves.result.now c.leaves-leaves.ensures c.loop-i.i no_leaf lt in
    let p = err_from_is_err_and c.from_residual.result c.from_residual.ensures.1 in
    rw (p.1, p.2) (judged-bad n f text c.requires.named c.loop-i.i line leaf lt at here c.loop-i.least c.loop-i.invariant.1 c.in_err-left.field-0.0 c.in_err-left.ensures.named c.in_err-left.ensures.wrong tree is)

pub loop-i-preserved : goal.loop-i-preserved
loop-i-preserved c =
    let n = net_of c.args.net.now in
    let f = c.args.found.now in
    let text = c.args.text.now in
    let leaf = get_or c.leaves-leaves.result.now c.loop-i.i no_leaf in
    let line = get_or c.as_slice-lines.result.now c.loop-i.i c.index-lines-i.result in
    let lt = subst (λ (xs : List LeafMark). c.loop-i.i < length xs) c.as_slice-lines.ensures.value c.loop-i-test.true in
    let at = ap (λ (xs : List LeafMark). get_or xs c.loop-i.i line) (sym c.as_slice-lines.ensures.value) ∙ same-at c.as_slice-lines.result.now c.loop-i.i line c.index-lines-i.result c.loop-i-test.true in
    let here = held-at n f text c.requires.named c.leaves-leaves.result.now c.leaves-leaves.ensures c.loop-i.i no_leaf lt in (
      c.judge.ensures.room,
      rw c.lesser_bound-least.ensures
          (judged-more n f text c.requires.named c.loop-i.i line leaf lt at here c.loop-i.least c.loop-i.invariant.1 c.in_ok-left.left c.in_ok-left.ensures.holds c.in_ok-left.ensures.left),
    )
