use Rattle.std.proofs.Common.{sym, ◌∙◌}
use Rattle.pool_model.specs.Network.{net_of}
use Rattle.search_run.proofs.Settling.{cut-due, kept-due, squeeze-due, no-cut, one-cut}
use Rattle.search_run.proofs.deciding.chosen.Goals as goal

pub returns-in_default : goal.returns-in_default
returns-in_default c =
    let n = net_of c.args.net.now in
    let s = c.args.search.now in
    kept-due n c.args.orders s c.requires.search c.requires.options _ _ c.in_ok-due.ensures.next c.in_ok-due.ensures.in_order
    (λ leaf e. no-cut n c.args.orders s c.requires.search c.requires.options _ leaf (sym c.cut_leaf.ensures ∙ c.in_default.is) e)

pub squeezed_leaf-requires-clause-start : goal.squeezed_leaf-requires-clause-start
squeezed_leaf-requires-clause-start c =
    (cut-due (net_of c.args.net.now) c.args.orders c.args.search.now c.requires.search c.requires.options _ _ c.in-Some.leaf c.in_ok-due.ensures.next (sym c.cut_leaf.ensures ∙ c.in-Some.is)).rooted.apart.start

pub squeezed_leaf-requires-clause-leaf : goal.squeezed_leaf-requires-clause-leaf
squeezed_leaf-requires-clause-leaf c =
    (cut-due (net_of c.args.net.now) c.args.orders c.args.search.now c.requires.search c.requires.options _ _ c.in-Some.leaf c.in_ok-due.ensures.next (sym c.cut_leaf.ensures ∙ c.in-Some.is)).least

pub squeezed_leaf-requires-clause-few : goal.squeezed_leaf-requires-clause-few
squeezed_leaf-requires-clause-few c =
    (cut-due (net_of c.args.net.now) c.args.orders c.args.search.now c.requires.search c.requires.options _ _ c.in-Some.leaf c.in_ok-due.ensures.next (sym c.cut_leaf.ensures ∙ c.in-Some.is)).few

pub returns-in-Some-squeezed : goal.returns-in-Some-squeezed
returns-in-Some-squeezed c =
    let cut = cut-due (net_of c.args.net.now) c.args.orders c.args.search.now c.requires.search c.requires.options _ _ c.in-Some.leaf c.in_ok-due.ensures.next (sym c.cut_leaf.ensures ∙ c.in-Some.is) in
    squeeze-due (net_of c.args.net.now) c.args.orders c.args.search.now c.requires.search c.requires.options c.in-Some.leaf c.in-Some-squeezed.entry cut
    (rw c.in-Some-squeezed.is at c.in_ok-squeezed.ensures.some)

pub returns-in-None : goal.returns-in-None
returns-in-None c =
    let n = net_of c.args.net.now in
    let s = c.args.search.now in
    kept-due n c.args.orders s c.requires.search c.requires.options _ _ c.in_ok-due.ensures.next c.in_ok-due.ensures.in_order
    (λ leaf e. one-cut n c.args.orders s c.requires.search c.requires.options _ leaf c.in-Some.leaf (sym c.cut_leaf.ensures ∙ c.in-Some.is) (rw c.in-None.is at c.in_ok-squeezed.ensures.none) e)
