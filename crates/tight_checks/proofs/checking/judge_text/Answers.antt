use Rattle.std.proofs.Common.{inr, map, sym, ap, ◌∙◌}
use Rattle.std.proofs.lemmas.Result.{err_from_is_err_and}
use Rattle.pool_model.specs.Network.{net_of}
use Rattle.tight_checks.specs.Holding.{leaf_nodes, marked_bound, nodes_of}
use Rattle.tight_checks.proofs.Fitting.{false_not}
use Rattle.tight_checks.proofs.Least.{least-one}
use Rattle.tight_checks.proofs.Refusing.{bad-first, bound-first}
use Rattle.tight_checks.proofs.checking.judge_text.Goals as goal

pub returns-in_err-least-clause-refused : goal.returns-in_err-least-clause-refused
returns-in_err-least-clause-refused c = λ tree is.
    let n = net_of c.args.net.now in
    let named = ap nodes_of (sym c.as_slice.ensures.value) ∙ c.name_leaves.ensures.0 c.if-not-name_leaves.false ∙ ap leaf_nodes c.leaves.ensures in
    let p = err_from_is_err_and c.from_residual-in_err-least.result c.from_residual-in_err-least.ensures.1 in
    rw (p.1, p.2) (inr (bad-first n tree c.args.text.now record { leaves = c.args.found.now.leaves; are = is.leaves; named = named } c.in_err-least.field-0.0 (c.in_err-least.ensures.bad tree is)))

pub returns-then-not-is_same-clause-refused : goal.returns-then-not-is_same-clause-refused
returns-then-not-is_same-clause-refused c = λ tree is.
    let n = net_of c.args.net.now in
    let text = c.args.text.now in
    let named = ap nodes_of (sym c.as_slice.ensures.value) ∙ c.name_leaves.ensures.0 c.if-not-name_leaves.false ∙ ap leaf_nodes c.leaves.ensures in
    inr (bound-first n tree text record { leaves = c.args.found.now.leaves; are = is.leaves; named = named } (c.in_ok-least.ensures.marks tree is)
    (λ least. false_not c.is_same.result c.if-not-is_same.true
    (c.is_same.ensures.1 (least-one (map (marked_bound n tree) text.marks.items) c.in_ok-least.least text.bound (c.in_ok-least.ensures.bound tree is) least))))
