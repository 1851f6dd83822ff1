use Rattle.std.proofs.lemmas.Result.{err_from_is_err_and}
use Rattle.pool_model.specs.Network.{net_of}
use Rattle.cert_format.specs.Valid.{tree_of}
use Rattle.cert_format.specs.Views.{shown_cert}
use Rattle.tight_texts.specs.Views.{shown_marks}
use Rattle.tight_checks.proofs.Checked.{unread-taken, unread-told, accepted-by, plans-by, best-by, refused-for, taken-by, told-by}
use Rattle.tight_checks.proofs.checking.check_tight.Goals as goal

pub returns-in_err-text-clause-taken : goal.returns-in_err-text-clause-taken
returns-in_err-text-clause-taken c = λ text spelled holds.
    let p = err_from_is_err_and c.from_residual.result c.from_residual.ensures.1 in
    rw (p.1, p.2) (unread-taken (net_of c.args.net.now) (tree_of (shown_cert c.args.cert.now)) c.args.bytes.now text spelled c.in_err-text.field-0.0 c.in_err-text.ensures.only)

pub returns-in_err-text-clause-told : goal.returns-in_err-text-clause-told
returns-in_err-text-clause-told c = λ text cause spelled first.
    let p = err_from_is_err_and c.from_residual.result c.from_residual.ensures.1 in
    rw (p.1, p.2) (unread-told (net_of c.args.net.now) (tree_of (shown_cert c.args.cert.now)) c.args.bytes.now text spelled c.in_err-text.field-0.0 c.in_err-text.ensures.only cause)

pub returns-clause-accepted : goal.returns-clause-accepted
returns-clause-accepted c =
    accepted-by (net_of c.args.net.now) (tree_of (shown_cert c.args.cert.now)) c.args.bytes.now c.in_ok-text.text c.check_marks.result
    record { are = c.in_ok-text.ensures.found.0; text_is = c.in_ok-text.ensures.found.1 } c.check_marks.ensures.holds c.check_marks.ensures.verdict

pub returns-clause-plans : goal.returns-clause-plans
returns-clause-plans c =
    let n = net_of c.args.net.now in
    let tree = tree_of (shown_cert c.args.cert.now) in
    plans-by n tree c.args.bytes.now c.in_ok-text.text c.check_marks.result (λ limited holds. c.holding_law.ensures.plans n tree c.in_ok-text.text limited c.requires.tree holds) c.check_marks.ensures.limited
    c.check_marks.ensures.holds c.check_marks.ensures.verdict

pub returns-clause-best : goal.returns-clause-best
returns-clause-best c = λ text spelled.
    let n = net_of c.args.net.now in
    let tree = tree_of (shown_cert c.args.cert.now) in
    best-by n tree c.args.bytes.now c.in_ok-text.text text (c.in_ok-text.ensures.only (shown_marks text) spelled.are spelled.text_is) c.check_marks.result
    (λ holds. c.holding_law.ensures.best n tree text holds) c.check_marks.ensures.holds

pub returns-clause-refused : goal.returns-clause-refused
returns-clause-refused c =
    refused-for (net_of c.args.net.now) (tree_of (shown_cert c.args.cert.now)) c.args.bytes.now c.in_ok-text.text c.check_marks.result
    record { are = c.in_ok-text.ensures.found.0; text_is = c.in_ok-text.ensures.found.1 } c.check_marks.ensures.refused

pub returns-clause-taken : goal.returns-clause-taken
returns-clause-taken c = λ text spelled holds.
    taken-by (net_of c.args.net.now) (tree_of (shown_cert c.args.cert.now)) c.in_ok-text.text text (c.in_ok-text.ensures.only (shown_marks text) spelled.are spelled.text_is) c.check_marks.result
    c.check_marks.ensures.verdict c.check_marks.ensures.refused holds

pub returns-clause-told : goal.returns-clause-told
returns-clause-told c = λ text cause spelled first.
    told-by (net_of c.args.net.now) (tree_of (shown_cert c.args.cert.now)) c.in_ok-text.text text (c.in_ok-text.ensures.only (shown_marks text) spelled.are spelled.text_is) c.check_marks.result
    c.check_marks.ensures.holds c.check_marks.ensures.refused cause first
