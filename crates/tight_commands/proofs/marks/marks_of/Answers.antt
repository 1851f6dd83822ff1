use Rattle.std.proofs.Common.{◌≤◌, arith}
use Rattle.pool_model.specs.Network.{net_of}
use Rattle.row_model.specs.Catalogue.{rows}
use Rattle.row_model.specs.Variables.{variables}
use Rattle.cert_format.specs.Valid.{tree_of}
use Rattle.cert_format.specs.Views.{shown_cert}
use Rattle.tight_commands.specs.Ranges.{most_rows, most_variables}
use Rattle.tight_commands.proofs.MarkedLeaves.{few-lines, marked-all}
use Rattle.tight_commands.proofs.Within.{lines-more, lines-within}
use Rattle.tight_commands.proofs.marks.marks_of.Goals as goal

pub marks_law-requires-clause-few : goal.marks_law-requires-clause-few
marks_law-requires-clause-few c =
    let n = net_of c.args.net.now in
    let cert = shown_cert c.args.cert.now in
    let are = marked-all n c.args.form c.args.pivots cert c.in_ok-found.found.leaves c.in_ok-text.text c.in_ok-found.ensures.leaves c.in_ok-text.ensures in
    omega (arith, few-lines n (tree_of cert) c.in_ok-text.text.marks.items are.holds.leaves, c.requires.tree.few)

pub marks_law-requires-clause-within : goal.marks_law-requires-clause-within
marks_law-requires-clause-within c =
    let n = net_of c.args.net.now in
    let few : rows n ≤ most_rows = omega (arith, c.rows-rows.ensures.count, c.rows-rows.ensures.few) in
    let small : variables n ≤ most_variables = omega (arith, c.vars-variables.ensures.count, c.vars-variables.ensures.small) in
    lines-more (rows n) (variables n) most_rows most_variables c.in_ok-text.text.marks.items few small
    (lines-within n (tree_of (shown_cert c.args.cert.now)) c.args.form c.args.pivots c.in_ok-text.text.marks.items c.in_ok-text.ensures.hold)

pub returns-clause-marks : goal.returns-clause-marks
returns-clause-marks c =
    marked-all (net_of c.args.net.now) c.args.form c.args.pivots (shown_cert c.args.cert.now) c.in_ok-found.found.leaves c.in_ok-text.text c.in_ok-found.ensures.leaves c.in_ok-text.ensures
