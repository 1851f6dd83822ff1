use Rattle.std.proofs.Common.{codes, refl, rules, subst, sym}
use Rattle.clap.specs.Words.{first_of, found_of, rows_of}
use Rattle.cli_words.specs.Requests.{Solving, solve}
use Rattle.cli_words.specs.Asks.{IsForm, IsGap, IsNodes, IsRaise, IsRule, IsSwitch}
use Rattle.cli_words.specs.Views.{shown_request}
use Rattle.cli_words.proofs.Answering.{refused, solving, wanting}
use Rattle.cli_words.proofs.reading.read_solve.Goals as goal

pub returns-in_err-form : goal.returns-in_err-form
returns-in_err-form c =
    let asked = solving (rows_of (found_of c.args.matches.now)) in
    refused (λ x. x) _ shown_request _ _ _ (search rules) (λ a m. let s = asked a m in (s.0.form, subst (λ o. IsForm o s.0.form) (sym c.text_of.ensures) s.1.form)) c.in_err-form.ensures

pub returns-in_err-nodes : goal.returns-in_err-nodes
returns-in_err-nodes c =
    let asked = solving (rows_of (found_of c.args.matches.now)) in
    refused (λ x. x) _ shown_request _ _ _ (search rules) (λ a m. let s = asked a m in (s.0.nodes, subst (λ o. IsNodes o s.0.nodes) (sym c.text_of-2.ensures) s.1.nodes)) c.in_err-nodes.ensures

pub returns-in_err-gap : goal.returns-in_err-gap
returns-in_err-gap c =
    let asked = solving (rows_of (found_of c.args.matches.now)) in
    refused (λ x. x) _ shown_request _ _ _ (search rules) (λ a m. let s = asked a m in (s.0.gap, subst (λ o. IsGap o s.0.gap) (sym c.text_of-3.ensures) s.1.gap)) c.in_err-gap.ensures

pub returns-in_err-rule : goal.returns-in_err-rule
returns-in_err-rule c =
    let asked = solving (rows_of (found_of c.args.matches.now)) in
    refused (λ x. x) _ shown_request _ _ _ (search rules) (λ a m. let s = asked a m in (s.0.rule, subst (λ o. IsRule o s.0.rule) (sym c.text_of-4.ensures) s.1.rule)) c.in_err-rule.ensures

pub returns-in_err-squeeze : goal.returns-in_err-squeeze
returns-in_err-squeeze c =
    let asked = solving (rows_of (found_of c.args.matches.now)) in
    refused (λ x. x) _ shown_request _ _ _ (search rules) (λ a m. let s = asked a m in (s.0.squeeze, subst (λ o. IsSwitch o s.0.squeeze) (sym c.text_of-5.ensures) s.1.squeeze)) c.in_err-squeeze.ensures

pub returns-in_err-raise : goal.returns-in_err-raise
returns-in_err-raise c =
    let asked = solving (rows_of (found_of c.args.matches.now)) in
    refused (λ x. x) _ shown_request _ _ _ (search rules) (λ a m. let s = asked a m in (s.0.raise, subst (λ o. IsRaise o s.0.raise) (sym c.text_of-6.ensures) s.1.raise)) c.in_err-raise.ensures

pub returns-in_err-journal : goal.returns-in_err-journal
returns-in_err-journal c =
    let rows = rows_of (found_of c.args.matches.now) in
    let asked : Solving =
    record { net = c.in-Some.net.now; form = c.in_ok-form.form; nodes = c.in_ok-nodes.nodes; gap = c.in_ok-gap.gap; journal = first_of (codes "journal") rows; rule = c.in_ok-rule.rule; squeeze = c.in_ok-squeeze.squeeze; raise = c.in_ok-raise.raise } in
    wanting (codes "solve") rows c.in_err-journal.field-0.0 c.from_residual-in_err-journal.result (search rules) c.in_err-journal.ensures.err (solve asked) record {
      is = refl;
      says = record {
        net = sym c.in-Some.ensures;
        form = subst (λ o. IsForm o c.in_ok-form.form) c.text_of.ensures c.in_ok-form.ensures;
        nodes = subst (λ o. IsNodes o c.in_ok-nodes.nodes) c.text_of-2.ensures c.in_ok-nodes.ensures;
        gap = subst (λ o. IsGap o c.in_ok-gap.gap) c.text_of-3.ensures c.in_ok-gap.ensures;
        journal = refl;
        rule = subst (λ o. IsRule o c.in_ok-rule.rule) c.text_of-4.ensures c.in_ok-rule.ensures;
        squeeze = subst (λ o. IsSwitch o c.in_ok-squeeze.squeeze) c.text_of-5.ensures c.in_ok-squeeze.ensures;
        raise = subst (λ o. IsRaise o c.in_ok-raise.raise) c.text_of-6.ensures c.in_ok-raise.ensures;
      };
    }

pub returns-in_err-copied : goal.returns-in_err-copied
returns-in_err-copied c =
    let rows = rows_of (found_of c.args.matches.now) in
    let asked : Solving =
    record { net = c.in-Some.net.now; form = c.in_ok-form.form; nodes = c.in_ok-nodes.nodes; gap = c.in_ok-gap.gap; journal = first_of (codes "journal") rows; rule = c.in_ok-rule.rule; squeeze = c.in_ok-squeeze.squeeze; raise = c.in_ok-raise.raise } in
    wanting (codes "solve") rows c.in_err-copied.field-0.0 c.from_residual-in_err-copied.result (search rules) c.in_err-copied.ensures.err (solve asked) record {
      is = refl;
      says = record {
        net = sym c.in-Some.ensures;
        form = subst (λ o. IsForm o c.in_ok-form.form) c.text_of.ensures c.in_ok-form.ensures;
        nodes = subst (λ o. IsNodes o c.in_ok-nodes.nodes) c.text_of-2.ensures c.in_ok-nodes.ensures;
        gap = subst (λ o. IsGap o c.in_ok-gap.gap) c.text_of-3.ensures c.in_ok-gap.ensures;
        journal = refl;
        rule = subst (λ o. IsRule o c.in_ok-rule.rule) c.text_of-4.ensures c.in_ok-rule.ensures;
        squeeze = subst (λ o. IsSwitch o c.in_ok-squeeze.squeeze) c.text_of-5.ensures c.in_ok-squeeze.ensures;
        raise = subst (λ o. IsRaise o c.in_ok-raise.raise) c.text_of-6.ensures c.in_ok-raise.ensures;
      };
    }
