-- The next line, judged with the nodes before its own.
use Rattle.std.proofs.Common.{◌+◌, ℕ, refl, sym, ap, subst, ◌∙◌, rules, FitsSigned, to_z-of_z}
use mir.Syntax.{w128}
use Rattle.std.proofs.lemmas.Result.{err_from_is_err_and}
use Rattle.pool_model.specs.Network.{Net, net_of}
use Rattle.row_book.specs.Fitting.{Fits}
use Rattle.proof_lines.specs.declared.judge.Judge.{Judge}
use Rattle.proof_lines.proofs.Going.{line-taken, line-faulty}
use Rattle.proof_lines.proofs.line_judge.LineJudge.take.Goals as goal

pub returns-in_err-shown-clause-taken : goal.returns-in_err-shown-clause-taken
returns-in_err-shown-clause-taken c =
    let n : Net = net_of c.args.net.now in
    let f : FitsSigned w128 c.args.reach = search rules in
    let reach = to_z-of_z f ∙ c.requires.reach in
    let p = err_from_is_err_and c.from_residual-in_err-shown.result c.from_residual-in_err-shown.ensures.1 in
    rw (p.1, p.2) (λ all next. line-faulty n c.args.tree.now c.args.node _ c.args.excess c.args.self.now c.go_on.new.self all c.requires.tree c.requires.there reach
    c.in_err-shown.field-0.0 (c.in_ok-go_on.ensures.judged n all c.requires.tree reach) next c.in_err-shown.ensures.shown)

pub returns-clause-taken : goal.returns-clause-taken
returns-clause-taken c =
    let n : Net = net_of c.args.net.now in
    let f : FitsSigned w128 c.args.reach = search rules in
    let reach = to_z-of_z f ∙ c.requires.reach in
    let seen : Judge = c.value.new.self.judge in
    let after : Judge = record c.add.new.self { next = c.add.new.self.next + 1 } in
    λ all next. line-taken n c.args.tree.now c.args.node _ c.args.excess c.args.self.now c.go_on.new.self all c.requires.tree c.requires.there reach
    c.in_ok-shown.shown seen c.add.new.self after (c.in_ok-go_on.ensures.judged n all c.requires.tree reach) c.go_on.ensures.next next c.in_ok-shown.ensures.shown
    c.value.ensures.bounds c.value.ensures.next c.value.ensures.fits c.in_ok-add.ensures.added refl (ap (λ (i : ℕ). i + 1) c.add.ensures.next)
    (subst (Fits n) (sym c.add.ensures.scratch) c.value.ensures.fits)
