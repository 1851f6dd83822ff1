use Rattle.std.proofs.Common.{◌≡◌, ◌+◌, ℕ, Option, true, false, get_or, sym, ap, ◌∙◌, Err, subst}
use Rattle.cert_text.specs.Reading.{At, first_of}
use Rattle.cert_text.proofs.Steps.{StepsBehind, differs, follows-init, follows-step, follows-end, follows-fault}
use Rattle.cert_text.proofs.pieces.word.Goals as goal

pub loop-c-init : goal.loop-c-init
loop-c-init g c = follows-init c.args.word.now (g.S.Source.at c.args.src.now)

pub loop-c-preserved : goal.loop-c-preserved
loop-c-preserved g c =
    let w = get_or c.args.word.now c.loop-c.c-index 0 in
    let same : differs (first_of (g.S.Source.at c.loop-c.src)) w ≡ false = ap (λ (o : Option ℕ). differs o w) (sym c.in_ok-next.ensures.byte) ∙ sym c.ne.ensures ∙ c.if-ne.false in
    subst (λ (a : At). StepsBehind c.args.word.now (g.S.Source.at c.args.src.now) (c.loop-c.c-index + 1) a) (sym c.in_ok-next.ensures.rest)
    (follows-step c.args.word.now _ c.loop-c.c-index _ c.loop-c-test.true same c.loop-c.invariant)

pub returns : goal.returns
returns g c = follows-end c.args.word.now (g.S.Source.at c.args.src.now) c.loop-c.c-index _ c.loop-c-test.false c.loop-c.invariant

pub returns-then-ne : goal.returns-then-ne
returns-then-ne g c =
    let w = get_or c.args.word.now c.loop-c.c-index 0 in
    let other : differs (first_of (g.S.Source.at c.loop-c.src)) w ≡ true = ap (λ (o : Option ℕ). differs o w) (sym c.in_ok-next.ensures.byte) ∙ sym c.ne.ensures ∙ c.if-ne.true in
    follows-fault c.args.word.now (g.S.Source.at c.args.src.now) c.loop-c.c-index _ c.loop-c-test.true other c.loop-c.invariant ∙ ap (λ (n : ℕ). Err n) (sym c.line-line.ensures)
