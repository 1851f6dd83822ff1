use Rattle.std.proofs.Common.{◌≡◌, ◌+◌, ◌-◌, arith, sym, ap, subst, ◌∙◌, ◌++◌, ◌∷◌, []}
use Rattle.std.proofs.lemmas.Result.{err_from_is_err_and}
use Rattle.cert_text.specs.declared.pieces.Ends.{Ends}
use Rattle.cert_text.specs.Reading.{each_at, Stops, ends_before, u32_at}
use Rattle.cert_text.proofs.Each.{each-step, each-stops, each-end}
use Rattle.cert_format.proofs.reading.u32s.Goals as goal

pub returns-in_err-number : goal.returns-in_err-number
returns-in_err-number g c =
    let p = err_from_is_err_and c.from_residual.result c.from_residual.ensures.1 in
    let k : c.args.n - c.loop-i.i - 1 ≡ c.args.n - (c.loop-i.i + 1) = omega arith in
    let e = c.before-in-loop-i.ensures ∙ ap ends_before k in
    rw (p.1, p.2) (each-stops (λ k. u32_at (ends_before k)) c.args.n c.loop-i.i c.loop-i.numbers.items
    (g.S.Source.at c.loop-i.src) c.in_err-number.field-0.0 (g.S.Source.broken c.u32_then.new.src) (each_at (λ k. u32_at (ends_before k)) c.args.n (g.S.Source.at c.args.src.now)) c.loop-i-test.true
    (subst (λ (d : Ends). Stops c.in_err-number.field-0.0 (g.S.Source.broken c.u32_then.new.src) (u32_at d (g.S.Source.at c.loop-i.src))) e c.in_err-number.ensures) c.loop-i.invariant)

pub loop-i-preserved : goal.loop-i-preserved
loop-i-preserved g c =
    let k : c.args.n - c.loop-i.i - 1 ≡ c.args.n - (c.loop-i.i + 1) = omega arith in
    let e = c.before-in-loop-i.ensures ∙ ap ends_before k in
    let items : c.push.new.self.items ≡ c.loop-i.numbers.items ++ c.in_ok-number.number ∷ [] = c.in_ok-push.ensures.items in
    rw items (each-step (λ k. u32_at (ends_before k)) c.args.n c.loop-i.i c.loop-i.numbers.items (g.S.Source.at c.loop-i.src)
    (g.S.Source.at c.u32_then.new.src) c.in_ok-number.number (each_at (λ k. u32_at (ends_before k)) c.args.n (g.S.Source.at c.args.src.now)) c.loop-i-test.true
    (ap (λ (d : Ends). u32_at d (g.S.Source.at c.loop-i.src)) (sym e) ∙ c.in_ok-number.ensures) c.loop-i.invariant)

pub returns : goal.returns
returns g c = each-end (λ k. u32_at (ends_before k)) c.args.n c.loop-i.i c.loop-i.numbers.items (g.S.Source.at c.loop-i.src)
    (each_at (λ k. u32_at (ends_before k)) c.args.n (g.S.Source.at c.args.src.now)) c.loop-i-test.false c.loop-i.invariant
