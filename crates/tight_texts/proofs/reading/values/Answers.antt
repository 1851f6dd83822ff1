use Rattle.std.proofs.Common.{◌≡◌, ◌+◌, ◌-◌, arith, sym, ap, subst, ◌∙◌, ◌++◌, ◌∷◌, [], false, ℤ, FitsSigned, rules}
use mir.Syntax.{w128}
use Rattle.std.proofs.lemmas.Int.{to_z-of_z}
use Rattle.std.proofs.lemmas.Result.{err_from_is_err_and}
use Rattle.cert_text.specs.declared.pieces.Ends.{Ends}
use Rattle.cert_text.specs.Reading.{each_at, Stops, ends_before, i128_at}
use Rattle.cert_text.proofs.Each.{each-step, each-stops, each-end}
use Rattle.tight_texts.specs.Views.{place_of}
use Rattle.tight_texts.proofs.reading.values.Goals as goal

pub returns-in_err-value : goal.returns-in_err-value
returns-in_err-value c =
    let p = err_from_is_err_and c.from_residual.result c.from_residual.ensures.1 in
    let k : c.args.n - c.loop-i.i - 1 ≡ c.args.n - (c.loop-i.i + 1) = omega arith in
    let e = c.before-in-loop-i.ensures ∙ ap ends_before k in
    rw (p.1, p.2) (each-stops (λ k. i128_at (ends_before k)) c.args.n c.loop-i.i c.loop-i.values.items
    (place_of c.loop-i.src) c.in_err-value.field-0.0 false (each_at (λ k. i128_at (ends_before k)) c.args.n (place_of c.args.src.now)) c.loop-i-test.true
    (subst (λ (d : Ends). Stops c.in_err-value.field-0.0 false (i128_at d (place_of c.loop-i.src))) e c.in_err-value.ensures) c.loop-i.invariant)

pub loop-i-preserved : goal.loop-i-preserved
loop-i-preserved c =
    let k : c.args.n - c.loop-i.i - 1 ≡ c.args.n - (c.loop-i.i + 1) = omega arith in
    let e = c.before-in-loop-i.ensures ∙ ap ends_before k in
    let f : FitsSigned w128 c.in_ok-value.value = search rules in
    let items : c.push.new.self.items ≡ c.loop-i.values.items ++ c.in_ok-value.value ∷ [] =
    c.in_ok-push.ensures.items ∙ ap (λ (v : ℤ). c.loop-i.values.items ++ v ∷ []) (to_z-of_z w128 c.in_ok-value.value f) in
    rw items (each-step (λ k. i128_at (ends_before k)) c.args.n c.loop-i.i c.loop-i.values.items (place_of c.loop-i.src)
    (place_of c.i128_then.new.src) c.in_ok-value.value (each_at (λ k. i128_at (ends_before k)) c.args.n (place_of c.args.src.now)) c.loop-i-test.true
    (ap (λ (d : Ends). i128_at d (place_of c.loop-i.src)) (sym e) ∙ c.in_ok-value.ensures) c.loop-i.invariant)

pub returns : goal.returns
returns c = each-end (λ k. i128_at (ends_before k)) c.args.n c.loop-i.i c.loop-i.values.items (place_of c.loop-i.src)
    (each_at (λ k. i128_at (ends_before k)) c.args.n (place_of c.args.src.now)) c.loop-i-test.false c.loop-i.invariant
