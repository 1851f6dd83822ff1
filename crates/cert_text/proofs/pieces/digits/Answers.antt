use Rattle.std.proofs.Common.{◌≡◌, sym, ◌∙◌, Ok, subst, arith}
use Rattle.cert_text.specs.Reading.{At, end_of, digits_at}
use Rattle.cert_text.proofs.Steps.{counts-end}
use Rattle.cert_text.proofs.pieces.digits.Goals as goal

pub returns-then-c-byte-clause-read : goal.returns-then-c-byte-clause-read
returns-then-c-byte-clause-read g c =
    subst (λ (b : At). digits_at c.args.most (end_of c.args.ends) c.args.n (g.S.Source.at c.args.src.now) ≡ Ok (c.loop-c.n, b)) (sym c.in_ok-c.ensures.rest)
    (counts-end c.args.most (end_of c.args.ends) c.args.n _ c.loop-c.n _ c.in-Some.c (omega (arith, c.ranges.most))
    (sym c.in_ok-c.ensures.byte ∙ c.in-Some.is) (c.if-c-byte.true ∙ c.byte.ensures) c.loop-c.invariant)
