use Rattle.std.proofs.Common.{◌≡◌, sym, ap, ◌∙◌, pos, to_z, of_z, FitsSigned}
use Rattle.std.proofs.lemmas.Int.{to_z-of_z}
use mir.Syntax.{w128}
use Rattle.tight_texts.proofs.Fractions.{fits}
use Rattle.tight_texts.proofs.Lowest.{lowest_yes, lowest_no, lowest_fault, short_of}
use Rattle.tight_texts.proofs.reading.lowest.Goals as goal

pub returns-in-Ok : goal.returns-in-Ok
returns-in-Ok c =
    let fn : FitsSigned w128 c.num.result = rw c.num.ensures (fits c.in-Ok.fraction.num c.in-Ok.fraction.short_num) in
    let fd : FitsSigned w128 c.den.result = rw c.den.ensures (fits (pos c.in-Ok.fraction.den) c.in-Ok.fraction.short_den) in
    let n : c.num.result ≡ c.args.num = sym (to_z-of_z w128 c.num.result fn) ∙ ap (to_z w128) c.if-num.true ∙ to_z-of_z w128 c.args.num c.ranges.num in
    let d : c.den.result ≡ c.args.den = sym (to_z-of_z w128 c.den.result fd) ∙ ap (to_z w128) c.if-den.true ∙ to_z-of_z w128 c.args.den c.ranges.den in
    lowest_yes c.in-Ok.fraction c.args.num c.args.den (sym c.num.ensures ∙ n) (sym c.den.ensures ∙ d)

pub returns-in_default : goal.returns-in_default
returns-in_default c =
    lowest_no c.in-Ok.fraction c.args.num c.args.den c.requires.den (simp (to_z-of_z, c.ranges.num, c.ranges.den) at c.in-Ok.ensures.same)
    (λ n d. c.if-den.false (ap (of_z w128) (c.den.ensures ∙ d)))

pub returns-in_default-2 : goal.returns-in_default-2
returns-in_default-2 c =
    lowest_no c.in-Ok.fraction c.args.num c.args.den c.requires.den (simp (to_z-of_z, c.ranges.num, c.ranges.den) at c.in-Ok.ensures.same)
    (λ n d. c.if-num.false (ap (of_z w128) (c.num.ensures ∙ n)))

pub returns-in_default-3 : goal.returns-in_default-3
returns-in_default-3 c =
    lowest_fault c.new.result c.in_default.field-0 c.in_default.is c.args.num c.args.den (to_z w128 (of_z w128 c.args.num)) (to_z w128 (of_z w128 c.args.den))
    (to_z-of_z w128 c.args.num c.ranges.num) (to_z-of_z w128 c.args.den c.ranges.den) c.new.ensures.zero_divisor c.new.ensures.wide
    c.requires.num (short_of c.args.den c.ranges.den c.requires.den) c.requires.den
