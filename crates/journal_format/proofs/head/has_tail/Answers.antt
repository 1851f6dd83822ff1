use Rattle.std.proofs.Common.{length, take, drop, ◌-◌, ◌∙◌, sym, rules}
use Rattle.std.proofs.lemmas.Bool.Decides.{Decides-eqb}
use Rattle.std.proofs.lemmas.List.{take_rest}
use Rattle.std.proofs.lemmas.Slice.Eq.{slice_eq-Decides}
use Rattle.journal_format.proofs.head.has_tail.Goals as goal

pub returns-then-front-ge-FRONT : goal.returns-then-front-ge-FRONT
returns-then-front-ge-FRONT c =
    let front = c.args.front.now in
    let same = take_rest front 9 in
    let decides = slice_eq-Decides Decides-eqb (take (length front - 9) (drop 9 front)) c.args.tail.now c.eq.result c.eq.ensures in
    (λ holds. (search rules, sym same ∙ decides.0 holds), λ is. decides.1 (same ∙ is.1))
