use Rattle.std.proofs.Common.{◌≡◌, ◌∙◌, ap, get_or, arith, rules}
use Rattle.std.proofs.lemmas.List.{take_rest}
use Rattle.byteorder.specs.Endian.{big_number}
use Rattle.journal_format.proofs.RecordLaws.{opens_payload}
use Rattle.journal_format.proofs.opening.opening_of.Goals as goal

pub returns-in-1 : goal.returns-in-1
returns-in-1 c = λ rest is.
    let gate : get_or c.args.head.now 0 0 ≡ 1 = search rules in
    opens_payload c.args.head.now rest c.read_u32.result (λ i. omega (arith, c.type_inv.head i)) is gate c.in-1.len_at_least
    (c.read_u32.ensures ∙ ap (big_number 4) (take_rest c.args.head.now 1)) c.read_u32.type_inv
