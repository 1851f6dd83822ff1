use Rattle.std.proofs.Common.{◌≡◌, ◌-◌, true, false, sym, subst, refl, ◌∙◌, arith}
use Rattle.std.proofs.lemmas.Bool.{false≢true}
use Rattle.cert_stream.specs.Streams.{Reader, Filled}
use Rattle.cert_stream.proofs.NextItem.{filled-piece}
use Rattle.cert_stream.proofs.cert_reader.CertReader.take_some.Goals as goal

pub returns-in-Ok-eq0-clause-filled : goal.returns-in-Ok-eq0-clause-filled
returns-in-Ok-eq0-clause-filled g c =
    let i = c.self.inside in
    let r : Reader = record { state = i.state; line = i.line; held = i.held; left = i.left; ended = i.ended } in
    let s : Reader = record { state = i.state; line = i.line; held = c.take_from.new.self; left = i.left; ended = true } in
    let none = c.in-Ok-eq0.field-0-test in
    let going : r.ended ≡ false = subst (λ (q : Reader). q.ended ≡ false) (sym c.self.view_is) c.requires.going in
    subst (λ (q : Reader). Filled q (g.S.Shelf.told c.args.shelf.now).rest s (g.S.Shelf.told c.take_from.new.shelf).rest) c.self.view_is
    (filled-piece r s (g.S.Shelf.told c.args.shelf.now).rest (g.S.Shelf.told c.take_from.new.shelf).rest c.in-Ok-eq0.field-0 going c.in-Ok-eq0.ensures.handed (omega (arith, none)) (λ _. none) refl refl)

pub returns-in-Ok-2-clause-filled : goal.returns-in-Ok-2-clause-filled
returns-in-Ok-2-clause-filled g c =
    let i = c.self.inside in
    let n = c.in-Ok.count in
    let r : Reader = record { state = i.state; line = i.line; held = i.held; left = i.left; ended = i.ended } in
    let s : Reader = record { state = i.state; line = i.line; held = c.take_from.new.self; left = i.left - n; ended = i.ended } in
    let going : r.ended ≡ false = subst (λ (q : Reader). q.ended ≡ false) (sym c.self.view_is) c.requires.going in
    subst (λ (q : Reader). Filled q (g.S.Shelf.told c.args.shelf.now).rest s (g.S.Shelf.told c.take_from.new.shelf).rest) c.self.view_is
    (filled-piece r s (g.S.Shelf.told c.args.shelf.now).rest (g.S.Shelf.told c.take_from.new.shelf).rest n going c.in-Ok.ensures.handed
    (omega (arith, c.if-count-self.false)) (λ e. absurd (false≢true (sym going ∙ e))) refl refl)
