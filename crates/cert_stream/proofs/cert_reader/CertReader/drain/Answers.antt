use Rattle.std.proofs.Common.{◌≡◌, ap, subst, ◌∙◌, arith}
use Rattle.cert_stream.specs.Streams.{Reader, ReaderTook}
use Rattle.shelf_calls.proofs.Keeping.{keeps-then}
use Rattle.cert_stream.proofs.Calls.{took-then, rose-then, told-quiet}
use Rattle.cert_stream.proofs.NextItem.{let-go}
use Rattle.cert_stream.proofs.cert_reader.CertReader.drain.Goals as goal

pub loop-self-preserved : goal.loop-self-preserved
loop-self-preserved g c =
    let inv = c.loop-self.invariant in
    let i = c.self.inside in
    let e = c.in_ok-take_some.ensures in
    let r : Reader = record { state = i.state; line = i.line; held = i.held; left = i.left; ended = i.ended } in
    let took : ReaderTook c.loop-self.self (g.S.Shelf.told c.loop-self.shelf).rest c.take_some.new.self (g.S.Shelf.told c.take_some.new.shelf).rest =
    subst (λ (q : Reader). ReaderTook q (g.S.Shelf.told c.loop-self.shelf).rest c.take_some.new.self (g.S.Shelf.told c.take_some.new.shelf).rest) c.self.view_is (let-go r c.clear.new.self e.filled.took) in
    let left : i.left ≡ c.loop-self.self.left = ap (λ (q : Reader). q.left) c.self.view_is in (
      took-then inv.0 took,
      rose-then c.args.self.now.left c.loop-self.self.left c.take_some.new.self.left (g.S.Shelf.told c.args.shelf.now).taken (g.S.Shelf.told c.loop-self.shelf).taken (g.S.Shelf.told c.take_some.new.shelf).taken
          (omega (arith, inv.0.within)) (omega (arith, took.within)) inv.1 (rw left at e.counted) e.kept.taken_grows,
      keeps-then inv.2 e.kept,
      told-quiet e.quiet ∙ inv.3,
    )
