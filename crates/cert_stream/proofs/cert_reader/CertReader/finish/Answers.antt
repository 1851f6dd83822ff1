use Rattle.std.proofs.Common.{inl, refl, ◌∙◌, arith}
use Rattle.shelf_calls.proofs.Keeping.{keeps-same, keeps-then}
use Rattle.cert_stream.proofs.Calls.{ran_on-none, ran_on-next, rose-then, told-quiet}
use Rattle.cert_stream.proofs.cert_reader.CertReader.finish.Goals as goal

pub loop-self-init : goal.loop-self-init
loop-self-init g c =
    let shelf = c.args.shelf.now in (
      ran_on-none c.args.self.now (g.S.Shelf.told shelf).rest c.requires.used_up,
      inl (omega arith),
      keeps-same (g.S.Shelf.told shelf),
      refl,
    )

pub loop-self-preserved : goal.loop-self-preserved
loop-self-preserved g c =
    let inv = c.loop-self.invariant in
    let e = c.in_ok-next_item.ensures in (
      ran_on-next c.in_ok-next_item.field-0 inv.0 (c.has_ended.ensures.going c.loop-self-test.true) e.item,
      rose-then c.args.self.now.left c.loop-self.self.left c.next_item.new.self.left (g.S.Shelf.told c.args.shelf.now).taken (g.S.Shelf.told c.loop-self.shelf).taken (g.S.Shelf.told c.next_item.new.shelf).taken
          (omega (arith, inv.0.ran.took.within)) (omega (arith, e.item.took.within)) inv.1 e.counted e.kept.taken_grows,
      keeps-then inv.2 e.kept,
      told-quiet e.quiet ∙ inv.3,
    )
