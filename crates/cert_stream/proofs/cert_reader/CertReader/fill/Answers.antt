use Rattle.std.proofs.Common.{inl, refl, ◌∙◌, arith}
use Rattle.shelf_calls.proofs.Keeping.{keeps-same, keeps-then}
use Rattle.cert_stream.proofs.Calls.{filled-none, filled-then, rose-then, told-quiet}
use Rattle.cert_stream.proofs.cert_reader.CertReader.fill.Goals as goal

pub loop-self-init : goal.loop-self-init
loop-self-init g c =
    let shelf = c.args.shelf.now in (
      filled-none c.args.self.now (g.S.Shelf.told shelf).rest c.requires.used_up,
      inl (omega arith),
      keeps-same (g.S.Shelf.told shelf),
      refl,
    )

pub loop-self-preserved : goal.loop-self-preserved
loop-self-preserved g c =
    let inv = c.loop-self.invariant in
    let e = c.in_ok-take_some.ensures in (
      filled-then inv.0 e.filled,
      rose-then c.args.self.now.left c.loop-self.self.left c.take_some.new.self.left (g.S.Shelf.told c.args.shelf.now).taken (g.S.Shelf.told c.loop-self.shelf).taken (g.S.Shelf.told c.take_some.new.shelf).taken
          (omega (arith, inv.0.took.within)) (omega (arith, e.filled.took.within)) inv.1 e.counted e.kept.taken_grows,
      keeps-then inv.2 e.kept,
      told-quiet e.quiet ∙ inv.3,
    )
