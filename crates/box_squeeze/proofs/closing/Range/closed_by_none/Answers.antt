use Rattle.pool_model.specs.Network.{net_of}
use Rattle.box_squeeze.proofs.Closings.{none-more}
use Rattle.box_squeeze.proofs.closing.Range.closed_by_none.Goals as goal

pub loop-coord-preserved : goal.loop-coord-preserved
loop-coord-preserved c = record {
  fits = c.either.ensures.fits;
  none = λ b is.
      none-more (net_of c.args.net.now) c.args.self.now.form b c.args.self.now.target c.loop-coord.coord (c.loop-coord.invariant.none b is)
      (rw c.in_default.is at (c.in_ok-closed.ensures.none b is));
}
