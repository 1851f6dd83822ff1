use Rattle.std.proofs.Common.{arith}
use Rattle.cert_stream.proofs.Places.{kept-last}
use Rattle.cert_stream.proofs.held.Held.keep_last.Goals as goal

pub returns : goal.returns
returns c =
    let h = c.self.inside in
    kept-last h.buffer.items c.args.self.now h.from h.to c.args.count c.self.view_is c.self.invariant.order (omega (arith, c.self.invariant.long, c.self.invariant.within)) c.requires
