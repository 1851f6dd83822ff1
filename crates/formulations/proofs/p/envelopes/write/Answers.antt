use Rattle.pool_model.specs.Network.{net_of}
use Rattle.box_space.specs.Views.{shown_box}
use Rattle.box_space.proofs.Writing.{line-same}
use Rattle.formulations.proofs.QualityEnvelopes.{side_at}
use Rattle.formulations.proofs.p.envelopes.write.Goals as goal

pub returns : goal.returns
returns c =
    let n = net_of c.args.net.now in
    line-same n _ _ c.write_side.new.row c.write_side.result
    (side_at n (shown_box c.args.v.now) c.args.n c.sizes-counts.result.qualities _ _ _ c.sizes-counts.ensures.counts.qualities
    c.envelope_at-out.ensures.out c.envelope_at-out.ensures.quality c.envelope_at-out.ensures.side)
    c.write_side.ensures
