use Rattle.std.proofs.Common.{◌/◌, length}
use Rattle.cert_writing.proofs.Pieces.{wrote-halves}
use Rattle.cert_writing.proofs.text.+write_list.Goals as goal

pub returns-clause-wrote : goal.returns-clause-wrote
returns-clause-wrote g t c =
    wrote-halves c.write_list-2.result g.T.Text.text c.args.items.now c.split_at.result.0.now c.split_at.result.1.now (length c.args.items.now / 2)
    (g.K.Sink.taken c.args.out.now) (g.K.Sink.taken c.write_list.new.out) (g.K.Sink.taken c.write_list-2.new.out)
    c.split_at.ensures.front c.split_at.ensures.back (rw (c.short_list.ensures.nothing c.in_default.is) at c.in_ok-write_list.ensures.wrote) c.write_list-2.ensures.wrote
