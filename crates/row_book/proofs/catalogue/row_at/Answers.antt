use Rattle.pool_model.specs.Network.{net_of}
use Rattle.box_space.specs.Views.{shown_box}
use Rattle.row_book.proofs.Placing.{row-written, kind-written}
use Rattle.row_book.proofs.catalogue.row_at.Goals as goal

pub returns-clause-kind : goal.returns-clause-kind
returns-clause-kind c = kind-written (net_of c.args.net.now) (shown_box c.args.v.now) c.args.id c.written.new.row c.written.result c.written.ensures.line

pub returns-clause-written : goal.returns-clause-written
returns-clause-written c =
    row-written (net_of c.args.net.now) (shown_box c.args.v.now) c.args.id c.written.new.row c.written.result c.written.ensures.limited c.requires.view.proper c.requires.known c.written.ensures.line
