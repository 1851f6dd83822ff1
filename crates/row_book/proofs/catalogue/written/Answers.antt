use Rattle.std.proofs.Common.{ap, ◌∙◌}
use Rattle.pool_model.specs.Network.{net_of}
use Rattle.box_space.specs.Views.{shown_box}
use Rattle.box_space.specs.Tables.{row_of}
use Rattle.row_book.specs.declared.catalogue.Group.{Group}
use Rattle.row_book.specs.Groups.{row_in_group}
use Rattle.row_book.proofs.Placing.{line-network, line-p, line-q, line-further}
use Rattle.row_book.proofs.catalogue.written.Goals as goal

pub returns-in-Network-clause-line : goal.returns-in-Network-clause-line
returns-in-Network-clause-line c =
    let n = net_of c.args.net.now in
    let b = shown_box c.args.v.now in
    line-network n b c.args.id c.place_of-group.result.1 (row_of n c.table_at.result) c.write.new.self c.write.result
    (c.place_of-group.ensures.placed.same b ∙ ap (λ (g : Group). row_in_group n b g c.place_of-group.result.1) c.in-Network.is) c.table_at.ensures.row c.write.ensures

pub returns-in-P-clause-line : goal.returns-in-P-clause-line
returns-in-P-clause-line c =
    let n = net_of c.args.net.now in
    let b = shown_box c.args.v.now in
    line-p n b c.args.id c.place_of-group.result.1 c.row.new.row c.row.result
    (c.place_of-group.ensures.placed.same b ∙ ap (λ (g : Group). row_in_group n b g c.place_of-group.result.1) c.in-P.is) c.row.ensures

pub returns-in-Q-clause-line : goal.returns-in-Q-clause-line
returns-in-Q-clause-line c =
    let n = net_of c.args.net.now in
    let b = shown_box c.args.v.now in
    line-q n b c.args.id c.place_of-group.result.1 c.row-in-Q.new.row c.row-in-Q.result
    (c.place_of-group.ensures.placed.same b ∙ ap (λ (g : Group). row_in_group n b g c.place_of-group.result.1) c.in-Q.is) c.row-in-Q.ensures

pub returns-in-Further-clause-line : goal.returns-in-Further-clause-line
returns-in-Further-clause-line c =
    let n = net_of c.args.net.now in
    let b = shown_box c.args.v.now in
    line-further n b c.args.id c.place_of-group.result.1 c.row-in-Further.new.row c.row-in-Further.result
    (c.place_of-group.ensures.placed.same b ∙ ap (λ (g : Group). row_in_group n b g c.place_of-group.result.1) c.in-Further.is) c.row-in-Further.ensures
