use Rattle.std.proofs.Common.{◌<◌, All, arith, subst, ◌∙◌}
use Rattle.std.proofs.lemmas.List.{take_all}
use Rattle.pool_model.specs.Network.{net_of}
use Rattle.row_model.specs.Catalogue.{rows}
use Rattle.box_space.specs.Views.{shown_box}
use Rattle.linear_program.specs.declared.lp.LpRow.{LpRow}
use Rattle.dual_rounding.specs.Programs.{IsRowIn}
use Rattle.dual_rounding.proofs.FormRows.{All-along}
use Rattle.dual_rounding.proofs.Written.{map-set_same, All-written}
use Rattle.dual_rounding.proofs.program.write_rows.Goals as goal

pub write_row-requires-clause-known : goal.write_row-requires-clause-known
write_row-requires-clause-known c =
    let n = net_of c.args.net.now in
    All-along (λ id. id < rows n) (λ (r : LpRow). r.id) c.loop-n.into c.args.into.now c.loop-n.invariant.numbers c.requires.known c.loop-n.n c.index-into-n.result (omega arith)

pub returns-in_err-write_row-clause-numbers : goal.returns-in_err-write_row-clause-numbers
returns-in_err-write_row-clause-numbers c =
    map-set_same (λ (r : LpRow). r.id) c.loop-n.into c.loop-n.n c.write_row.new.into c.index-into-n.result (omega arith) c.in_err-write_row.ensures.id ∙ c.loop-n.invariant.numbers

pub loop-n-preserved : goal.loop-n-preserved
loop-n-preserved c = record {
  numbers = map-set_same (λ (r : LpRow). r.id) c.loop-n.into c.loop-n.n c.write_row.new.into c.index-into-n.result (omega arith) c.in_ok-write_row.ensures.id ∙ c.loop-n.invariant.numbers;
  written = All-written (IsRowIn (net_of c.args.net.now) (shown_box c.args.v.now)) c.loop-n.into c.loop-n.n c.write_row.new.into
      (omega arith) c.loop-n.invariant.written c.in_ok-write_row.ensures.written;
}

pub returns-clause-written : goal.returns-clause-written
returns-clause-written c =
    let P = IsRowIn (net_of c.args.net.now) (shown_box c.args.v.now) in
    subst (λ rs. All P rs) (take_all c.loop-n.n c.loop-n.into (omega arith)) c.loop-n.invariant.written
