use Rattle.std.proofs.Common.{◌<◌, map, drop, length, vec_len, arith, ap, ◌∙◌}
use Rattle.pool_model.specs.Network.{net_of}
use Rattle.row_model.specs.Catalogue.{rows}
use Rattle.linear_program.specs.declared.lp.LpRow.{LpRow}
use Rattle.dual_rounding.proofs.FormRows.{All-along}
use Rattle.dual_rounding.proofs.Written.{All-whole}
use Rattle.dual_rounding.proofs.program.write.Goals as goal

pub returns-clause-network : goal.returns-clause-network
returns-clause-network c =
    let n = net_of c.args.net.now in
    let new = c.write_rows.new.into in
    record {
      rows = All-whole (λ (r : LpRow). r.id < rows n) (vec_len c.args.lp.now.rows) new (drop (length new) c.args.lp.now.rows.items)
          (omega (arith, c.write_rows.auto.into, c.as_mut_slice-3.ensures.len))
          (All-along (λ id. id < rows n) (λ (r : LpRow). r.id) new c.args.lp.now.rows.items
          (c.write_rows.ensures.numbers ∙ ap (map (λ (r : LpRow). r.id)) c.as_mut_slice-3.ensures.value) c.requires.network.rows);
      low = c.requires.network.low;
      high = c.requires.network.high;
      costs = c.requires.network.costs;
    }
