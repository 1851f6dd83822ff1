use Rattle.std.proofs.Common.{ℕ, ◌<◌, List, All, arith, subst, sym}
use Rattle.pool_model.specs.Network.{net_of}
use Rattle.row_model.specs.Catalogue.{rows}
use Rattle.linear_program.specs.declared.lp.LpRow.{LpRow}
use Rattle.dual_rounding.specs.Programs.{has_row}
use Rattle.dual_rounding.proofs.FormRows.{All-numbers, All-unmap}
use Rattle.dual_rounding.proofs.program.blank.Goals as goal

pub returns-clause-network : goal.returns-clause-network
returns-clause-network c =
    let n = net_of c.args.net.now in
    record {
      rows = All-unmap (λ id. id < rows n) (λ (r : LpRow). r.id) c.in_ok-blank_rows.field-0.items
          (subst (λ (ids : List ℕ). All (λ id. id < rows n) ids) (sym c.in_ok-blank_rows.ensures) (All-numbers (has_row n c.args.form) (rows n)));
      low = omega (arith, c.in_ok-vec.ensures.len, c.vars-count.ensures.count);
      high = omega (arith, c.in_ok-vec-2.ensures.len, c.vars-count.ensures.count);
      costs = c.in_ok-costs_of.ensures;
    }
