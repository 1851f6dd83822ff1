use Rattle.std.proofs.Common.{arith, refl}
use Rattle.std.proofs.lemmas.Result.{err_from_is_err_and}
use Rattle.integers.proofs.Ring.{additive}
use Rattle.pool_model.specs.Network.{net_of}
use Rattle.box_space.specs.Views.{shown_box}
use Rattle.row_book.proofs.Passing.{weight-none}
use Rattle.row_book.proofs.summing.sum_costs.Goals as goal

pub returns-in_err-weigh_rests : goal.returns-in_err-weigh_rests
returns-in_err-weigh_rests c =
    let exit = err_from_is_err_and c.from_residual.result c.from_residual.ensures.1 in
    rw exit.1 (omega (
      arith,
      c.in_err-weigh_rests.ensures.wide,
      c.new-weight.ensures,
      weight-none (net_of c.args.net.now)
          (shown_box c.args.v.now) c.args.scale c.fill_costs.new.rests c.fill_costs.ensures.costs,
    ))

pub returns : goal.returns
returns c = record {
  weight = omega (
    arith,
    c.in_ok-weigh_rests.ensures.added,
    c.new-weight.ensures,
    weight-none (net_of c.args.net.now)
        (shown_box c.args.v.now) c.args.scale c.fill_costs.new.rests c.fill_costs.ensures.costs,
  );
  narrow = c.in_ok-weigh_rests.ensures.narrow;
  constants = refl;
  rests = λ v lt. omega (arith, additive, c.fill_costs.ensures.costs v lt);
  small = λ v lt. omega (arith, c.fill_costs.ensures.small v lt);
}
