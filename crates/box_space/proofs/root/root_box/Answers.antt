use Rattle.std.proofs.Common.{ap, arith, ◌∙◌, FitsSigned, rules}
use Rattle.std.proofs.lemmas.Int.{to_z-of_z}
use mir.Syntax.{w64}
use Rattle.pool_model.specs.Network.{net_of}
use Rattle.row_model.specs.Boxes.{root, root_low, root_high}
use Rattle.box_space.proofs.Roots.{one_end_more, ends-proper}
use Rattle.box_space.proofs.root.root_box.Goals as goal

pub loop-n-preserved : goal.loop-n-preserved
loop-n-preserved c =
    let n = net_of c.args.net.now in
    let a : FitsSigned w64 c.root_ends-least.result.0 = search rules in
    let b : FitsSigned w64 c.root_ends-least.result.1 = search rules in
    record {
      lows = omega (arith, c.in_ok-push.ensures.len);
      highs = omega (arith, c.in_ok-push-2.ensures.len);
      low = one_end_more c.loop-n.low.items c.push.new.self.items (root n).low c.loop-n.n c.root_ends-least.result.0 c.loop-n.invariant.lows
          (simp to_z-of_z at c.in_ok-push.ensures.items) (c.root_ends-least.ensures.low ∙ ap (root_low n) c.coord_at.ensures.coordinate) c.loop-n.invariant.low;
      high = one_end_more c.loop-n.high.items c.push-in-loop-n.new.self.items
          (root n).high c.loop-n.n c.root_ends-least.result.1 c.loop-n.invariant.highs (simp to_z-of_z at c.in_ok-push-2.ensures.items)
          (c.root_ends-least.ensures.high ∙ ap (root_high n) c.coord_at.ensures.coordinate) c.loop-n.invariant.high;
    }

pub returns-clause-proper : goal.returns-clause-proper
returns-clause-proper c =
    let count = c.coords-n-end.ensures.count in
    ends-proper (net_of c.args.net.now) record { low = c.loop-n.low; high = c.loop-n.high } c.coords-n-end.ensures.limited record {
      lows = omega (arith, c.loop-n.invariant.lows, count);
      highs = omega (arith, c.loop-n.invariant.highs, count);
      low = λ k lt. c.loop-n.invariant.low k (omega (arith, count));
      high = λ k lt. c.loop-n.invariant.high k (omega (arith, count));
    }
