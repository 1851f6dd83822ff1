use Rattle.std.proofs.Common.{◌<◌, ◌≤◌, ◌/◌, ◌^◌, arith}
use Rattle.std.specs.Int.{trailing_zeros, w128}
use Rattle.std.proofs.lemmas.Nat.Gcd.{IsGcd-from_zero}
use Rattle.exact_num.proofs.Halving.{rest-odd, less-gcd, more-gcd}
use Rattle.exact_num.proofs.gcd.odd_gcd.Goals as goal

pub loop-y-preserved-then-x-odd : goal.loop-y-preserved-then-x-odd
loop-y-preserved-then-x-odd c =
    let positive : 0 < c.loop-y.y = omega arith in
    let below : c.loop-y.x ≤ c.loop-y.y / 2 ^ trailing_zeros w128 c.loop-y.y = omega (arith, c.if-x-odd.true) in
    record {
      odd = c.loop-y.invariant.odd;
      kept = λ g h. c.loop-y.invariant.kept g (less-gcd w128 c.loop-y.x c.loop-y.y c.loop-y.invariant.odd positive c.loop-y.auto.y-fits.fits below g h);
    }

pub loop-y-preserved : goal.loop-y-preserved
loop-y-preserved c =
    let positive : 0 < c.loop-y.y = omega arith in
    record {
      odd = rest-odd w128 c.loop-y.x c.loop-y.y c.loop-y.invariant.odd positive c.loop-y.auto.y-fits.fits;
      kept = λ g h. c.loop-y.invariant.kept g (more-gcd w128 c.loop-y.x c.loop-y.y c.loop-y.invariant.odd positive c.loop-y.auto.y-fits.fits c.if-x-odd.false g h);
    }

pub returns : goal.returns
returns c = c.loop-y.invariant.kept _ (IsGcd-from_zero _ _ (omega arith))
