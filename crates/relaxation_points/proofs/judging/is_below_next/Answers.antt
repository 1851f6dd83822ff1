use Rattle.std.proofs.Common.{ℤ, ◌≤ℤ◌, ◌↔◌, IsTrue, FitsSigned, arith, rules}
use Rattle.std.proofs.lemmas.Int.{ints, to_z-of_z}
use lib.Signed.{le_z}
use mir.Syntax.{w128}
use Rattle.relaxation_points.proofs.Comparing.{below-next}
use Rattle.relaxation_points.proofs.judging.is_below_next.Goals as goal

-- the test of an order
tested : (a b : ℤ) → IsTrue (le_z a b) ↔ (a ≤ℤ b)
tested a b = (λ t. grind (arith, ints), λ h. grind (arith, ints))

pub returns : goal.returns
returns c =
    let cost : FitsSigned w128 c.args.cost = search rules in
    let bound : FitsSigned w128 c.args.bound = search rules in
    let floor : FitsSigned w128 c.rounded_down.result = search rules in
    let next = below-next c.rounded_down.result c.args.cost c.args.bound c.args.base c.requires (simp to_z-of_z at c.rounded_down.ensures.not_above) (simp to_z-of_z at c.rounded_down.ensures.next_above) in
    let test = tested c.rounded_down.result c.args.bound in
    simp to_z-of_z (λ t. next.0 (test.0 t), λ h. test.1 (next.1 h))
