-- How large the numbers of a plan that obeys are.
use Rattle.std.proofs.Common.{◌≡◌, ℕ, ◌*◌, ◌≤◌, ℤ, pos, ◌*ℤ◌, arith, ap, ◌∙◌}
use Rattle.std.proofs.lemmas.Int.{ints}
use mir.Syntax.{w64, w128}
use mir.Val.{to_z, of_z}
use Rattle.pool_model.specs.Network.{Net, IsLimited}
use Rattle.pool_model.specs.Plan.{Written, IsWritten, Obeys, plan_of}
use Rattle.plan_core.specs.Faults.{IsShaped}
use Rattle.plan_core.specs.Weighed.{HasRoom}
use Rattle.plan_core.proofs.Supply.{room_of}

pub shaped : (n : Net) (w : Written) → IsWritten n w → IsShaped n w
shaped n w written = record { base = written.base; flow_base = written.flow_base; weights = written.weights; outflows = written.outflows; direct = written.direct }

-- the numbers of a written plan that obeys have room
pub room-obeys : (n : Net) (w : Written) → IsLimited n → IsWritten n w → Obeys n (plan_of n w) → HasRoom n w
room-obeys n w limited written obeys =
    room_of n w limited (shaped n w written) (λ l broken. broken.1 (written.weight_sums l broken.0)) (λ j broken. omega (arith, obeys.carries.at_most j broken.0, broken.1))

-- the scale as it is read, times a flow
pub scaled-flow : (scale inflow flow : ℕ) (read wide result : ℤ) → read ≡ pos scale → scale ≤ 1000 → wide ≡ to_z w64 (of_z w64 read) → flow ≡ inflow → result ≡ to_z w128 (of_z w128 wide) *ℤ pos flow
    → result ≡ pos (scale * inflow)
scaled-flow scale inflow flow read wide result is small e f g =
    let whole : to_z w128 (of_z w128 wide) ≡ pos scale = omega (arith, ints, e, is, small) in
    g ∙ ap (λ z. z *ℤ pos flow) whole ∙ ap (λ m. pos scale *ℤ pos m) f
