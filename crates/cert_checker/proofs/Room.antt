-- A bound over the base of a plan's cost has 128 bits: it is no greater than the cost, and no lower than the reach bound allows.
use Rattle.std.proofs.Common.{◌≡◌, ℕ, suc, ◌*◌, ◌^◌, ◌≤◌, Some, None, Option, ℤ, pos, negsuc, neg_ℤ, ◌*ℤ◌, ◌≤ℤ◌, FitsSigned, unsigned_abs, arith, sym, subst, ◌∙◌}
use Rattle.std.specs.Int.{w128}
use Rattle.std.proofs.lemmas.Option.{none-some, same_Some}
use Rattle.pool_model.specs.Claim.{Claimed, with_gap, with_bound, no_plan}
use Rattle.cert_checker.specs.Claims.{IsClaimCost, HasRoom}
use Rattle.std.proofs.lemmas.Int.{ints}
use Rattle.std.proofs.lemmas.Int.{fits_signed_from_abs, unsigned_abs-mul}
use Rattle.std.proofs.Math.Nat.{mul-le-mul}
use Rattle.pool_model.specs.Network.{Net, IsLimited}
use Rattle.pool_model.specs.Plan.{Written, plan_of, cost_of}
use Rattle.pool_model.specs.Starting.{reach_bound}
use Rattle.row_model.specs.Trees.{Tree, IsTree, tree_bound}
use Rattle.row_model.proofs.TreeBound.{tree-bound}
use Rattle.plan_core.specs.Faults.{IsCostOf}
use Rattle.plan_core.specs.declared.plan.Cost.{Cost}
use Rattle.row_model.proofs.Lowest.{AtLeast, tree-above}

low_of : (r z : ℤ) (m : ℕ) → unsigned_abs r ≤ m → r ≤ℤ z → neg_ℤ (pos m) ≤ℤ z
low_of r z m h k = omega (arith, ints, h, k)

fits_product : (z num : ℤ) (b : ℕ) → neg_ℤ (pos (256 * 10 ^ 24)) ≤ℤ z → b ≤ 65536 * 1048576 → (z *ℤ pos b) ≤ℤ num → FitsSigned w128 num → FitsSigned w128 (z *ℤ pos b)
fits_product (pos k) num b low few above fits = omega (arith, ints, above, fits)
fits_product (negsuc k) num b low few above fits =
    let small : suc k ≤ 256 * 10 ^ 24 = omega (arith, ints, low) in
    let product : suc k * b ≤ 256 * 10 ^ 24 * (65536 * 1048576) = mul-le-mul small few in
    fits_signed_from_abs w128 (negsuc k *ℤ pos b) (rw unsigned_abs-mul (omega (arith, product)))

pub room : (n : Net) (tree : Tree) (w : Written) (c : Cost) (z : ℤ) → IsLimited n → unsigned_abs (reach_bound n) ≤ 256 * 10 ^ 24 → IsTree n tree
    → tree_bound n tree ≡ Some z → IsCostOf n w c → FitsSigned w128 c.num → FitsSigned w128 (z *ℤ pos c.base)
room n tree w c z limited reach is e cost fits =
    let low : reach_bound n ≤ℤ z = subst (AtLeast (reach_bound n)) e (tree-above n tree) in
    let few : c.base ≤ 65536 * 1048576 = subst (λ b. b ≤ 65536 * 1048576) (sym cost.base) (mul-le-mul cost.written.flow_base.1 cost.written.base.1) in
    let above : (z *ℤ pos c.base) ≤ℤ c.num =
    subst (λ m. (z *ℤ pos c.base) ≤ℤ m) (sym cost.num) (subst (λ b. (z *ℤ pos b) ≤ℤ cost_of n (plan_of n w)) (sym cost.base) (tree-bound n tree z limited is e (plan_of n w) cost.obeys)) in
    fits_product z c.num c.base (low_of (reach_bound n) z (256 * 10 ^ 24) reach low) few above fits

-- the same for what is claimed
pub has-room : (n : Net) (tree : Tree) (claim : Claimed) (cost : Option Cost) (found : Option ℤ) → IsLimited n
    → unsigned_abs (reach_bound n) ≤ 256 * 10 ^ 24 → IsTree n tree → found ≡ tree_bound n tree → IsClaimCost n claim cost → HasRoom cost found
has-room n tree (with_gap plan num base bound gap) None found limited reach is e cost c z fits at here = absurd cost
has-room n tree (with_gap plan num base bound gap) (Some x) found limited reach is e cost c z fits at here =
    room n tree plan c z limited reach is (sym e ∙ here) (subst (IsCostOf n plan) (same_Some x c at) cost) fits
has-room n tree (with_bound bound) cost found limited reach is e none c z fits at here = absurd (none-some c (sym none ∙ at))
has-room n tree no_plan cost found limited reach is e none c z fits at here = absurd (none-some c (sym none ∙ at))
