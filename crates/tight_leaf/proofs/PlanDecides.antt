-- A plan's point is a witness for a bound in a box exactly where the plan decides.
use Rattle.std.proofs.Common.{◌≡◌, ℕ, ◌<◌, ◌≤◌, ℤ, pos, ◌+ℤ◌, ◌*ℤ◌, ◌≤ℤ◌, ◌<ℤ◌, subst, sym, arith}
use Rattle.integers.specs.Sums.{int_sum_below, product_below}
use Rattle.integers.proofs.Ring.{additive}
use Rattle.pool_model.specs.Network.{Net, IsLimited}
use Rattle.pool_model.specs.Plan.{Written, IsWritten, Obeys, cost_of, factor, plan_of}
use Rattle.row_model.specs.Boxes.{Box, IsProper, LiesIn}
use Rattle.row_model.specs.Catalogue.{row_at, rows}
use Rattle.row_model.specs.Lift.{HoldsAt, lift, lift_base}
use Rattle.row_model.specs.Variables.{by_number, costs, highs, lows, variables}
use Rattle.box_space.specs.declared.coordinates.Form.{Form}
use Rattle.relaxation_points.specs.Points.{IsWitness, Point, cost_value}
use Rattle.tight_leaf.specs.PlanPoints.{Decides, IsPlanPoint}
use Rattle.tight_leaf.proofs.PlanLies.{lies}
use Rattle.tight_leaf.proofs.PlanLight.{factors-some, light}
use Rattle.tight_leaf.proofs.PlanMeets.{meets, point-cost}

module _ (n : Net) (w : Written) (lim : IsLimited n) (written : IsWritten n w) (obeys : Obeys n (plan_of n w)) (form : Form) (b : Box) (bound : ℤ) (q : Point) (is : IsPlanPoint n (plan_of n w) q)
    (cost : int_sum_below (λ v. by_number n (costs n) v *ℤ by_number n (lift n (plan_of n w)) v) (variables n) ≡ pos (product_below (factor n (plan_of n w)) n.pools) *ℤ cost_of n (plan_of n w)) where
  some : pos 0 <ℤ pos (product_below (factor n (plan_of n w)) n.pools)
  some = omega (arith, additive, factors-some n w lim written obeys q is)

  cost-same : cost_value n q ≡ cost_of n (plan_of n w)
  cost-same = point-cost n b (plan_of n w) q is some cost

  near-over : (a c : ℤ) (d e : ℕ) → a ≡ c → d ≡ e → c <ℤ ((bound +ℤ pos 1) *ℤ pos e) → a <ℤ ((bound +ℤ pos 1) *ℤ pos d)
  near-over a c d e h k lt = subst (λ (z : ℤ). z <ℤ ((bound +ℤ pos 1) *ℤ pos d)) (sym h) (subst (λ (m : ℕ). c <ℤ ((bound +ℤ pos 1) *ℤ pos m)) (sym k) lt)

  pub decides-witness : IsProper n b → variables n ≤ 4096
      → (LiesIn n (plan_of n w) b → (v : ℕ) → v < variables n → (by_number n (lows n b) v *ℤ pos (lift_base n (plan_of n w))) ≤ℤ by_number n (lift n (plan_of n w)) v)
      → (LiesIn n (plan_of n w) b → (v : ℕ) → v < variables n → by_number n (lift n (plan_of n w)) v ≤ℤ (by_number n (highs n b) v *ℤ pos (lift_base n (plan_of n w))))
      → (LiesIn n (plan_of n w) b → (id : ℕ) → id < rows n → HoldsAt n (plan_of n w) (row_at n b id)) → Decides n b bound (plan_of n w) → IsWitness n form b bound q
  decides-witness proper few low high held d = record {
    light = light n w lim written obeys q is form b proper few;
    meets = meets n b (plan_of n w) q is some obeys.denominator (low d.lies) (high d.lies) (held d.lies) form;
    near = near-over (cost_value n q) (cost_of n (plan_of n w)) q.base (plan_of n w).base cost-same is.base d.near;
  }

  pub witness-decides : IsWitness n form b bound q → Decides n b bound (plan_of n w)
  witness-decides h = record {
    lies = lies n b (plan_of n w) q is (factors-some n w lim written obeys q is) obeys.denominator lim (λ v lt. h.meets.ends v lt);
    near = near-over (cost_of n (plan_of n w)) (cost_value n q) (plan_of n w).base q.base (sym cost-same) (sym is.base) h.near;
  }
