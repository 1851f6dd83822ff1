-- A cheaper plan: what is kept with it is a network's again.
use Rattle.std.proofs.Common.{ℕ, ◌*◌, ◌<◌, Option, Some, None, ℤ, pos, ◌*ℤ◌, ◌<ℤ◌, refl, sym, ap, subst}
use Rattle.std.specs.Option.{ForSome}
use Rattle.std.specs.Prelude.{unwrap_or}
use Rattle.std.proofs.lemmas.Option.{none-some}
use Rattle.integers.proofs.Ring.{mul_comm_ℤ}
use Rattle.pool_model.specs.Network.{Net}
use Rattle.pool_model.specs.Plan.{Written, plan_of, cost_of}
use Rattle.plan_core.specs.Faults.{IsCostOf}
use Rattle.plan_core.specs.declared.plan.Cost.{Cost}
use Rattle.row_model.specs.Entries.{improve, IsCheaper, IsPlanInOrder}
use Rattle.row_model.proofs.EntryLaw.{searched-kept}
use Rattle.box_tree.specs.Kept.{Kept, searched_of, IsKeptCost, IsKeptOf}
use Rattle.box_tree.specs.Taken.{IsTaken}

-- a cost is less than another, as fractions
abbrev pub IsLess : Cost → Cost → Type 0
IsLess a b = (pos b.base *ℤ a.num) <ℤ (pos a.base *ℤ b.num)

pub some_at : {X : Type 0} (P : X → Type 0) (x : X) → P x → ForSome (Some x) P
some_at P x h y e = subst P (ap (λ o. unwrap_or o y) e) h

-- ---- costs compare as the plans do

cheaper-is : (n : Net) (w other : Written) (a b : Cost) → IsCostOf n w a → IsCostOf n other b → IsLess a b → IsCheaper n w other
cheaper-is n w other a b is_a is_b h =
    subst (λ (z : ℤ). (pos (other.flow_base * other.base) *ℤ cost_of n (plan_of n w)) <ℤ z) (mul_comm_ℤ (pos (w.flow_base * w.base)) (cost_of n (plan_of n other)))
    (subst (λ (m : ℕ). (pos m *ℤ cost_of n (plan_of n w)) <ℤ (pos (w.flow_base * w.base) *ℤ cost_of n (plan_of n other))) is_b.base
    (subst (λ (m : ℕ). (pos b.base *ℤ cost_of n (plan_of n w)) <ℤ (pos m *ℤ cost_of n (plan_of n other))) is_a.base
    (subst (λ (z : ℤ). (pos b.base *ℤ z) <ℤ (pos a.base *ℤ cost_of n (plan_of n other))) is_a.num
    (subst (λ (z : ℤ). (pos b.base *ℤ a.num) <ℤ (pos a.base *ℤ z)) is_b.num h))))

less-is : (n : Net) (w other : Written) (a b : Cost) → IsCostOf n w a → IsCostOf n other b → IsCheaper n w other → IsLess a b
less-is n w other a b is_a is_b h =
    subst (λ (z : ℤ). (pos b.base *ℤ a.num) <ℤ (pos a.base *ℤ z)) (sym is_b.num)
    (subst (λ (z : ℤ). (pos b.base *ℤ z) <ℤ (pos a.base *ℤ cost_of n (plan_of n other))) (sym is_a.num)
    (subst (λ (m : ℕ). (pos b.base *ℤ cost_of n (plan_of n w)) <ℤ (pos m *ℤ cost_of n (plan_of n other))) (sym is_a.base)
    (subst (λ (m : ℕ). (pos m *ℤ cost_of n (plan_of n w)) <ℤ (pos (w.flow_base * w.base) *ℤ cost_of n (plan_of n other))) (sym is_b.base)
    (subst (λ (z : ℤ). (pos (other.flow_base * other.base) *ℤ cost_of n (plan_of n w)) <ℤ z) (sym (mul_comm_ℤ (pos (w.flow_base * w.base)) (cost_of n (plan_of n other)))) h))))

-- than the kept plan exactly where than the kept cost
pub cheaper-kept : (n : Net) (w : Written) (a : Cost) (best : Option Written) (cost : Option Cost) → IsCostOf n w a → IsKeptCost n best cost → ForSome cost (IsLess a) → ForSome best (IsCheaper n w)
cheaper-kept n w a None None is kept less other e = absurd (none-some other e)
cheaper-kept n w a None (Some b) is kept less other e = absurd kept
cheaper-kept n w a (Some o) None is kept less other e = absurd kept
cheaper-kept n w a (Some o) (Some b) is kept less other e = some_at (IsCheaper n w) o (cheaper-is n w o a b is kept (less b refl)) other e

pub dearer-kept : (n : Net) (w : Written) (a : Cost) (best : Option Written) (cost : Option Cost) → IsCostOf n w a → IsKeptCost n best cost → ¬ ForSome cost (IsLess a) → ¬ ForSome best (IsCheaper n w)
dearer-kept n w a None None is kept not cheaper = not (λ b e. absurd (none-some b e))
dearer-kept n w a None (Some b) is kept not cheaper = absurd kept
dearer-kept n w a (Some o) None is kept not cheaper = absurd kept
dearer-kept n w a (Some o) (Some b) is kept not cheaper = not (some_at (IsLess a) b (less-is n w o a b is kept (cheaper o refl)))

-- ---- what is kept

pub plan-taken : (n : Net) (k : Kept) (w : Written) (a : Cost) → IsKeptOf n k → IsCostOf n w a → ForSome k.cost (IsLess a) → IsTaken n (improve w) k (record k { best = Some w; cost = Some a })
plan-taken n k w a is cost less =
    let cheaper = cheaper-kept n w a k.best k.cost cost is.cost less in
    let order : IsPlanInOrder n (searched_of k) w = record { written = cost.written; obeys = cost.obeys; cheaper = cheaper } in
    record {
      in_order = order;
      made = refl;
      kept = record {
        searched = searched-kept n (searched_of k) (improve w) is.searched order;
        splits = is.splits;
        counted = is.counted;
        proved = is.proved;
        bounded = is.bounded;
        bounds = is.bounds;
        cost = cost;
      };
    }
