-- The cheapest starting plan: whether it is better than what a tree has.
use Rattle.std.proofs.Common.{◌≡◌, ℕ, zero, suc, ◌*◌, ◌<◌, Option, Some, None, option_map, ℤ, pos, ◌*ℤ◌, ◌≤ℤ◌, ◌<ℤ◌, arith, refl, sym, ap, subst, ◌∙◌}
use Rattle.std.specs.Option.{ForSome}
use Rattle.std.proofs.lemmas.Int.{ints}
use Rattle.integers.proofs.Order.{le-mul}
use Rattle.pool_model.specs.Network.{Net, IsLimited}
use Rattle.pool_model.specs.Plan.{Written, IsWritten, plan_of, cost_of}
use Rattle.pool_model.specs.Starting.{IsCheapestStart, IsStarting, Way, through, straight, simple_plan, start_at, way_at}
use Rattle.pool_model.proofs.StartOrder.{start_at-starting, start_at-written}
use Rattle.row_model.specs.Entries.{IsCheaper}
use Rattle.box_tree.specs.Kept.{Kept, searched_of, IsKeptCost}
use Rattle.box_tree.proofs.Improving.{IsLess, cheaper-kept, dearer-kept}
use Rattle.plan_core.specs.declared.cheapest.Start.{Start}
use Rattle.search_core.specs.Searches.{Costed, shown_start, IsStartOf}
use Rattle.search_core.specs.Cases.{IsBetterStart, HasNoBetterStart}

-- ---- starting plans are over 1

way_over_one : (n : Net) (way : Way) → (simple_plan n way).flow_base * (simple_plan n way).base ≡ 1
way_over_one n (through e o) = refl
way_over_one n (straight e) = refl

over_one : (n : Net) (k : ℕ) → (start_at n k).flow_base * (start_at n k).base ≡ 1
over_one n zero = refl
over_one n (suc a) = way_over_one n (way_at n a)

start_over_one : (n : Net) (w : Written) → IsCheapestStart n w → w.flow_base * w.base ≡ 1
start_over_one n w c = ap (λ (v : Written). v.flow_base * v.base) c.is ∙ over_one n c.number

pub start_written : (n : Net) (w : Written) → IsLimited n → IsCheapestStart n w → IsWritten n w
start_written n w limited c = subst (IsWritten n) (sym c.is) (start_at-written n c.number limited c.there)

starts : (n : Net) (w : Written) → IsCheapestStart n w → IsStarting n w
starts n w c = subst (IsStarting n) (sym c.is) (start_at-starting n c.number c.there)

-- ---- what is cheaper than a plan

below : (b a c o : ℤ) → pos 0 ≤ℤ b → a ≤ℤ c → (b *ℤ c) <ℤ o → (b *ℤ a) <ℤ o
below b a c o h k less = omega (arith, ints, le-mul b a c h k)

-- of two cheapest starting plans each is cheaper than what the other is cheaper than
as-cheap : (n : Net) (w v other : Written) → IsCheapestStart n w → IsCheapestStart n v → IsCheaper n v other → IsCheaper n w other
as-cheap n w v other c d less =
    let base = pos (other.flow_base * other.base) in
    let cost = cost_of n (plan_of n other) in
    subst (λ (m : ℕ). (base *ℤ cost_of n (plan_of n w)) <ℤ (cost *ℤ pos m)) (start_over_one n v d ∙ sym (start_over_one n w c))
    (below base (cost_of n (plan_of n w)) (cost_of n (plan_of n v)) (cost *ℤ pos (v.flow_base * v.base)) (omega (arith, ints)) (c.no_dearer v (starts n v d) d.obeys) less)

-- ---- what a tree has

module _ (n : Net) (k : Kept) (kept : IsKeptCost n k.best k.cost) where
  pub better : (s : Costed) → IsStartOf n (Some s) → ForSome k.cost (IsLess s.cost) → IsBetterStart n (searched_of k) s.plan
  better s is less = record { cheapest = is.0; cheaper = cheaper-kept n s.plan s.cost k.best k.cost is.1 kept less }

  pub no-better : (s : Costed) → IsStartOf n (Some s) → ¬ ForSome k.cost (IsLess s.cost) → HasNoBetterStart n (searched_of k)
  no-better s is dear w b =
      dearer-kept n s.plan s.cost k.best k.cost is.1 kept dear (λ other e. as-cheap n s.plan w other is.0 b.cheapest (b.cheaper other e))

-- no starting plan obeys
pub none-better : (n : Net) (k : Kept) → IsStartOf n None → HasNoBetterStart n (searched_of k)
none-better n k none w b = none w (starts n w b.cheapest) b.cheapest.obeys

-- ---- the starting plan that a search keeps

pub start-there : (n : Net) (o : Option Start) (held : Option Costed) (s : Start) → option_map shown_start o ≡ held → IsStartOf n held → o ≡ Some s → IsStartOf n (Some (shown_start s))
start-there n o held s shows is at = subst (λ (x : Option Costed). IsStartOf n x) (sym shows ∙ ap (λ (x : Option Start). option_map shown_start x) at) is

pub none-there : (n : Net) (o : Option Start) (held : Option Costed) → option_map shown_start o ≡ held → IsStartOf n held → o ≡ None → IsStartOf n None
none-there n o held shows is at = subst (λ (x : Option Costed). IsStartOf n x) (sym shows ∙ ap (λ (x : Option Start). option_map shown_start x) at) is
