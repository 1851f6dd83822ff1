-- The best plan's target in a search, and where no squeeze is owed.
use Rattle.std.proofs.Common.{◌≡◌, ℕ, ◌^◌, ◌<◌, ◌≤◌, Option, None, Some, ℤ, pos, neg_ℤ, ◌-ℤ◌, ◌≤ℤ◌, ◌<ℤ◌, unsigned_abs, FitsSigned, arith, refl, sym, ap, subst, ◌∙◌}
use Rattle.std.proofs.lemmas.Int.{ints, fits_signed_from_abs}
use Rattle.std.proofs.lemmas.Option.{none-some}
use mir.Syntax.{w128}
use Rattle.pool_model.specs.Network.{Net, IsLimited}
use Rattle.pool_model.specs.Plan.{Written, plan_of, cost_of}
use Rattle.plan_core.specs.Faults.{IsCostOf}
use Rattle.plan_core.specs.declared.plan.Cost.{Cost}
use Rattle.row_model.specs.Trees.{box_of}
use Rattle.row_model.specs.Entries.{Searched}
use Rattle.box_tree.specs.Kept.{Held, IsKeptCost}
use Rattle.search_core.specs.Cases.{HasNoBetterStart}
use Rattle.search_core.specs.Searches.{Searching, IsSearchOf}
use Rattle.text_pieces.specs.Rounding.{rounded_up}
use Rattle.box_squeeze.specs.Squeezes.{HasNoEmpty}
use Rattle.search_run.specs.Steps.{target_of, OwesNone}
use Rattle.search_run.specs.declared.orders.Orders.{Orders}
use Rattle.search_run.proofs.Targets.{cost-fits, target-above, target-least, none-above}

-- ---- the best plan of a tree

-- the best plan, by its cost
pub record IsBest (n : Net) (best : Option Written) (c : Cost) : Type 0 where
  pub plan : Written
  pub is : best ≡ Some plan
  pub costs : IsCostOf n plan c

best-of : (n : Net) (best : Option Written) (cost : Option Cost) (c : Cost) → IsKeptCost n best cost → cost ≡ Some c → IsBest n best c
best-of n None None c h e = absurd (none-some c e)
best-of n None (Some d) c h e = absurd h
best-of n (Some plan) None c h e = absurd h
best-of n (Some plan) (Some d) c h e = record { plan = plan; is = refl; costs = subst (IsCostOf n plan) (same d c e) h }
  where
    same : (x y : Cost) → Some x ≡ Some y → x ≡ y
    same x y e = cc

none-best : (n : Net) (best : Option Written) (cost : Option Cost) → IsKeptCost n best cost → cost ≡ None → best ≡ None
none-best n None cost h e = refl
none-best n (Some plan) None h e = absurd h
none-best n (Some plan) (Some d) h e = absurd (none-some d (sym e))

-- the same, of the cost that the tree of a search tells
pub best-told : (n : Net) (s : Searching) (is : IsSearchOf n s) (tree : Held) (told : Option Cost) (c : Cost) → tree ≡ s.tree → told ≡ tree.kept.cost → told ≡ Some c → IsBest n s.tree.kept.best c
best-told n s is tree told c same gave some = best-of n s.tree.kept.best s.tree.kept.cost c is.tree.kept.cost (sym (gave ∙ ap (λ (h : Held). h.kept.cost) same) ∙ some)

pub none-told : (n : Net) (s : Searching) (is : IsSearchOf n s) (tree : Held) (told : Option Cost) → tree ≡ s.tree → told ≡ tree.kept.cost → told ≡ None → s.tree.kept.best ≡ None
none-told n s is tree told same gave none = none-best n s.tree.kept.best s.tree.kept.cost is.tree.kept.cost (sym (gave ∙ ap (λ (h : Held). h.kept.cost) same) ∙ none)

-- a gap that may be asked for
pub gap-fits : (gap : ℤ) → pos 0 ≤ℤ gap → gap ≤ℤ pos (10 ^ 24) → FitsSigned w128 gap
gap-fits gap h k = fits_signed_from_abs w128 gap (omega (arith, ints))

module _ (n : Net) (limited : IsLimited n) (w : Written) (c : Cost) (costs : IsCostOf n w c) where
  pub base-above : 0 < c.base
  base-above = subst (λ (m : ℕ). 0 < m) (sym costs.base) costs.obeys.denominator

  pub num-fits : unsigned_abs c.num ≤ 2 ^ 124
  num-fits = subst (λ (z : ℤ). unsigned_abs z ≤ 2 ^ 124) (sym costs.num) (cost-fits n w limited costs.written costs.obeys)

  pub target-is : (gap : ℤ) → rounded_up c.num c.base -ℤ gap ≡ target_of n gap w
  target-is gap = ap (λ (z : ℤ). rounded_up z c.base -ℤ gap) costs.num ∙ ap (λ (m : ℕ). rounded_up (cost_of n (plan_of n w)) m -ℤ gap) costs.base

  pub target-high : (gap target : ℤ) → gap ≤ℤ pos (10 ^ 24) → target ≡ rounded_up c.num c.base -ℤ gap → neg_ℤ (pos (2 ^ 120)) <ℤ target
  target-high gap target h is = subst (λ (z : ℤ). neg_ℤ (pos (2 ^ 120)) <ℤ z) (sym (is ∙ target-is gap)) (target-above n w limited costs.written costs.obeys gap h)

-- ---- no squeeze is owed

pub owes-unplanned : (n : Net) (o : Orders) (s : Searched) (leaf : ℕ) → HasNoBetterStart n s → s.best ≡ None → OwesNone n o s leaf
owes-unplanned n o s leaf none unplanned = λ on w cheapest. absurd (none w record {
  cheapest = cheapest;
  cheaper = λ x e. absurd (none-some x (sym unplanned ∙ e));
})

pub owes-none : (n : Net) (o : Orders) (s : Searched) (leaf : ℕ) (c : Cost) (target : ℤ) (best : IsBest n s.best c) → HasNoBetterStart n s → target ≡ target_of n o.gap best.plan
    → HasNoEmpty n o.form (box_of n s.tree.splits leaf) target → OwesNone n o s leaf
owes-none n o s leaf c target best none is empty = λ on w cheapest.
    none-above n o.form (box_of n s.tree.splits leaf) (target_of n o.gap best.plan) (target_of n o.gap w) (target-least n o.gap s w best.plan none cheapest best.is best.costs.written)
    (subst (HasNoEmpty n o.form (box_of n s.tree.splits leaf)) is empty)
