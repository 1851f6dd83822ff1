-- Plans that are repaired: what repair answers, said of the tree, and whether a plan was repaired.
use Rattle.std.proofs.Common.{◌≡◌, List, length, Bool, true, false, not, ◌||◌, Option, Some, None, Result, Ok, Err, IfOk, ℤ, refl, sym, ap, subst, ◌∙◌}
use Rattle.std.specs.Prelude.{IfSome, IfNone}
use Rattle.std.specs.Option.{is_some}
use denote.Ref.{Bor}
use Rattle.edge_io.specs.declared.Memory.{Memory}
use Rattle.pool_model.specs.Network.{Net}
use Rattle.pool_model.specs.Plan.{Written}
use Rattle.plan_core.specs.Views.{shown_plan}
use Rattle.plan_core.specs.declared.plan.WrittenPlan.{WrittenPlan}
use Rattle.plan_repair.specs.Choices.{shown_best}
use Rattle.plan_repair.specs.PlainPlan.{plain_plan}
use Rattle.plan_repair.specs.Repairs.{IsAccepted, IsGain, IsNoDearer}
use Rattle.row_model.specs.Entries.{Searched}
use Rattle.row_model.specs.Variables.{variables}
use Rattle.search_core.specs.Cases.{IsBetterStart, HasNoBetterStart, IsRepair, HasNoRepair, IsRepairedBy}
use Rattle.search_core.specs.Next.{tried_at}

-- ---- what repair answers

module _ (n : Net) (s : Searched) (best : Option WrittenPlan) (same : shown_best best ≡ s.best) (point : List ℤ) (long : length point ≡ variables n) where
  pub repair-some : (r : Result (Option WrittenPlan) Memory) → IfOk r (λ o. IfSome o (λ w. IsGain n (shown_best best) (shown_plan w)))
      → IfOk r (λ o. IfSome o (λ w. IsAccepted n (plain_plan n point) → IsNoDearer n (shown_plan w) (plain_plan n point)))
      → IfOk r (λ o. IfSome o (λ w. IsRepair n s point (shown_plan w)))
  repair-some (Ok (Some w)) gain dear = record { long = long; gain = subst (λ (b : Option Written). IsGain n b (shown_plan w)) same gain; no_dearer = dear }
  repair-some (Ok None) gain dear = tt
  repair-some (Err m) gain dear = tt

  vain-at : (repaired : Bool) → ¬ IsGain n (shown_best best) (plain_plan n point) → HasNoRepair n s repaired (tried_at repaired point)
  vain-at true vain = refl
  vain-at false vain = record { long = long; vain = λ gain. vain (subst (λ (b : Option Written). IsGain n b (plain_plan n point)) (sym same) gain) }

  pub repair-none : (repaired : Bool) (r : Result (Option WrittenPlan) Memory) → IfOk r (λ o. IfNone o (¬ IsGain n (shown_best best) (plain_plan n point)))
      → IfOk r (λ o. IfNone o (HasNoRepair n s repaired (tried_at repaired point)))
  repair-none repaired (Ok (Some w)) vain = tt
  repair-none repaired (Ok None) vain = vain-at repaired vain
  repair-none repaired (Err m) vain = tt

-- ---- whether a plan was repaired

pub repaired-by : (n : Net) (s : Searched) (before new : Bool) → (new ≡ true → HasNoBetterStart n s) → (new ≡ false → ¬ HasNoBetterStart n s) → IsRepairedBy n s before (before || new)
repaired-by n s true new none some = record { repaired = λ _. refl; started = λ w is. refl }
repaired-by n s false true none some = record { repaired = λ _. refl; started = λ w is. absurd (none refl w is) }
repaired-by n s false false none some = record { repaired = λ lacks. absurd (some refl lacks); started = λ w is. refl }

-- the same where none was repaired before, of a better starting plan that is lent
pub repaired-now : (n : Net) (s : Searched) (before none : Bool) (o : Option (Bor WrittenPlan)) → before ≡ false → is_some o ≡ not none → IfSome o (λ w. IsBetterStart n s (shown_plan w.now))
    → IfNone o (HasNoBetterStart n s) → IsRepairedBy n s before none
repaired-now n s before none o clear is some lack =
    subst (λ (b : Bool). IsRepairedBy n s b none) (sym clear) (repaired-by n s false none (λ e. lacks o (is ∙ ap (λ (b : Bool). not b) e) lack) (λ e. has o (is ∙ ap (λ (b : Bool). not b) e) some))
  where
    lacks : (p : Option (Bor WrittenPlan)) → is_some p ≡ false → IfNone p (HasNoBetterStart n s) → HasNoBetterStart n s
    lacks None e h = h
    lacks (Some w) e h = absurd (cc)

    has : (p : Option (Bor WrittenPlan)) → is_some p ≡ true → IfSome p (λ w. IsBetterStart n s (shown_plan w.now)) → ¬ HasNoBetterStart n s
    has None e h = absurd (cc)
    has (Some w) e h = λ nothing. nothing (shown_plan w.now) h
