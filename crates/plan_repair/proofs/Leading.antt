-- A feed before which another one goes does not lead its pool.
use Rattle.std.proofs.Common.{◌≡◌, ℕ, ◌<◌, ◌==◌, ◌&&◌, ◌||◌, Bool, true, false, refl, eq-eqb}
use Rattle.std.specs.Prelude.{not, nat_lt}
use Rattle.pool_model.specs.Starting.{all_below}
use Rattle.pool_model.proofs.AllBelow.{all_below-false}
use Rattle.plan_repair.specs.PlainPlan.{goes_before}

fails : (a b : Bool) → a ≡ true → b ≡ true → not (a && b) ≡ false
fails true true p q = refl
fails true false p q = cc
fails false b p q = cc

pub goes_before-is : (flow : ℕ → ℕ) (d e flow_d flow_e : ℕ) (b : Bool) → flow_d ≡ flow d → flow_e ≡ flow e → b ≡ (nat_lt flow_e flow_d || (flow_d == flow_e && nat_lt d e)) → b ≡ true
    → goes_before flow d e ≡ true
goes_before-is flow d e flow_d flow_e b p q true_is is = cc

pub led : (key flow : ℕ → ℕ) (d e n : ℕ) → d < n → key d ≡ key e → goes_before flow d e ≡ true
    → all_below (λ x. not (key x == key e && goes_before flow x e)) n ≡ false
led key flow d e n lt same before =
    all_below-false (λ x. not (key x == key e && goes_before flow x e)) n d lt (fails (key d == key e) (goes_before flow d e) (eq-eqb (key d) (key e) same) before)
