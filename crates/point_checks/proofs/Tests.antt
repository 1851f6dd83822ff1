-- Tests of a fact at each number below a count, and of facts that are the same.
use Rattle.std.proofs.Common.{◌≡◌, ℕ, ◌*◌, ◌<◌, ◌≤◌, ◌^◌, Bool, true, false, ◌↔◌, IsTrue, Option, Some, None, ℤ, pos, ◌+ℤ◌, unsigned_abs, arith, refl, sym, ap, subst}
use Rattle.std.specs.Prelude.{option_map}
use Rattle.std.proofs.lemmas.Bool.{false≢true}
use Rattle.std.proofs.lemmas.Int.{ints}
use mir.Syntax.{w128}
use mir.Val.{to_z, of_z}
use Rattle.pool_model.specs.Network.{Net}
use Rattle.point_checks.specs.Flows.{IsWithinMaximum, KeepsMaximum}
use Rattle.point_checks.specs.Qualities.{MeetsLimits}

-- where the fact fails at a number, it doesn't hold at each
pub never_every : (P : ℕ → Type 0) (i m : ℕ) → i < m → (P i → IsTrue false) → (IsTrue false → (k : ℕ) → k < m → P k) × (((k : ℕ) → k < m → P k) → IsTrue false)
never_every P i m lt fails = (λ e. absurd (false≢true e), λ h. fails (h i lt))

-- where it held at each number so far, up to the count
pub every : (P : ℕ → Type 0) (i m : ℕ) → m ≤ i → ((k : ℕ) → k < i → P k) → (IsTrue true → (k : ℕ) → k < m → P k) × (((k : ℕ) → k < m → P k) → IsTrue true)
every P i m le h = (λ e k lt. h k (omega arith), λ _. refl)

-- a fact that needs another, which fails
pub never : (P Q : Type 0) → (P → IsTrue false) → (Q → P) → (IsTrue false → Q) × (Q → IsTrue false)
never P Q fails f = (λ e. absurd (false≢true e), λ q. fails (f q))

-- two facts that are the same
pub same-test : (P Q : Type 0) (b : Bool) → (IsTrue b ↔ P) → (P → Q) → (Q → P) → (IsTrue b → Q) × (Q → IsTrue b)
same-test P Q b h f g = (λ e. f (h.0 e), λ q. h.1 (g q))

pub meets-same : (n : Net) (j k a b : ℕ) (x y : ℤ) → a ≡ b → x ≡ y → MeetsLimits n j k a x → MeetsLimits n j k b y
meets-same n j k a b x y e f m = subst (λ (z : ℤ). MeetsLimits n j k b z) f (subst (λ (c : ℕ). MeetsLimits n j k c x) e m)

-- the code's sum of two qualities
pub wide_sum : (t p : ℤ) → unsigned_abs t ≤ 2 ^ 123 → unsigned_abs p ≤ 2 ^ 123 → to_z w128 (of_z w128 (to_z w128 (of_z w128 t) +ℤ to_z w128 (of_z w128 p))) ≡ t +ℤ p
wide_sum t p h k = omega (arith, ints)

-- a maximum as it is read
within-maximum : (max : Option ℕ) (z : Option ℤ) (base flow : ℕ) → z ≡ option_map pos max → IsWithinMaximum z base flow → KeepsMaximum max base flow
within-maximum None z base flow e h m is = cc
within-maximum (Some most) z base flow e h m is =
    let same : most ≡ m = cc in
    omega (arith, subst (λ (o : Option ℤ). IsWithinMaximum o base flow) e h, ap (λ (a : ℕ). base * a) same)

maximum-within : (max : Option ℕ) (z : Option ℤ) (base flow : ℕ) → z ≡ option_map pos max → KeepsMaximum max base flow → IsWithinMaximum z base flow
maximum-within None z base flow e h = subst (λ (o : Option ℤ). IsWithinMaximum o base flow) (sym e) tt
maximum-within (Some most) z base flow e h = subst (λ (o : Option ℤ). IsWithinMaximum o base flow) (sym e) (h most refl)

pub maximum_as_read : (max : Option ℕ) (z : Option ℤ) (base flow : ℕ) (b : Bool) → z ≡ option_map pos max → (IsTrue b ↔ IsWithinMaximum z base flow) → (IsTrue b → KeepsMaximum max base flow) × (KeepsMaximum max base flow → IsTrue b)
maximum_as_read max z base flow b e test = (λ yes. within-maximum max z base flow e (test.0 yes), λ h. test.1 (maximum-within max z base flow e h))
