-- Amounts and maxima that may be absent.
use Rattle.std.proofs.Common.{◌≡◌, ℕ, ◌*◌, ◌≤◌, ◌==◌, if◌then◌else◌, inl, inr, Option, Some, None, arith, refl, sym, ap, ◌∙◌}
use Rattle.integers.proofs.Order.{le-mul_min}
use Rattle.integers.proofs.AtKey.{same_or_other, chosen, passed}
use Rattle.pool_model.specs.Network.{capped}

pub capped-le : (o : Option ℕ) (amount : ℕ) → capped o amount ≤ amount
capped-le None amount = omega arith
capped-le (Some most) amount = omega arith

pub capped-max : (o : Option ℕ) (amount m : ℕ) → o ≡ Some m → capped o amount ≤ m
capped-max None amount m is = cc
capped-max (Some most) amount m is = let same : most ≡ m = cc in omega (arith, same)

-- what keeps within an amount and within the maximum keeps within the lesser
pub le-mul_capped : (o : Option ℕ) (x base amount : ℕ) → x ≤ base * amount → ((m : ℕ) → o ≡ Some m → x ≤ base * m) → x ≤ base * capped o amount
le-mul_capped None x base amount h keeps = h
le-mul_capped (Some most) x base amount h keeps = le-mul_min x base most amount (keeps most refl) h

-- an amount at one number keeps within the maximum there, and nothing elsewhere within any
pub alone-keeps : (i at amount base : ℕ) (max : ℕ → Option ℕ) (m : ℕ) → base ≡ 1 → ((c : ℕ) → max at ≡ Some c → amount ≤ c) → max i ≡ Some m
    → (if i == at then amount else 0) ≤ base * m
alone-keeps i at amount base max m one keeps is = elim (same_or_other i at) [
  | inl same ↦ omega (arith, chosen i at amount 0 same, keeps m (sym (ap max same) ∙ is), ap (λ z. z * m) one)
  | inr other ↦ omega (arith, passed i at amount 0 other)
]
