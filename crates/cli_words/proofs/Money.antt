-- Texts that stand for no money.
use Rattle.std.proofs.Common.{◌≡◌, ◌⊎◌, inl, inr, ◌^◌, ℤ, pos, ◌≤ℤ◌, ◌<ℤ◌, List, ℕ, Option, Some, None, arith}
use Rattle.std.proofs.lemmas.Int.{ints}
use Rattle.pool_model.specs.Quantity.{StandsFor}
use Rattle.cli_words.specs.Asks.{IsMoney}

pub no_quantity : (text : List ℕ) (picos : ℤ) (r : Option ℤ) → ((q : ℤ) → StandsFor text q → r ≡ Some q) → r ≡ None → ¬ IsMoney text picos
no_quantity text picos r only none m = let is = only m.quantity m.stands in cc

pub out_of_range : (text : List ℕ) (picos q : ℤ) → ((p : ℤ) → StandsFor text p → Some q ≡ Some p) → (q <ℤ pos 0) ⊎ (pos (10 ^ 12) <ℤ q) → ¬ IsMoney text picos
out_of_range text picos q only out m =
    let is : q ≡ m.quantity = same _ _ (only m.quantity m.stands) in
    apart q m.quantity is m.low m.high out
  where
    same : (a b : ℤ) → Some a ≡ Some b → a ≡ b
    same a b e = cc

    apart : (a b : ℤ) → a ≡ b → pos 0 ≤ℤ b → b ≤ℤ pos (10 ^ 12) → (a <ℤ pos 0) ⊎ (pos (10 ^ 12) <ℤ a) → ⊥
    apart a b e low high (inl h) = omega (arith, ints)
    apart a b e low high (inr h) = omega (arith, ints)
