-- How many bytes words and numbers take, with the byte behind a number.
use Rattle.std.proofs.Common.{◌≡◌, ℕ, suc, ◌+◌, ◌-◌, ◌^◌, ◌<◌, ◌≤◌, true, List, [], ◌∷◌, length, arith, lit<, length-append}
use Rattle.std.specs.Prelude.{ℤ, pos, negsuc, FitsSigned}
use Rattle.std.specs.Int.{w64, w128}
use Rattle.std.specs.Fmt.{decimal, signed_decimal}
use Rattle.std.proofs.lemmas.Fmt.{length-decimal-le_wide}
use Rattle.std.proofs.lemmas.Int.{ints}
use Rattle.cert_text.specs.declared.pieces.Ends.{Ends}
use Rattle.cert_text.specs.Reading.{word_at, number_spelling, int_spelling, end_of, u32_at, u64_at, i64_at, i128_at}
use Rattle.cert_text.proofs.PieceLaws.{one_line, Always, word_reads}
use Rattle.cert_text.proofs.NumberLaws.{below, u32_reads, u64_reads, i64_reads, i128_reads}
use Rattle.cert_text.proofs.WindowLaws.{Window, window_reads}

pub word_window : (word : List ℕ) → one_line word ≡ true → Window (length word) (word_at word)
word_window word o = window_reads (Unit {0}) Always (λ _. word) (word_at word) (word_reads word o) (length word) (λ x i. omega arith)

-- as many digits as a power of ten has noughts, and the byte behind
number_length : (end : ℕ → ℕ) (k n : ℕ) → 0 < k → n < 10 ^ k → n < 10 ^ 64 → length (number_spelling end n) ≤ k + 1
number_length end k n some small fits = omega (arith, length-append (decimal n) (end n ∷ []), length-decimal-le_wide k n some small fits)

-- a magnitude of so many digits
abbrev FitsBelow : ℕ → ℤ → Type 0
FitsBelow k (pos n) = (n < 10 ^ k) × (n < 10 ^ 64)
FitsBelow k (negsuc n) = (suc n < 10 ^ k) × (suc n < 10 ^ 64)

-- the same, with a sign
int_length : (end : ℕ → ℕ) (k : ℕ) (z : ℤ) → 0 < k → FitsBelow k z → length (int_spelling end z) ≤ k + 2
int_length end k (pos n) some small = omega (arith, length-append (decimal n) (end n ∷ []), length-decimal-le_wide k n some small.0 small.1)
int_length end k (negsuc n) some small = omega (arith, length-append (signed_decimal (negsuc n)) (end (suc n) ∷ []), length-decimal-le_wide k (suc n) some small.0 small.1)

pub u32_window : (e : Ends) → Window 11 (u32_at e)
u32_window e = window_reads ℕ (below 32) (number_spelling (end_of e)) (u32_at e) (u32_reads e) 11 (λ n h. number_length (end_of e) 10 n (lit< tt) (omega arith) (omega arith))

pub u64_window : (e : Ends) → Window 21 (u64_at e)
u64_window e = window_reads ℕ (below 64) (number_spelling (end_of e)) (u64_at e) (u64_reads e) 21 (λ n h. number_length (end_of e) 20 n (lit< tt) (omega arith) (omega arith))

fits64 : (z : ℤ) → FitsSigned w64 z → FitsBelow 19 z
fits64 (pos n) h = (omega (arith, ints), omega (arith, ints))
fits64 (negsuc n) h = (omega (arith, ints), omega (arith, ints))

fits128 : (z : ℤ) → FitsSigned w128 z → FitsBelow 39 z
fits128 (pos n) h = (omega (arith, ints), omega (arith, ints))
fits128 (negsuc n) h = (omega (arith, ints), omega (arith, ints))

pub i64_window : (e : Ends) → Window 21 (i64_at e)
i64_window e = window_reads ℤ (FitsSigned w64) (int_spelling (end_of e)) (i64_at e) (i64_reads e) 21 (λ z h. int_length (end_of e) 19 z (lit< tt) (fits64 z h))

pub i128_window : (e : Ends) → Window 41 (i128_at e)
i128_window e = window_reads ℤ (FitsSigned w128) (int_spelling (end_of e)) (i128_at e) (i128_reads e) 41 (λ z h. int_length (end_of e) 39 z (lit< tt) (fits128 z h))
