-- A dual times a power of two, over 2^32, is the dual shifted; and the multiplier that it gives.
use Rattle.std.proofs.Common.{◌≡◌, ℕ, suc, ◌+◌, ◌-◌, ◌*◌, ◌/◌, ◌^◌, ◌<◌, ◌≤◌, Bool, true, false, nat_lt, nat_le, ◌&&◌, if◌then◌else◌, ℤ, pos, negsuc}
use Rattle.std.proofs.Common.{neg_ℤ, ◌*ℤ◌, FitsSigned, arith, refl, sym, ap, ◌∙◌}
use Rattle.std.specs.Int.{int_div_euclid, int_shr}
use Rattle.std.proofs.lemmas.Nat.{shl-shr, shr-shr, shr_high, pow_pos}
use Rattle.std.proofs.lemmas.Bool.Decides.{nat_tests}
use Rattle.std.specs.Int.Signed.{mag_shr}
use mir.Syntax.{w64, w128}
use Rattle.dual_rounding.specs.Tried.{scaled, narrowed, signed, multiplier}

-- both powers together
whole : (j k : ℕ) → j + k ≡ 32 → (x : ℕ) → x / 2 ^ 32 ≡ x / 2 ^ j / 2 ^ k
whole j k e x = ap (λ m. x / 2 ^ m) (sym e) ∙ sym (shr-shr x j k)

over : (j k : ℕ) → j + k ≡ 32 → (d : ℤ) → int_div_euclid (d *ℤ pos (2 ^ j)) (pos (2 ^ 32)) ≡ int_shr d k
over j k e (pos a) = ap pos (whole j k e (a * 2 ^ j) ∙ ap (λ x. x / 2 ^ k) (shl-shr a j))
over j k e (negsuc a) =
    let less : suc a * 2 ^ j ≡ suc (a * 2 ^ j + (2 ^ j - 1)) = omega (arith, pow_pos j) in
    ap (λ x. int_div_euclid (neg_ℤ (pos x)) (pos (2 ^ 32))) less
    ∙ ap negsuc (whole j k e (a * 2 ^ j + (2 ^ j - 1)) ∙ ap (λ x. x / 2 ^ k) (shr_high a j (2 ^ j - 1) (omega (arith, pow_pos j))))

scaled-shift : (shift : ℕ) (d : ℤ) → shift ≤ 32 → scaled (2 ^ (32 - shift)) d ≡ int_shr d shift
scaled-shift shift d h = over (32 - shift) shift (omega arith) d

-- ---- numbers of 64 bits

narrowed-fits : (z : ℤ) → FitsSigned w64 z → narrowed z ≡ z
narrowed-fits (pos a) h = let test : nat_lt a (2 ^ 63) ≡ true = grind (arith, nat_tests, h.sfits) in ap (λ (t : Bool). if t then pos a else pos 0) test
narrowed-fits (negsuc a) h =
    let test : nat_le a 9223372036854775807 ≡ true = grind (arith, nat_tests, h.sfits) in
    ap (λ (t : Bool). if t && true then negsuc a else pos 0) test

not_below : (a m : ℕ) → ¬ (a < m) → m ≤ a
not_below a m h = grind arith

narrowed-wide : (z : ℤ) → ¬ FitsSigned w64 z → narrowed z ≡ pos 0
narrowed-wide (pos a) h =
    let far = not_below a (2 ^ 63) (λ lt. h record { sfits = lt }) in
    let test : nat_lt a (2 ^ 63) ≡ false = grind (arith, nat_tests, far) in
    ap (λ (t : Bool). if t then pos a else pos 0) test
narrowed-wide (negsuc a) h =
    let far = not_below a (2 ^ 63) (λ lt. h record { sfits = lt }) in
    let test : nat_le a 9223372036854775807 ≡ false = grind (arith, nat_tests, far) in
    ap (λ (t : Bool). if t && true then negsuc a else pos 0) test

-- what the code makes of a shifted dual
pub multiplier-fits : (shift : ℕ) (is_equal : Bool) (d mult : ℤ) → shift ≤ 32 → FitsSigned w64 (int_shr d shift) → mult ≡ int_shr d shift
    → signed is_equal mult ≡ multiplier (2 ^ (32 - shift)) is_equal d
multiplier-fits shift is_equal d mult h fits e = ap (signed is_equal) (e ∙ sym (ap narrowed (scaled-shift shift d h) ∙ narrowed-fits (int_shr d shift) fits))

pub multiplier-wide : (shift : ℕ) (is_equal : Bool) (d : ℤ) → shift ≤ 32 → ¬ FitsSigned w64 (int_shr d shift) → pos 0 ≡ multiplier (2 ^ (32 - shift)) is_equal d
multiplier-wide shift is_equal d h wide = nothing is_equal ∙ ap (signed is_equal) (sym (ap narrowed (scaled-shift shift d h) ∙ narrowed-wide (int_shr d shift) wide))
  where
    nothing : (t : Bool) → pos 0 ≡ signed t (pos 0)
    nothing true = refl
    nothing false = refl

-- a number that is shifted fits where it did
pub shr-fits : (d : ℤ) (shift : ℕ) → FitsSigned w128 d → FitsSigned w128 (int_shr d shift)
shr-fits d shift h = record { sfits = omega (arith, mag_shr d (2 ^ shift), h.sfits) }
