-- Facts on digits.
use Rattle.std.proofs.Common.{◌≡◌, ℕ, suc, ◌+◌, ◌-◌, ◌*◌, ◌^◌, ◌<◌, ◌≤◌, Bool, true, false, cond, List, [], ◌∷◌, length, get_or, take, refl, sym, ap, subst, ◌∙◌, arith}
use Rattle.std.specs.List.{list_all, prefix_len}
use Rattle.std.specs.Char.{is_ascii_digit}
use Rattle.std.proofs.Math.Nat.{pow-le-pow_right, one-le-pow, mul-lt-mul_of_pos_right}
use Rattle.std.proofs.lemmas.Nat.{pow-add}
use Rattle.std.proofs.lemmas.List.Sums.{AllPass-from_list_all}
use Rattle.std.proofs.lemmas.Grind.{common_steps}

-- what a digit is
pub digit_range : (c : ℕ) → is_ascii_digit c ≡ true → (48 ≤ c) × (c ≤ 57)
digit_range c h = grind (arith, common_steps)

-- each of them is a digit
pub digit_at : (ds : List ℕ) (i : ℕ) → list_all is_ascii_digit ds ≡ true → i < length ds → (48 ≤ get_or ds i 0) × (get_or ds i 0 ≤ 57)
digit_at ds i h lt = digit_range (get_or ds i 0) (AllPass-from_list_all is_ascii_digit ds h i 0 lt)

prefix_at : (b : Bool) (c : ℕ) (cs : List ℕ) → is_ascii_digit c ≡ b → list_all is_ascii_digit (take (prefix_len is_ascii_digit cs) cs) ≡ true
    → list_all is_ascii_digit (take (cond b (1 + prefix_len is_ascii_digit cs) 0) (c ∷ cs)) ≡ true
prefix_at true c cs e h = let one : 1 + prefix_len is_ascii_digit cs ≡ suc (prefix_len is_ascii_digit cs) = omega arith in rw (one, e) h
prefix_at false c cs e h = refl

-- the digits at the front are digits
pub list_all-prefix : (text : List ℕ) → list_all is_ascii_digit (take (prefix_len is_ascii_digit text) text) ≡ true
list_all-prefix [] = refl
list_all-prefix (c ∷ cs) = prefix_at (is_ascii_digit c) c cs refl (list_all-prefix cs)

-- fewer digits than k fit k digits
pub fits_in : (n i k : ℕ) → n < 10 ^ i → i ≤ k → n < 10 ^ k
fits_in n i k h le = omega (arith, pow-le-pow_right {n = 10} (omega arith) le)

pub decimals_below : (n m len : ℕ) → n < 10 ^ len → len ≤ 6 → m ≡ 10 ^ (6 - len) → n * m < 10 ^ 6
decimals_below n m len h le is =
    let six : len + (6 - len) ≡ 6 = omega arith in
    let whole : 10 ^ len * 10 ^ (6 - len) ≡ 10 ^ 6 = sym (pow-add 10 len (6 - len)) ∙ ap (λ k. 10 ^ k) six in
    let p : 0 < 10 ^ (6 - len) = omega (arith, one-le-pow (6 - len) 10 (omega arith)) in
    rw is (subst (λ x. n * 10 ^ (6 - len) < x) whole (mul-lt-mul_of_pos_right h p))

pub prefix_are_digits : (text front : List ℕ) (len : ℕ) → len ≡ prefix_len is_ascii_digit text → front ≡ take len text → list_all is_ascii_digit front ≡ true
prefix_are_digits text front len is e = rw (e, is) (list_all-prefix text)
