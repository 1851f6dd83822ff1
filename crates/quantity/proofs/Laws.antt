-- The text of a quantity, from both sides: what spells a number is read as it, and what is read is spelled so.
use Rattle.std.proofs.Common.{◌≡◌, ℕ, ℤ, pos, suc, ◌+◌, ◌-◌, ◌*◌, ◌^◌, ◌<◌, ◌≤◌, Bool, true, false, cond, ltb, leb, eqb, ◌&&◌, List, [], ◌∷◌, ◌++◌, length}
use Rattle.std.proofs.Common.{take, drop, Option, Some, None, option_map, refl, sym, ap, ◌∙◌, arith}
use Rattle.std.specs.Prelude.{IfSome}
use Rattle.std.specs.List.{list_all, prefix_len}
use Rattle.std.specs.Char.{is_ascii_digit}
use Rattle.std.proofs.lemmas.Bool.{and_parts, lt-ltb, ltb-true, le-leb, leb-true, eqb-true}
use Rattle.std.proofs.lemmas.List.{take_at, drop_at, take-append-drop}
use Rattle.std.proofs.lemmas.List.Folds.{length-prefix_len}
use Rattle.pool_model.specs.Quantity.{number, sign, behind_point, Spells, millionths, signed, value, StandsFor, decimals_of, unsigned_of, quantity}
use Rattle.quantity.proofs.Digits.{digit_range, list_all-prefix}

-- ---- what spells a number is read as it

prefix_at : (b : Bool) (n m : ℕ) → b ≡ true → n ≡ m → cond b (1 + n) 0 ≡ suc m
prefix_at true n m e h = omega arith
prefix_at false n m e h = absurd cc

prefix_len-before : (whole rest : List ℕ) → list_all is_ascii_digit whole ≡ true → prefix_len is_ascii_digit rest ≡ 0 → prefix_len is_ascii_digit (whole ++ rest) ≡ length whole
prefix_len-before [] rest h none = none
prefix_len-before (c ∷ cs) rest h none =
    let parts = and_parts (is_ascii_digit c) (list_all is_ascii_digit cs) h in
    prefix_at (is_ascii_digit c) (prefix_len is_ascii_digit (cs ++ rest)) (length cs) parts.0 (prefix_len-before cs rest parts.1 none)

no_digit_first : (ds : List ℕ) → prefix_len is_ascii_digit (behind_point ds) ≡ 0
no_digit_first [] = refl
no_digit_first (d ∷ ds) = refl

read_decimals : (ds : List ℕ) → list_all is_ascii_digit ds ≡ true → length ds ≤ 6 → decimals_of (behind_point ds) ≡ Some (number ds * 10 ^ (6 - length ds))
unfolding decimals_of
read_decimals [] h few = refl
read_decimals (d ∷ ds) h few = rw (lt-ltb 0 (length (d ∷ ds)) (omega arith), le-leb (length (d ∷ ds)) 6 few, h) refl

read_unsigned : (whole ds : List ℕ) → list_all is_ascii_digit whole ≡ true → 0 < length whole → length whole ≤ 15 → list_all is_ascii_digit ds ≡ true → length ds ≤ 6
    → unsigned_of (whole ++ behind_point ds) ≡ Some (millionths whole ds)
unfolding unsigned_of
read_unsigned whole ds are some few decimals few_decimals =
    let len : prefix_len is_ascii_digit (whole ++ behind_point ds) ≡ length whole = prefix_len-before whole (behind_point ds) are (no_digit_first ds) in
    rw (
      len,
      lt-ltb 0 (length whole) some,
      le-leb (length whole) 15 few,
      take_at whole (behind_point ds) (length whole)
          refl,
      drop_at whole (behind_point ds) (length whole) refl,
      read_decimals ds decimals few_decimals,
    ) refl

not_minus : (b : Bool) (c : ℕ) (rest : List ℕ) → eqb c 45 ≡ b → is_ascii_digit c ≡ true → (n : ℕ)
    → unsigned_of (c ∷ rest) ≡ Some n → cond b (option_map (signed true) (unsigned_of rest))
    (option_map (signed false) (unsigned_of (c ∷ rest))) ≡ Some (pos n)
not_minus true c rest e digit n h = absurd (omega (arith, eqb-true c 45 e, digit_range c digit))
not_minus false c rest e digit n h = rw h refl

read_text : (negative : Bool) (whole ds : List ℕ) → list_all is_ascii_digit whole ≡ true → 0 < length whole → length whole ≤ 15 → list_all is_ascii_digit ds ≡ true → length ds ≤ 6
    → quantity (sign negative ++ whole ++ behind_point ds) ≡ Some (value negative whole ds)
unfolding quantity
read_text true whole ds are some few decimals few_decimals = rw (read_unsigned whole ds are some few decimals few_decimals) refl
read_text false [] ds are some few decimals few_decimals = absurd (omega arith)
read_text false (c ∷ cs) ds are some few decimals few_decimals =
    let parts = and_parts (is_ascii_digit c) (list_all is_ascii_digit cs) are in
    not_minus (eqb c 45) c (cs ++ behind_point ds) refl parts.0 (millionths (c ∷ cs) ds) (read_unsigned (c ∷ cs) ds are some few decimals few_decimals)

pub quantity-spelled : (text : List ℕ) (negative : Bool) (whole ds : List ℕ) → Spells text negative whole ds → quantity text ≡ Some (value negative whole ds)
quantity-spelled text negative whole ds s = rw s.parts (read_text negative whole ds s.whole_are s.some_whole s.few_whole s.decimals_are s.few_decimals)

pub quantity-only : (text : List ℕ) (q : ℤ) → StandsFor text q → quantity text ≡ Some q
quantity-only text q (negative, whole, ds, s, is) = quantity-spelled text negative whole ds s ∙ ap (λ z. Some z) is

-- ---- what is read is spelled so

guard_some : {A : Type 0} (b : Bool) (x y : A) → cond b (Some x) None ≡ Some y → (b ≡ true) × (x ≡ y)
guard_some true x y e = (refl, cc)
guard_some false x y e = absurd cc

guarded : {A : Type 0} (b : Bool) (o : Option A) (y : A) → cond b o None ≡ Some y → (b ≡ true) × (o ≡ Some y)
guarded true o y e = (refl, e)
guarded false o y e = absurd cc

mapped : {A B : Type 0} (f : A → B) (o : Option A) (y : B) → option_map f o ≡ Some y → (x : A) × (o ≡ Some x) × (f x ≡ y)
mapped f None y e = absurd cc
mapped f (Some x) y e = (x, refl, cc)

some_is : {A : Type 0} (o : Option A) (x y : A) → o ≡ Some x → o ≡ Some y → x ≡ y
some_is o x y p q = cc

-- the decimals behind the digits
record Behind (rest : List ℕ) (n : ℕ) (ds : List ℕ) : Type 0 where
  parts : rest ≡ behind_point ds
  are : list_all is_ascii_digit ds ≡ true
  few : length ds ≤ 6
  is : number ds * 10 ^ (6 - length ds) ≡ n

point_before : (ds : List ℕ) → 0 < length ds → 46 ∷ ds ≡ behind_point ds
point_before [] h = absurd (omega arith)
point_before (d ∷ ds) h = refl

decimals_stand : (rest : List ℕ) (n : ℕ) → decimals_of rest ≡ Some n → (ds : List ℕ) × Behind rest n ds
unfolding decimals_of
decimals_stand [] n e = ([], record { parts = refl; are = refl; few = omega arith; is = some_is _ 0 n refl e })
decimals_stand (c ∷ ds) n e =
    let g = guard_some (eqb c 46 && ltb 0 (length ds) && leb (length ds) 6 && list_all is_ascii_digit ds) (number ds * 10 ^ (6 - length ds)) n e in
    let are = and_parts (eqb c 46 && ltb 0 (length ds) && leb (length ds) 6) _ g.0 in
    let few = and_parts (eqb c 46 && ltb 0 (length ds)) _ are.0 in
    let some = and_parts (eqb c 46) _ few.0 in
    (ds, record { parts = ap (λ k. k ∷ ds) (eqb-true c 46 some.0) ∙ point_before ds (ltb-true _ _ some.1); are = are.1; few = leb-true _ _ few.1; is = g.1 })

unsigned_stands : (text : List ℕ) (n : ℕ) → unsigned_of text ≡ Some n → (whole : List ℕ) × (ds : List ℕ) × Spells text false whole ds × (millionths whole ds ≡ n)
unfolding unsigned_of
unsigned_stands text n e =
    let len = prefix_len is_ascii_digit text in
    let g = guarded (ltb 0 len && leb len 15) (option_map (λ d. number (take len text) * 10 ^ 6 + d) (decimals_of (drop len text))) n e in
    let sizes = and_parts (ltb 0 len) (leb len 15) g.0 in
    let m = mapped (λ d. number (take len text) * 10 ^ 6 + d) (decimals_of (drop len text)) n g.1 in
    let b = decimals_stand (drop len text) m.0 m.1 in
    let long : length (take len text) ≡ len = length-prefix_len is_ascii_digit text in
    let some : 0 < len = ltb-true 0 len sizes.0 in
    let few : len ≤ 15 = leb-true len 15 sizes.1 in (
      take len text,
      b.0,
      record {
        parts = sym (take-append-drop len text) ∙ ap (λ r. take len text ++ r) b.1.parts;
        whole_are = list_all-prefix text;
        some_whole = omega (arith, long);
        few_whole = omega (arith, long);
        decimals_are = b.1.are;
        few_decimals = b.1.few;
      },
      ap (λ k. number (take len text) * 10 ^ 6 + k) b.1.is ∙ m.2,
    )

-- a text that a sign begins, or none
signed_stands : (b : Bool) (c : ℕ) (rest : List ℕ) (q : ℤ) → eqb c 45 ≡ b → cond b (option_map (signed true) (unsigned_of rest)) (option_map (signed false) (unsigned_of (c ∷ rest))) ≡ Some q
    → StandsFor (c ∷ rest) q
signed_stands true c rest q is e =
    let m = mapped (signed true) (unsigned_of rest) q e in
    let u = unsigned_stands rest m.0 m.1 in (
      true,
      u.0,
      u.1,
      record {
        parts = ap (λ k. k ∷ rest) (eqb-true c 45 is) ∙ ap (λ r. 45 ∷ r) u.2.parts;
        whole_are = u.2.whole_are;
        some_whole = u.2.some_whole;
        few_whole = u.2.few_whole;
        decimals_are = u.2.decimals_are;
        few_decimals = u.2.few_decimals;
      },
      ap (signed true) u.3 ∙ m.2,
    )
signed_stands false c rest q is e =
    let m = mapped (signed false) (unsigned_of (c ∷ rest)) q e in
    let u = unsigned_stands (c ∷ rest) m.0 m.1 in
    (false, u.0, u.1, u.2, ap (signed false) u.3 ∙ m.2)

pub quantity-stands : (text : List ℕ) (q : ℤ) → quantity text ≡ Some q → StandsFor text q
unfolding quantity
quantity-stands [] q e = absurd cc
quantity-stands (c ∷ rest) q e = signed_stands (eqb c 45) c rest q refl e

pub stands_if : (text : List ℕ) (r : Option ℤ) → r ≡ quantity text → IfSome r (StandsFor text)
stands_if text None e = tt
stands_if text (Some q) e = quantity-stands text q (sym e)
