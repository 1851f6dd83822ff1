-- The shortest text of a quantity stands for it.
use Rattle.std.proofs.Common.{◌≡◌, ◌≢◌, ℕ, ℤ, pos, negsuc, zero, suc, ◌+◌, ◌-◌, ◌*◌, ◌/◌, ◌%◌, ◌^◌, ◌<◌, ◌≤◌, Bool, true, false, cond, eqb, ltb, List, [], ◌∷◌}
use Rattle.std.proofs.Common.{◌++◌, length, Some, refl, sym, ap, subst, ◌∙◌, arith, decimal, unsigned_abs}
use Rattle.std.specs.List.{list_all}
use Rattle.std.specs.Char.{is_ascii_digit}
use Rattle.std.proofs.lemmas.Bool.{and_from, eqb-true, ltb-true}
use Rattle.std.specs.Prelude.{int_lt}
use Rattle.std.proofs.lemmas.Int.{ints}
use Rattle.std.proofs.lemmas.List.{length-append}
use Rattle.std.proofs.lemmas.List.Folds.{list_all-append}
use Rattle.std.proofs.lemmas.List.Sums.{fold-append}
use Rattle.std.proofs.lemmas.Fmt.{decimal_by_steps_wide, length-decimal-le_wide, decimal_is_IsNumeral_wide}
use Rattle.std.proofs.lemmas.Grind.{common_steps}
use Rattle.std.proofs.Math.Nat.{pow-suc}
use Rattle.pool_model.specs.Quantity.{number, behind_point, Spells, millionths, signed, quantity, fixed, trimmed, spelled, shortest, StandsFor}
use Rattle.quantity.proofs.Laws.{quantity-spelled, quantity-stands}

-- digits that stand for n
pub record Stands (n : ℕ) (ds : List ℕ) : Type 0 where
  pub are : list_all is_ascii_digit ds ≡ true
  pub is : number ds ≡ n

is_digit : (n : ℕ) → n < 10 → is_ascii_digit (48 + n) ≡ true
is_digit n lt = grind (arith, common_steps)

pub stands_push : (n : ℕ) (ds : List ℕ) → Stands (n / 10) ds → Stands n (ds ++ (48 + n % 10) ∷ [])
stands_push n ds h = record {
  are = list_all-append is_ascii_digit ds ((48 + n % 10) ∷ []) ∙ and_from _ _ h.are (and_from _ _ (is_digit (n % 10) (omega arith)) refl);
  is = fold-append (λ m d. m * 10 + (d - 48)) 0 ds ((48 + n % 10) ∷ []) ∙ (omega (arith, h.is));
}

stands_none : Stands 0 []
stands_none = record { are = refl; is = refl }

stands_one : (n : ℕ) → n < 10 → Stands n ((48 + n) ∷ [])
stands_one n lt = record { are = and_from _ _ (is_digit n lt) refl; is = omega arith }

decimal_stands : (n : ℕ) → n < 10 ^ 64 → Stands n (decimal n)
decimal_stands n lt = decimal_by_steps_wide Stands stands_one (λ m ds big h. stands_push m ds h) n lt

length-fixed : (k n : ℕ) → length (fixed k n) ≡ k
unfolding fixed
length-fixed zero n = refl
length-fixed (suc k) n = omega (arith, length-append (fixed k (n / 10)) ((48 + n % 10) ∷ []), length-fixed k (n / 10))

fixed_stands : (k n : ℕ) → n < 10 ^ k → Stands n (fixed k n)
unfolding fixed
fixed_stands zero n lt = let none : 0 ≡ n = omega arith in subst (λ m. Stands m []) none stands_none
fixed_stands (suc k) n lt = stands_push n (fixed k (n / 10)) (fixed_stands k (n / 10) (omega (arith, pow-suc 10 k)))

-- the decimals stand for n, filled up
record Fills (k n : ℕ) (ds : List ℕ) : Type 0 where
  are : list_all is_ascii_digit ds ≡ true
  few : length ds ≤ k
  is : number ds * 10 ^ (k - length ds) ≡ n

fills_more : (k n : ℕ) (ds : List ℕ) → n % 10 ≡ 0 → Fills k (n / 10) ds → Fills (suc k) n ds
fills_more k n ds ends h = record {
  are = h.are;
  few = omega (arith, h.few);
  is = let e : suc k - length ds ≡ suc (k - length ds) = omega (arith, h.few) in rw (e, pow-suc) (omega (arith, h.is));
}

fills_all : (k n : ℕ) → n < 10 ^ k → Fills k n (fixed k n)
fills_all k n lt =
    let s = fixed_stands k n lt in
    let e : k - length (fixed k n) ≡ 0 = omega (arith, length-fixed k n) in
    record { are = s.are; few = omega (arith, length-fixed k n); is = rw e (omega (arith, s.is)) }

trimmed_at : (b : Bool) (k n : ℕ) → eqb (n % 10) 0 ≡ b → n < 10 ^ suc k → Fills k (n / 10) (trimmed k (n / 10)) → Fills (suc k) n (cond b (trimmed k (n / 10)) (fixed (suc k) n))
trimmed_at true k n e lt h = fills_more k n (trimmed k (n / 10)) (eqb-true _ _ e) h
trimmed_at false k n e lt h = fills_all (suc k) n lt

trimmed_fills : (k n : ℕ) → n < 10 ^ k → Fills k n (trimmed k n)
unfolding trimmed
trimmed_fills zero n lt = record { are = refl; few = omega arith; is = omega arith }
trimmed_fills (suc k) n lt = trimmed_at (eqb (n % 10) 0) k n refl lt (trimmed_fills k (n / 10) (omega (arith, pow-suc 10 k)))

pub spelled_back : (negative : Bool) (m : ℕ) → m < 10 ^ 21 → quantity (spelled negative m) ≡ Some (signed negative m)
spelled_back negative m lt =
    let units = m / 10 ^ 6 in
    let part = m % 10 ^ 6 in
    let small : units < 10 ^ 64 = omega arith in
    let whole = decimal_stands units small in
    let rest = trimmed_fills 6 part (omega arith) in
    let few : length (decimal units) ≤ 15 = length-decimal-le_wide 15 units (omega arith) (omega arith) small in
    let spells : Spells (spelled negative m) negative (decimal units) (trimmed 6 part) = record {
      parts = refl;
      whole_are = whole.are;
      some_whole = (decimal_is_IsNumeral_wide units small).0.0;
      few_whole = few;
      decimals_are = rest.are;
      few_decimals = rest.few;
    } in
    let all : millionths (decimal units) (trimmed 6 part) ≡ m = omega (arith, whole.is, rest.is) in
    quantity-spelled (spelled negative m) negative (decimal units) (trimmed 6 part) spells ∙ ap (λ n. Some (signed negative n)) all

not_none : (ds : List ℕ) (part : ℕ) → Fills 6 part ds → part ≢ 0 → behind_point ds ≡ 46 ∷ ds
not_none [] part h some = absurd (some (sym h.is))
not_none (d ∷ ds) part h some = refl

pub has_decimals : (part : ℕ) → part ≢ 0 → part < 10 ^ 6 → behind_point (trimmed 6 part) ≡ 46 ∷ trimmed 6 part
has_decimals part some lt = not_none (trimmed 6 part) part (trimmed_fills 6 part lt) some

pub no_decimals : (part : ℕ) → part ≡ 0 → behind_point (trimmed 6 part) ≡ []
unfolding trimmed
no_decimals part e = rw e refl

-- ---- the text of a signed number

not_below : (b : Bool) (n : ℕ) → ltb n 0 ≡ b → signed b n ≡ pos n
not_below true n e = absurd (omega (arith, ltb-true n 0 e))
not_below false n e = refl

pub signed_back : (q : ℤ) → signed (int_lt q (pos 0)) (unsigned_abs q) ≡ q
signed_back (pos n) = not_below (ltb n 0) n refl
signed_back (negsuc n) = omega (arith, ints)

-- the shortest text stands for its number
pub shortest_back : (q : ℤ) → unsigned_abs q < 10 ^ 21 → quantity (shortest q) ≡ Some q
shortest_back q lt = spelled_back (int_lt q (pos 0)) (unsigned_abs q) lt ∙ ap (λ z. Some z) (signed_back q)

pub shortest_stands : (q : ℤ) → unsigned_abs q < 10 ^ 21 → StandsFor (shortest q) q
shortest_stands q lt = quantity-stands (shortest q) q (shortest_back q lt)
