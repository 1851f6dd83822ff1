-- A number that is written in a field is read again, and one that is read was written so.
use Rattle.std.proofs.Common.{◌≡◌, ℕ, ◌+◌, ◌^◌, ◌<◌, ◌≤◌, Bool, true, false, ltb, List, ◌++◌, length, get_or, take, drop, Option, Some, None, cond, option_map}
use Rattle.std.proofs.Common.{refl, sym, ap, subst, ◌∙◌, append_assoc, arith, inl, inr, ℤ}
use Rattle.std.specs.Prelude.{FitsSigned}
use Rattle.std.specs.Int.{w64, cast_signed, cast_unsigned}
use Rattle.std.proofs.lemmas.Bool.{cases_lt, ltb-false, le-ltb}
use Rattle.std.proofs.lemmas.List.{drop_at, take-append-drop, length-append, length-take, get_or-drop, get_or-take, get_or_past}
use Rattle.std.proofs.lemmas.Nat.{be_bytes_2, be_bytes_4, be_bytes_8}
use Rattle.std.proofs.lemmas.Int.{ints, to_z-of_z, of_z-to_z}
use Rattle.std.proofs.Math.Facts.{Fits-of_lt, sfits_to_z}
use Rattle.byteorder.specs.Endian.{big_bytes, big_number}
use Rattle.byteorder.specs.Numbers.{big_from-lt, big_number-reads_back, length-bytes_high_first, big_from-take}
use Rattle.journal_format.specs.Fields.{field, signed_field, number_at, signed_at}

-- each is a byte
abbrev pub IsBytes : List ℕ → Type 0
IsBytes bytes = (i : ℕ) → get_or bytes i 0 < 256

pub IsBytes-drop : (n : ℕ) (bytes : List ℕ) → IsBytes bytes → IsBytes (drop n bytes)
IsBytes-drop n bytes h i = rw get_or-drop (h (n + i))

pub IsBytes-take : (n : ℕ) (bytes : List ℕ) → IsBytes bytes → IsBytes (take n bytes)
IsBytes-take n bytes h i =
    elim (cases_lt i n) [
      | inl lt ↦ rw (get_or-take n bytes i 0 lt) (h i)
      | inr le ↦ rw (get_or_past (take n bytes) i 0 (omega (arith, length-take n bytes))) (omega arith)
    ]

-- what a reader took from the front, and what is left
pub record Takes (bytes text rest : List ℕ) : Type 0 where
  pub parts : bytes ≡ text ++ rest
  pub rest_fits : IsBytes rest

pub Takes-then : (a x b y c : List ℕ) → Takes a x b → Takes b y c → Takes a (x ++ y) c
Takes-then a x b y c p q = record { parts = p.parts ∙ ap (λ (t : List ℕ). x ++ t) q.parts ∙ sym (append_assoc x y c); rest_fits = q.rest_fits }

-- a field of so many bytes spells each number that it has
abbrev pub IsWide : ℕ → Type 0
IsWide n = (bytes : List ℕ) → length bytes ≡ n → IsBytes bytes → big_bytes n (big_number n bytes) ≡ bytes

pub wide2 : IsWide 2
wide2 bytes len fits = be_bytes_2 bytes (big_number 2 bytes) len fits (omega arith)

pub wide4 : IsWide 4
wide4 bytes len fits = be_bytes_4 bytes (big_number 4 bytes) len fits (omega arith)

pub wide8 : IsWide 8
wide8 bytes len fits = be_bytes_8 bytes (big_number 8 bytes) len fits (omega arith)

pub length-field : (n x : ℕ) → length (field n x) ≡ n
unfolding field
length-field n x = length-bytes_high_first n x

guard_some : {A : Type 0} (b : Bool) (x y : A) → cond b None (Some x) ≡ Some y → (b ≡ false) × (x ≡ y)
guard_some true x y e = absurd cc
guard_some false x y e = (refl, cc)

pub number_again : (n x : ℕ) (rest : List ℕ) → x < 256 ^ n → number_at n (field n x ++ rest) ≡ Some (x, rest)
unfolding field number_at
number_again n x rest lt =
    let len = length-bytes_high_first n x in
    let long : ltb (length (big_bytes n x ++ rest)) n ≡ false = le-ltb _ _ (omega (arith, length-append (big_bytes n x) rest)) in
    rw (long, big_number-reads_back n x rest lt, drop_at (big_bytes n x) rest n len) refl

pub number_takes : (n : ℕ) (wide : IsWide n) (bytes : List ℕ) (x : ℕ) (rest : List ℕ) → IsBytes bytes → number_at n bytes ≡ Some (x, rest) → Takes bytes (field n x) rest × (x < 256 ^ n)
unfolding field number_at
number_takes n wide bytes x rest fits e =
    let g = guard_some (ltb (length bytes) n) (big_number n bytes, drop n bytes) (x, rest) e in
    let long : n ≤ length bytes = ltb-false _ _ g.0 in
    let x-is : big_number n bytes ≡ x = ap (λ (p : ℕ × List ℕ). p.0) g.1 in
    let rest-is : drop n bytes ≡ rest = ap (λ (p : ℕ × List ℕ). p.1) g.1 in
    let same : big_number n (take n bytes) ≡ x = big_from-take 0 n n bytes (omega arith) ∙ x-is in
    let front : big_bytes n x ≡ take n bytes = ap (big_bytes n) (sym same) ∙ wide (take n bytes) (omega (arith, length-take n bytes)) (IsBytes-take n bytes fits) in (
      record {
        parts = sym (take-append-drop n bytes) ∙ ap (λ (l : List ℕ). l ++ drop n bytes) (sym front) ∙ ap (λ (l : List ℕ). big_bytes n x ++ l) rest-is;
        rest_fits = subst IsBytes rest-is (IsBytes-drop n bytes fits);
      },
      subst (λ (k : ℕ). k < 256 ^ n) x-is (big_from-lt 0 n bytes fits),
    )

pub signed_again : (z : ℤ) (rest : List ℕ) → FitsSigned w64 z → signed_at (signed_field z ++ rest) ≡ Some (z, rest)
unfolding signed_at
signed_again z rest fits = rw (number_again 8 (cast_unsigned w64 z) rest (omega (arith, ints))) (ap (λ (y : ℤ). Some (y, rest)) (to_z-of_z w64 z fits))

map_some : {A B : Type 0} (f : A → B) (o : Option A) (y : B) → option_map f o ≡ Some y → (x : A) × (o ≡ Some x) × (f x ≡ y)
map_some f (Some x) y e = (x, refl, cc)
map_some f None y e = absurd cc

pub signed_takes : (bytes : List ℕ) (z : ℤ) (rest : List ℕ) → IsBytes bytes → signed_at bytes ≡ Some (z, rest) → Takes bytes (signed_field z) rest × FitsSigned w64 z
unfolding signed_at
signed_takes bytes z rest fits e =
    let m = map_some (λ (x : ℕ × List ℕ). (cast_signed w64 x.0, x.1)) (number_at 8 bytes) (z, rest) e in
    let t = number_takes 8 wide8 bytes m.0.0 m.0.1 fits m.1 in
    let small : m.0.0 < 2 ^ 64 = omega (arith, t.1) in
    let z-is : cast_signed w64 m.0.0 ≡ z = ap (λ (p : ℤ × List ℕ). p.0) m.2 in
    let rest-is : m.0.1 ≡ rest = ap (λ (p : ℤ × List ℕ). p.1) m.2 in
    let bits-are : m.0.0 ≡ cast_unsigned w64 z = sym (of_z-to_z w64 m.0.0 small) ∙ ap (cast_unsigned w64) z-is in (
      subst (λ (l : List ℕ). Takes bytes (signed_field z) l) rest-is (subst (λ (k : ℕ). Takes bytes (field 8 k) m.0.1) bits-are t.0),
      subst (FitsSigned w64) z-is (sfits_to_z {w = w64} {n = m.0.0} (Fits-of_lt {w = w64} {n = m.0.0} small)),
    )
