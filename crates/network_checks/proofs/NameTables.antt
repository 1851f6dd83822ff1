-- What the look-ups of a table of names say of the list of names.
use Rattle.std.proofs.Common.{◌≡◌, ℕ, ◌+◌, ◌<◌, suc, take, get_or, List, [], ◌∷◌, ◌++◌, length, map, Bool, true, false, not, cond, nat_lt, Some, None}
use Rattle.std.proofs.Common.{option_map, if◌then◌else◌, position, bytes_eq, Contains, Bor, refl, sym, ap, ◌∙◌, arith}
use Rattle.std.specs.List.{list_any, position_or_len}
use Rattle.std.proofs.lemmas.List.{map-append, append_assoc, take_more}
use Rattle.std.proofs.lemmas.Map.Views.{Contains-from_any, list_any-from_Contains}
use Rattle.std.proofs.lemmas.Cmp.{nat_list_eq_equiv}
use Rattle.std.proofs.lemmas.Bool.{false≢true}
use Rattle.std.proofs.lemmas.Bool.Decides.{nat_tests, same_from_decides, Decides-like}
use Rattle.std.proofs.lemmas.Slice.Eq.{bytes_eq-Decides}
use Rattle.pool_model.specs.Naming.{number_of}
use Rattle.network_checks.specs.Names.{AddsName}
use Rattle.network_parts.specs.Faults.{IsRepeatAt}

pub bytes_eq-swap : (a b : List ℕ) → bytes_eq a b ≡ bytes_eq b a
bytes_eq-swap a b = same_from_decides (bytes_eq a b) (bytes_eq b a) (bytes_eq-Decides a b) (Decides-like (bytes_eq b a) (λ e. sym e) (λ e. sym e) (bytes_eq-Decides b a))

next_place : (b : Bool) (n len : ℕ) → cond (nat_lt (cond (not b) (1 + n) 0) (suc len)) (Some (cond (not b) (1 + n) 0)) None ≡ (if b then Some 0 else option_map suc (cond (nat_lt n len) (Some n) None))
next_place true n len = grind (arith, nat_tests)
next_place false n len = grind (arith, nat_tests)

-- the index of a name is its number
pub position-names : (name : List ℕ) (test : Bor (List ℕ) → Bool) (ks : List (Bor (List ℕ))) → ((k : Bor (List ℕ)) → test k ≡ bytes_eq name k.now)
    → position test ks ≡ number_of name (map (λ k. k.now) ks)
position-names name test [] h = refl
position-names name test (k ∷ ks) h =
    next_place (test k) (position_or_len test ks) (length ks)
    ∙ ap (λ b. if b then Some 0 else option_map suc (position test ks)) (h k ∙ bytes_eq-swap name k.now)
    ∙ ap (λ o. if bytes_eq k.now name then Some 0 else option_map suc o) (position-names name test ks h)

list_any-names : (name : List ℕ) (test : Bor (List ℕ) → Bool) (ks : List (Bor (List ℕ))) → ((k : Bor (List ℕ)) → test k ≡ bytes_eq name k.now)
    → list_any test ks ≡ list_any (bytes_eq name) (map (λ k. k.now) ks)
list_any-names name test [] h = refl
list_any-names name test (k ∷ ks) h = cc (h k, list_any-names name test ks h)

same_bytes : (x y : List ℕ) → bytes_eq x y ≡ true → x ≡ y
same_bytes x y e = (bytes_eq-Decides x y).0 e

adds_by : (name : Bor (List ℕ)) (old new : List (Bor (List ℕ))) (fresh b : Bool) → list_any (bytes_eq name.now) (map (λ k. k.now) old) ≡ b
    → fresh ≡ not b → new ≡ (if b then old else old ++ name ∷ []) → AddsName (map (λ k. k.now) old) (map (λ k. k.now) new) name.now fresh
adds_by name old new fresh true e a k = rw a (Contains-from_any {eq = bytes_eq} same_bytes name.now (map (λ k. k.now) old) e, ap (map (λ k. k.now)) k)
adds_by name old new fresh false e a k =
    rw a (
      λ there. absurd (false≢true (sym e ∙ list_any-from_Contains {eq = bytes_eq} nat_list_eq_equiv name.now
          (map (λ k. k.now) old) there)),
      ap (map (λ k. k.now)) k ∙ map-append (λ k. k.now) old (name ∷ []),
    )

-- what an insertion leaves
pub adds_name : (name : Bor (List ℕ)) (test : Bor (List ℕ) → Bool) (old new : List (Bor (List ℕ))) (fresh : Bool) → ((k : Bor (List ℕ)) → test k ≡ bytes_eq name.now k.now)
    → fresh ≡ not (list_any test old) → new ≡ (if list_any test old then old else old ++ name ∷ []) → AddsName (map (λ k. k.now) old) (map (λ k. k.now) new) name.now fresh
adds_name name test old new fresh h a k = adds_by name old new fresh (list_any test old) (sym (list_any-names name.now test old h)) a k

-- ---- a list of names, added one after another

pub added_more : (old now new names : List (List ℕ)) (n : ℕ) (name : List ℕ) → now ≡ old ++ take n names → n < length names → get_or names n [] ≡ name → new ≡ now ++ name ∷ []
    → new ≡ old ++ take (n + 1) names
added_more old now new names n name is h at e =
    e ∙ ap (λ xs. xs ++ name ∷ []) is ∙ append_assoc old (take n names) (name ∷ []) ∙ ap (λ xs. old ++ xs) (ap (λ x. take n names ++ x ∷ []) (sym at) ∙ sym (take_more names n [] h))

pub fresh_more : (old now names : List (List ℕ)) (n : ℕ) (name : List ℕ) → now ≡ old ++ take n names → get_or names n [] ≡ name → ¬ Contains now name → ¬ IsRepeatAt old names n
fresh_more old now names n name is at absent repeat = absent (rw (is, ← at) repeat.1)
