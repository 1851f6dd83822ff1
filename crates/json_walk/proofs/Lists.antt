-- Facts on the names of members.
use Rattle.std.proofs.Common.{◌≡◌, ℕ, zero, suc, ◌<◌, Bool, true, false, List, [], ◌∷◌, length, get_or, map, refl, sym, ap, ◌∙◌, ◌||◌, ◌&&◌, arith, bytes_eq, Bor, string_bytes, String, Global}
use Rattle.std.specs.List.{list_all}
use Rattle.std.specs.Map.{keys_of}
use Rattle.std.proofs.Common.{Option, Some, None, option_map, is_some}
use Rattle.serde_json.specs.Data.{Data}
use Rattle.serde_json.specs.View.{view, members_view, items_view}
use Rattle.serde_json.specs.declared.value.Value.{Value}
use Rattle.std.proofs.lemmas.List.Folds.{list_all-map}
use Rattle.std.proofs.Common.{Ok}
use Rattle.std.specs.Option.{ok_or}
use Rattle.serde_json.specs.Find.{as_array}
use Rattle.json_walk.specs.declared.fault.ReadNet.{ReadNet}
use Rattle.json_walk.specs.Walk.{names_in, texts, is_among, list_of}

pub names_in-members_view : (es : List (String Global × Value)) → names_in (members_view es) ≡ map string_bytes (keys_of es)
names_in-members_view [] = refl
names_in-members_view (e ∷ es) = ap (λ ks. string_bytes e.0 ∷ ks) (names_in-members_view es)

or_true : (a b : Bool) → b ≡ true → (a || b) ≡ true
or_true true b h = refl
or_true false b h = h

and_false : (a b : Bool) → b ≡ false → (a && b) ≡ false
and_false true b h = h
and_false false b h = refl

first_true : (a b : Bool) → a ≡ true → (a || b) ≡ true
first_true true b h = refl
first_true false b h = absurd cc

first_false : (a b : Bool) → a ≡ false → (a && b) ≡ false
first_false true b h = absurd cc
first_false false b h = refl

-- a name of the table is among its names
pub among_here : (names : List (Bor (List ℕ))) (i : ℕ) (d : Bor (List ℕ)) (name : List ℕ) → i < length names → bytes_eq (get_or names i d).now name ≡ true → is_among (texts names) name ≡ true
among_here [] i d name lt h = absurd (omega arith)
among_here (n ∷ ns) zero d name lt h = first_true _ _ h
among_here (n ∷ ns) (suc i) d name lt h = or_true (bytes_eq n.now name) _ (among_here ns i d name (omega arith) h)

pub absent_here : (p : List ℕ → Bool) (names : List (Bor (List ℕ))) (i : ℕ) (d : Bor (List ℕ)) → i < length names → p (get_or names i d).now ≡ false → list_all p (texts names) ≡ false
absent_here p [] i d lt h = absurd (omega arith)
absent_here p (n ∷ ns) zero d lt h = first_false _ _ h
absent_here p (n ∷ ns) (suc i) d lt h = and_false (p n.now) _ (absent_here p ns i d (omega arith) h)

-- no value was found, seen by view
pub no_value : (r : Option (Bor Value)) (o : Option Data) → option_map (λ v. view v.now) r ≡ o → is_some r ≡ false → is_some o ≡ false
no_value None o e h = rw (← e) refl
no_value (Some v) o e h = absurd cc

-- a test of the keys is one of the members' names
pub all_names : (p : List ℕ → Bool) (es : List (String Global × Value)) (ks : List (String Global)) → ks ≡ keys_of es → list_all (λ k. p (string_bytes k)) ks ≡ list_all p (names_in (members_view es))
all_names p es ks is = ap (list_all (λ k. p (string_bytes k))) is ∙ sym (list_all-map p string_bytes (keys_of es)) ∙ ap (list_all p) (sym (names_in-members_view es))

pub list_of-items_view : (vs : List Value) → list_of (items_view vs) ≡ map view vs
list_of-items_view [] = refl
list_of-items_view (v ∷ vs) = ap (λ ds. view v ∷ ds) (list_of-items_view vs)

-- the elements of a list that was found
pub elements : (d : Data) (vs ws : List Value) (e : ReadNet) → Some (items_view vs) ≡ as_array d → ws ≡ vs → ok_or (option_map list_of (as_array d)) e ≡ Ok (map view ws)
elements d vs ws e found is = rw (← found, list_of-items_view, is) refl
