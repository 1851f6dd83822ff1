-- The items that are computed are those that the words are read as.
use Rattle.std.proofs.Common.{ap, refl, sym, subst, true, false, not, List, [], ◌∷◌, ◌++◌, ◌≡◌, ◌≢◌, ◌∙◌}
use Rattle.std.proofs.Common.{◌==◌, ◌⊎◌, inl, inr, Bool, cond, zero, suc, Option, Some, None, true≢false, arith, eq-eqb, eqb-true}
use Rattle.std.specs.Prelude.{option_and_then}
use Rattle.clap.specs.Lexer.{has_byte, long_of, long_of_rest, strip_byte, name_and_value}
use Rattle.clap.proofs.CutLemmas.{Lacks}
use Rattle.clap.proofs.LexerLemmas.{name_and_value-at, name_and_value-without}
use Rattle.command_items.specs.Items.{Text, Given, ReadAs, flag, is_name, is_value, item, items_after, items_of, nothing, positional, spaced, joined}
use Rattle.command_items.proofs.Walks.{item_some, or_parts}
use Rattle.command_items.proofs.ItemLemmas.{not_true}

lacks : (xs : Text) → has_byte 61 xs ≡ false → Lacks 61 xs
lacks [] e i lt is = absurd (omega arith)
lacks (x ∷ xs) e zero lt is = true≢false (sym (eq-eqb x 61 is) ∙ (or_parts (x == 61) _ e).0)
lacks (x ∷ xs) e (suc i) lt is = lacks xs (or_parts (x == 61) _ e).1 i (omega arith) is

-- ---- from the relation to what is computed

spaced_long : (name : Text) → is_name name ≡ true → long_of (45 ∷ 45 ∷ name) ≡ Some (name, None)
spaced_long [] e = absurd (true≢false (sym e))
spaced_long (x ∷ xs) e = ap Some (name_and_value-without (x ∷ xs) (lacks (x ∷ xs) (not_true _ e)))

joined_long : (name word : Text) → has_byte 61 name ≡ false → long_of (45 ∷ 45 ∷ (name ++ 61 ∷ word)) ≡ Some (name, Some word)
joined_long [] word e = ap Some (name_and_value-at [] word (lacks [] e))
joined_long (x ∷ xs) word e = ap Some (name_and_value-at (x ∷ xs) word (lacks (x ∷ xs) e))

pub read_items : (words : List Text) (items : List Given) → ReadAs words items → items_of words ≡ Some items
read_items _ _ nothing = refl
read_items _ _ (positional word words items v r) = rw (v, read_items words items r) refl
read_items _ _ (spaced name word words items n v r) = rw (spaced_long name n, v, read_items words items r) refl
read_items _ _ (joined name word words items n v r) = rw (joined_long name word n, v, read_items words items r) refl

-- ---- and back

-- a text with `=`, cut at the first
record Cut (text : Text) : Type 0 where
  name : Text
  value : Text
  is : text ≡ name ++ 61 ∷ value
  free : has_byte 61 name ≡ false

cut : (text : Text) → (has_byte 61 text ≡ false) ⊎ Cut text
cut [] = inl refl
cut (x ∷ xs) = go (x == 61) refl (cut xs)
  where
    go : (b : Bool) → (x == 61) ≡ b → (has_byte 61 xs ≡ false) ⊎ Cut xs → (has_byte 61 (x ∷ xs) ≡ false) ⊎ Cut (x ∷ xs)
    go true e rest = inr (record { name = []; value = xs; is = ap (λ c. c ∷ xs) (eqb-true x 61 e); free = refl })
    go false e (inl none) = inl (rw e none)
    go false e (inr c) = inr (record { name = x ∷ c.name; value = c.value; is = ap (λ t. x ∷ t) c.is; free = rw e c.free })

-- the name and the value make the text again
abbrev Joins : Text → Text × Option Text → Type 0
Joins text (name, None) = (text ≡ name) × (has_byte 61 name ≡ false)
Joins text (name, Some value) = (text ≡ name ++ 61 ∷ value) × (has_byte 61 name ≡ false)

joins : (text : Text) → Joins text (name_and_value text)
joins text = elim (cut text) as (λ _. Joins text (name_and_value text)) [
  | inl none ↦ subst (Joins text) (sym (name_and_value-without text (lacks text none))) (refl, none)
  | inr c ↦ subst (Joins text) (sym (ap name_and_value c.is ∙ name_and_value-at c.name c.value (lacks c.name c.free))) (c.is, c.free)
]

strip : (text rest : Text) → strip_byte 45 text ≡ Some rest → text ≡ 45 ∷ rest
strip [] rest e = cc
strip (x ∷ xs) rest e = go (x == 45) refl e
  where
    go : (b : Bool) → (x == 45) ≡ b → cond b (Some xs) None ≡ Some rest → x ∷ xs ≡ 45 ∷ rest
    go true is h = let same : xs ≡ rest = cc in ap (λ c. c ∷ xs) (eqb-true x 45 is) ∙ ap (λ t. 45 ∷ t) same
    go false is h = cc

-- the word is two hyphens and what makes these parts
record IsLong (word : Text) (parts : Text × Option Text) : Type 0 where
  rest : Text
  is : word ≡ 45 ∷ 45 ∷ rest
  some : rest ≢ []
  joined : Joins rest parts

is_long : (word : Text) (parts : Text × Option Text) → long_of word ≡ Some parts → IsLong word parts
is_long word parts e = first (strip_byte 45 word) refl e
  where
    third : (rest : Text) → word ≡ 45 ∷ 45 ∷ rest → long_of_rest rest ≡ Some parts → IsLong word parts
    third [] is h = cc
    third (x ∷ xs) is h =
        let same : name_and_value (x ∷ xs) ≡ parts = cc in
        record { rest = x ∷ xs; is = is; some = λ n. cc; joined = subst (Joins (x ∷ xs)) same (joins (x ∷ xs)) }

    second : (text : Text) (o : Option Text) → word ≡ 45 ∷ text → strip_byte 45 text ≡ o → option_and_then long_of_rest o ≡ Some parts → IsLong word parts
    second text None is at h = cc
    second text (Some rest) is at h = third rest (is ∙ ap (λ t. 45 ∷ t) (strip text rest at)) h

    first : (o : Option Text) → strip_byte 45 word ≡ o → option_and_then long_of_rest (option_and_then (strip_byte 45) o) ≡ Some parts → IsLong word parts
    first None at h = cc
    first (Some text) at h = second text (strip_byte 45 text) (strip word text at) refl h

named : (name : Text) → name ≢ [] → has_byte 61 name ≡ false → is_name name ≡ true
named [] some free = absurd (some refl)
named (x ∷ xs) some free = ap not free

-- the words are read as the items, where the value of an option may come first
abbrev Reads : Option Text → List Text → List Given → Type 0
Reads None words items = ReadAs words items
Reads (Some name) [] items = ⊥
Reads (Some name) (value ∷ words) items = (is_value value ≡ true) × ((rest : List Given) × ReadAs words rest × (items ≡ record { name = Some name; value = value } ∷ rest))

abbrev Back : List Text → Type 0
Back words = (waiting : Option Text) (items : List Given) → items_after waiting words ≡ Some items → Reads waiting words items

module _ (words : List Text) (ih : Back words) where
  after_name : (word name : Text) (rest : Text) (items : List Given) → word ≡ 45 ∷ 45 ∷ rest → rest ≡ name → is_name name ≡ true → (ws : List Text)
      → Reads (Some name) ws items → ReadAs (word ∷ ws) items
  after_name word name rest items is same n [] r = absurd r
  after_name word name rest items is same n (value ∷ ws) r =
      subst (λ w. ReadAs (w ∷ value ∷ ws) items) (sym (is ∙ ap (λ t. 45 ∷ 45 ∷ t) same))
      (subst (ReadAs ((45 ∷ 45 ∷ name) ∷ value ∷ ws)) (sym r.1.2) (spaced name value ws r.1.0 n r.0 r.1.1))

  back_flag : (word : Text) (o : Option (Text × Option Text)) (items : List Given) → long_of word ≡ o → flag o (λ w. items_after w words) ≡ Some items → ReadAs (word ∷ words) items
  back_flag word None items at e = cc
  back_flag word (Some (name, None)) items at e =
      let l = is_long word (name, None) at in
      after_name word name l.rest items l.is l.joined.0 (named name (λ n. l.some (l.joined.0 ∙ n)) l.joined.1) words (ih (Some name) items e)
  back_flag word (Some (name, Some value)) items at e =
      let l = is_long word (name, Some value) at in
      let s = item_some (Some name) value (λ w. items_after w words) items e in
      subst (λ w. ReadAs (w ∷ words) items) (sym (l.is ∙ ap (λ t. 45 ∷ 45 ∷ t) l.joined.0))
      (subst (ReadAs ((45 ∷ 45 ∷ (name ++ 61 ∷ value)) ∷ words)) (sym s.1.2) (joined name value words s.1.0 l.joined.1 s.0 (ih None s.1.0 s.1.1)))

  back_word : (word : Text) (b : Bool) (items : List Given) → is_value word ≡ b
      → cond b (item None word (λ w. items_after w words)) (flag (long_of word) (λ w. items_after w words)) ≡ Some items → ReadAs (word ∷ words) items
  back_word word true items v e =
      let s = item_some None word (λ w. items_after w words) items e in
      subst (ReadAs (word ∷ words)) (sym s.1.2) (positional word words s.1.0 s.0 (ih None s.1.0 s.1.1))
  back_word word false items v e = back_flag word (long_of word) items refl e

  back_step : (word : Text) → Back (word ∷ words)
  back_step word None items e = back_word word (is_value word) items refl e
  back_step word (Some name) items e =
      let s = item_some (Some name) word (λ w. items_after w words) items e in
      (s.0, (s.1.0, ih None s.1.0 s.1.1, s.1.2))

back : (words : List Text) → Back words
back [] None items e = let same : [] ≡ items = cc in subst (ReadAs []) same nothing
back [] (Some name) items e = cc
back (word ∷ words) waiting items e = back_step words (back words) word waiting items e

pub items_read : (words : List Text) (items : List Given) → items_of words ≡ Some items → ReadAs words items
items_read words items e = back words None items e
