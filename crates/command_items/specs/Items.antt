-- The items of a list of words: its positionals and its options, in order.
use Rattle.std.specs.Prelude.{◌==◌, ℕ, Bool, true, false, not, ◌≡◌, List, [], ◌∷◌, ◌++◌, Option, Some, None, if◌then◌else◌, option_map, ◌&&◌, length, nat_le}
use Rattle.std.specs.List.{list_all, list_any}
use Rattle.std.specs.Option.{option_map_or}
use Rattle.std.specs.Str.{bytes_eq}
use Rattle.clap.specs.Lexer.{has_byte, long_of}

abbrev pub Text : Type 0
Text = List ℕ

-- a positional or an option's value is a word that isn't empty and doesn't begin with `-` (45)
abbrev pub is_value : Text → Bool
is_value [] = false
is_value (c ∷ cs) = not (c == 45)

-- what may follow `--` in a word of its own: it isn't empty and has no `=` (61)
abbrev pub is_name : Text → Bool
is_name [] = false
is_name (c ∷ cs) = not (has_byte 61 (c ∷ cs))

-- what one item gives: an option has a name, a positional has none
pub record Given : Type 0 where
  pub name : Option Text
  pub value : Text

-- the words are these items: a positional is a word, and an option is `--name` and its value, or `--name=value`, whose name has no `=`
pub data ReadAs : List Text → List Given → Type 0 where
  nothing : ReadAs [] []
  positional : (value : Text) (words : List Text) (items : List Given) → is_value value ≡ true
      → ReadAs words items → ReadAs (value ∷ words) (record { name = None; value = value } ∷ items)
  spaced : (name value : Text) (words : List Text) (items : List Given) → is_name name ≡ true → is_value value ≡ true
      → ReadAs words items → ReadAs ((45 ∷ 45 ∷ name) ∷ value ∷ words) (record { name = Some name; value = value } ∷ items)
  joined : (name value : Text) (words : List Text) (items : List Given) → has_byte 61 name ≡ false → is_value value ≡ true
      → ReadAs words items → ReadAs ((45 ∷ 45 ∷ (name ++ 61 ∷ value)) ∷ words) (record { name = Some name; value = value } ∷ items)

-- ---- which items a command takes

-- the positional goes before these
abbrev pub with_positional : Option Text → Text → List Text → List Text
with_positional None value values = value ∷ values
with_positional (Some name) value values = values

-- the positionals, in order
abbrev pub positionals : List Given → List Text
positionals [] = []
positionals (g ∷ gs) = with_positional g.name g.value (positionals gs)

-- the item is the option of this name
abbrev pub is_named : Text → Given → Bool
is_named name g = option_map_or (bytes_eq name) g.name false

-- one of the options has the name
abbrev pub is_option : List Text → Text → Bool
is_option options name = list_any (λ o. bytes_eq o name) options

-- no other option stands among the items
abbrev pub has_only : List Text → List Given → Bool
has_only options = list_all (λ g. option_map_or (is_option options) g.name true)

-- no option stands twice
abbrev pub once : List Given → Bool
once [] = true
once (g ∷ gs) = not (option_map_or (λ name. list_any (is_named name) gs) g.name false) && once gs

-- from the least to the most of so many positionals, and of these options each at most once
abbrev pub fits : ℕ → ℕ → List Text → List Given → Bool
fits least most options items =
    (nat_le least (length (positionals items)) && nat_le (length (positionals items)) most) && (has_only options items && once items)

-- ---- the items, computed word by word

-- the item goes before those that follow
abbrev pub before : Given → Option (List Given) → Option (List Given)
before g = option_map (λ gs. g ∷ gs)

-- the item with its value, and what comes after it
abbrev pub item : Option Text → Text → (Option Text → Option (List Given)) → Option (List Given)
item name value next = if is_value value then before (record { name = name; value = value }) (next None) else None

-- `--name` waits for its value, and `--name=value` has it
abbrev pub flag : Option (Text × Option Text) → (Option Text → Option (List Given)) → Option (List Given)
flag None next = None
flag (Some (name, None)) next = next (Some name)
flag (Some (name, Some value)) next = item (Some name) value next

-- a word, where the option whose value comes next may wait, and what comes after it
abbrev pub word_read : Option Text → Text → (Option Text → Option (List Given)) → Option (List Given)
word_read (Some name) word next = item (Some name) word next
word_read None word next = if is_value word then item None word next else flag (long_of word) next

-- the items of the words, where the option whose value comes next may wait
abbrev pub items_after : Option Text → List Text → Option (List Given)
items_after None [] = Some []
items_after (Some name) [] = None
items_after waiting (word ∷ rest) = word_read waiting word (λ w. items_after w rest)

-- the items of the words; None where the words aren't of the form
abbrev pub items_of : List Text → Option (List Given)
items_of = items_after None
