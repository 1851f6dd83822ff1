-- What clap's walk makes of words of the form.
use Rattle.std.proofs.Common.{ap, refl, sym, true, false, not, List, [], ◌∷◌, ◌++◌, ◌≡◌, ◌∙◌, ◌&&◌}
use Rattle.std.proofs.Common.{◌||◌, ◌+◌, ◌==◌, eq-eqb, ℕ, Bool, cond, Option, Some, None, min, subst, true≢false, append_assoc, append-nil}
use Rattle.std.specs.Prelude.{unwrap_or, fold, option_and_then}
use Rattle.std.specs.List.{list_any}
use Rattle.std.specs.Option.{option_map_or}
use Rattle.std.specs.Str.{bytes_eq}
use Rattle.std.proofs.lemmas.List.Sums.{fold-append}
use Rattle.clap.specs.Lexer.{long_of, long_of_rest, short_of, short_of_rest, strip_byte, usize_max}
use Rattle.clap.specs.Walk.{Held, Row, Rule, Waiting, Walk, idle, option, positional, walked, settled, reacted, at_row, without, has_row, arg_by_index, arg_by_long, arg_by_id, with_values, more_values, is_pending}
use Rattle.clap.specs.Simple.{Shape, new_rule, new_shape}
use Rattle.clap.specs.Takes.{walk_passes, settle_passes, turn_passes}
use Rattle.clap.specs.declared.builder.action.ArgAction.TheVariants.{Append, Set}
use Rattle.clap.specs.declared.builder.range.ValueRange.{ValueRange}
use Rattle.clap.specs.declared.builder.value_parser.ValueParser.TheVariants as vp
use Rattle.clap.specs.declared.builder.value_parser.Reading.TheVariants as reading
use Rattle.clap.specs.declared.parser.matches.ValueSource.TheVariants.{CommandLine}
use Rattle.command_items.specs.Items.{Text, Given, is_value, before, item, flag, items_after}
use Rattle.command_items.specs.Commands.{labels, next_place, places_after}

-- ---- an argument with one value, as building leaves it

abbrev pub one : ValueRange
one = record { start_inclusive = 1; end_inclusive = 1 }

-- a positional; one that may stand several times keeps the values that it had
abbrev pub positional_rule : Bool → Text → ℕ → Rule
positional_rule several id place = record (new_rule id) { index = Some place; action = Some (cond several Append Set); range = Some one; parser = Some vp.String }

abbrev pub option_rule : Text → Rule
option_rule name = record (new_rule name) { long = Some name; action = Some Set; range = Some one; parser = Some vp.String }

-- a subcommand with these arguments, built, with no help
abbrev pub leaf : Text → List Rule → Shape
leaf name c = record (new_shape name) {
  rules = c;
  no_binary_name = true;
  disable_help_flag = true;
  disable_help_subcommand = true;
  is_built = true;
}

-- ---- rows

-- the rows with a value more: it goes to the row of its id, or to a new one
abbrev pub with_one : List Row → Text × Text → List Row
with_one rows g = with_values g.0 reading.AsWritten CommandLine (g.1 ∷ []) rows

abbrev pub rows_for : List (Text × Text) → List Row
rows_for = fold with_one []

rows_for-one : (given : List (Text × Text)) (x : Text × Text) → rows_for (given ++ x ∷ []) ≡ with_one (rows_for given) x
rows_for-one given x = fold-append with_one [] given (x ∷ [])

pub or_parts : (a b : Bool) → (a || b) ≡ false → (a ≡ false) × (b ≡ false)
or_parts true b e = absurd (true≢false e)
or_parts false b e = (refl, e)

pub and_false : (a : Bool) → (a && false) ≡ false
and_false true = refl
and_false false = refl

pub or_true : (a : Bool) → (a || true) ≡ true
or_true true = refl
or_true false = refl

pub at_no_row : (id : Text) (change : Row → List Row) (missing rows : List Row) → has_row id rows ≡ false → at_row id change missing rows ≡ rows ++ missing
at_no_row id change missing [] e = refl
at_no_row id change missing (r ∷ rs) e =
    let p = or_parts (bytes_eq r.id id) _ e in
    rw p.0 (ap (λ t. r ∷ t) (at_no_row id change missing rs p.1))

append-none : (rows : List Row) → rows ++ [] ≡ rows
append-none [] = refl
append-none (r ∷ rs) = ap (λ t. r ∷ t) (append-none rs)

-- what is used once and has no row gets one
pub row_added : (id word : Text) (given : List (Text × Text)) → has_row id (rows_for given) ≡ false
    → with_values id reading.AsWritten CommandLine (word ∷ []) (without id (rows_for given)) ≡ rows_for (given ++ (id, word) ∷ [])
row_added id word given e =
    let gone : without id (rows_for given) ≡ rows_for given = at_no_row id (λ _. []) [] (rows_for given) e ∙ append-none (rows_for given) in
    ap (with_values id reading.AsWritten CommandLine (word ∷ [])) gone ∙ sym (rows_for-one given (id, word))

-- ---- words

pub same_bytes : (xs : List ℕ) → bytes_eq xs xs ≡ true
same_bytes [] = refl
same_bytes (x ∷ xs) = rw (eq-eqb x x refl) (same_bytes xs)

pub plain_dashes : (word : Text) → is_value word ≡ true → bytes_eq word (45 ∷ 45 ∷ []) ≡ false
plain_dashes [] e = refl
plain_dashes (x ∷ xs) e = go (x == 45) e
  where
    go : (b : Bool) → not b ≡ true → (b && bytes_eq xs (45 ∷ [])) ≡ false
    go true h = absurd (true≢false (sym h))
    go false h = refl

pub plain_long : (word : Text) → is_value word ≡ true → long_of word ≡ None
plain_long [] e = refl
plain_long (x ∷ xs) e = go (x == 45) e
  where
    go : (b : Bool) → not b ≡ true → option_and_then long_of_rest (option_and_then (strip_byte 45) (cond b (Some xs) None)) ≡ None
    go true h = absurd (true≢false (sym h))
    go false h = refl

pub plain_short : (word : Text) → is_value word ≡ true → short_of word ≡ None
plain_short [] e = refl
plain_short (x ∷ xs) e = go (x == 45) e
  where
    go : (b : Bool) → not b ≡ true → option_and_then short_of_rest (cond b (Some xs) None) ≡ None
    go true h = absurd (true≢false (sym h))
    go false h = refl

pub flag_dashes : (word : Text) (p : Text × Option Text) → long_of word ≡ Some p → bytes_eq word (45 ∷ 45 ∷ []) ≡ false
flag_dashes [] p e = refl
flag_dashes (x ∷ []) p e = and_false (x == 45)
flag_dashes (x ∷ y ∷ []) p e = go (x == 45) e
  where
    second : (d : Bool) → option_and_then long_of_rest (cond d (Some []) None) ≡ Some p → (d && true) ≡ false
    second true k = cc
    second false k = refl

    go : (a : Bool) → option_and_then long_of_rest (option_and_then (strip_byte 45) (cond a (Some (y ∷ [])) None)) ≡ Some p → (a && ((y == 45) && true)) ≡ false
    go false h = refl
    go true h = second (y == 45) h
flag_dashes (x ∷ y ∷ z ∷ zs) p e = ap (λ b. (x == 45) && b) (and_false (y == 45)) ∙ and_false (x == 45)

-- ---- what is held

pub record HoldsRules (c : List Rule) (h : Held) (given : List (Text × Text)) : Type 0 where
  pub rows : (settled c h).rows ≡ rows_for given
  pub passes : settle_passes c false h ≡ true

-- what takes the next word where no option waits: behind a positional that may stand several times, one more of it may come
abbrev pub between : Bool → Waiting
between true = positional
between false = idle

-- the walk stands between two items
abbrev pub standing : Bool → Held → ℕ → Walk
standing b h p = record { held = h; waiting = between b; position = p; is_trailing = false; stopped = None }

abbrev pub waits_for : Held → ℕ → Text → Walk
waits_for h p name = record { held = h; waiting = option name; position = p; is_trailing = false; stopped = None }

abbrev pub pending_one : List Rule → Held → Text → List Text → Held
pending_one c h id values = record (settled c h) { pending = Some (id, values) }

abbrev pub after_place : ℕ → ℕ
after_place p = min (p + 1) usize_max

-- where the walk stands after a positional
abbrev pub stands_at : Bool → ℕ → ℕ
stands_at several p = cond several p (after_place p)

module _ (c : List Rule) (name : Text) (h : Held) (p : ℕ) where
  -- a positional
  pub positional_walked : (b several : Bool) (id word : Text) → is_value word ≡ true → arg_by_index c p ≡ Some (positional_rule several id p)
      → walked c [] (standing b h p) word ≡ standing several (pending_one c h id (word ∷ [])) (stands_at several p)
  unfolding walked
  positional_walked true true id word v at = rw (plain_dashes word v, plain_long word v, plain_short word v, at, and_false (is_pending (positional_rule true id p) h.pending)) refl
  positional_walked true false id word v at = rw (plain_dashes word v, plain_long word v, plain_short word v, at, and_false (is_pending (positional_rule false id p) h.pending)) refl
  positional_walked false true id word v at = rw (plain_dashes word v, plain_long word v, plain_short word v, at, and_false (is_pending (positional_rule true id p) h.pending)) refl
  positional_walked false false id word v at = rw (plain_dashes word v, plain_long word v, plain_short word v, at, and_false (is_pending (positional_rule false id p) h.pending)) refl

  pub positional_passes : (b several : Bool) (id word : Text) → is_value word ≡ true → arg_by_index c p ≡ Some (positional_rule several id p) → settle_passes c false h ≡ true
      → turn_passes (leaf name c) [] (standing b h p) word ≡ true
  positional_passes true several id word v at ok =
      rw (plain_dashes word v, plain_long word v, plain_short word v, at, and_false (is_pending (positional_rule several id p) h.pending), ok) refl
  positional_passes false several id word v at ok =
      rw (plain_dashes word v, plain_long word v, plain_short word v, at, and_false (is_pending (positional_rule several id p) h.pending), ok) refl

  -- `--name`
  pub name_walked : (b : Bool) (n word : Text) → long_of word ≡ Some (n, None) → arg_by_long c n ≡ Some (option_rule n)
      → walked c [] (standing b h p) word ≡ waits_for (pending_one c h n []) p n
  unfolding walked
  name_walked true n word l at = rw (flag_dashes word (n, None) l, l, at) refl
  name_walked false n word l at = rw (flag_dashes word (n, None) l, l, at) refl

  pub name_passes : (b : Bool) (n word : Text) → long_of word ≡ Some (n, None) → arg_by_long c n ≡ Some (option_rule n) → settle_passes c false h ≡ true
      → turn_passes (leaf name c) [] (standing b h p) word ≡ true
  name_passes true n word l at ok = rw (flag_dashes word (n, None) l, l, at, ok) refl
  name_passes false n word l at ok = rw (flag_dashes word (n, None) l, l, at, ok) refl

  -- `--name=value`
  pub attached_walked : (b : Bool) (n v word : Text) → long_of word ≡ Some (n, Some v) → arg_by_long c n ≡ Some (option_rule n)
      → walked c [] (standing b h p) word ≡ standing false (reacted c (option_rule n) (v ∷ []) h) p
  unfolding walked
  attached_walked true n v word l at = rw (flag_dashes word (n, Some v) l, l, at) refl
  attached_walked false n v word l at = rw (flag_dashes word (n, Some v) l, l, at) refl

  pub attached_passes : (b : Bool) (n v word : Text) → long_of word ≡ Some (n, Some v) → arg_by_long c n ≡ Some (option_rule n) → settle_passes c false h ≡ true
      → has_row n (settled c h).rows ≡ false → turn_passes (leaf name c) [] (standing b h p) word ≡ true
  attached_passes true n v word l at ok new = rw (flag_dashes word (n, Some v) l, l, at, ok, new) refl
  attached_passes false n v word l at ok new = rw (flag_dashes word (n, Some v) l, l, at, ok, new) refl

  -- the value after `--name`
  pub value_walked : (n word : Text) → is_value word ≡ true → arg_by_id c n ≡ Some (option_rule n)
      → walked c [] (waits_for (pending_one c h n []) p n) word ≡ standing false (pending_one c h n (word ∷ [])) p
  unfolding walked
  value_walked n word v at = rw (plain_dashes word v, plain_long word v, plain_short word v, at, same_bytes n) refl

  pub value_passes : (n word : Text) → is_value word ≡ true
      → turn_passes (leaf name c) [] (waits_for (pending_one c h n []) p n) word ≡ true
  value_passes n word v = rw (plain_dashes word v, plain_long word v, plain_short word v) refl

-- what is held after one more item
pub holds_positional : (c : List Rule) (h : Held) (given : List (Text × Text)) (id word : Text) (p : ℕ) → HoldsRules c h given
    → arg_by_id c id ≡ Some (positional_rule false id p) → has_row id (rows_for given) ≡ false → HoldsRules c (pending_one c h id (word ∷ [])) (given ++ (id, word) ∷ [])
holds_positional c h given id word p held at new = record {
  rows = rw (at, held.rows) (row_added id word given new);
  passes = rw (at, held.rows, new) refl;
}

pub holds_several : (c : List Rule) (h : Held) (given : List (Text × Text)) (id word : Text) (p : ℕ) → HoldsRules c h given
    → arg_by_id c id ≡ Some (positional_rule true id p) → HoldsRules c (pending_one c h id (word ∷ [])) (given ++ (id, word) ∷ [])
holds_several c h given id word p held at = record {
  rows = rw (at, held.rows) (sym (rows_for-one given (id, word)));
  passes = rw at refl;
}

pub holds_option : (c : List Rule) (h : Held) (given : List (Text × Text)) (id word : Text) → HoldsRules c h given
    → arg_by_id c id ≡ Some (option_rule id) → has_row id (rows_for given) ≡ false → HoldsRules c (pending_one c h id (word ∷ [])) (given ++ (id, word) ∷ [])
holds_option c h given id word held at new = record {
  rows = rw (at, held.rows) (row_added id word given new);
  passes = rw (at, held.rows, new) refl;
}

pub holds_attached : (c : List Rule) (h : Held) (given : List (Text × Text)) (id word : Text) → HoldsRules c h given
    → has_row id (rows_for given) ≡ false → HoldsRules c (reacted c (option_rule id) (word ∷ []) h) (given ++ (id, word) ∷ [])
holds_attached c h given id word held new = record {
  rows = rw held.rows (row_added id word given new);
  passes = refl;
}

-- ---- all the words

-- behind the places come those that may stand several times
abbrev pub is_behind : List Text → Bool
is_behind [] = true
is_behind (place ∷ places) = false

-- where the next positional stands after an item
abbrev pub position_after : List Text → Option Text → ℕ → ℕ
position_after ps (Some n) p = p
position_after ps None p = stands_at (is_behind ps) p

-- the item is a positional that may stand several times
abbrev pub several_after : List Text → Option Text → Bool
several_after ps (Some n) = false
several_after ps None = is_behind ps

-- the id of what may stand several times
abbrev pub is_many : Option Text → Text → Bool
is_many many id = option_map_or (bytes_eq id) many false

abbrev pub HasPositional : List Rule → Bool → Text → ℕ → Type 0
HasPositional c several id p = (arg_by_index c p ≡ Some (positional_rule several id p)) × (arg_by_id c id ≡ Some (positional_rule several id p))

abbrev pub HasOption : List Rule → Text → Type 0
HasOption c n = (arg_by_long c n ≡ Some (option_rule n)) × (arg_by_id c n ≡ Some (option_rule n))

-- the arguments have the one of the item
abbrev pub ServesNext : List Rule → Option Text → List Text → ℕ → Type 0
ServesNext c many [] p = HasPositional c true (next_place many []) p
ServesNext c many (id ∷ ids) p = HasPositional c false id p × (is_many many id ≡ false)

abbrev pub Serves : List Rule → Option Text → List Text → ℕ → Option Text → Type 0
Serves c many ps p None = ServesNext c many ps p
Serves c many ps p (Some n) = HasOption c n × (is_many many n ≡ false)

abbrev pub ServesAll : List Rule → Option Text → List Text → ℕ → List Given → Type 0
ServesAll c many ps p [] = Unit {0}
ServesAll c many ps p (g ∷ gs) = Serves c many ps p g.name × ServesAll c many (places_after g.name ps) (position_after ps g.name p) gs

-- the later of two is of the same id, and may stand only once
abbrev pub repeats : Option Text → Text × Text → Text × Text → Bool
repeats many x y = not (is_many many y.0) && bytes_eq x.0 y.0

-- none that may stand only once has the id of one before it
abbrev pub Apart : Option Text → List (Text × Text) → Type 0
Apart many [] = Unit {0}
Apart many (x ∷ xs) = (list_any (repeats many x) xs ≡ false) × Apart many xs

any_in : (f : Text × Text → Bool) (xs ys : List (Text × Text)) (y : Text × Text) → list_any f (xs ++ y ∷ ys) ≡ false → f y ≡ false
any_in f [] ys y e = (or_parts (f y) _ e).0
any_in f (x ∷ xs) ys y e = any_in f xs ys y (or_parts (f x) _ e).1

-- a value more makes no row of another id
unmade : (x : Text) (g : Text × Text) (rows : List Row) → bytes_eq g.0 x ≡ false → has_row x rows ≡ false → has_row x (with_one rows g) ≡ false
unmade x g [] apart none = rw apart refl
unmade x g (r ∷ rs) apart none = let o = or_parts (bytes_eq r.id x) _ none in go (bytes_eq r.id g.0) o.0 o.1 (unmade x g rs apart o.1)
  where
    go : (b : Bool) → bytes_eq r.id x ≡ false → has_row x rs ≡ false → has_row x (with_one rs g) ≡ false
        → has_row x (cond b (more_values CommandLine (g.1 ∷ []) r ++ rs) (r ∷ with_one rs g)) ≡ false
    go true here rest ih = rw here rest
    go false here rest ih = rw here ih

unmade_all : (x : Text) (given : List (Text × Text)) (rows : List Row) → list_any (λ g. bytes_eq g.0 x) given ≡ false → has_row x rows ≡ false → has_row x (fold with_one rows given) ≡ false
unmade_all x [] rows apart none = none
unmade_all x (g ∷ gs) rows apart none =
    let o = or_parts (bytes_eq g.0 x) _ apart in
    unmade_all x gs (with_one rows g) o.1 (unmade x g rows o.0 none)

-- what may stand only once has the id of none before it
first_time : (many : Option Text) (given rest : List (Text × Text)) (id value : Text) → is_many many id ≡ false → Apart many (given ++ (id, value) ∷ rest)
    → list_any (λ g. bytes_eq g.0 id) given ≡ false
first_time many [] rest id value once a = refl
first_time many (g ∷ gs) rest id value once a =
    let here : bytes_eq g.0 id ≡ false = rw once at (any_in (repeats many g) gs rest (id, value) a.0) in
    rw here (first_time many gs rest id value once a.1)

pub new_row : (many : Option Text) (given rest : List (Text × Text)) (id value : Text) → is_many many id ≡ false → Apart many (given ++ (id, value) ∷ rest)
    → has_row id (rows_for given) ≡ false
new_row many given rest id value once a = unmade_all id given [] (first_time many given rest id value once a) refl

-- where the walk over the words ends
pub record Ends (name : Text) (c : List Rule) (w : Walk) (words : List Text) (given : List (Text × Text)) : Type 0 where
  pub held : Held
  pub several : Bool
  pub place : ℕ
  pub passes : walk_passes (leaf name c) [] w words ≡ true
  pub end : fold (walked c []) w words ≡ standing several held place
  pub holds : HoldsRules c held given

pub ends_next : (name : Text) (c : List Rule) (w after : Walk) (word : Text) (words : List Text) (given : List (Text × Text)) → walked c [] w word ≡ after
    → turn_passes (leaf name c) [] w word ≡ true → Ends name c after words given → Ends name c w (word ∷ words) given
unfolding walk_passes
ends_next name c w after word words given is passes e = record {
  held = e.held;
  several = e.several;
  place = e.place;
  passes = rw (passes, is) e.passes;
  end = rw is e.end;
  holds = e.holds;
}

before_some : (g : Given) (o : Option (List Given)) (items : List Given) → before g o ≡ Some items → (rest : List Given) × (o ≡ Some rest) × (items ≡ g ∷ rest)
before_some g None items e = cc
before_some g (Some gs) items e = (gs, refl, cc)

pub item_some : (n : Option Text) (word : Text) (next : Option Text → Option (List Given)) (items : List Given) → item n word next ≡ Some items
    → (is_value word ≡ true) × ((rest : List Given) × (next None ≡ Some rest) × (items ≡ record { name = n; value = word } ∷ rest))
item_some n word next items e = go (is_value word) e
  where
    go : (b : Bool) → cond b (before (record { name = n; value = word }) (next None)) None ≡ Some items
        → (b ≡ true) × ((rest : List Given) × (next None ≡ Some rest) × (items ≡ record { name = n; value = word } ∷ rest))
    go true h = (refl, before_some _ _ items h)
    go false h = cc

-- what waits, in clap's walk
abbrev pub state : List Rule → Option Text → Bool → Held → ℕ → Walk
state c None b h p = standing b h p
state c (Some n) b h p = waits_for (pending_one c h n []) p n

module _ (name : Text) (c : List Rule) (many : Option Text) where
  -- words of the form are walked to their items
  abbrev pub Walks : List Text → Type 0
  Walks words = (waiting : Option Text) (b : Bool) (h : Held) (p : ℕ) (ps : List Text) (given : List (Text × Text)) (items : List Given)
      → items_after waiting words ≡ Some items → ServesAll c many ps p items → Apart many (given ++ labels many ps items) → HoldsRules c h given
      → Ends name c (state c waiting b h p) words (given ++ labels many ps items)

  -- the item that a value completes, and the items after it
  walks_item : (words : List Text) → Walks words → (h after : Held) (p : ℕ) (ps : List Text) (given : List (Text × Text)) (n : Option Text) (word : Text) (rest : List Given)
      → items_after None words ≡ Some rest → ServesAll c many (places_after n ps) (position_after ps n p) rest
      → Apart many (given ++ labels many ps (record { name = n; value = word } ∷ rest))
      → HoldsRules c after (given ++ (unwrap_or n (next_place many ps), word) ∷ [])
      → Ends name c (standing (several_after ps n) after (position_after ps n p)) words (given ++ labels many ps (record { name = n; value = word } ∷ rest))
  walks_item words ih h after p ps given n word rest e serves apart holds =
      let same = append_assoc given ((unwrap_or n (next_place many ps), word) ∷ []) (labels many (places_after n ps) rest) in
      subst (Ends name c (standing (several_after ps n) after (position_after ps n p)) words) same
      (ih None (several_after ps n) after (position_after ps n p) (places_after n ps) (given ++ (unwrap_or n (next_place many ps), word) ∷ []) rest e serves
      (subst (Apart many) (sym same) apart) holds)

  walks_positional : (words : List Text) → Walks words → (word : Text) (b : Bool) (h : Held) (p : ℕ) (ps : List Text) (given : List (Text × Text)) (rest : List Given)
      → is_value word ≡ true → items_after None words ≡ Some rest → ServesAll c many ps p (record { name = None; value = word } ∷ rest)
      → Apart many (given ++ labels many ps (record { name = None; value = word } ∷ rest)) → HoldsRules c h given
      → Ends name c (standing b h p) (word ∷ words) (given ++ labels many ps (record { name = None; value = word } ∷ rest))
  walks_positional words ih word b h p [] given rest v e serves apart holds =
      ends_next name c _ _ word words _ (positional_walked c name h p b true (next_place many []) word v serves.0.0)
      (positional_passes c name h p b true (next_place many []) word v serves.0.0 holds.passes)
      (walks_item words ih h _ p [] given None word rest e serves.1 apart (holds_several c h given (next_place many []) word p holds serves.0.1))
  walks_positional words ih word b h p (id ∷ ids) given rest v e serves apart holds =
      let new = new_row many given (labels many ids rest) id word serves.0.1 apart in
      ends_next name c _ _ word words _ (positional_walked c name h p b false id word v serves.0.0.0)
      (positional_passes c name h p b false id word v serves.0.0.0 holds.passes)
      (walks_item words ih h _ p (id ∷ ids) given None word rest e serves.1 apart (holds_positional c h given id word p holds serves.0.0.1 new))

  walks_attached : (words : List Text) → Walks words → (word n value : Text) (b : Bool) (h : Held) (p : ℕ) (ps : List Text) (given : List (Text × Text)) (rest : List Given)
      → long_of word ≡ Some (n, Some value) → items_after None words ≡ Some rest → ServesAll c many ps p (record { name = Some n; value = value } ∷ rest)
      → Apart many (given ++ labels many ps (record { name = Some n; value = value } ∷ rest)) → HoldsRules c h given
      → Ends name c (standing b h p) (word ∷ words) (given ++ labels many ps (record { name = Some n; value = value } ∷ rest))
  walks_attached words ih word n value b h p ps given rest l e serves apart holds =
      let new = new_row many given (labels many ps rest) n value serves.0.1 apart in
      let gone : has_row n (settled c h).rows ≡ false = rw holds.rows new in
      ends_next name c _ _ word words _ (attached_walked c name h p b n value word l serves.0.0.0)
      (attached_passes c name h p b n value word l serves.0.0.0 holds.passes gone)
      (walks_item words ih h _ p ps given (Some n) value rest e serves.1 apart (holds_attached c h given n value holds new))

  walks_value : (words : List Text) → Walks words → (word n : Text) (b : Bool) (h : Held) (p : ℕ) (ps : List Text) (given : List (Text × Text)) (rest : List Given)
      → is_value word ≡ true → items_after None words ≡ Some rest → ServesAll c many ps p (record { name = Some n; value = word } ∷ rest)
      → Apart many (given ++ labels many ps (record { name = Some n; value = word } ∷ rest)) → HoldsRules c h given
      → Ends name c (state c (Some n) b h p) (word ∷ words) (given ++ labels many ps (record { name = Some n; value = word } ∷ rest))
  walks_value words ih word n b h p ps given rest v e serves apart holds =
      let new = new_row many given (labels many ps rest) n word serves.0.1 apart in
      ends_next name c _ _ word words _ (value_walked c name h p n word v serves.0.0.1)
      (value_passes c name h p n word v)
      (walks_item words ih h _ p ps given (Some n) word rest e serves.1 apart (holds_option c h given n word holds serves.0.0.1 new))

  -- after a name come its value and the items after it
  waiting_first : (n : Text) (words : List Text) (items : List Given) → items_after (Some n) words ≡ Some items
      → (v : Text) × ((rest : List Given) × (items ≡ record { name = Some n; value = v } ∷ rest))
  waiting_first n [] items e = cc
  waiting_first n (w ∷ ws) items e = let s = item_some (Some n) w (λ x. items_after x ws) items e in (w, (s.1.0, s.1.2))

  walks_name : (words : List Text) → Walks words → (word n : Text) (b : Bool) (h : Held) (p : ℕ) (ps : List Text) (given : List (Text × Text)) (items : List Given)
      → long_of word ≡ Some (n, None) → items_after (Some n) words ≡ Some items → ServesAll c many ps p items
      → Apart many (given ++ labels many ps items) → HoldsRules c h given → Ends name c (standing b h p) (word ∷ words) (given ++ labels many ps items)
  walks_name words ih word n b h p ps given items l e serves apart holds =
      let first = waiting_first n words items e in
      let served = subst (ServesAll c many ps p) first.1.1 serves in
      ends_next name c _ _ word words _ (name_walked c name h p b n word l served.0.0.0)
      (name_passes c name h p b n word l served.0.0.0 holds.passes)
      (ih (Some n) b h p ps given items e serves apart holds)

  step_value : (words : List Text) → Walks words → (word n : Text) (b : Bool) (h : Held) (p : ℕ) (ps : List Text) (given : List (Text × Text)) (items : List Given)
      → items_after (Some n) (word ∷ words) ≡ Some items → ServesAll c many ps p items → Apart many (given ++ labels many ps items) → HoldsRules c h given
      → Ends name c (state c (Some n) b h p) (word ∷ words) (given ++ labels many ps items)
  step_value words ih word n b h p ps given items e serves apart holds =
      let s = item_some (Some n) word (λ x. items_after x words) items e in
      let E = λ (xs : List Given). Ends name c (state c (Some n) b h p) (word ∷ words) (given ++ labels many ps xs) in
      subst E (sym s.1.2) (walks_value words ih word n b h p ps given s.1.0 s.0 s.1.1 (subst (ServesAll c many ps p) s.1.2 serves)
      (subst (λ xs. Apart many (given ++ labels many ps xs)) s.1.2 apart) holds)

  step_flag : (words : List Text) → Walks words → (word : Text) (o : Option (Text × Option Text)) (b : Bool) (h : Held) (p : ℕ) (ps : List Text) (given : List (Text × Text))
      (items : List Given) → long_of word ≡ o → flag o (λ x. items_after x words) ≡ Some items → ServesAll c many ps p items → Apart many (given ++ labels many ps items)
      → HoldsRules c h given → Ends name c (standing b h p) (word ∷ words) (given ++ labels many ps items)
  step_flag words ih word None b h p ps given items l e serves apart holds = cc
  step_flag words ih word (Some (n, None)) b h p ps given items l e serves apart holds = walks_name words ih word n b h p ps given items l e serves apart holds
  step_flag words ih word (Some (n, Some v)) b h p ps given items l e serves apart holds =
      let s = item_some (Some n) v (λ x. items_after x words) items e in
      let E = λ (xs : List Given). Ends name c (standing b h p) (word ∷ words) (given ++ labels many ps xs) in
      subst E (sym s.1.2) (walks_attached words ih word n v b h p ps given s.1.0 l s.1.1 (subst (ServesAll c many ps p) s.1.2 serves)
      (subst (λ xs. Apart many (given ++ labels many ps xs)) s.1.2 apart) holds)

  step_none : (words : List Text) → Walks words → (word : Text) (plain b : Bool) (h : Held) (p : ℕ) (ps : List Text) (given : List (Text × Text)) (items : List Given)
      → is_value word ≡ plain → cond plain (item None word (λ x. items_after x words)) (flag (long_of word) (λ x. items_after x words)) ≡ Some items
      → ServesAll c many ps p items → Apart many (given ++ labels many ps items) → HoldsRules c h given
      → Ends name c (standing b h p) (word ∷ words) (given ++ labels many ps items)
  step_none words ih word true b h p ps given items v e serves apart holds =
      let s = item_some None word (λ x. items_after x words) items e in
      let E = λ (xs : List Given). Ends name c (standing b h p) (word ∷ words) (given ++ labels many ps xs) in
      subst E (sym s.1.2) (walks_positional words ih word b h p ps given s.1.0 s.0 s.1.1 (subst (ServesAll c many ps p) s.1.2 serves)
      (subst (λ xs. Apart many (given ++ labels many ps xs)) s.1.2 apart) holds)
  step_none words ih word false b h p ps given items v e serves apart holds = step_flag words ih word (long_of word) b h p ps given items refl e serves apart holds

  step : (word : Text) (words : List Text) → Walks words → Walks (word ∷ words)
  step word words ih (Some n) b h p ps given items e serves apart holds = step_value words ih word n b h p ps given items e serves apart holds
  step word words ih None b h p ps given items e serves apart holds = step_none words ih word (is_value word) b h p ps given items refl e serves apart holds

  nothing_left : (items : List Given) → Some [] ≡ Some items → items ≡ []
  nothing_left items e = cc

  walks_nothing : (b : Bool) (h : Held) (p : ℕ) (given : List (Text × Text)) → HoldsRules c h given → Ends name c (standing b h p) [] (given ++ [])
  unfolding walk_passes
  walks_nothing b h p given holds = record { held = h; several = b; place = p; passes = refl; end = refl; holds = subst (HoldsRules c h) (sym (append-nil given)) holds }

  pub walks : (words : List Text) → Walks words
  walks [] None b h p ps given items e serves apart holds =
      let E = λ (xs : List Given). Ends name c (standing b h p) [] (given ++ labels many ps xs) in
      subst E (sym (nothing_left items e)) (walks_nothing b h p given holds)
  walks [] (Some n) b h p ps given items e serves apart holds = cc
  walks (word ∷ words) waiting b h p ps given items e serves apart holds = step word words (walks words) waiting b h p ps given items e serves apart holds
