-- What the items of words that fit a command come to, under the ids of its arguments.
use Rattle.std.proofs.Common.{rules, ap, refl, sym, true, false, not, List, [], ◌∷◌, ◌++◌, ◌≡◌, ◌∙◌, ◌&&◌, ◌||◌, ℕ, suc, Bool, cond, Option, Some, None, subst, true≢false, length, arith, append_assoc, append-nil}
use Rattle.std.specs.Prelude.{option_map, find, fold, slice_get, unwrap_or, option_and_then}
use Rattle.std.specs.List.{list_any, list_all}
use Rattle.std.specs.Option.{option_map_or}
use Rattle.std.specs.Str.{bytes_eq}
use Rattle.std.proofs.lemmas.Slice.Eq.{bytes_eq-Decides}
use Rattle.clap.specs.Walk.{Rule, Row, first_of, more_values, stronger}
use Rattle.clap.specs.declared.builder.value_parser.Reading.TheVariants as reading
use Rattle.clap.specs.declared.parser.matches.ValueSource.TheVariants.{CommandLine}
use Rattle.command_items.specs.Items.{Text, Given, positionals, with_positional, is_named, is_option, has_only, once}
use Rattle.command_items.specs.Commands.{labels, next_place, places_after, value_in, values_in}
use Rattle.command_items.specs.Views.{values_under}
use Rattle.command_items.proofs.Walks.{Apart, HasOption, HasPositional, Serves, ServesAll, after_place, and_false, is_many, or_parts, position_after, repeats, rows_for, same_bytes, with_one}
use Rattle.command_items.proofs.Levels.{and_parts}

-- ---- the arguments of a command: its places in order, those that may stand several times, and its options

abbrev pub ServesBehind : List Rule → Option Text → ℕ → Type 0
ServesBehind c None p = Unit {0}
ServesBehind c (Some id) p = HasPositional c true id p

abbrev pub ServesPlaces : List Rule → Option Text → ℕ → List Text → Type 0
ServesPlaces c many p [] = ServesBehind c many p
ServesPlaces c many p (id ∷ ids) = HasPositional c false id p × (is_many many id ≡ false) × ServesPlaces c many (after_place p) ids

abbrev pub ServesOptions : List Rule → Option Text → List Text → Type 0
ServesOptions c many [] = Unit {0}
ServesOptions c many (n ∷ ns) = HasOption c n × (is_many many n ≡ false) × ServesOptions c many ns

-- no two ids are the same
abbrev pub lacks : List Text → Text → Bool
lacks ids id = not (list_any (bytes_eq id) ids)

abbrev pub distinct : List Text → Bool
distinct [] = true
distinct (id ∷ ids) = lacks ids id && distinct ids

pub record IsTable (c : List Rule) (many : Option Text) (places options : List Text) : Type 0 where
  pub places_served : ServesPlaces c many 1 places
  pub options_served : ServesOptions c many options
  pub places_distinct : distinct places ≡ true
  pub apart : list_all (lacks places) options ≡ true

pub same_text : (xs ys : Text) → bytes_eq xs ys ≡ true → xs ≡ ys
same_text xs ys e = search (rules, bytes_eq-Decides)

pub not_true : (b : Bool) → not b ≡ true → b ≡ false
not_true true e = absurd (true≢false (sym e))
not_true false e = refl

other_way : (xs ys : Text) → bytes_eq xs ys ≡ false → bytes_eq ys xs ≡ false
other_way xs ys e = search (rules, bytes_eq-Decides)

-- an option among those served
served_option : (c : List Rule) (many : Option Text) (ns : List Text) (n : Text) → ServesOptions c many ns → is_option ns n ≡ true → HasOption c n × (is_many many n ≡ false)
served_option c many [] n s e = absurd (true≢false (sym e))
served_option c many (o ∷ os) n s e = go (λ h. served_option c many os n s.2 h) (bytes_eq o n) refl e
  where
    go : (is_option os n ≡ true → HasOption c n × (is_many many n ≡ false)) → (b : Bool) → bytes_eq o n ≡ b → (b || is_option os n) ≡ true → HasOption c n × (is_many many n ≡ false)
    go ih true same h = subst (λ m. HasOption c m × (is_many many m ≡ false)) (same_text o n same) (s.0, s.1)
    go ih false same h = ih h

-- no option has an id of these
abbrev pub IsFree : List Text → List Text → Type 0
IsFree options ids = (n : Text) → is_option options n ≡ true → list_any (bytes_eq n) ids ≡ false

pub is_free : (options ids : List Text) → list_all (lacks ids) options ≡ true → IsFree options ids
is_free [] ids all n e = absurd (true≢false (sym e))
is_free (o ∷ os) ids all n e =
    let p = and_parts (lacks ids o) _ all in
    go (is_free os ids p.1 n) p.0 (bytes_eq o n) refl e
  where
    go : (is_option os n ≡ true → list_any (bytes_eq n) ids ≡ false) → lacks ids o ≡ true → (b : Bool) → bytes_eq o n ≡ b → (b || is_option os n) ≡ true → list_any (bytes_eq n) ids ≡ false
    go ih here true same h = subst (λ m. list_any (bytes_eq m) ids ≡ false) (same_text o n same) (not_true _ here)
    go ih here false same h = ih h

free_tail : (options : List Text) (id : Text) (ids : List Text) → IsFree options (id ∷ ids) → IsFree options ids
free_tail options id ids free n e = (or_parts (bytes_eq n id) _ (free n e)).1

-- there are places for so many positionals
abbrev pub HasRoom : Option Text → List Text → ℕ → Type 0
HasRoom None ps n = n ≡ length ps
HasRoom (Some id) ps n = Unit {0}

-- after a positional that had a place there is room for the others
room_behind : (many : Option Text) (id : Text) (ids : List Text) (n : ℕ) → HasRoom many (id ∷ ids) (suc n) → HasRoom many ids n
room_behind None id ids n room = omega arith
room_behind (Some m) id ids n room = tt

no_room : (n : ℕ) → suc n ≡ 0 → ⊥
no_room n e = omega arith

pub all_served : (c : List Rule) (many : Option Text) (options : List Text) → ServesOptions c many options → (items : List Given) (ps : List Text) (p : ℕ)
    → ServesPlaces c many p ps → HasRoom many ps (length (positionals items)) → has_only options items ≡ true → ServesAll c many ps p items
all_served c many options s [] ps p places room known = tt
all_served c many options s (g ∷ gs) ps p places room known =
    let k = and_parts (option_map_or (is_option options) g.name true) _ known in
    go (λ ids q at n. all_served c many options s gs ids q at n k.1) g.name ps places room k.0
  where
    Later : Option Text → Type 0
    Later m = (ids : List Text) (q : ℕ) → ServesPlaces c m q ids → HasRoom m ids (length (positionals gs)) → ServesAll c m ids q gs

    behind : (m : Option Text) → Later m → ServesPlaces c m p [] → HasRoom m [] (suc (length (positionals gs))) → Serves c m [] p None × ServesAll c m [] p gs
    behind None ih at room = absurd (no_room (length (positionals gs)) room)
    behind (Some id) ih at room = (at, ih [] p at tt)

    go : Later many → (name : Option Text) (ids : List Text) → ServesPlaces c many p ids → HasRoom many ids (length (with_positional name g.value (positionals gs)))
        → option_map_or (is_option options) name true ≡ true → Serves c many ids p name × ServesAll c many (places_after name ids) (position_after ids name p) gs
    go ih (Some n) ids at room here = (served_option c many options n s here, ih ids p at room)
    go ih None [] at room here = behind many ih at room
    go ih None (id ∷ ids) at room here = ((at.0, at.1), ih ids (after_place p) at.2 (room_behind many id ids (length (positionals gs)) room))

-- ---- none that may stand only once is labelled as one before it

absent : (many : Option Text) (x v : Text) (items : List Given) (ps : List Text) → HasRoom many ps (length (positionals items)) → list_any (bytes_eq x) ps ≡ false
    → list_any (is_named x) items ≡ false → list_any (repeats many (x, v)) (labels many ps items) ≡ false
absent many x v [] ps room places names = refl
absent many x v (g ∷ gs) ps room places names =
    let n = or_parts (is_named x g) _ names in
    go (λ ids k at. absent many x v gs ids k at n.1) g.name ps room places n.0
  where
    behind : (m : Option Text) → (HasRoom m [] (length (positionals gs)) → list_any (repeats m (x, v)) (labels m [] gs) ≡ false) → HasRoom m [] (suc (length (positionals gs)))
        → (repeats m (x, v) (next_place m [], g.value) || list_any (repeats m (x, v)) (labels m [] gs)) ≡ false
    behind None ih room = absurd (no_room (length (positionals gs)) room)
    behind (Some id) ih room = rw (same_bytes id) (ih tt)

    go : ((ids : List Text) → HasRoom many ids (length (positionals gs)) → list_any (bytes_eq x) ids ≡ false → list_any (repeats many (x, v)) (labels many ids gs) ≡ false)
        → (name : Option Text) (ids : List Text) → HasRoom many ids (length (with_positional name g.value (positionals gs))) → list_any (bytes_eq x) ids ≡ false
        → option_map_or (bytes_eq x) name false ≡ false
        → (repeats many (x, v) (unwrap_or name (next_place many ids), g.value) || list_any (repeats many (x, v)) (labels many (places_after name ids) gs)) ≡ false
    go ih (Some n) ids room at here = rw (here, and_false (not (is_many many n))) (ih ids room at)
    go ih None [] room at here = behind many (λ r. ih [] r refl) room
    go ih None (id ∷ ids) room at here =
        let o = or_parts (bytes_eq x id) _ at in
        rw (o.0, and_false (not (is_many many id))) (ih ids (room_behind many id ids (length (positionals gs)) room) o.1)

-- a place has no option's name
place_unnamed : (options : List Text) (id : Text) (items : List Given) → ((n : Text) → is_option options n ≡ true → bytes_eq n id ≡ false) → has_only options items ≡ true
    → list_any (is_named id) items ≡ false
place_unnamed options id [] free known = refl
place_unnamed options id (g ∷ gs) free known =
    let k = and_parts (option_map_or (is_option options) g.name true) _ known in
    go (place_unnamed options id gs free k.1) g.name k.0
  where
    go : list_any (is_named id) gs ≡ false → (name : Option Text) → option_map_or (is_option options) name true ≡ true
        → (option_map_or (bytes_eq id) name false || list_any (is_named id) gs) ≡ false
    go ih None here = ih
    go ih (Some n) here = rw (other_way n id (free n here)) ih

pub labelled_apart : (many : Option Text) (options : List Text) (items : List Given) (ps : List Text) → HasRoom many ps (length (positionals items)) → has_only options items ≡ true
    → once items ≡ true → distinct ps ≡ true → IsFree options ps → ((n : Text) → is_option options n ≡ true → is_many many n ≡ false) → Apart many (labels many ps items)
labelled_apart many options [] ps room known one apart free single = tt
labelled_apart many options (g ∷ gs) ps room known one apart free single =
    let k = and_parts (option_map_or (is_option options) g.name true) _ known in
    let o = and_parts (not (option_map_or (λ name. list_any (is_named name) gs) g.name false)) _ one in
    go (λ ids n d f. labelled_apart many options gs ids n k.1 o.1 d f single) k.1 g.name ps room k.0 (not_true _ o.0) apart free
  where
    Later : Option Text → Type 0
    Later m = (ids : List Text) → HasRoom m ids (length (positionals gs)) → distinct ids ≡ true → IsFree options ids → Apart m (labels m ids gs)

    behind : (m : Option Text) → ((n : Text) → is_option options n ≡ true → is_many m n ≡ false) → Later m → has_only options gs ≡ true → IsFree options []
        → HasRoom m [] (suc (length (positionals gs)))
        → (list_any (repeats m (next_place m [], g.value)) (labels m [] gs) ≡ false) × Apart m (labels m [] gs)
    behind None once_only ih rest f room = absurd (no_room (length (positionals gs)) room)
    behind (Some id) once_only ih rest f room = (absent (Some id) id g.value gs [] tt refl (place_unnamed options id gs once_only rest), ih [] tt refl f)

    go : Later many → has_only options gs ≡ true
        → (name : Option Text) (ids : List Text) → HasRoom many ids (length (with_positional name g.value (positionals gs))) → option_map_or (is_option options) name true ≡ true
        → option_map_or (λ name. list_any (is_named name) gs) name false ≡ false → distinct ids ≡ true → IsFree options ids
        → (list_any (repeats many (unwrap_or name (next_place many ids), g.value)) (labels many (places_after name ids) gs) ≡ false) × Apart many (labels many (places_after name ids) gs)
    go ih rest (Some n) ids room here none d f = (absent many n g.value gs ids room (f n here) none, ih ids room d f)
    go ih rest None [] room here none d f = behind many single ih rest f room
    go ih rest None (id ∷ ids) room here none d f =
        let e = and_parts (lacks ids id) _ d in
        let unnamed = place_unnamed options id gs (λ n k. (or_parts (bytes_eq n id) _ (f n k)).0) rest in
        let after = room_behind many id ids (length (positionals gs)) room in
        (absent many id g.value gs ids after (not_true _ e.0) unnamed, ih ids after e.1 (free_tail options id ids f))

-- no option may stand several times
pub alone : (c : List Rule) (many : Option Text) (options : List Text) → ServesOptions c many options → (n : Text) → is_option options n ≡ true → is_many many n ≡ false
alone c many options s n e = (served_option c many options n s e).1

-- ---- what is read of the rows

-- the value, where its name is this one
abbrev if_named : Text → Text × Text → List Text
if_named name v = cond (bytes_eq v.0 name) (v.1 ∷ []) []

-- a row of this name goes before others of it
abbrev under_row : Text → Row → List Text → List Text
under_row name r rest = cond (bytes_eq r.id name) r.values rest

under_first : (name : Text) (r : Row) (rs : List Row) → values_under (r ∷ rs) name ≡ under_row name r (values_under rs name)
under_first name r rs = pick (bytes_eq r.id name)
  where
    pick : (b : Bool) → unwrap_or (option_map (λ (x : Row). x.values) (cond b (Some r) (find (λ (x : Row). bytes_eq x.id name) rs))) [] ≡ cond b r.values (values_under rs name)
    pick true = refl
    pick false = refl

-- a text that is another than the first is not the name that the first is
other_name : (xs ys name : Text) → bytes_eq xs ys ≡ false → bytes_eq xs name ≡ true → bytes_eq ys name ≡ false
other_name xs ys name apart is = subst (λ t. bytes_eq ys t ≡ false) (same_text xs name is) (other_way xs ys apart)

-- a value more stands behind those that its name had
under_more : (name : Text) (v : Text × Text) (rows : List Row) → values_under (with_one rows v) name ≡ values_under rows name ++ if_named name v
under_more name v [] = pick (bytes_eq v.0 name)
  where
    made : Row
    made = record { id = v.0; values = v.1 ∷ []; count = None; source = Some CommandLine; reading = reading.AsWritten }

    pick : (b : Bool) → unwrap_or (option_map (λ (x : Row). x.values) (cond b (Some made) None)) [] ≡ cond b (v.1 ∷ []) []
    pick true = refl
    pick false = refl
under_more name v (r ∷ rs) = go (bytes_eq r.id v.0) refl (under_more name v rs)
  where
    grown : (b : Bool) (xs rest : List Text) → cond b (xs ++ v.1 ∷ []) rest ≡ cond b xs rest ++ cond b (v.1 ∷ []) []
    grown true xs rest = refl
    grown false xs rest = sym (append-nil rest)

    passed : (b : Bool) → bytes_eq r.id name ≡ b → bytes_eq r.id v.0 ≡ false → values_under (with_one rs v) name ≡ values_under rs name ++ if_named name v
        → cond b r.values (values_under (with_one rs v) name) ≡ cond b r.values (values_under rs name) ++ if_named name v
    passed true is apart ih = rw (other_name r.id v.0 name apart is) (sym (append-nil r.values))
    passed false is apart ih = ih

    go : (b : Bool) → bytes_eq r.id v.0 ≡ b → values_under (with_one rs v) name ≡ values_under rs name ++ if_named name v
        → values_under (cond b (more_values CommandLine (v.1 ∷ []) r ++ rs) (r ∷ with_one rs v)) name ≡ values_under (r ∷ rs) name ++ if_named name v
    go true same ih =
        under_first name (record r { values = r.values ++ v.1 ∷ []; source = Some (stronger r.source CommandLine) }) rs
        ∙ grown (bytes_eq r.id name) r.values (values_under rs name)
        ∙ ap (λ t. under_row name r (values_under rs name) ++ cond (bytes_eq t name) (v.1 ∷ []) []) (same_text r.id v.0 same)
        ∙ ap (λ xs. xs ++ if_named name v) (sym (under_first name r rs))
    go false apart ih =
        under_first name r (with_one rs v)
        ∙ passed (bytes_eq r.id name) refl apart ih
        ∙ ap (λ xs. xs ++ if_named name v) (sym (under_first name r rs))

under_all : (name : Text) (vs : List (Text × Text)) (rows : List Row) → values_under (fold with_one rows vs) name ≡ values_under rows name ++ values_in vs name
under_all name [] rows = sym (append-nil (values_under rows name))
under_all name (v ∷ vs) rows =
    under_all name vs (with_one rows v)
    ∙ ap (λ xs. xs ++ values_in vs name) (under_more name v rows)
    ∙ append_assoc (values_under rows name) (if_named name v) (values_in vs name)
    ∙ ap (λ xs. values_under rows name ++ xs) (pick (bytes_eq v.0 name))
  where
    pick : (b : Bool) → cond b (v.1 ∷ []) [] ++ values_in vs name ≡ cond b (v.1 ∷ values_in vs name) (values_in vs name)
    pick true = refl
    pick false = refl

-- the values of the rows are those under their names
pub under-rows_for : (values : List (Text × Text)) (name : Text) → values_under (rows_for values) name ≡ values_in values name
under-rows_for values name = under_all name values []

-- the first value of a row is the first of those under its name
first_under : (rows : List Row) (name : Text) → first_of name rows ≡ slice_get (values_under rows name) 0
first_under rows name = pick (find (λ (r : Row). bytes_eq r.id name) rows)
  where
    pick : (o : Option Row) → option_and_then (λ (r : Row). slice_get r.values 0) o ≡ slice_get (unwrap_or (option_map (λ (r : Row). r.values) o) []) 0
    pick None = refl
    pick (Some r) = refl

first_in : (values : List (Text × Text)) (name : Text) → slice_get (values_in values name) 0 ≡ value_in values name
first_in [] name = refl
first_in (v ∷ vs) name = pick (bytes_eq v.0 name) (first_in vs name)
  where
    pick : (b : Bool) → slice_get (values_in vs name) 0 ≡ value_in vs name
        → slice_get (cond b (v.1 ∷ values_in vs name) (values_in vs name)) 0 ≡ option_map (λ (x : Text × Text). x.1) (cond b (Some v) (find (λ (x : Text × Text). bytes_eq x.0 name) vs))
    pick true ih = refl
    pick false ih = ih

pub first_of-rows_for : (values : List (Text × Text)) (name : Text) → first_of name (rows_for values) ≡ value_in values name
first_of-rows_for values name = first_under (rows_for values) name ∙ ap (λ xs. slice_get xs 0) (under-rows_for values name) ∙ first_in values name
