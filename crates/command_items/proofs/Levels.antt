-- What clap makes of a command and words of its form.
use Rattle.std.proofs.Common.{ap, refl, sym, true, false, not, map, List, [], ◌∷◌, ◌++◌, ◌≡◌, ◌∙◌, ◌&&◌, Bool, cond, Some, codes, true≢false, append_assoc, append-nil}
use Rattle.std.specs.Prelude.{fold, option_map, find}
use Rattle.std.specs.List.{list_all}
use Rattle.std.specs.Str.{bytes_eq}
use Rattle.clap.specs.Walk.{Held, Names, Row, Rule, Walk, idle, walked, settled, answers_to, finished, has_row, nothing_held, with_default, is_empty}
use Rattle.clap.specs.Simple.{App, Shape, new_shape, label_of, built, entered, is_simple, subcommand_of}
use Rattle.clap.specs.Takes.{walk_passes, default_passes, level_passes, takes, is_valid}
use Rattle.clap.proofs.SimpleLemmas.{is_nil}
use Rattle.clap.proofs.WalkLemmas.{find-map}
use Rattle.command_items.specs.Items.{Text}
use Rattle.command_items.proofs.Walks.{Ends, leaf, or_true, rows_for, standing}

-- no argument has a default, is required or has a rule on another
pub record IsBare (c : List Rule) : Type 0 where
  pub defaults : list_all (λ a. is_empty a.defaults) c ≡ true
  pub passes : list_all default_passes c ≡ true
  pub valid : (rows : List Row) → is_valid (leaf [] c) rows false ≡ true

pub and_parts : (a b : Bool) → (a && b) ≡ true → (a ≡ true) × (b ≡ true)
and_parts true b e = (refl, e)
and_parts false b e = absurd (true≢false (sym e))

one_default : (rows : List Row) (a : Rule) → is_empty a.defaults ≡ true → with_default rows a ≡ rows
one_default rows a e = rw (is_nil a.defaults e) (go (has_row a.id rows))
  where
    go : (b : Bool) → cond b rows rows ≡ rows
    go true = refl
    go false = refl

no_defaults : (c : List Rule) (rows : List Row) → list_all (λ a. is_empty a.defaults) c ≡ true → fold with_default rows c ≡ rows
no_defaults [] rows e = refl
no_defaults (a ∷ c) rows e =
    let p = and_parts (is_empty a.defaults) _ e in
    ap (λ r. fold with_default r c) (one_default rows a p.0) ∙ no_defaults c rows p.1

-- a subcommand takes the words, and has a row for each item
pub leaf_passes : (name : Text) (c : List Rule) (words : List Text) (given : List (Text × Text)) → IsBare c → Ends name c (standing false nothing_held 1) words given
    → level_passes (leaf name c) [] nothing_held words false ≡ true
leaf_passes name c words given bare e = rw (e.passes, e.end, e.holds.passes, bare.passes) (bare.valid _)

pub leaf_rows : (name : Text) (c : List Rule) (words : List Text) (given : List (Text × Text)) → IsBare c → Ends name c (standing false nothing_held 1) words given
    → Rattle.clap.specs.Walk.rows_after c [] words ≡ rows_for given
leaf_rows name c words given bare e = rw e.end (no_defaults c _ bare.defaults ∙ e.holds.rows)

-- ---- the command above

abbrev pub root : Text → List Shape → App
root name subs = record {
  top = record (new_shape name) {
    is_leaf = false;
    no_binary_name = true;
    disable_help_flag = true;
    disable_help_subcommand = true;
    is_built = true;
  };
  subs = subs;
}

abbrev stopped_at : Text → List Text → Walk
stopped_at name words = record (standing false nothing_held 1) { stopped = Some (name, words) }

stopped_walk : (names : Names) (name : Text) (words rest : List Text) → fold (walked [] names) (stopped_at name words) rest ≡ stopped_at name (words ++ rest)
unfolding walked
stopped_walk names name words [] = ap (stopped_at name) (sym (append-nil words))
stopped_walk names name words (w ∷ rest) = stopped_walk names name (words ++ w ∷ []) rest ∙ ap (stopped_at name) (append_assoc words (w ∷ []) rest)

stopped_passes : (s : Shape) (names : Names) (name : Text) (words rest : List Text) → s.rules ≡ [] → walk_passes s names (stopped_at name words) rest ≡ true
unfolding walk_passes walked
stopped_passes s names name words [] none = refl
stopped_passes s names name words (w ∷ rest) none = stopped_passes s names name (words ++ w ∷ []) rest none

module _ (name command : Text) (subs : List Shape) (c : List Rule) (named : find (λ s. answers_to command (label_of s)) subs ≡ Some (leaf command c)) where
  label_found : find (answers_to command) (map label_of subs) ≡ Some (command, [])
  label_found = sym (find-map (answers_to command) label_of subs) ∙ ap (option_map label_of) named

  enters : walked [] (map label_of subs) (standing false nothing_held 1) command ≡ stopped_at command []
  unfolding walked
  enters = rw label_found refl

  root_walk : (rest : List Text) → fold (walked [] (map label_of subs)) (standing false nothing_held 1) (command ∷ rest) ≡ stopped_at command rest
  root_walk rest = ap (λ w. fold (walked [] (map label_of subs)) w rest) enters ∙ stopped_walk (map label_of subs) command [] rest

  root_passes : (rest : List Text) → walk_passes (root name subs).top (map label_of subs) (standing false nothing_held 1) (command ∷ rest) ≡ true
  unfolding walk_passes
  root_passes rest = rw (label_found, or_true (not (bytes_eq command (codes "help"))), enters) (stopped_passes (root name subs).top (map label_of subs) command [] rest refl)

  module _ (app : App) (bare : IsBare c) (rest : List Text) (given : List (Text × Text)) (e : Ends command c (standing false nothing_held 1) rest given)
      (simple : is_simple app ≡ true) (is : built app ≡ root name subs) (bin : app.top.no_binary_name ≡ true) where
    pub takes_form : takes app (command ∷ rest) ≡ true
    takes_form = rw (simple, is, bin, root_walk rest, named, leaf_passes command c rest given bare e, root_passes rest) refl

    pub form_rows : subcommand_of app (command ∷ rest) ≡ Some (command, rows_for given)
    form_rows = rw (is, bin) (ap (λ (w : Walk). entered (root name subs) w.stopped) (root_walk rest)
        ∙ rw named (ap (λ rows. Some (command, rows)) (leaf_rows command c rest given bare e)))
