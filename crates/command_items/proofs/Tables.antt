-- The commands, as `clap` has them once they are built, and what it makes of words that fit one.
use Rattle.std.proofs.Common.{ap, arith, refl, sym, map, ◌++◌, subst, true, false, List, [], ◌∷◌, ◌≡◌, ◌∙◌, ◌+◌, ℕ, Bool, cond, Option, Some, None, codes, true≢false, length}
use Rattle.std.specs.Prelude.{find, nat_le}
use Rattle.std.specs.Option.{option_map_or}
use Rattle.std.specs.Str.{bytes_eq}
use Rattle.clap.specs.Walk.{Rule, answers_to, nothing_held}
use Rattle.clap.specs.Simple.{Shape, label_of, built, is_simple, subcommand_of}
use Rattle.clap.specs.Takes.{takes}
use Rattle.command_items.specs.Items.{Text, Given, fits, has_only, items_of, once, positionals}
use Rattle.command_items.specs.Lines.{Line, check_line, checktight_line, formulate_line, gather_line, jobs_line, least_places, line_named, lines, make_line, most_places}
use Rattle.command_items.specs.Lines.{program_app, report_line, solve_line, tight_line, trial_line, work_line}
use Rattle.command_items.specs.Commands.{Commands, labelled}
use Rattle.command_items.proofs.Readings.{items_read, read_items}
use Rattle.command_items.specs.Views.{fits_command, fits_line, has_form}
use Rattle.command_items.proofs.Walks.{Ends, after_place, leaf, option_rule, positional_rule, rows_for, standing, walks}
use Rattle.command_items.proofs.Levels.{IsBare, form_rows, root, takes_form}
use Rattle.command_items.proofs.ItemLemmas.{HasRoom, IsTable, all_served, alone, is_free, labelled_apart, same_text}
use Rattle.std.proofs.lemmas.Bool.{and_parts}
use Rattle.std.proofs.lemmas.Bool.Decides.{nat_tests}

abbrev pub rules_behind : Option Text → ℕ → List Rule
rules_behind None p = []
rules_behind (Some id) p = positional_rule true id p ∷ []

abbrev pub place_rules : Option Text → ℕ → List Text → List Rule
place_rules many p [] = rules_behind many p
place_rules many p (id ∷ ids) = positional_rule false id p ∷ place_rules many (after_place p) ids

abbrev pub rules_of : Line → List Rule
rules_of l = place_rules l.many 1 l.places ++ map option_rule l.options

abbrev pub subs : List Shape
subs = map (λ l. leaf l.command (rules_of l)) lines

program_built : built program_app ≡ root (codes "pool") subs
program_built = refl

pub program_simple : is_simple program_app ≡ true
program_simple = refl

-- the line's arguments serve it
pub record Proper (l : Line) : Type 0 where
  pub table : IsTable (rules_of l) l.many l.places l.options
  pub bare : IsBare (rules_of l)
  pub named : find (λ s. answers_to l.command (label_of s)) subs ≡ Some (leaf l.command (rules_of l))

solve_proper : Proper solve_line
solve_proper = record {
  table = record { places_served = ((refl, refl), refl, tt); options_served = ((refl, refl), refl, ((refl, refl), refl, ((refl, refl), refl, ((refl, refl), refl, ((refl, refl), refl, ((refl, refl), refl, ((refl, refl), refl, tt))))))); places_distinct = refl; apart = refl };
  bare = record { defaults = refl; passes = refl; valid = λ rows. refl };
  named = refl;
}

check_proper : Proper check_line
check_proper = record {
  table = record { places_served = ((refl, refl), refl, ((refl, refl), refl, tt)); options_served = tt; places_distinct = refl; apart = refl };
  bare = record { defaults = refl; passes = refl; valid = λ rows. refl };
  named = refl;
}

report_proper : Proper report_line
report_proper = record {
  table = record { places_served = ((refl, refl), refl, ((refl, refl), refl, tt)); options_served = tt; places_distinct = refl; apart = refl };
  bare = record { defaults = refl; passes = refl; valid = λ rows. refl };
  named = refl;
}

formulate_proper : Proper formulate_line
formulate_proper = record {
  table = record { places_served = ((refl, refl), refl, tt); options_served = ((refl, refl), refl, tt); places_distinct = refl; apart = refl };
  bare = record { defaults = refl; passes = refl; valid = λ rows. refl };
  named = refl;
}

make_proper : Proper make_line
make_proper = record {
  table = record { places_served = ((refl, refl), refl, tt); options_served = tt; places_distinct = refl; apart = refl };
  bare = record { defaults = refl; passes = refl; valid = λ rows. refl };
  named = refl;
}

trial_proper : Proper trial_line
trial_proper = record {
  table = record { places_served = ((refl, refl), refl, tt); options_served = tt; places_distinct = refl; apart = refl };
  bare = record { defaults = refl; passes = refl; valid = λ rows. refl };
  named = refl;
}

jobs_proper : Proper jobs_line
jobs_proper = record {
  table = record { places_served = ((refl, refl), refl, tt); options_served = ((refl, refl), refl, ((refl, refl), refl, tt)); places_distinct = refl; apart = refl };
  bare = record { defaults = refl; passes = refl; valid = λ rows. refl };
  named = refl;
}

work_proper : Proper work_line
work_proper = record {
  table = record { places_served = ((refl, refl), refl, ((refl, refl), refl, tt)); options_served = ((refl, refl), refl, tt); places_distinct = refl; apart = refl };
  bare = record { defaults = refl; passes = refl; valid = λ rows. refl };
  named = refl;
}

gather_proper : Proper gather_line
gather_proper = record {
  table = record { places_served = ((refl, refl), refl, ((refl, refl), refl, (refl, refl))); options_served = ((refl, refl), refl, tt); places_distinct = refl; apart = refl };
  bare = record { defaults = refl; passes = refl; valid = λ rows. refl };
  named = refl;
}

tight_proper : Proper tight_line
tight_proper = record {
  table = record { places_served = ((refl, refl), refl, ((refl, refl), refl, tt)); options_served = ((refl, refl), refl, ((refl, refl), refl, tt)); places_distinct = refl; apart = refl };
  bare = record { defaults = refl; passes = refl; valid = λ rows. refl };
  named = refl;
}

checktight_proper : Proper checktight_line
checktight_proper = record {
  table = record { places_served = ((refl, refl), refl, ((refl, refl), refl, ((refl, refl), refl, tt))); options_served = tt; places_distinct = refl; apart = refl };
  bare = record { defaults = refl; passes = refl; valid = λ rows. refl };
  named = refl;
}

abbrev Each : List Line → Type 0
Each [] = Unit {0}
Each (l ∷ ls) = Proper l × Each ls

all_proper : Each lines
all_proper =
    (solve_proper, (check_proper, (report_proper, (formulate_proper, (make_proper, (trial_proper, (jobs_proper, (work_proper, (gather_proper, (tight_proper, (checktight_proper, tt)))))))))))

-- a line that is found is proper, and has the command
found : (command : Text) (ls : List Line) (l : Line) → Each ls → find (λ x. bytes_eq command x.command) ls ≡ Some l → Proper l × (command ≡ l.command)
found command [] l each e = cc
found command (x ∷ xs) l each e = go (λ h. found command xs l each.1 h) (bytes_eq command x.command) refl e
  where
    go : (find (λ y. bytes_eq command y.command) xs ≡ Some l → Proper l × (command ≡ l.command)) → (b : Bool) → bytes_eq command x.command ≡ b
        → cond b (Some x) (find (λ y. bytes_eq command y.command) xs) ≡ Some l → Proper l × (command ≡ l.command)
    go ih true is h = let same : x ≡ l = cc in subst (λ y. Proper y × (command ≡ y.command)) same (each.0, same_text _ _ is)
    go ih false is h = ih h

pub line_found : (command : Text) (l : Line) → line_named command ≡ Some l → Proper l × (command ≡ l.command)
line_found command l e = found command lines l all_proper e

-- what fits a command
pub record Fits (items : List Given) (l : Line) : Type 0 where
  pub room : HasRoom l.many l.places (length (positionals items))
  pub known : has_only l.options items ≡ true
  pub each_once : once items ≡ true

fits_room : (many : Option Text) (places : List Text) (n : ℕ) → nat_le (length places + option_map_or (λ name. 1) many 0) n ≡ true
    → nat_le n (length places + option_map_or (λ name. 64) many 0) ≡ true → HasRoom many places n
fits_room None places n least most = grind (arith, nat_tests)
fits_room (Some id) places n least most = tt

pub fits_parts : (l : Line) (items : List Given) → fits (least_places l) (most_places l) l.options items ≡ true → Fits items l
fits_parts l items e =
    let p = and_parts _ _ e in
    let c = and_parts _ _ p.0 in
    let q = and_parts _ _ p.1 in
    record { room = fits_room l.many l.places _ c.0 c.1; known = q.0; each_once = q.1 }

module _ (l : Line) (proper : Proper l) where
  ends : (rest : List Text) (items : List Given) → items_of rest ≡ Some items → Fits items l → Ends l.command (rules_of l) (standing false nothing_held 1) rest (labelled l items)
  ends rest items read f =
      let t = proper.table in
      let served = all_served (rules_of l) l.many l.options t.options_served items l.places 1 t.places_served f.room f.known in
      let apart = labelled_apart l.many l.options items l.places f.room f.known f.each_once t.places_distinct (is_free l.options l.places t.apart)
      (alone (rules_of l) l.many l.options t.options_served) in
      walks l.command (rules_of l) l.many rest None false nothing_held 1 l.places [] items read served apart (record { rows = refl; passes = refl })

  pub takes_words : (words : List Text) (items : List Given) → Commands words l items → takes program_app words ≡ true
  takes_words words items w =
      let f = fits_parts l items w.fitting in
      ap (takes program_app) w.first
      ∙ takes_form (codes "pool") l.command subs (rules_of l) proper.named program_app proper.bare w.rest (labelled l items)
      (ends w.rest items (read_items w.rest items w.read) f) program_simple program_built refl

  pub rows_words : (words : List Text) (items : List Given) → Commands words l items → subcommand_of program_app words ≡ Some (l.command, rows_for (labelled l items))
  rows_words words items w =
      let f = fits_parts l items w.fitting in
      ap (subcommand_of program_app) w.first
      ∙ form_rows (codes "pool") l.command subs (rules_of l) proper.named program_app proper.bare w.rest (labelled l items)
      (ends w.rest items (read_items w.rest items w.read) f) program_simple program_built refl

-- words of the form are a command of the table and its items
pub record Formed (words : List Text) : Type 0 where
  pub line : Line
  pub items : List Given
  pub known : line_named line.command ≡ Some line
  pub proper : Proper line
  pub commands : Commands words line items

pub formed : (words : List Text) → has_form words ≡ true → Formed words
formed [] e = absurd (true≢false (sym e))
formed (command ∷ rest) e = go (items_of rest) refl e
  where
    lined : (items : List Given) → items_of rest ≡ Some items → (o : Option Line) → line_named command ≡ o → option_map_or (fits_line items) o false ≡ true → Formed (command ∷ rest)
    lined items read None is h = absurd (true≢false (sym h))
    lined items read (Some l) is h =
        let f = line_found command l is in
        record {
          line = l;
          items = items;
          known = subst (λ t. line_named t ≡ Some l) f.1 is;
          proper = f.0;
          commands = record { rest = rest; first = ap (λ t. t ∷ rest) f.1; read = items_read rest items read; fitting = h };
        }

    go : (o : Option (List Given)) → items_of rest ≡ o → option_map_or (fits_command command) o false ≡ true → Formed (command ∷ rest)
    go None read h = absurd (true≢false (sym h))
    go (Some items) read h = lined items read (line_named command) refl h

pub commands_form : (words : List Text) (l : Line) (items : List Given) → line_named l.command ≡ Some l → Commands words l items → has_form words ≡ true
commands_form words l items known w = ap has_form w.first ∙ rw (read_items w.rest items w.read, known) w.fitting

pub form_takes : (words : List Text) → has_form words ≡ true → takes program_app words ≡ true
form_takes words e = let f = formed words e in takes_words f.line f.proper words f.items f.commands
