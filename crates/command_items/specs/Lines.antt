-- The commands: each with its positionals and its options, and what `clap` is told of them.
use Rattle.std.specs.Prelude.{ℕ, true, codes, List, [], ◌∷◌, ◌++◌, ◌+◌, Option, Some, None, map, find, fold, length}
use Rattle.std.specs.Option.{option_map_or}
use Rattle.std.specs.Str.{bytes_eq}
use Rattle.clap.specs.Words.{App, Rule, new_app, new_rule, with_rule, with_subcommand}
use Rattle.clap.specs.declared.builder.action.ArgAction.TheVariants.{Append}
use Rattle.command_items.specs.Items.{Text}

-- a command, the names of its positionals in order, the name of those behind them that are 1 to 64, and the names of its options
pub record Line : Type 0 where
  pub command : Text
  pub places : List Text
  pub many : Option Text
  pub options : List Text

-- the fewest positionals of the command, and the most
abbrev pub least_places : Line → ℕ
least_places l = length l.places + option_map_or (λ name. 1) l.many 0

abbrev pub most_places : Line → ℕ
most_places l = length l.places + option_map_or (λ name. 64) l.many 0

abbrev pub solve_line : Line
solve_line = record {
  command = codes "solve";
  places = codes "net" ∷ [];
  many = None;
  options = codes "form" ∷ codes "nodes" ∷ codes "gap" ∷ codes "journal" ∷ codes "rule" ∷ codes "squeeze" ∷ codes "raise" ∷ [];
}

abbrev pub check_line : Line
check_line = record { command = codes "check"; places = codes "net" ∷ codes "cert" ∷ []; many = None; options = [] }

abbrev pub report_line : Line
report_line = record { command = codes "report"; places = codes "net" ∷ codes "cert" ∷ []; many = None; options = [] }

abbrev pub formulate_line : Line
formulate_line = record { command = codes "formulate"; places = codes "net" ∷ []; many = None; options = codes "form" ∷ [] }

abbrev pub make_line : Line
make_line = record { command = codes "make"; places = codes "number" ∷ []; many = None; options = [] }

abbrev pub trial_line : Line
trial_line = record { command = codes "trial"; places = codes "number" ∷ []; many = None; options = [] }

abbrev pub jobs_line : Line
jobs_line = record { command = codes "jobs"; places = codes "net" ∷ []; many = None; options = codes "journal" ∷ codes "count" ∷ [] }

abbrev pub work_line : Line
work_line = record { command = codes "work"; places = codes "net" ∷ codes "jobs" ∷ []; many = None; options = codes "form" ∷ [] }

abbrev pub gather_line : Line
gather_line = record { command = codes "gather"; places = codes "net" ∷ codes "jobs" ∷ []; many = Some (codes "answers"); options = codes "journal" ∷ [] }

abbrev pub tight_line : Line
tight_line = record { command = codes "tight"; places = codes "net" ∷ codes "cert" ∷ []; many = None; options = codes "form" ∷ codes "pivots" ∷ [] }

abbrev pub checktight_line : Line
checktight_line = record { command = codes "checktight"; places = codes "net" ∷ codes "cert" ∷ codes "tight" ∷ []; many = None; options = [] }

abbrev pub lines : List Line
lines =
    solve_line ∷ check_line ∷ report_line ∷ formulate_line ∷ make_line ∷ trial_line ∷ jobs_line ∷ work_line ∷ gather_line ∷ tight_line ∷ checktight_line ∷ []

-- the line of the command
abbrev pub line_named : Text → Option Line
line_named command = find (λ l. bytes_eq command l.command) lines

-- ---- the same, as `clap` is told of them

abbrev pub long_rule : Text → Rule
long_rule name = record (new_rule name) { long = Some name }

-- a positional that may stand several times
abbrev pub many_rule : Text → Rule
many_rule name = record (new_rule name) { action = Some Append }

abbrev pub many_rules : Option Text → List Rule
many_rules None = []
many_rules (Some name) = many_rule name ∷ []

-- a subcommand with its arguments
abbrev pub line_app : Line → App
line_app l = fold with_rule (new_app l.command) (map new_rule l.places ++ (many_rules l.many ++ map long_rule l.options))

-- the program with no command: words without its name, and no help
abbrev pub bare_app : App
bare_app = record {
  top = record (new_app (codes "pool")).top {
    no_binary_name = true;
    disable_help_flag = true;
    disable_help_subcommand = true;
  };
  subs = [];
}

abbrev pub app_with : App → List Line → App
app_with = fold (λ a l. with_subcommand a (line_app l).top)

-- the program with all its commands
abbrev pub program_app : App
program_app = app_with bare_app lines
