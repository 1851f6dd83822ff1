-- What the rows of `clap`'s matches say is what the words ask.
use Rattle.std.proofs.Common.{ap, ap₂, refl, sym, true, List, ◌≡◌, ◌∙◌, Option, Some, subst}
use Rattle.clap.specs.Words.{Row, first_of}
use Rattle.command_items.specs.Items.{Text}
use Rattle.command_items.specs.Lines.{Line, line_named}
use Rattle.command_items.specs.Commands.{Commands, labelled, value_in, values_in}
use Rattle.command_items.specs.Views.{has_form, values_under}
use Rattle.command_items.proofs.Entering.{Met, all_same_values, same_parts, same_values, some_same}
use Rattle.command_items.proofs.Tables.{commands_form}
use Rattle.cli_words.specs.Requests.{Asked, line_of, solve, check, report, formulate, make, trial, jobs, work, gather, tight, checktight}
use Rattle.cli_words.specs.Asks.{Asks, Says}
use Rattle.cli_words.specs.Views.{Means}

-- the line of a request is in the table
pub line_named-command : (asked : Asked) → line_named (line_of asked).command ≡ Some (line_of asked)
line_named-command (solve s) = refl
line_named-command (check net cert) = refl
line_named-command (report net cert) = refl
line_named-command (formulate net form) = refl
line_named-command (make n) = refl
line_named-command (trial n) = refl
line_named-command (jobs net journal count) = refl
line_named-command (work net file form) = refl
line_named-command (gather net file answers journal) = refl
line_named-command (tight net cert form pivots) = refl
line_named-command (checktight net cert marks) = refl

-- what is asked has the form
pub asks_form : (words : List Text) (asked : Asked) → Asks words asked → has_form words ≡ true
asks_form words asked a = commands_form words (line_of asked) a.items (line_named-command asked) a.commands

-- ---- what words of the form ask

-- what the values of a list say
abbrev pub SaysIn : Asked → List (Text × Text) → Type 0
SaysIn asked values = Says (value_in values) (values_in values) asked

module _ (words : List Text) (command : Text) (rows : List Row) (m : Met words command rows) where
  abbrev given : List (Text × Text)
  given = labelled m.formed.line m.formed.items

  to_items : (asked : Asked) → Says (λ name. first_of name rows) (values_under rows) asked → SaysIn asked given
  to_items asked h =
      subst (λ (vs : Text → List Text). Says (value_in given) vs asked) (all_same_values words command rows m)
      (subst (λ (v : Text → Option Text). Says v (values_under rows) asked) (same_values words command rows m) h)

  to_rows : (asked : Asked) → SaysIn asked given → Says (λ name. first_of name rows) (values_under rows) asked
  to_rows asked h =
      subst (λ (v : Text → Option Text). Says v (values_under rows) asked) (sym (same_values words command rows m))
      (subst (λ (vs : Text → List Text). Says (value_in given) vs asked) (sym (all_same_values words command rows m)) h)

  pub means_asks : (asked : Asked) → Means command rows asked → Asks words asked
  means_asks asked h =
      let l = m.formed.line in
      let same : l ≡ line_of asked = some_same _ _ (sym m.formed.known ∙ ap line_named (sym m.is ∙ h.is) ∙ line_named-command asked) in
      record {
        items = m.formed.items;
        commands = subst (λ x. Commands words x m.formed.items) same m.formed.commands;
        says = subst (λ (x : Line). SaysIn asked (labelled x m.formed.items)) same (to_items asked h.says);
      }

  pub asks_means : (asked : Asked) → Asks words asked → Means command rows asked
  asks_means asked a =
      let s = same_parts words m.formed.line (line_of asked) m.formed.items a.items m.formed.commands a.commands in
      let line : m.formed.line ≡ line_of asked = some_same _ _ (sym m.formed.known ∙ ap line_named s.command ∙ line_named-command asked) in
      let values : labelled m.formed.line m.formed.items ≡ labelled (line_of asked) a.items = ap₂ labelled line s.items in
      record { is = m.is ∙ s.command; says = to_rows asked (subst (SaysIn asked) (sym values) a.says) }
