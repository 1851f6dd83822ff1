-- Which command words of the form are, and that the rows of `clap`'s matches say what its items say.
use Rattle.std.proofs.Common.{ap, refl, sym, true, List, ◌∷◌, ◌≡◌, ◌∙◌, Option, Some, None}
use Rattle.std.specs.Prelude.{option_map, is_some, IsSome}
use Rattle.std.specs.Borrow.{Bor}
use Rattle.clap.specs.declared.ArgMatches.{ArgMatches}
use Rattle.clap.specs.Words.{Row, first_of, found_of, rows_of, subcommand_of, subcommand_rows_of}
use Rattle.command_items.specs.Items.{Text, Given, items_of}
use Rattle.command_items.specs.Lines.{Line, program_app}
use Rattle.command_items.specs.Commands.{Commands, labelled, value_in, values_in}
use Rattle.command_items.specs.Views.{has_form, values_under}
use Rattle.command_items.proofs.Walks.{rows_for}
use Rattle.command_items.proofs.ItemLemmas.{first_of-rows_for, under-rows_for}
use Rattle.command_items.proofs.Readings.{read_items}
use Rattle.command_items.proofs.Tables.{Formed, formed, rows_words}

pub some_same : {X : Type 0} (a b : X) → Some a ≡ Some b → a ≡ b
some_same a b e = cc

-- words have one command, and one list of items
pub record Same (l k : Line) (ours theirs : List Given) : Type 0 where
  pub command : l.command ≡ k.command
  pub items : ours ≡ theirs

pub same_parts : (words : List Text) (l k : Line) (items others : List Given) → Commands words l items → Commands words k others → Same l k items others
same_parts words l k items others a b =
    let command : l.command ≡ k.command = cc_command _ _ _ _ (sym a.first ∙ b.first) in
    let rest : a.rest ≡ b.rest = cc_rest _ _ _ _ (sym a.first ∙ b.first) in
    record { command = command; items = some_same _ _ (sym (read_items a.rest items a.read) ∙ ap items_of rest ∙ read_items b.rest others b.read) }
  where
    cc_command : (c d : Text) (xs ys : List Text) → c ∷ xs ≡ d ∷ ys → c ≡ d
    cc_command c d xs ys e = cc

    cc_rest : (c d : Text) (xs ys : List Text) → c ∷ xs ≡ d ∷ ys → xs ≡ ys
    cc_rest c d xs ys e = cc

-- ---- the command that was met

-- the command that was met, and its rows
pub record Met (words : List Text) (command : Text) (rows : List Row) : Type 0 where
  pub formed : Formed words
  pub is : command ≡ formed.line.command
  pub are : rows ≡ rows_for (labelled formed.line formed.items)

met : (words : List Text) (command : Text) (rows : List Row) → has_form words ≡ true → Some (command, rows) ≡ subcommand_of program_app words → Met words command rows
met words command rows form e =
    let f = formed words form in
    let same = some_same _ _ (e ∙ rows_words f.line f.proper words f.items f.commands) in
    record { formed = f; is = ap (λ (p : Text × List Row). p.0) same; are = ap (λ (p : Text × List Row). p.1) same }

-- the value under a name
abbrev pub values_of : List Row → Text → Option Text
values_of rows name = first_of name rows

module _ (words : List Text) (command : Text) (rows : List Row) (m : Met words command rows) where
  -- the values of the rows are those of the items
  pub same_values : values_of rows ≡ value_in (labelled m.formed.line m.formed.items)
  same_values = λ i. λ name. (ap (first_of name) m.are ∙ first_of-rows_for (labelled m.formed.line m.formed.items) name) i

  pub all_same_values : values_under rows ≡ values_in (labelled m.formed.line m.formed.items)
  all_same_values = λ i. λ name. (ap (λ r. values_under r name) m.are ∙ under-rows_for (labelled m.formed.line m.formed.items) name) i

-- the command that was met, as its text and rows
abbrev pub shown : Bor Text × Bor ArgMatches → Text × List Row
shown p = (p.0.now, rows_of (found_of p.1.now))

pub met_by : (words : List Text) (m : ArgMatches) (o : Option (Bor Text × Bor ArgMatches)) (p : Bor Text × Bor ArgMatches) → has_form words ≡ true
    → subcommand_rows_of m ≡ subcommand_of program_app words → option_map shown o ≡ subcommand_rows_of m → o ≡ Some p → Met words p.0.now (rows_of (found_of p.1.now))
met_by words m o p form rows at is = met words p.0.now (rows_of (found_of p.1.now)) form (sym (ap (option_map shown) is) ∙ at ∙ rows)

pub some_by : (words : List Text) (m : ArgMatches) (o : Option (Bor Text × Bor ArgMatches)) → has_form words ≡ true
    → subcommand_rows_of m ≡ subcommand_of program_app words → option_map shown o ≡ subcommand_rows_of m → IsSome o
some_by words m None form rows at = let f = formed words form in ap is_some (at ∙ rows) ∙ ap is_some (rows_words f.line f.proper words f.items f.commands)
some_by words m (Some p) form rows at = refl
