-- The items of the program, without where they lie in memory, and which words are of the form.
use Rattle.std.specs.Prelude.{Bool, false, List, [], ◌∷◌, Option, Some, None, map, option_map, unwrap_or}
use Rattle.std.specs.Option.{option_map_or}
use Rattle.std.specs.Borrow.{Bor}
use Rattle.clap.specs.Words.{Row, all_of}
use Rattle.command_items.specs.Items.{Text, Given, before, fits, items_of}
use Rattle.command_items.specs.Lines.{Line, least_places, line_named, most_places}
use Rattle.command_items.specs.declared.items.Item.{Item}
use Rattle.command_items.specs.declared.items.WordRead.{WordRead}
use Rattle.command_items.specs.declared.items.WordRead.TheVariants.{Waits, Has, Fails}

-- an item
abbrev pub shown_item : Item → Given
shown_item i = record { name = option_map (λ s. s.now) i.name; value = i.value.now }

abbrev pub shown_items : List Item → List Given
shown_items = map shown_item

-- what a word is, as an item or the name of one, and then what follows it
abbrev pub read_then : WordRead → (Option Text → Option (List Given)) → Option (List Given)
read_then (Waits name) next = next (Some name.now)
read_then (Has item) next = before (shown_item item) (next None)
read_then Fails next = None

-- the line of a command, from the texts of its names
abbrev pub line : Text → List (Bor Text) → Option (Bor Text) → List (Bor Text) → Line
line command places many options = record { command = command; places = map (λ n. n.now) places; many = option_map (λ n. n.now) many; options = map (λ n. n.now) options }

-- all values that `clap`'s rows have under a name
abbrev pub values_under : List Row → Text → List Text
values_under rows name = unwrap_or (all_of name rows) []

-- ---- words of the form

-- the items fit the line
abbrev pub fits_line : List Given → Line → Bool
fits_line items line = fits (least_places line) (most_places line) line.options items

-- the items fit the command
abbrev pub fits_command : Text → List Given → Bool
fits_command command items = option_map_or (fits_line items) (line_named command) false

-- the words are a command and items that fit it
abbrev pub has_form : List Text → Bool
has_form [] = false
has_form (command ∷ rest) = option_map_or (fits_command command) (items_of rest) false
