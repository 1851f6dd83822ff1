-- Which words are a command and items that fit it, and the value that these items give under each name.
use Rattle.std.specs.Prelude.{◌≡◌, true, List, [], ◌∷◌, Option, Some, None, option_map, find, unwrap_or, if◌then◌else◌}
use Rattle.std.specs.Str.{bytes_eq}
use Rattle.command_items.specs.Items.{Text, Given, ReadAs, fits}
use Rattle.command_items.specs.Lines.{Line, least_places, most_places}

-- the words are the command of the line and these items: as many positionals as it may have, and of its options each at most once
pub record Commands (words : List Text) (line : Line) (items : List Given) : Type 0 where
  pub rest : List Text
  pub first : words ≡ line.command ∷ rest
  pub read : ReadAs rest items
  pub fitting : fits (least_places line) (most_places line) line.options items ≡ true

-- ---- the value under each name of the line

-- the name of the next positional, and the names of those after an item
abbrev pub next_place : Option Text → List Text → Text
next_place many [] = unwrap_or many []
next_place many (place ∷ places) = place

abbrev pub places_after : Option Text → List Text → List Text
places_after (Some name) places = places
places_after None [] = []
places_after None (place ∷ places) = places

-- each item's value under its name: an option's own, and a positional's that of its place, or behind the places that of the many
abbrev pub labels : Option Text → List Text → List Given → List (Text × Text)
labels many places [] = []
labels many places (g ∷ gs) = (unwrap_or g.name (next_place many places), g.value) ∷ labels many (places_after g.name places) gs

abbrev pub labelled : Line → List Given → List (Text × Text)
labelled l = labels l.many l.places

-- the value under a name
abbrev pub value_in : List (Text × Text) → Text → Option Text
value_in values name = option_map (λ v. v.1) (find (λ v. bytes_eq v.0 name) values)

-- all values under a name, in order
abbrev pub values_in : List (Text × Text) → Text → List Text
values_in [] name = []
values_in (v ∷ vs) name = if bytes_eq v.0 name then v.1 ∷ values_in vs name else values_in vs name
