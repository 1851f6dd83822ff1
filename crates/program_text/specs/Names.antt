-- The names of variables in texts: a letter for what the variable is, and its number among those of its kind.
use Rattle.std.specs.Prelude.{ℕ, ◌*◌, Bool, true, false}
use Rattle.integers.specs.Sums.{piece}
use Rattle.pool_model.specs.Network.{Net}
use Rattle.row_model.specs.Variables.{path_count}
use Rattle.box_space.specs.declared.coordinates.Form.{Form}
use Rattle.box_space.specs.declared.coordinates.Form.TheVariants.{P, Q, Pq}
use Rattle.program_text.specs.declared.names.Symbol.{Symbol}
use Rattle.program_text.specs.declared.names.Symbol.TheVariants as symbols
use Rattle.program_text.specs.declared.names.Name.{Name}

-- x, y and z for flows of feeds, outs and directs, w along paths, Q for proportions, p for qualities and v for mixed variables
abbrev pub letter_of : Symbol → ℕ
letter_of symbols.Feed = 120
letter_of symbols.Out = 121
letter_of symbols.Direct = 122
letter_of symbols.Path = 119
letter_of symbols.Proportion = 81
letter_of symbols.Quality = 112
letter_of symbols.Mixed = 118

abbrev pub named : Symbol → ℕ → Name
named symbol number = record { symbol = symbol; number = number }

-- The variable's kind and its number there; qualities and mixed variables are numbered by pool or out, then by quality.
abbrev pub name_of : Net → ℕ → Name
name_of n = piece n.feeds (named symbols.Feed) (piece n.outs (named symbols.Out) (piece n.directs (named symbols.Direct)
    (piece (path_count n) (named symbols.Path) (piece n.feeds (named symbols.Proportion) (piece (n.pools * n.qualities) (named symbols.Quality) (named symbols.Mixed))))))

-- P has qualities and mixed variables, Q and Pq have proportions and paths; all have flows
abbrev pub has_symbol : Form → Symbol → Bool
has_symbol P symbols.Path = false
has_symbol P symbols.Proportion = false
has_symbol Q symbols.Quality = false
has_symbol Q symbols.Mixed = false
has_symbol Pq symbols.Quality = false
has_symbol Pq symbols.Mixed = false
has_symbol form symbol = true
