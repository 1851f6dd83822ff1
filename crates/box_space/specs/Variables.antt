-- Variables by name.
use Rattle.std.specs.Prelude.{◌<◌, ℤ}
use Rattle.pool_model.specs.Network.{Net}
use Rattle.row_model.specs.Variables.{PerVariable, path_count}
use Rattle.box_space.specs.declared.variables.Variable.{Variable}
use Rattle.box_space.specs.declared.variables.Variable.TheVariants.{Feed, Out, Direct, Path, Proportion, Quality, Mixed}

-- a variable's number among those of all variables
abbrev pub at_variable : PerVariable → Variable → ℤ
at_variable a (Feed e) = a.x e
at_variable a (Out o) = a.y o
at_variable a (Direct e) = a.z e
at_variable a (Path p) = a.w p
at_variable a (Proportion e) = a.proportion e
at_variable a (Quality l k) = a.quality l k
at_variable a (Mixed o k) = a.mixed o k

-- what the variable names is there
abbrev pub IsVariable : Net → Variable → Type 0
IsVariable n (Feed e) = e < n.feeds
IsVariable n (Out o) = o < n.outs
IsVariable n (Direct e) = e < n.directs
IsVariable n (Path p) = p < path_count n
IsVariable n (Proportion e) = e < n.feeds
IsVariable n (Quality l k) = (l < n.pools) × (k < n.qualities)
IsVariable n (Mixed o k) = (o < n.outs) × (k < n.qualities)
