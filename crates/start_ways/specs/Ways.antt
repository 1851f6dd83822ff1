-- A way, without where it lies in memory, and the ways of the starting plans by number.
use Rattle.std.specs.Prelude.{◌≡◌, ℕ, ◌-◌, ◌<◌, Option, Some, None, length, ℤ}
use Rattle.std.specs.Int.{int_min}
use Rattle.pool_model.specs.Network.{Net}
use Rattle.pool_model.specs.Paths.{paths_of, path_at}
use Rattle.pool_model.specs.Starting as model
use Rattle.pool_model.specs.Starting.{way_at}
use Rattle.start_ways.specs.declared.way.Way.{Way}
use Rattle.start_ways.specs.declared.way.Way.TheVariants.{Through, Direct}

-- the network has a path or a direct of this number
abbrev pub IsInRange : Net → Way → Type 0
IsInRange n (Through a) = a < length (paths_of n)
IsInRange n (Direct e) = e < n.directs

-- a path is its feed and its out
abbrev pub shown_way : Net → Way → model.Way
shown_way n (Through a) = model.through (path_at n a).feed (path_at n a).out
shown_way n (Direct e) = model.straight e

-- the way of the starting plan of this number: none for the zero plan, which is the first
abbrev pub IsStartWay : Net → ℕ → Option Way → Type 0
IsStartWay n number None = number ≡ 0
IsStartWay n number (Some way) = IsInRange n way × (0 < number) × (way_at n (number - 1) ≡ shown_way n way)

-- the lesser of an amount and a maximum, if there is one
abbrev pub capped : Option ℤ → ℤ → ℤ
capped None amount = amount
capped (Some most) amount = int_min most amount
