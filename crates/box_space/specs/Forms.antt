-- Which coordinates a form cuts.
use Rattle.std.specs.Prelude.{◌<◌, Bool, true, false}
use Rattle.row_model.specs.Boxes.{Coord, prop, qual, flow}
use Rattle.pool_model.specs.Network.{Net}
use Rattle.box_space.specs.declared.coordinates.Coord as named
use Rattle.box_space.specs.declared.coordinates.Coord.TheVariants.{Prop, Qual, Flow}
use Rattle.box_space.specs.declared.coordinates.Form.{Form}
use Rattle.box_space.specs.declared.coordinates.Form.TheVariants.{P, Q, Pq}

-- P has no proportions, and Q and Pq have no qualities
abbrev pub cuts : Form → Coord → Bool
cuts P (prop e) = false
cuts P (qual l k) = true
cuts P (flow o) = true
cuts Q (prop e) = true
cuts Q (qual l k) = false
cuts Q (flow o) = true
cuts Pq (prop e) = true
cuts Pq (qual l k) = false
cuts Pq (flow o) = true

-- what the coordinate names is there
abbrev pub IsCoord : Net → named.Coord → Type 0
IsCoord n (Prop e) = e < n.feeds
IsCoord n (Qual l k) = (l < n.pools) × (k < n.qualities)
IsCoord n (Flow o) = o < n.outs
