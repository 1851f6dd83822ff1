-- Points within the limits: a number for each variable, and bases that are not too large.
use Rattle.std.specs.Prelude.{◌≡◌, ◌*◌, ◌^◌, ◌≤◌, length}
use Rattle.pool_model.specs.Network.{Net}
use Rattle.row_model.specs.Variables.{path_count}
use Rattle.program_model.specs.Programs.{IsPointOfP, IsPointOfQ, IsPointOfPq}
use Rattle.program_points.specs.Views.{shown_prop, shown_qual}
use Rattle.program_points.specs.declared.points.PropPoint.{PropPoint}
use Rattle.program_points.specs.declared.points.QualPoint.{QualPoint}

-- a number for each variable of Q and Pq, and bases of at most 2^36 and 2^20
pub record IsPropShape (n : Net) (q : PropPoint) : Type 0 where
  pub base : q.base ≤ 2 ^ 36
  pub prop_base : q.prop_base ≤ 2 ^ 20
  pub props : length q.props.items ≡ n.feeds
  pub x : length q.x.items ≡ n.feeds
  pub y : length q.y.items ≡ n.outs
  pub z : length q.z.items ≡ n.directs
  pub w : length q.w.items ≡ path_count n

-- a number for each variable of P, and bases of at most 2^36 and 2^20
pub record IsQualShape (n : Net) (q : QualPoint) : Type 0 where
  pub base : q.base ≤ 2 ^ 36
  pub qual_base : q.qual_base ≤ 2 ^ 20
  pub quals : length q.quals.items ≡ n.pools * n.qualities
  pub x : length q.x.items ≡ n.feeds
  pub y : length q.y.items ≡ n.outs
  pub z : length q.z.items ≡ n.directs
  pub mix : length q.mix.items ≡ n.outs * n.qualities

-- points of the programs
pub record IsHeldOfQ (n : Net) (q : PropPoint) : Type 0 where
  pub shape : IsPropShape n q
  pub point : IsPointOfQ n (shown_prop q)

pub record IsHeldOfPq (n : Net) (q : PropPoint) : Type 0 where
  pub shape : IsPropShape n q
  pub point : IsPointOfPq n (shown_prop q)

pub record IsHeldOfP (n : Net) (q : QualPoint) : Type 0 where
  pub shape : IsQualShape n q
  pub point : IsPointOfP n (shown_qual n q)
