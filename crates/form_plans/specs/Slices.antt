-- The lists of a point, lent.
use Rattle.std.specs.Prelude.{◌≡◌}
use Rattle.program_points.specs.declared.points.PropPoint.{PropPoint}
use Rattle.program_points.specs.declared.points.QualPoint.{QualPoint}
use Rattle.point_checks.specs.declared.prop_slices.PropSlices.{PropSlices}
use Rattle.point_checks.specs.declared.qual_slices.QualSlices.{QualSlices}

-- the lists are those of a point of Q
pub record AreSlicesOf (q : PropPoint) (s : PropSlices) : Type 0 where
  pub base : s.flows.base ≡ q.base
  pub prop_base : s.prop_base ≡ q.prop_base
  pub props : s.props.now ≡ q.props.items
  pub x : s.flows.feeds.now ≡ q.x.items
  pub y : s.flows.outs.now ≡ q.y.items
  pub z : s.flows.directs.now ≡ q.z.items
  pub paths : s.paths.now ≡ q.w.items

-- the lists are those of a point of P
pub record AreQualSlicesOf (q : QualPoint) (s : QualSlices) : Type 0 where
  pub base : s.flows.base ≡ q.base
  pub qual_base : s.qual_base ≡ q.qual_base
  pub quals : s.quals.now ≡ q.quals.items
  pub x : s.flows.feeds.now ≡ q.x.items
  pub y : s.flows.outs.now ≡ q.y.items
  pub z : s.flows.directs.now ≡ q.z.items
  pub mix : s.mix.now ≡ q.mix.items
