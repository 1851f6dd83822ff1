-- The points that the types of this crate stand for. What stands behind a list has no meaning.
use Rattle.std.specs.Prelude.{◌+◌, ◌*◌, get_or, pos}
use Rattle.pool_model.specs.Network.{Net}
use Rattle.program_model.specs.Points.{ProportionPoint, QualityPoint}
use Rattle.program_points.specs.declared.points.PropPoint.{PropPoint}
use Rattle.program_points.specs.declared.points.QualPoint.{QualPoint}

abbrev pub shown_prop : PropPoint → ProportionPoint
shown_prop q = record {
  base = q.base;
  prop_base = q.prop_base;
  proportion = λ e. get_or q.props.items e 0;
  feed = λ e. get_or q.x.items e 0;
  out = λ o. get_or q.y.items o 0;
  direct = λ e. get_or q.z.items e 0;
  path = λ a. get_or q.w.items a 0;
}

-- qualities go by pool, mixed variables by out, and then by quality
abbrev pub shown_qual : Net → QualPoint → QualityPoint
shown_qual n q = record {
  base = q.base;
  qual_base = q.qual_base;
  quality = λ l k. get_or q.quals.items (l * n.qualities + k) (pos 0);
  feed = λ e. get_or q.x.items e 0;
  out = λ o. get_or q.y.items o 0;
  direct = λ e. get_or q.z.items e 0;
  mixed = λ o k. get_or q.mix.items (o * n.qualities + k) (pos 0);
}
