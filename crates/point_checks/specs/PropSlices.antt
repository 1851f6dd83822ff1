-- The points that lent lists stand for.
use Rattle.std.specs.Prelude.{ℕ, List, get_or}
use Rattle.program_model.specs.Points.{ProportionPoint}
use Rattle.point_checks.specs.declared.prop_slices.PropSlices.{PropSlices}

-- the point of two bases, proportions, and flows by feed, out, direct and path
abbrev pub point_over : ℕ → ℕ → List ℕ → List ℕ → List ℕ → List ℕ → List ℕ → ProportionPoint
point_over base prop_base props x y z w = record {
  base = base;
  prop_base = prop_base;
  proportion = λ e. get_or props e 0;
  feed = λ e. get_or x e 0;
  out = λ o. get_or y o 0;
  direct = λ e. get_or z e 0;
  path = λ a. get_or w a 0;
}

abbrev pub seen : PropSlices → ProportionPoint
seen s = point_over s.flows.base s.prop_base s.props.now s.flows.feeds.now s.flows.outs.now s.flows.directs.now s.paths.now
