-- The points that lent lists stand for.
use Rattle.std.specs.Prelude.{ℕ, ◌+◌, ◌*◌, List, get_or, ℤ, pos}
use Rattle.pool_model.specs.Network.{Net}
use Rattle.program_model.specs.Points.{QualityPoint}
use Rattle.point_checks.specs.declared.qual_slices.QualSlices.{QualSlices}

-- the point of two bases, qualities, flows by feed, out and direct, and mixed variables
abbrev pub point_over : Net → ℕ → ℕ → List ℤ → List ℕ → List ℕ → List ℕ → List ℤ → QualityPoint
point_over n base qual_base quals x y z mix = record {
  base = base;
  qual_base = qual_base;
  quality = λ l k. get_or quals (l * n.qualities + k) (pos 0);
  feed = λ e. get_or x e 0;
  out = λ o. get_or y o 0;
  direct = λ e. get_or z e 0;
  mixed = λ o k. get_or mix (o * n.qualities + k) (pos 0);
}

abbrev pub seen : Net → QualSlices → QualityPoint
seen n s = point_over n s.flows.base s.qual_base s.quals.now s.flows.feeds.now s.flows.outs.now s.flows.directs.now s.mix.now
