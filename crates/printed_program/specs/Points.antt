-- Numbers for names, as points of the exact programs and as plans; and points as numbers for names.
use Rattle.std.specs.Prelude.{ℕ, ◌+◌, ◌*◌, ◌/◌, ◌%◌, ◌<◌, ℤ, pos, ◌≤ℤ◌, unsigned_abs}
use Rattle.pool_model.specs.Network.{Net}
use Rattle.pool_model.specs.Plan.{Plan}
use Rattle.row_model.specs.Boxes.{grain}
use Rattle.row_model.specs.Variables.{PerVariable, path_count}
use Rattle.program_model.specs.Points.{ProportionPoint, QualityPoint}
use Rattle.program_model.specs.Rows.{proportion_values, quality_values}
use Rattle.program_text.specs.Names.{named}
use Rattle.program_text.specs.declared.names.Symbol.{Symbol}
use Rattle.program_text.specs.declared.names.Symbol.TheVariants as symbols
use Rattle.printed_program.specs.Numbers.{Numbers}

-- ---- from numbers

-- no flow x, y or z is below 0
pub record AreFlows (n : Net) (q : Numbers) : Type 0 where
  pub feed : (e : ℕ) → e < n.feeds → pos 0 ≤ℤ q.value (named symbols.Feed e)
  pub out : (o : ℕ) → o < n.outs → pos 0 ≤ℤ q.value (named symbols.Out o)
  pub direct : (e : ℕ) → e < n.directs → pos 0 ≤ℤ q.value (named symbols.Direct e)

-- no proportion Q and no flow w along a path is below 0
pub record AreProportions (n : Net) (q : Numbers) : Type 0 where
  pub proportion : (e : ℕ) → e < n.feeds → pos 0 ≤ℤ q.value (named symbols.Proportion e)
  pub path : (a : ℕ) → a < path_count n → pos 0 ≤ℤ q.value (named symbols.Path a)

-- the flows x, y and z
abbrev pub flows_at : Numbers → Plan
flows_at q = record {
  base = q.base;
  feed = λ e. unsigned_abs (q.value (named symbols.Feed e));
  out = λ o. unsigned_abs (q.value (named symbols.Out o));
  direct = λ e. unsigned_abs (q.value (named symbols.Direct e));
}

-- the flows with the qualities p and the mixed variables v
abbrev pub quality_point_at : Net → Numbers → QualityPoint
quality_point_at n q = record {
  base = q.base;
  qual_base = q.base;
  quality = λ l k. q.value (named symbols.Quality (l * n.qualities + k));
  feed = (flows_at q).feed;
  out = (flows_at q).out;
  direct = (flows_at q).direct;
  mixed = λ o k. q.value (named symbols.Mixed (o * n.qualities + k));
}

-- the flows with the proportions Q, in parts of the grain, and the flows along paths w
abbrev pub proportion_point_at : Numbers → ProportionPoint
proportion_point_at q = record {
  base = q.base;
  prop_base = grain * q.base;
  proportion = λ e. unsigned_abs (q.value (named symbols.Proportion e));
  feed = (flows_at q).feed;
  out = (flows_at q).out;
  direct = (flows_at q).direct;
  path = λ a. unsigned_abs (q.value (named symbols.Path a));
}

-- ---- to numbers

-- the number of a name; of qualities and mixed variables by pool or out, then by quality
abbrev pub value_of : Net → PerVariable → Symbol → ℕ → ℤ
value_of n v symbols.Feed i = v.x i
value_of n v symbols.Out i = v.y i
value_of n v symbols.Direct i = v.z i
value_of n v symbols.Path i = v.w i
value_of n v symbols.Proportion i = v.proportion i
value_of n v symbols.Quality i = v.quality (i / n.qualities) (i % n.qualities)
value_of n v symbols.Mixed i = v.mixed (i / n.qualities) (i % n.qualities)

-- the numbers of a point over both of its bases
abbrev pub numbers_over : Net → PerVariable → ℕ → Numbers
numbers_over n v base = record { base = base; value = λ name. value_of n v name.symbol name.number }

abbrev pub quality_numbers : Net → QualityPoint → Numbers
quality_numbers n q = numbers_over n (quality_values q) (q.base * q.qual_base)

abbrev pub proportion_numbers : Net → ProportionPoint → Numbers
proportion_numbers n q = numbers_over n (proportion_values q) (q.base * q.prop_base)
