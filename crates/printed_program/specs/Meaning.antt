-- What the lines of a program mean: the exact program of a form, and the pooling problem.
use Rattle.std.specs.Prelude.{◌≡◌, ℕ, List, All, pos, ◌*ℤ◌}
use Rattle.pool_model.specs.Network.{Net}
use Rattle.pool_model.specs.Plan.{Plan, Obeys, cost_of}
use Rattle.box_space.specs.declared.coordinates.Form.{Form}
use Rattle.box_space.specs.declared.coordinates.Form.TheVariants.{P, Q, Pq}
use Rattle.program_model.specs.Points.{ProportionPoint, QualityPoint, SameFlows, proportion_flows, quality_flows}
use Rattle.program_model.specs.Programs.{IsPointOfP, IsPointOfQ, IsPointOfPq}
use Rattle.printed_program.specs.ProgramLines.{ProgramLine, IsShort, lines_text}
use Rattle.printed_program.specs.Numbers.{Numbers, IsPointOf, cost_at}
use Rattle.printed_program.specs.Points.{AreFlows, AreProportions, flows_at, quality_point_at, proportion_point_at, quality_numbers, proportion_numbers}

-- ---- exact programs

-- What keeps the lines are the points of P, both ways, at the same cost.
pub record IsProgramOfP (n : Net) (lines : List ProgramLine) : Type 0 where
  pub from_lines : (q : Numbers) → IsPointOf lines q → IsPointOfP n (quality_point_at n q)
  pub to_lines : (q : QualityPoint) → IsPointOfP n q → IsPointOf lines (quality_numbers n q)
  pub cost : (q : QualityPoint) → cost_at lines (quality_numbers n q) ≡ pos q.qual_base *ℤ cost_of n (quality_flows q)

-- What keeps the lines are the points of a program by proportions, both ways, at the same cost.
pub record IsProgramOfProportions (n : Net) (IsPoint : ProportionPoint → Type 0) (lines : List ProgramLine) : Type 0 where
  pub signed : (q : Numbers) → IsPointOf lines q → AreProportions n q
  pub from_lines : (q : Numbers) → IsPointOf lines q → IsPoint (proportion_point_at q)
  pub to_lines : (q : ProportionPoint) → IsPoint q → IsPointOf lines (proportion_numbers n q)
  pub cost : (q : ProportionPoint) → cost_at lines (proportion_numbers n q) ≡ pos q.prop_base *ℤ cost_of n (proportion_flows q)

abbrev pub IsProgramOf : Net → Form → List ProgramLine → Type 0
IsProgramOf n P lines = IsProgramOfP n lines
IsProgramOf n Q lines = IsProgramOfProportions n (IsPointOfQ n) lines
IsProgramOf n Pq lines = IsProgramOfProportions n (IsPointOfPq n) lines

-- ---- the pooling problem

-- a point whose flows are those of a plan
pub record HasPoint (n : Net) (lines : List ProgramLine) (p : Plan) : Type 0 where
  pub numbers : Numbers
  pub point : IsPointOf lines numbers
  pub flows : SameFlows n (flows_at numbers) p

-- The flows of each point are a plan that obeys and costs what the point costs, and each plan that obeys is the flows of a point.
pub record IsPoolingProblem (n : Net) (lines : List ProgramLine) : Type 0 where
  pub signed : (q : Numbers) → IsPointOf lines q → AreFlows n q
  pub obeys : (q : Numbers) → IsPointOf lines q → Obeys n (flows_at q)
  pub cost : (q : Numbers) → IsPointOf lines q → cost_at lines q ≡ cost_of n (flows_at q)
  pub point : (p : Plan) → Obeys n p → HasPoint n lines p

-- ---- texts

-- The text is that of lines, and of no others with numbers below 10^64, which mean the exact program of the form, and so the pooling
-- problem.
pub record IsTheProblem (n : Net) (form : Form) (text : List ℕ) : Type 0 where
  pub lines : List ProgramLine
  pub spelled : text ≡ lines_text lines
  pub only : (others : List ProgramLine) → All IsShort others → text ≡ lines_text others → others ≡ lines
  pub exact : IsProgramOf n form lines
  pub pooling : IsPoolingProblem n lines
