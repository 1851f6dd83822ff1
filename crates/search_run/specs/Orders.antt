-- What a run is asked for: the options of the search, and what its cut rule keeps to.
use Rattle.std.specs.Prelude.{ℕ}
use denote.Ref.{Bor}
use Rattle.branching.specs.Rows.{View, HasOpen}
use Rattle.branching.specs.Known.{IsPickedBy}
use Rattle.branching.specs.declared.name.RuleName.{RuleName}
use Rattle.branching.specs.declared.name.RuleName.TheVariants.{Violated}
use Rattle.search_core.specs.declared.options.Options.{Options}
use Rattle.search_run.specs.declared.orders.Orders.{Orders}

-- how many coordinates are looked at before one is cut, at the most
abbrev pub looks_of : RuleName → ℕ
looks_of Violated = 12
looks_of rule = 0

-- the options of the search; no program changes its basis more than 10,000 times
abbrev pub options_of : Orders → Options
options_of o = record { form = o.form; nodes = o.nodes; gap = o.gap; pivots = 10000; looks = looks_of o.rule }

-- what the rule of a name may answer at a view
abbrev pub picked : RuleName → Bor View → ℕ → Type 0
picked rule v i = IsPickedBy rule v.now.rows i

-- a closure, by what it may answer, keeps to the rule of a name
pub record Keeps (rule : RuleName) (post : Bor View → ℕ → Type 0) : Type 0 where
  pub keeps : (v : Bor View) (i : ℕ) → HasOpen v.now.rows → post v i → picked rule v i
