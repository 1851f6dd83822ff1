-- What follows where what is said of the leaves of a tree holds.
use Rattle.std.specs.Prelude.{◌≡◌, ◌≢◌, ◌||◌, IsTrue, Option, None, Some, ℤ, ◌≤ℤ◌}
use Rattle.std.specs.List.{Contains}
use Rattle.pool_model.specs.Network.{Net}
use Rattle.pool_model.specs.Claim.{IsBound, HasNoPlan}
use Rattle.row_model.specs.Boxes.{Box}
use Rattle.row_model.specs.Multipliers.{Proof, IsInOrder, bound, no_plan, shown_by}
use Rattle.row_model.specs.Trees.{Tree, box_of}
use Rattle.box_space.specs.declared.coordinates.Form.{Form}
use Rattle.relaxation_points.specs.Points.{NamesRowsOf}
use Rattle.tight_texts.specs.declared.marks.LeafMark.{LeafMark}
use Rattle.tight_texts.specs.declared.marks.TightText.{TightText}
use Rattle.tight_checks.specs.Holding.{marked_bound, is_tight, is_raised}

-- every plan that obeys costs at least the bound, and where there is none no plan obeys
abbrev pub HoldsForPlans : Net → Option ℤ → Type 0
HoldsForPlans n None = HasNoPlan n
HoldsForPlans n (Some low) = IsBound n low

-- no multipliers in order on the form's rows show more of the box than the bound
pub record IsBest (n : Net) (form : Form) (b : Box) (low : ℤ) : Type 0 where
  pub holds_one : (proof : Proof) → IsInOrder n b proof → NamesRowsOf n form proof → shown_by n b proof ≢ no_plan
  pub best : (proof : Proof) (z : ℤ) → IsInOrder n b proof → NamesRowsOf n form proof → shown_by n b proof ≡ bound z → z ≤ℤ low

-- on each leaf that is marked tight or raised there is a bound, and no multipliers on the form's rows show more
abbrev pub AreBest : Net → Tree → TightText → Type 0
AreBest n tree text = (line : LeafMark) → Contains text.marks.items line → IsTrue (is_tight line.mark || is_raised line.mark)
    → (low : ℤ) × (marked_bound n tree line ≡ Some low) × IsBest n text.form (box_of n tree.splits line.node) low
