-- What decides what a search does next.
use Rattle.std.specs.Prelude.{◌≡◌, ◌≢◌, ℕ, ◌*◌, ◌<◌, ◌≤◌, List, length, Bool, IsTrue, true, false, Option, Some, None, IsSomeAnd, ℤ, pos, ◌+ℤ◌, ◌-ℤ◌, ◌*ℤ◌, ◌≤ℤ◌}
use Rattle.std.specs.Option.{ForSome}
use Rattle.pool_model.specs.Network.{Net}
use Rattle.pool_model.specs.Plan.{Written, plan_of, cost_of}
use Rattle.pool_model.specs.Starting.{IsCheapestStart}
use Rattle.row_model.specs.Boxes.{Box, coords, coord_at, root}
use Rattle.row_model.specs.Multipliers.{Proof, bound}
use Rattle.row_model.specs.Trees.{is_cut, node_bound, tree_bound, box_of, IsLeastLeaf}
use Rattle.row_model.specs.Entries.{Searched, Entry, root_proof, split_of, improve, IsCheaper}
use Rattle.row_model.specs.Variables.{variables}
use Rattle.plan_repair.specs.PlainPlan.{plain_plan}
use Rattle.plan_repair.specs.Repairs.{IsAccepted, IsGain, IsNoDearer}
use Rattle.box_space.specs.Forms.{cuts}
use Rattle.box_space.specs.declared.coordinates.Form.{Form}
use Rattle.search_core.specs.declared.options.Options.{Options}
use Rattle.leaf_cuts.specs.Given.{IsGiven}

-- ---- plans

-- the cheapest starting plan that obeys, where there is no plan or a dearer one
pub record IsBetterStart (n : Net) (s : Searched) (w : Written) : Type 0 where
  pub cheapest : IsCheapestStart n w
  pub cheaper : ForSome s.best (IsCheaper n w)

-- there is none
abbrev pub HasNoBetterStart : Net → Searched → Type 0
HasNoBetterStart n s = (w : Written) → ¬ IsBetterStart n s w

abbrev pub HasPlan : Searched → Type 0
HasPlan s = s.best ≢ None

-- ---- the gap

-- a plan's cost less a bound is at most a gap, over the plan's denominator
abbrev pub IsNear : Net → ℤ → ℤ → Written → Type 0
IsNear n gap least w = (cost_of n (plan_of n w) -ℤ least *ℤ pos (w.flow_base * w.base)) ≤ℤ (gap *ℤ pos (w.flow_base * w.base))

-- the cost of the best plan less the tree's bound is at most a gap
pub record IsClosed (n : Net) (gap : ℤ) (s : Searched) : Type 0 where
  pub plan : Written
  pub best : s.best ≡ Some plan
  pub least : ℤ
  pub bounded : tree_bound n s.tree ≡ Some least
  pub near : IsNear n gap least plan

-- ---- the root

-- the root has no proof, and no split cuts it
abbrev pub IsRootOpen : Searched → Type 0
IsRootOpen s = (s.tree.proof 0 ≡ None) × (is_cut s.tree.splits 0 ≡ false)

-- a proof that rounding gives above the root's bound, where the root is open
pub record IsRootProof (n : Net) (form : Form) (s : Searched) (p : Proof) : Type 0 where
  pub is_open : IsRootOpen s
  pub least : ℤ
  pub bounded : node_bound n s.tree 0 ≡ Some least
  pub given : IsGiven n form (root n) (bound least) (Some p)

-- rounding gives none above the root's bound, where the root is open
abbrev pub HasNoRootProof : Net → Form → Searched → Type 0
HasNoRootProof n form s = (least : ℤ) → IsRootOpen s → node_bound n s.tree 0 ≡ Some least → IsGiven n form (root n) (bound least) None

-- ---- repaired plans

-- A plan that was repaired from this point, which has a number for each variable: it obeys and is cheaper than the best one, and no
-- dearer than the plain plan of this point where that is accepted.
pub record IsRepair (n : Net) (s : Searched) (point : List ℤ) (w : Written) : Type 0 where
  pub long : length point ≡ variables n
  pub gain : IsGain n s.best w
  pub no_dearer : IsAccepted n (plain_plan n point) → IsNoDearer n w (plain_plan n point)

-- none was repaired from this point: its plain plan is no gain
pub record IsBeyondRepair (n : Net) (s : Searched) (point : List ℤ) : Type 0 where
  pub long : length point ≡ variables n
  pub vain : ¬ IsGain n s.best (plain_plan n point)

-- No plan is repaired: where one was since the last proof or split no point was tried, and else the point that was tried gave none.
abbrev pub HasNoRepair : Net → Searched → Bool → Option (List ℤ) → Type 0
HasNoRepair n s true tried = tried ≡ None
HasNoRepair n s false tried = IsSomeAnd tried (IsBeyondRepair n s)

-- whether a plan was repaired since the last proof or split, before and after a plan is taken: it is one where no starting plan
-- was better
pub record IsRepairedBy (n : Net) (s : Searched) (before now : Bool) : Type 0 where
  pub repaired : HasNoBetterStart n s → now ≡ true
  pub started : (w : Written) → IsBetterStart n s w → now ≡ before

-- the same before and after an entry is taken
abbrev pub IsRepairedAfter : Net → Searched → Entry → Bool → Bool → Type 0
IsRepairedAfter n s (root_proof proof) before now = now ≡ false
IsRepairedAfter n s (split_of split left right) before now = now ≡ false
IsRepairedAfter n s (improve plan) before now = IsRepairedBy n s before now

-- ---- splits

-- as many splits are there as are asked for
abbrev pub IsSpent : Options → Searched → Type 0
IsSpent o s = o.nodes ≤ length s.tree.splits

-- a coordinate of the form at which a box can be cut: its ends are at least 2 apart
pub record IsCuttable (n : Net) (form : Form) (b : Box) (c : ℕ) : Type 0 where
  pub known : c < coords n
  pub of_form : IsTrue (cuts form (coord_at n c))
  pub wide : (b.low c +ℤ pos 2) ≤ℤ b.high c

-- the least leaf can't be cut at any coordinate of the form
abbrev pub IsStuck : Net → Form → Searched → Type 0
IsStuck n form s = (leaf c : ℕ) → IsLeastLeaf n s.tree leaf → ¬ IsCuttable n form (box_of n s.tree.splits leaf) c
