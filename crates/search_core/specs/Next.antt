-- What a search does next: the first case that applies.
use Rattle.std.specs.Prelude.{◌≡◌, ◌≢◌, ℕ, ◌<◌, ◌⊎◌, List, length, Bool, true, false, Option, Some, None, option_map, IsSomeAnd, ℤ}
use denote.Ref.{Bor}
use Rattle.pool_model.specs.Network.{Net}
use Rattle.row_model.specs.Boxes.{Box, left_of, right_of}
use Rattle.row_model.specs.Multipliers.{Proof, bound}
use Rattle.row_model.specs.Trees.{tree_bound, box_of, IsLeastLeaf}
use Rattle.row_model.specs.Entries.{Searched}
use Rattle.pool_model.specs.Plan.{Written}
use Rattle.box_space.specs.Views.{shown_proof}
use Rattle.box_space.specs.declared.coordinates.Split.{Split}
use Rattle.plan_core.specs.Views.{shown_plan}
use Rattle.box_tree.specs.declared.entry.Entry.{Entry}
use Rattle.box_tree.specs.declared.entry.Entry.TheVariants.{Root, SplitOf, Improve}
use Rattle.branching.specs.Rows.{View}
use Rattle.branching.specs.Rules.{IsPick}
use Rattle.search_core.specs.declared.options.Options.{Options}
use Rattle.search_core.specs.declared.next.Answer.{Answer}
use Rattle.search_core.specs.declared.next.Next.{Next}
use Rattle.search_core.specs.declared.next.Next.TheVariants.{Do, End}
use Rattle.search_core.specs.declared.ended.Ended.{Ended}
use Rattle.search_core.specs.declared.ended.Ended.TheVariants.{Closed, Stopped, Stuck, Infeasible, Undecided}
use Rattle.leaf_cuts.specs.Views.{IsViewOf}
use Rattle.leaf_cuts.specs.Given.{IsGiven}
use Rattle.leaf_cuts.specs.Halvings.{middle_at}
use Rattle.search_core.specs.Cases.{IsBetterStart, HasNoBetterStart, HasPlan, IsClosed, IsRootProof, HasNoRootProof, IsRepair, HasNoRepair, IsSpent, IsCuttable, IsStuck}

-- there is no better starting plan, a leaf may hold a plan, and the gap is not closed
pub record IsApart (n : Net) (o : Options) (s : Searched) : Type 0 where
  pub start : HasNoBetterStart n s
  pub bounded : tree_bound n s.tree ≢ None
  pub wide : ¬ IsClosed n o.gap s

-- and there is no proof of the root to be had
pub record IsRooted (n : Net) (o : Options) (s : Searched) : Type 0 where
  pub apart : IsApart n o s
  pub proved : HasNoRootProof n o.form s

-- and no plan is repaired: the flag says whether one was since the last proof or split, and beside it stands the point that was tried
pub record GoesOn (n : Net) (o : Options) (s : Searched) (repaired : Bool) (tried : Option (List ℤ)) : Type 0 where
  pub rooted : IsRooted n o s
  pub unrepaired : HasNoRepair n s repaired tried

-- A plan that is repaired from the point that was tried, where none was since the last proof or split.
pub record IsRepairStep (n : Net) (o : Options) (s : Searched) (repaired : Bool) (tried : Option (List ℤ)) (w : Written) : Type 0 where
  pub rooted : IsRooted n o s
  pub clear : repaired ≡ false
  pub repair : IsSomeAnd tried (λ point. IsRepair n s point w)

-- A split of a box at a coordinate of the form, in the middle of its ends, with what rounding gives for both halves above a bound.
pub record IsHalving (n : Net) (o : Options) (b : Box) (least : ℤ) (split : Split) (left right : Option Proof) : Type 0 where
  pub cuttable : IsCuttable n o.form b split.coord
  pub middle : split.cut ≡ middle_at b split.coord
  pub left_given : IsGiven n o.form (left_of b split.coord split.cut) (bound least) left
  pub right_given : IsGiven n o.form (right_of b split.coord split.cut) (bound least) right

-- a split of the least leaf: the rule's pick on the leaf's view, with proofs above the leaf's bound
-- Promise: What a split adds is what rounding gives for both halves, cut in the middle, above the leaf's bound
pub record IsLeastSplit (n : Net) (o : Options) (s : Searched) (post : Bor View → ℕ → Type 0) (split : Split) (left right : Option Proof) : Type 0 where
  pub leaf : IsLeastLeaf n s.tree split.leaf
  pub view : View
  pub seen : IsViewOf n o.form s.tree.splits (box_of n s.tree.splits split.leaf) split.leaf view
  pub picked : IsPick post view split
  pub least : ℤ
  pub bounded : tree_bound n s.tree ≡ Some least
  pub halving : IsHalving n o (box_of n s.tree.splits split.leaf) least split left right

-- ---- the cases

-- an entry: a better starting plan goes first, then a proof of the root, then a repaired plan, then a split
abbrev pub IsEntry : Net → Options → Searched → Bool → Option (List ℤ) → (Bor View → ℕ → Type 0) → Entry → Type 0
IsEntry n o s repaired tried post (Improve plan) = IsBetterStart n s (shown_plan plan) ⊎ IsRepairStep n o s repaired tried (shown_plan plan)
IsEntry n o s repaired tried post (Root proof) = IsApart n o s × IsRootProof n o.form s (shown_proof proof)
IsEntry n o s repaired tried post (SplitOf split left right) =
    GoesOn n o s repaired tried × (length s.tree.splits < o.nodes)
    × IsLeastSplit n o s post split (option_map shown_proof left) (option_map shown_proof right)

-- how the search ended is what the first case that applies says
abbrev pub IsEnded : Net → Options → Searched → Bool → Option (List ℤ) → Ended → Type 0
IsEnded n o s repaired tried Infeasible = HasNoBetterStart n s × (tree_bound n s.tree ≡ None)
IsEnded n o s repaired tried Closed = HasNoBetterStart n s × IsClosed n o.gap s
IsEnded n o s repaired tried Stopped = GoesOn n o s repaired tried × IsSpent o s × HasPlan s
IsEnded n o s repaired tried Stuck = GoesOn n o s repaired tried × (length s.tree.splits < o.nodes) × IsStuck n o.form s × HasPlan s
IsEnded n o s repaired tried Undecided = GoesOn n o s repaired tried × (IsSpent o s ⊎ IsStuck n o.form s) × (s.best ≡ None)

-- what is due is that of the first case that applies, where this point was tried
abbrev pub IsNext : Net → Options → Searched → Bool → Option (List ℤ) → (Bor View → ℕ → Type 0) → Next → Type 0
IsNext n o s repaired tried post (Do entry) = IsEntry n o s repaired tried post entry
IsNext n o s repaired tried post (End ended) = IsEnded n o s repaired tried ended

-- where what is due is an entry, this holds of it
abbrev pub IsDo : (Entry → Type 0) → Next → Type 0
IsDo P (Do entry) = P entry
IsDo P _ = Unit {0}

-- ---- the answer

-- the point that was tried, without where it lies in memory
abbrev pub tried_of : Answer → Option (List ℤ)
tried_of a = option_map (λ v. v.items) a.tried

-- the point that is tried at a leaf: that of its advice, unless a plan was repaired since the last proof or split
abbrev pub tried_at : Bool → List ℤ → Option (List ℤ)
tried_at true point = None
tried_at false point = Some point

-- what is due is that of the first case that applies, and the point beside it is the one that was tried
abbrev pub IsAnswer : Net → Options → Searched → Bool → (Bor View → ℕ → Type 0) → Answer → Type 0
IsAnswer n o s repaired post a = IsNext n o s repaired (tried_of a) post a.due
