-- What a resumed search keeps of the tree that it began with.
use Rattle.std.specs.Prelude.{◌≡◌, ◌⊎◌, Option, None, Some, ℤ, ◌≤ℤ◌}
use Rattle.std.specs.Option.{ForSome}
use Rattle.pool_model.specs.Network.{Net}
use Rattle.pool_model.specs.Plan.{Written}
use Rattle.pool_model.specs.Claim.{Claimed, with_gap, no_plan}
use Rattle.row_model.specs.Trees.{tree_bound}
use Rattle.row_model.specs.Entries.{Searched, IsCheaper}
use Rattle.cert_format.specs.Cert.{Cert}

-- A bound is at least another one. None says that no plan obeys, which is more than any bound says.
abbrev pub IsAtLeast : Option ℤ → Option ℤ → Type 0
IsAtLeast None low = Unit {0}
IsAtLeast (Some z) None = ⊥
IsAtLeast (Some z) (Some low) = low ≤ℤ z

-- a plan is no dearer than another one: it is that plan, or costs less
abbrev pub IsBestNoDearer : Net → Option Written → Option Written → Type 0
IsBestNoDearer n None best = Unit {0}
IsBestNoDearer n (Some plan) None = ⊥
IsBestNoDearer n (Some plan) (Some best) = (best ≡ plan) ⊎ IsCheaper n best plan

-- the claim gives a plan
abbrev pub GivesPlan : Claimed → Type 0
GivesPlan (with_gap plan cost base bound gap) = Unit {0}
GivesPlan claim = ⊥

-- The bound is no lower than that of the tree that the search began with, and the plan no dearer. The certificate gives a plan where
-- there was one, and says that no plan obeys where that tree had no bound.
pub record IsNoWorse (n : Net) (begun found : Searched) (c : Cert) : Type 0 where
  pub bound : IsAtLeast (tree_bound n found.tree) (tree_bound n begun.tree)
  pub plan : IsBestNoDearer n begun.best found.best
  pub gap : ForSome begun.best (λ plan. GivesPlan c.claim)
  pub none : tree_bound n begun.tree ≡ None → c.claim ≡ no_plan
