-- What a valid certificate claims follows.
use Rattle.std.proofs.Common.{pos, ◌*ℤ◌, ◌≤ℤ◌, arith, sym, subst}
use Rattle.integers.proofs.Ring.{additive}
use Rattle.pool_model.specs.Network.{Net, IsLimited}
use Rattle.pool_model.specs.Plan.{plan_of, cost_of}
use Rattle.pool_model.specs.Claim.{Claimed, with_gap, with_bound, no_plan, Follows}
use Rattle.row_model.specs.Trees.{Tree, IsTree}
use Rattle.row_model.proofs.TreeBound.{tree-bound, tree-empty}
use Rattle.cert_format.specs.Cert.{Cert}
use Rattle.cert_format.specs.Valid.{tree_of, IsShown, IsValid}

shown-follows : (n : Net) (tree : Tree) (claim : Claimed) → IsLimited n → IsTree n tree → IsShown n tree claim → Follows n claim
shown-follows n tree (with_gap plan cost base bound gap) limited is shown =
    let holds = tree-bound n tree bound limited is shown.bound_is in
    let above : (bound *ℤ pos base) ≤ℤ cost =
    subst (λ c. (bound *ℤ pos base) ≤ℤ c) (sym shown.cost_is) (subst (λ b. (bound *ℤ pos b) ≤ℤ cost_of n (plan_of n plan)) (sym shown.base_is) (holds (plan_of n plan) shown.obeys)) in
    record {
      obeys = shown.obeys;
      base_is = shown.base_is;
      cost_is = shown.cost_is;
      bound_holds = holds;
      gap_is = shown.gap_is;
      not_negative = subst (λ g. pos 0 ≤ℤ g) (sym shown.gap_is) (omega (arith, additive, above));
    }
shown-follows n tree (with_bound bound) limited is shown = tree-bound n tree bound limited is shown
shown-follows n tree no_plan limited is shown = tree-empty n tree limited is shown

pub valid-follows : (n : Net) (c : Cert) → IsLimited n → IsValid n c → Follows n c.claim
valid-follows n c limited is = shown-follows n (tree_of c) c.claim limited is.tree is.claim
