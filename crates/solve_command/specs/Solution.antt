-- What a printed certificate is for its network, and the status that it ends with.
use Rattle.std.specs.Prelude.{◌≡◌, ◌⊎◌, ◌≤◌, ℕ, length, nat_lt, if◌then◌else◌, ℤ, pos, ◌+ℤ◌, ◌*ℤ◌, ◌≤ℤ◌, int_le}
use Rattle.pool_model.specs.Network.{Net}
use Rattle.pool_model.specs.Plan.{Plan, Obeys, cost_of}
use Rattle.pool_model.specs.Claim.{Claimed, with_gap, with_bound, no_plan, Follows}
use Rattle.row_model.specs.Entries.{Searched, start}
use Rattle.cert_format.specs.Cert.{Cert, IsCert}
use Rattle.cert_format.specs.Text.{text_of}
use Rattle.cert_format.specs.Valid.{IsValid}
use Rattle.cert_lengths.specs.Lengths.{HasFewRows, most_bytes}
use Rattle.tree_certificate.specs.Certificates.{cert_of}
use Rattle.search_core.specs.Cases.{IsSpent, IsStuck}
use Rattle.search_run.specs.Orders.{options_of}
use Rattle.search_run.specs.Runs.{IsRun}
use Rattle.search_run.specs.Found.{IsFound}
use Rattle.search_run.specs.declared.orders.Orders.{Orders}
use Rattle.search_core.specs.declared.ended.Ended.{Ended}
use Rattle.search_core.specs.declared.ended.Ended.TheVariants as ends
use Rattle.run_status.specs.declared.status.Status.{Status}
use Rattle.run_status.specs.declared.status.Status.TheVariants as statuses

-- The status by what is claimed, the asked gap, the asked number of splits and those that there are. With a plan: closed where the
-- gap is at most the asked one; else stopped, or stuck where there are fewer splits. Without a plan: infeasible where none obeys, else
-- undecided.
abbrev pub end_by : (asked : ℤ) (nodes splits : ℕ) → Claimed → Status
end_by asked nodes splits (with_gap plan cost base bound gap) =
    if int_le gap (asked *ℤ pos base) then statuses.Closed else (if nat_lt splits nodes then statuses.Stuck else statuses.Stopped)
end_by asked nodes splits (with_bound bound) = statuses.Undecided
end_by asked nodes splits no_plan = statuses.Infeasible

-- the status by what is printed
abbrev pub end_of : Orders → Cert → Status
end_of o c = end_by o.gap o.nodes (length c.splits) c.claim

-- the status by how the search ended
abbrev pub status_of : Ended → Status
status_of ends.Closed = statuses.Closed
status_of ends.Stopped = statuses.Stopped
status_of ends.Stuck = statuses.Stuck
status_of ends.Infeasible = statuses.Infeasible
status_of ends.Undecided = statuses.Undecided

-- Near enough: the plan that is claimed costs at most the gap, in picos, more than each plan that obeys, of any denominator.
abbrev pub IsNearEnough : Net → (gap : ℤ) → Claimed → Type 0
IsNearEnough n gap (with_gap plan cost base bound apart) = (p : Plan) → Obeys n p → (cost *ℤ pos p.base) ≤ℤ ((cost_of n p +ℤ gap *ℤ pos p.base) *ℤ pos base)
IsNearEnough n gap (with_bound bound) = ⊥
IsNearEnough n gap no_plan = ⊥

-- Why a search could not go on: under `Stuck` the least leaf can't be cut at any coordinate of the form, and under `Undecided` it
-- can't, or there are as many splits as were asked for.
pub record IsHeld (n : Net) (o : Orders) (found : Searched) (status : Status) : Type 0 where
  pub stuck : status ≡ statuses.Stuck → IsStuck n o.form found
  pub undecided : status ≡ statuses.Undecided → IsSpent (options_of o) found ⊎ IsStuck n o.form found

-- The tree has few enough nodes for the rows of the network, and so the text of the certificate is short enough for a file that is
-- checked.
pub record IsShort (n : Net) (c : Cert) : Type 0 where
  pub few : HasFewRows n (length c.splits)
  pub text : IsCert c → length (text_of c) ≤ most_bytes

-- The certificate of what a search found that began with this tree, with the status that it ends with. It is valid, and what it
-- claims follows. What the steps were, and what follows of the tree and the plan, is said by `search_run`.
pub record IsSolutionFrom (n : Net) (o : Orders) (begun : Searched) (status : Status) (c : Cert) : Type 0 where
  pub found : Searched
  pub ended : Ended
  -- Promise: The certificate that `solve` prints is that of a tree and of the cheapest plan found: the bound is the tree's, and the gap is
  --   the difference
  pub is : c ≡ cert_of n found
  -- Promise: The certificate that `solve` prints is valid for the network of the file NET: its shape is the network's, its plan keeps every
  --   capacity, demand and quality rule exactly, its cost is the plan's, its bound is its tree's and its gap is the exact difference
  pub valid : IsValid n c
  -- Promise: No plan that obeys, of any denominator, costs less than the bound of the certificate that `solve` prints, and its gap is not
  --   negative; where it is of the kind `none`, no plan obeys
  pub follows : Follows n c.claim
  -- Promise: A run found the tree and the plan of that certificate: entries one after another, each the step that was due after those
  --   before it, and an end that holds of the tree that they make
  pub run : IsRun n o begun found ended
  pub search : IsFound n o begun found ended
  pub told : status ≡ status_of ended
  -- Promise: 0 stands exactly where a plan is printed and the gap is at most the asked one; 10 where it is above and there are at least
  --   `--nodes` cuts; 11 where it is above and there are fewer; 12 where the kind is `none`; 13 where it is `bound`
  pub ends : status ≡ end_of o c
  -- Promise: Under 0 of `solve` the printed plan costs at most the asked gap more than any plan that obeys, of whatever denominator
  pub near : status ≡ statuses.Closed → IsNearEnough n o.gap c.claim
  -- Promise: Under 11 the leaf of the least bound can't be cut at any coordinate of the form; under 13 it can't, or there are at least
  --   `--nodes` cuts
  pub held : IsHeld n o found status
  -- Promise: Without a journal, or where the disk tells: where twice the cuts that a run of `solve` within the budget began with and one,
  --   times the rows of the network, is at most 32,000,000, so it is with the cuts of the tree that it prints
  pub short : HasFewRows n o.nodes → HasFewRows n (length begun.tree.splits) → IsShort n c

-- the same of a search that began with the root alone
abbrev pub IsSolution : Net → Orders → Status → Cert → Type 0
IsSolution n o status c = IsSolutionFrom n o start status c
