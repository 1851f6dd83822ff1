-- How `trial` ends.
use Rattle.std.specs.Prelude.{◌≡◌, ◌^◌, ℕ, List, false, pos}
use Rattle.pool_model.specs.Network.{Net, net_of}
use Rattle.pool_model.specs.Claim.{Claimed, with_gap}
use Rattle.box_space.specs.declared.coordinates.Form.TheVariants.{Pq}
use Rattle.cert_format.specs.Cert.{Cert}
use Rattle.cert_format.specs.Text.{text_of}
use Rattle.cert_checker.specs.Answers.{IsAccepted}
use Rattle.branching.specs.declared.name.RuleName.TheVariants.{Widest}
use Rattle.network_maker.specs.Generated.{generated}
use Rattle.search_run.specs.declared.orders.Orders.{Orders}
use Rattle.printed_lines.specs.Trial.{trial_text}
use Rattle.printed_lines.specs.declared.trial.Trial.{Trial}
use Rattle.run_status.specs.Messages.{code_of}
use Rattle.solve_command.specs.Solution.{IsSolution}
use Rattle.pool_cli.specs.declared.trial.TrialOutcome.{TrialOutcome}
use Rattle.pool_cli.specs.declared.trial.TrialOutcome.TheVariants as outcomes
use Rattle.run_status.specs.declared.status.Status.{Status}
use Rattle.run_status.specs.declared.status.Status.TheVariants as statuses

-- the status that it ends with
abbrev pub trial_status : TrialOutcome → Status
trial_status outcomes.Done = statuses.Done
trial_status outcomes.Memory = statuses.OutOfMemory
trial_status outcomes.WriteFault = statuses.WriteFault

-- what a trial asks of the search: the third form, ten splits, a gap of a hundredth of money, a cut of the widest coordinate, no squeezes, and no half raised
abbrev pub trial_orders : Orders
trial_orders = record { form = Pq; nodes = 10; gap = pos (10 ^ 10); rule = Widest; squeeze = false; raise = 0 }

-- the code of the status and the numbers of a certificate with a plan
abbrev pub IsToldOf : Status → Claimed → Trial → Type 0
IsToldOf status (with_gap plan cost base bound gap) trial = trial ≡ record { status = code_of status; cost = cost; base = base; bound = bound; gap = gap }
IsToldOf status claim trial = ⊥

-- How a trial of a network went: the numbers of a certificate that `solve` may print of it for these orders, with the status that it
-- ends with then. The check accepts the text of the certificate.
pub record IsTrialOf (n : Net) (trial : Trial) : Type 0 where
  pub status : Status
  pub certificate : Cert
  pub solution : IsSolution n trial_orders status certificate
  pub accepted : IsAccepted n (text_of certificate) certificate.claim
  pub told : IsToldOf status certificate.claim trial

-- the four lines of a trial of the network
pub record Tries (n : Net) (text : List ℕ) : Type 0 where
  pub trial : Trial
  pub tried : IsTrialOf n trial
  pub spelled : text ≡ trial_text n trial

-- the text that is printed of the network, by the status
abbrev pub TriesOn : Net → Status → List ℕ → Type 0
TriesOn n statuses.Done text = Tries n text
TriesOn n status text = ⊥

-- the text that is printed of the network that the number makes, by the status
-- Promise: What `trial` prints are four lines with the counts of the network that the number makes, and the status and the numbers of a
--   certificate that `solve` may print of it for these orders, whose text the check accepts
abbrev pub TriesAs : ℕ → Status → List ℕ → Type 0
TriesAs number status text = TriesOn (net_of (generated number)) status text

-- no other status comes
-- Promise: Each other status comes only where it says so of the files: 3 where no network is read from NET, with its first cause; 4 where
--   `--nodes` is above 200,000, or twice `--nodes` and one, times the rows of the network, is above 32,000,000, or `--raise` is above
--   1,000,000, or above 0 where the network has more than 2,000 variables and rows together; 0, 10 and 11 of `solve`
--   where a network is read and it is not so, 12 where no plan obeys it, 13 where no starting plan does; 0 of `check` where CERT is the
--   text of a valid certificate, and 1 where it is not; 5 where CERT has more than 1,073,741,824 bytes; 30 to 33 of `solve` where a network
--   is read, what is asked is within the budget and a journal is named
abbrev pub TrialEnds : Status → Type 0
TrialEnds statuses.Done = Unit {0}
TrialEnds statuses.WriteFault = Unit {0}
TrialEnds statuses.OutOfMemory = Unit {0}
TrialEnds status = ⊥

-- the lines are printed, or sink or memory failed, whatever the files say
-- Promise: `trial` ends with 0, or sink or memory failed: a made network has no minima, so a plan is always found
abbrev pub TrialDecided : Status → Type 0
TrialDecided status = TrialEnds status
