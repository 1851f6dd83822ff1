-- How `report` ends: as `check` does, with the report in place of the line of an accepted certificate.
use Rattle.std.specs.Prelude.{ℕ, List, Option}
use Rattle.run_status.specs.Reads.{Files}
use Rattle.certificate_commands.specs.CheckEnds.{CheckDecided, CheckEnds, JudgesAs, check_status}
use Rattle.certificate_commands.specs.declared.judging.Telling.TheVariants.{Report}
use Rattle.certificate_commands.specs.declared.reporting.ReportOutcome.{ReportOutcome}
use Rattle.run_status.specs.declared.status.Status.{Status}
use Rattle.run_status.specs.declared.status.Status.TheVariants as statuses

-- the status with which `check` ends on the same files: a report is done where a certificate is accepted
abbrev pub as_check : Status → Status
as_check statuses.Done = statuses.Accepted
as_check statuses.Accepted = statuses.Done
as_check status = status

-- the status that it ends with
abbrev pub report_status : ReportOutcome → Status
report_status outcome = as_check (check_status outcome.check)

-- the texts that answer on the certificate under the second name, for the network under the first, by the status
-- Promise: What `report` prints is the report of a certificate that is valid for the network of NET, rounded as the definition says, or the
--   line of the first cause to refuse the text
abbrev pub ReportsAs : Option Files → (net cert : List ℕ) → Status → List ℕ → Type 0
ReportsAs files net cert status = JudgesAs Report files net cert (as_check status)

-- ---- when each status comes

-- Each status comes only where that of `check` does.
-- Promise: Each other status comes only where it says so of the files: 3 where no network is read from NET, with its first cause; 4 where
--   `--nodes` is above 200,000, or twice `--nodes` and one, times the rows of the network, is above 32,000,000; 0, 10 and 11 of `solve`
--   where a network is read and it is not so, 12 where no plan obeys it, 13 where no starting plan does; 0 of `check` where CERT is the
--   text of a valid certificate, and 1 where it is not; 5 where CERT has more than 1,073,741,824 bytes; 30 to 33 of `solve` where a network
--   is read, what is asked is within the budget and a journal is named
abbrev pub ReportEnds : Option Files → (net cert : List ℕ) → (before after : ℕ) → Status → Type 0
ReportEnds files net cert before after status = CheckEnds files net cert before after (as_check status)

-- which status comes, by what the told files say, where the run isn't cut short
abbrev pub ReportDecided : Files → (net cert : List ℕ) → Status → Type 0
ReportDecided told net cert status = CheckDecided told net cert (as_check status)
