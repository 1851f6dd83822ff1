-- The code of each status, and its line on standard error.
use Rattle.std.specs.Prelude.{ℕ, List, [], ◌++◌, codes, pos}
use Rattle.std.specs.Fmt.{signed_decimal}
use Rattle.network_parts.specs.FirstFault as faults
use Rattle.json_walk.specs.declared.fault.ReadNet.{ReadNet}
use Rattle.json_walk.specs.NetCause as causes
use Rattle.json_walk.specs.declared.fault.ReadNet.TheVariants.{Net}
use Rattle.run_status.specs.declared.status.Status.{Status}
use Rattle.run_status.specs.declared.status.Status.TheVariants as statuses

abbrev pub code_of : Status → ℕ
code_of statuses.Closed = 0
code_of statuses.Accepted = 0
code_of statuses.Done = 0
code_of (statuses.Refused refusal) = 1
code_of (statuses.TightRefused refusal) = 1
code_of statuses.Usage = 2
code_of (statuses.NetworkRefused cause) = 3
code_of statuses.BudgetTooLarge = 4
code_of statuses.CertTooLong = 5
code_of (statuses.JobsRefused line) = 6
code_of statuses.OtherTree = 7
code_of statuses.Stopped = 10
code_of statuses.Stuck = 11
code_of statuses.Infeasible = 12
code_of statuses.Undecided = 13
code_of statuses.ReadFault = 20
code_of statuses.WriteFault = 21
code_of statuses.DiskFault = 22
code_of statuses.OutOfMemory = 23
code_of statuses.OtherNetwork = 30
code_of (statuses.BadJournal number) = 31
code_of (statuses.UnknownVersion version) = 32
code_of statuses.NotAJournal = 33

-- what a line says of a reason: its number, and where rows are refused the number of their fault behind it
abbrev pub reason_of : ReadNet → List ℕ
reason_of (Net fault) = signed_decimal (pos (causes.number (Net fault))) ++ (codes " " ++ signed_decimal (pos (faults.number fault)))
reason_of cause = signed_decimal (pos (causes.number cause))

-- the line on standard error
abbrev pub message_of : Status → List ℕ
message_of statuses.Closed = []
message_of statuses.Accepted = []
message_of statuses.Done = []
message_of (statuses.Refused refusal) = []
message_of (statuses.TightRefused refusal) = []
message_of statuses.Usage = codes "pool: usage: solve NET, check NET CERT, report NET CERT, formulate NET, make N or trial N\n"
message_of (statuses.NetworkRefused cause) = codes "pool: network refused: " ++ (reason_of cause ++ codes "\n")
message_of statuses.BudgetTooLarge = codes "pool: too many nodes for this network\n"
message_of statuses.CertTooLong = codes "pool: certificate too long\n"
message_of (statuses.JobsRefused line) = codes "pool: jobs refused at line " ++ (signed_decimal (pos line) ++ codes "\n")
message_of statuses.OtherTree = codes "pool: jobs of another tree\n"
message_of statuses.Stopped = []
message_of statuses.Stuck = []
message_of statuses.Infeasible = []
message_of statuses.Undecided = []
message_of statuses.ReadFault = codes "pool: read fault\n"
message_of statuses.WriteFault = codes "pool: write fault\n"
message_of statuses.DiskFault = codes "pool: disk fault\n"
message_of statuses.OutOfMemory = codes "pool: out of memory\n"
message_of statuses.OtherNetwork = codes "pool: journal of another network\n"
message_of (statuses.BadJournal number) = codes "pool: journal record " ++ (signed_decimal (pos number) ++ codes " is bad\n")
message_of (statuses.UnknownVersion version) = codes "pool: journal of unknown version " ++ (signed_decimal (pos version) ++ codes "\n")
message_of statuses.NotAJournal = codes "pool: not a journal\n"
