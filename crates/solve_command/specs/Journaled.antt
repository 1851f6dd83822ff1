-- What a run with a journal leaves on the disk, and what it prints of it.
use Rattle.std.specs.Prelude.{◌≡◌, ◌⊎◌, ℕ, List, length, Option}
use Rattle.disk_calls.specs.Disks.{DiskTold, LeavesOnly}
use Rattle.pool_model.specs.Network.{Net, Network, net_of}
use Rattle.row_model.specs.Entries.{Entry, Searched, made_by, AreInOrder}
use Rattle.cert_format.specs.Cert.{Cert}
use Rattle.cert_lengths.specs.Lengths.{HasFewRows}
use Rattle.tree_certificate.specs.Certificates.{cert_of}
use Rattle.cli_words.specs.Requests.{Solving}
use Rattle.network_text.specs.Canonical.{canonical_text}
use Rattle.journal_format.specs.Files.{Stands}
use Rattle.search_run.specs.Found.{IsGrown}
use Rattle.search_run.specs.declared.orders.Orders.{Orders}
use Rattle.recorded_run.specs.Recorded.{BeginsWith, IsBetween, IsNetworksOwn, StandsNow}
use Rattle.recorded_run.specs.Acknowledged.{KeepsAcknowledged}
use Rattle.journal_status.specs.JournalEnds.{CameToNoFile, HoldsOnDisk, IsAttachedTo}
use Rattle.run_status.specs.Reads.{Files, ReadsUnder}
use Rattle.solve_command.specs.Resumed.{IsNoWorse}
use Rattle.solve_command.specs.Solution.{IsSolutionFrom}
use Rattle.solve_command.specs.SolveEnds.{IsEnded, IsPrinted, IsWithinBudget, orders_of}
use Rattle.run_status.specs.declared.status.Status.{Status}
use Rattle.run_status.specs.declared.status.Status.TheVariants as statuses

-- What is printed of the tree that was found: its certificate. The search went on from the tree that it began with: the splits and
-- proofs there stand, and bound and plan are no worse.
pub record IsPrintOf (n : Net) (o : Orders) (begun found : Searched) (status : Status) (Prints : Cert → Type 0) : Type 0 where
  -- Promise: What is printed on the network's own file is the certificate of the tree that the last list makes
  pub prints : Prints (cert_of n found)
  pub solution : IsSolutionFrom n o begun status (cert_of n found)
  -- Promise: Where the disk tells: the splits and proofs of the tree that the run began with stand in the printed certificate
  pub grown : IsGrown n o begun.tree found.tree
  -- Promise: Where the disk tells: the bound of the printed certificate is no lower than that of the tree that the run began with, and its
  --   plan no dearer; it gives a plan where that tree had one, and says that no plan obeys where that tree had no bound
  pub no_worse : IsNoWorse n begun found (cert_of n found)

-- A run on a file that is the network's own and stands for the first list. A crash at any moment leaves what it might have left before,
-- or the network's own file, for a list between the first and the last: so of two such lists one begins with the other. Where the run
-- came to its end, the file stands for the last list, and what is printed is the certificate of its tree. Where memory ran out, the file
-- that reads then stands for the last list too. Where the first list has few enough cuts for the rows of the network, so has each of
-- these lists.
pub record IsRunOn (n : Net) (text : List ℕ) (o : Orders) (first : List Entry) (old new : DiskTold)
    (status : Status) (Prints : Cert → Type 0) : Type 0 where
  pub last : List Entry
  pub begins : BeginsWith last first
  -- Promise: On the network's own file a crash at any moment leaves a file that a crash might have left before, or the network's own, for a
  --   list of entries that begins with those that were found
  pub any_moment : LeavesOnly old new (λ c. old.may_leave c ⊎ IsBetween n text first last c)
  -- Promise: On the network's own file a run loses no acknowledged entry, at any moment: what is acknowledged by then each crash since then
  --   leaves, and each crash up to then left at most one entry more
  pub acknowledged : KeepsAcknowledged n text first last old new
  -- Promise: Where twice the cuts of the list that the network's own file stood for and one, times the rows of the network, is at most
  --   32,000,000, so it is with each list that a run of `solve` within the budget leaves, also where it fails or is stopped at any moment
  pub few : HasFewRows n o.nodes → HasFewRows n (length (made_by first).tree.splits) →
      (list : List Entry) → BeginsWith last list → HasFewRows n (length (made_by list).tree.splits)
  -- Promise: Where a certificate was printed, or the sink failed, the network's own file stands for the last list, and every crash leaves
  --   that file
  pub held : IsPrinted status → HoldsOnDisk n text last new
  -- Promise: Where memory ran out, the file that reads at the end stands for the last list too
  pub stands : status ≡ statuses.OutOfMemory → StandsNow n text last new
  -- Promise: What is printed on the network's own file is the certificate of the tree that the last list makes
  pub printed : IsEnded status → IsPrintOf n o (made_by first) (made_by last) status Prints

-- What is printed comes of a search that went on from entries in order, which are those that the file stands for, all of them.
pub record IsResumedFrom (n : Net) (text : List ℕ) (o : Orders) (file : List ℕ) (status : Status) (Prints : Cert → Type 0) : Type 0 where
  pub first : List Entry
  pub stands : Stands file text first
  pub in_order : AreInOrder n first
  pub found : Searched
  pub print : IsPrintOf n o (made_by first) found status Prints

-- A run that attached a file: what is printed comes of that file's entries.
pub record IsAttached (n : Net) (text : List ℕ) (o : Orders) (old new : DiskTold)
    (status : Status) (Prints : Cert → Type 0) : Type 0 where
  pub file : List ℕ
  pub attached : IsAttachedTo n text file old new status
  -- Promise: With `--journal`, over a disk that tells, what is printed comes of a run that went on from the entries that the file stood for
  --   which was attached, all of them, whether or not that file is the network's own
  pub resumed : IsEnded status → IsResumedFrom n text o file status Prints
  -- Promise: With `--journal`, over a disk that tells, the entries that the run began with are those that the network's own file stood for
  -- Promise: On the network's own file a crash at any moment leaves a file that a crash might have left before, or the network's own, for a
  --   list of entries that begins with those that were found
  pub own : (first : List Entry) → IsNetworksOwn n text first file → IsRunOn n text o first old new status Prints

-- a run that read a network, and a file as its journal, for what is within the budget
pub record AttachedUnder (files : Option Files) (s : Solving) (old new : DiskTold)
    (status : Status) (Prints : Cert → Type 0) : Type 0 where
  pub network : Network
  pub read : ReadsUnder files s.net network
  pub within : IsWithinBudget (net_of network) s.nodes s.raise
  pub attached : IsAttached (net_of network) (canonical_text network) (orders_of s) old new status Prints

-- A run whose words name a journal, from the old state of the disk to the new one: it came to no file, or it read one.
abbrev pub Journaled : Option Files → Solving → (old new : DiskTold) → Status → (Cert → Type 0) → Type 0
Journaled files s old new status Prints = CameToNoFile old new status ⊎ AttachedUnder files s old new status Prints
