-- What a file says of jobs on a tree of a network, and why none are handed out.
use Rattle.std.specs.Prelude.{◌≡◌, ◌⊎◌, ℕ, ◌<◌, ◌≤◌, ◌^◌, List, length, map, Option}
use Rattle.edge_io.specs.Counts.{Rose}
use Rattle.shelf_calls.specs.Files.{HasFile, IsTooLong}
use Rattle.shelf_calls.specs.Told.{ShelfTold}
use Rattle.shelf_calls.specs.declared.fault.ShelfFault.{ShelfFault}
use Rattle.shelf_calls.specs.declared.fault.ShelfFault.TheVariants as shelf
use Rattle.pool_model.specs.Network.{Net, Network, net_of}
use Rattle.row_model.specs.Trees.{IsLeaf}
use Rattle.row_model.specs.Entries.{made_by}
use Rattle.cert_text.specs.Lines.{IsFaultyLine}
use Rattle.box_tree.specs.Kept.{IsOf, searched_of}
use Rattle.work_units.specs.Units as units
use Rattle.work_units.specs.Units.{Answer, node_of}
use Rattle.job_texts.specs.Texts.{Jobs, AreJobs, AreWritten, answers_text, jobs_text}
use Rattle.cert_text.specs.declared.fault.ReadFault.{ReadFault}
use Rattle.cert_text.specs.declared.fault.ReadFault.TheVariants as read_faults
use Rattle.job_trees.specs.Fitting.{Fits, bare}
use Rattle.job_trees.specs.declared.fault.JobsFault.{JobsFault}
use Rattle.job_trees.specs.declared.fault.JobsFault.TheVariants as jobs_faults
use Rattle.job_trees.specs.declared.tree.HandedOut.{HandedOut}
use Rattle.run_status.specs.Reads.{Files, ReadsUnder}
use Rattle.run_status.specs.declared.status.Status.{Status}
use Rattle.run_status.specs.declared.status.Status.TheVariants as statuses
use Rattle.job_commands.specs.declared.handed.Unhanded.{Unhanded}
use Rattle.job_commands.specs.declared.handed.Unhanded.TheVariants.{TooLong, Refused, Failed, Memory}

-- how many bytes a file of jobs may have, or of answers
abbrev pub most_jobs : ℕ
most_jobs = 67108864

-- the bytes are the text of these jobs
pub record SpellsJobs (bytes : List ℕ) (j : Jobs) : Type 0 where
  pub are : AreJobs j
  pub text : bytes ≡ jobs_text j

-- the bytes are the text of these answers
pub record SpellsAnswers (bytes : List ℕ) (answers : List Answer) : Type 0 where
  pub are : AreWritten answers
  pub text : bytes ≡ answers_text answers

-- ---- jobs of a network

-- the file of this name has at most so many bytes, and they spell jobs that fit the network
pub record JobsIn (files : Option Files) (name : List ℕ) (n : Net) (j : Jobs) : Type 0 where
  pub bytes : List ℕ
  pub file : HasFile files name bytes
  pub short : length bytes ≤ most_jobs
  pub spelled : SpellsJobs bytes j
  pub fits : Fits n j

-- a network is read from the file of the first name, and such jobs from that of the second
pub record JobsUnder (files : Option Files) (net jobs : List ℕ) (network : Network) (j : Jobs) : Type 0 where
  pub reads : ReadsUnder files net network
  pub jobs_in : JobsIn files jobs (net_of network) j

-- ---- jobs that are refused

-- The bytes are refused as jobs of the network: at their first faulty line, from 1, where they spell no jobs; and at line 0 where they
-- spell jobs that don't fit the network.
abbrev pub AreRefused : Net → List ℕ → ℕ → Type 0
AreRefused n bytes line = IsFaultyLine Jobs AreJobs jobs_text bytes line ⊎ ((line ≡ 0) × ((j : Jobs) × SpellsJobs bytes j × ¬ Fits n j))

-- the file of this name has at most so many bytes, and is refused at this line
pub record RefusesJobsIn (files : Option Files) (name : List ℕ) (n : Net) (line : ℕ) : Type 0 where
  pub bytes : List ℕ
  pub file : HasFile files name bytes
  pub short : length bytes ≤ most_jobs
  pub refused : AreRefused n bytes line

-- a network is read from the file of the first name, and that of the second is refused as jobs of it
pub record RefusesJobsUnder (files : Option Files) (net jobs : List ℕ) (line : ℕ) : Type 0 where
  pub network : Network
  pub reads : ReadsUnder files net network
  pub refused : RefusesJobsIn files jobs (net_of network) line

-- a network is read from the file of the first name, and that of the second is longer than may be
pub record LongJobsUnder (files : Option Files) (net jobs : List ℕ) (before after : ℕ) : Type 0 where
  pub network : Network
  pub reads : ReadsUnder files net network
  pub more : IsTooLong files jobs most_jobs before after

-- ---- what is handed out

-- The tree is what the splits of the text make of nothing, without proofs, and the jobs are those of the text, each on a leaf of its own;
-- they can be counted in 32 bits.
pub record IsHandedOut (n : Net) (j : Jobs) (h : HandedOut) : Type 0 where
  pub tree : IsOf n h.tree
  pub splits : h.tree.kept.splits.list ≡ j.splits
  pub made : searched_of h.tree.kept ≡ made_by (map bare j.splits)
  pub jobs : h.jobs.items ≡ j.jobs
  pub are : units.AreJobs h.tree.kept.splits.list h.jobs.items
  pub leaves : (k : ℕ) → k < length h.jobs.items → IsLeaf h.tree.kept.splits.list (node_of h.jobs.items k)
  pub counted : length h.jobs.items < 2 ^ 32

-- so are the jobs in the file of this name
abbrev pub HandsOut : Option Files → List ℕ → Net → HandedOut → Type 0
HandsOut files name n h = (j : Jobs) × JobsIn files name n j × IsHandedOut n j h

-- Why none are handed out: the file is too long, it is refused, the shelf failed, or memory ran out. The counts are of the bytes taken.
abbrev pub IsUnhanded : Net → List ℕ → (before after : ShelfTold) → Unhanded → Type 0
IsUnhanded n name before after TooLong = IsTooLong before.files name most_jobs before.taken after.taken
IsUnhanded n name before after (Refused line) = RefusesJobsIn before.files name n line
IsUnhanded n name before after Failed = Rose before.faults after.faults
IsUnhanded n name before after Memory = Unit {0}

-- why none are handed out of bytes that the shelf gave
abbrev pub IsRefusalOf : Net → List ℕ → Unhanded → Type 0
IsRefusalOf n bytes (Refused line) = AreRefused n bytes line
IsRefusalOf n bytes Memory = Unit {0}
IsRefusalOf n bytes why = ⊥

-- why none are handed out where the shelf gave no bytes
abbrev pub unhanded_by : ShelfFault → Unhanded
unhanded_by shelf.Failed = Failed
unhanded_by shelf.TooLong = TooLong
unhanded_by shelf.Memory = Memory

-- the same where the bytes are no text of jobs
abbrev pub unread_as : ReadFault → Unhanded
unread_as (read_faults.Line line) = Refused line
unread_as read_faults.Memory = Memory

-- the same where the jobs are on no tree of the network
abbrev pub misfit_as : JobsFault → Unhanded
misfit_as jobs_faults.Misfit = Refused 0
misfit_as jobs_faults.Memory = Memory

-- the status of a run that handed none out
abbrev pub unhanded_status : Unhanded → Status
unhanded_status TooLong = statuses.CertTooLong
unhanded_status (Refused line) = statuses.JobsRefused line
unhanded_status Failed = statuses.ReadFault
unhanded_status Memory = statuses.OutOfMemory

-- the text was printed, or the sink failed
abbrev pub IsWritten : Status → Type 0
IsWritten statuses.Done = Unit {0}
IsWritten statuses.WriteFault = Unit {0}
IsWritten status = ⊥
