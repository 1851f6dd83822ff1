-- What a refused split is as a fault of jobs.
use Rattle.box_tree.specs.declared.entry.EntryFault.{EntryFault}
use Rattle.box_tree.specs.declared.entry.EntryFault.TheVariants as entry_faults
use Rattle.job_trees.specs.declared.fault.JobsFault.{JobsFault}
use Rattle.job_trees.specs.declared.fault.JobsFault.TheVariants.{Misfit, Memory}

-- want of memory stays that, and every other fault says that the jobs don't fit
abbrev pub of_entry : EntryFault → JobsFault
of_entry entry_faults.Memory = Memory
of_entry _ = Misfit
