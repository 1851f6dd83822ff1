use Rattle.std.proofs.Common.{All, take}
use Rattle.job_texts.specs.Texts.{IsJobInRange}
use Rattle.job_commands.proofs.ranges.jobs.Given as goal

abbrev pub invariant-loop-each : goal.invariant-loop-each
invariant-loop-each l = All IsJobInRange (take l.each-index l.jobs)
