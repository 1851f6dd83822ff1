use Rattle.std.proofs.Common.{All, subst}
use Rattle.std.proofs.lemmas.List.{take_all}
use Rattle.std.proofs.lemmas.List.Elements.{All-more}
use Rattle.job_texts.specs.Texts.{IsJobInRange}
use Rattle.job_commands.proofs.ranges.jobs.Goals as goal

pub loop-each-preserved : goal.loop-each-preserved
loop-each-preserved c = All-more IsJobInRange c.args.jobs.now c.loop-each.each-index _ c.loop-each-test.true c.loop-each.invariant c.job.ensures

pub returns : goal.returns
returns c = subst (λ xs. All IsJobInRange xs) (take_all c.loop-each.each-index c.args.jobs.now c.loop-each-test.false) c.loop-each.invariant
