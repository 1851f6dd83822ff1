use Rattle.std.proofs.Common.{add-one}
use Rattle.network_json.proofs.Unlimited.{untreated-more}
use Rattle.network_json.proofs.tables.untreated.Goals as goal

pub loop-name-preserved : goal.loop-name-preserved
loop-name-preserved c = rw (add-one, c.in_ok-push.ensures.items, c.loop-name.invariant) (untreated-more c.args.names.now c.loop-name._name-index c.loop-name-test.true)
