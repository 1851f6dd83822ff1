use Rattle.std.proofs.Common.{add-one}
use Rattle.network_json.proofs.Unlimited.{no_limits-more}
use Rattle.network_json.proofs.tables.unlimited.Goals as goal

pub loop-name-preserved : goal.loop-name-preserved
loop-name-preserved c = rw (add-one, c.in_ok-push.ensures.items, c.loop-name.invariant) (no_limits-more c.args.names.now c.loop-name._name-index c.loop-name-test.true)
