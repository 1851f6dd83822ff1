use Rattle.std.proofs.Common.{rules}
use Rattle.json_walk.specs.Walk.{object}
use Rattle.network_json.specs.Format.{network}
use Rattle.network_json.proofs.tables.network.Goals as goal

pub returns-in_err-open : goal.returns-in_err-open
unfolding network object
returns-in_err-open c = search rules
