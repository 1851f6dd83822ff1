use Rattle.serde_json.specs.View.{view}
use Rattle.json_walk.specs.Walk.{items}
use Rattle.json_walk.proofs.Lists.{elements}
use Rattle.json_walk.proofs.walk.items.Goals as goal

pub returns-in-Some : goal.returns-in-Some
unfolding items
returns-in-Some c = elements (view c.args.value.now) c.in-Some.list.now.items c.as_slice.result.now _ c.in-Some.ensures c.as_slice.ensures.value
