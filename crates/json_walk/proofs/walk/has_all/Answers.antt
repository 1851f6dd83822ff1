use Rattle.std.proofs.Common.{sym, is_some}
use Rattle.serde_json.specs.Find.{get}
use Rattle.serde_json.specs.View.{view}
use Rattle.json_walk.proofs.Lists.{absent_here, no_value}
use Rattle.json_walk.proofs.walk.has_all.Goals as goal

pub returns-then-is_none : goal.returns-then-is_none
returns-then-is_none c = sym (absent_here (λ k. is_some (get k (view c.args.value.now))) c.args.needed.now
    c.loop-k.k-index _ c.loop-k-test.true (no_value c.get.result _ c.get.ensures c.if-is_none.ensures))
