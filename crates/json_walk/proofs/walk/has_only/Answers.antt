use Rattle.std.proofs.Common.{◌≡◌, ◌||◌, rules}
use Rattle.std.specs.BTreeMap.{keys}
use Rattle.json_walk.specs.Walk.{is_among, texts}
use Rattle.json_walk.proofs.Lists.{all_names}
use Rattle.json_walk.proofs.walk.has_only.Goals as goal

pub loop-name-init : goal.loop-name-init
loop-name-init c =
    let left : c.into_iter-name-iterator.result ≡ keys c.args.map.now = search rules in
    all_names (λ k. is_among (texts c.args.needed.now) k || is_among (texts c.args.others.now) k) c.args.map.now.entries _ left
