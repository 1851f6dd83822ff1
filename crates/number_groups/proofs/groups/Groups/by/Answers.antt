use Rattle.std.proofs.Common.{◌<◌, get_or, refl, arith}
use Rattle.number_groups.proofs.Grouped.{length-groups, groups_more}
use Rattle.number_groups.proofs.groups.Groups.by.Goals as goal

pub index_mut-requires : goal.index_mut-requires
index_mut-requires c =
    let below : get_or c.args.keys.now c.loop-number.number 0 < c.args.count = c.requires.known c.loop-number.number 0 c.loop-number-test.true in
    omega (
      arith,
      below,
      c.loop-number.members.ok.0,
      length-groups (λ g. g.items) c.loop-number.members.items
          (λ i. get_or c.args.keys.now i 0) c.loop-number.number c.args.count c.loop-number.invariant,
    )

pub loop-number-preserved : goal.loop-number-preserved
loop-number-preserved c =
    groups_more (λ g. g.items) c.loop-number.members.items (λ i. get_or c.args.keys.now i 0) c.loop-number.number
    c.args.count (get_or c.args.keys.now c.loop-number.number 0) c.index_mut.result.now c.push.new.self
    c.loop-number.invariant (c.requires.known c.loop-number.number 0 c.loop-number-test.true) refl c.index_mut.ensures.value c.in_ok-push.ensures.items
