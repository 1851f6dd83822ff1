use Rattle.std.proofs.Common.{◌≡◌, map, get_or}
use Rattle.number_groups.specs.Groups.{groups_of}
use Rattle.number_groups.proofs.groups.Groups.by.Given as goal

abbrev pub invariant-loop-number : goal.invariant-loop-number
invariant-loop-number l = map (λ g. g.items) l.members.items ≡ groups_of (λ i. get_or l.keys i 0) l.number l.count
