use Rattle.std.proofs.Common.{◌≡◌, map}
use Rattle.number_groups.specs.Groups.{groups_of}
use Rattle.number_groups.proofs.groups.empty_groups.Given as goal

abbrev pub invariant-loop : goal.invariant-loop
invariant-loop l = map (λ g. g.items) l.members.items ≡ groups_of (λ _. 0) 0 l.counter
