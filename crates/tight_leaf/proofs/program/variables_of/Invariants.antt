use Rattle.std.proofs.Common.{◌≡◌, map, take}
use Rattle.tight_leaf.proofs.program.variables_of.Given as goal

abbrev pub invariant-loop-number : goal.invariant-loop-number
invariant-loop-number l = record {
  low : map (λ v. v.low) l.variables.items ≡ take l.number l.low;
  high : map (λ v. v.high) l.variables.items ≡ take l.number l.high;
  cost : map (λ v. v.cost) l.variables.items ≡ take l.number l.cost;
}
