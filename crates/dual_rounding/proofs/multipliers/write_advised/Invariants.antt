use Rattle.std.proofs.Common.{◌≡◌, map, take, length, if◌then◌else◌}
use Rattle.std.specs.List.{zip}
use Rattle.box_space.specs.Views.{shown_part}
use Rattle.dual_rounding.specs.Price.{nonzero}
use Rattle.dual_rounding.specs.Tried.{advised_part}
use Rattle.dual_rounding.proofs.multipliers.write_advised.Given as goal

abbrev pub invariant-loop-row : goal.invariant-loop-row
invariant-loop-row l = record {
  scale : l.proof.scale ≡ (if l.advice.ray then 0 else l.scale);
  parts : map shown_part l.proof.parts.items ≡ nonzero (map (advised_part l.scale) (take (length l.yielded) (zip l.lp.rows.items l.advice.duals.items)));
}
