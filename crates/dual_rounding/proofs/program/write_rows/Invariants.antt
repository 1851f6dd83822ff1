use Rattle.std.proofs.Common.{◌≡◌, All, map, take}
use Rattle.pool_model.specs.Network.{net_of}
use Rattle.box_space.specs.Views.{shown_box}
use Rattle.dual_rounding.specs.Programs.{IsRowIn}
use Rattle.dual_rounding.proofs.program.write_rows.Given as goal

abbrev pub invariant-loop-n : goal.invariant-loop-n
invariant-loop-n l = record {
  numbers : map (λ r. r.id) l.into ≡ map (λ r. r.id) l.initial.into;
  written : All (IsRowIn (net_of l.net) (shown_box l.v)) (take l.n l.into);
}
