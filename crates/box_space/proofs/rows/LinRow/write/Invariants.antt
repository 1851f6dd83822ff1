use Rattle.std.proofs.Common.{◌≡◌, take}
use Rattle.std.specs.List.{flat_map}
use Rattle.pool_model.specs.Network.{net_of}
use Rattle.box_space.specs.Tables.{terms_of}
use Rattle.box_space.proofs.rows.LinRow.write.Given as goal

abbrev pub invariant-loop-terms : goal.invariant-loop-terms
invariant-loop-terms l = record {
  terms : l.self.terms ≡ flat_map (terms_of (net_of l.net)) (take l.terms-index l.table.terms);
  constant : l.self.constant ≡ l.initial.self.constant;
}
