use Rattle.std.proofs.Common.{◌≡◌, ◌++◌, take}
use Rattle.pool_model.specs.Network.{net_of}
use Rattle.box_space.specs.Blocks.{number_of}
use Rattle.box_space.specs.Lines.{terms_at}
use Rattle.box_space.specs.Tables.{factor_of}
use Rattle.box_space.proofs.rows.LinRow.add_all.Given as goal

abbrev pub invariant-loop-number : goal.invariant-loop-number
invariant-loop-number l = record {
  terms : l.self.terms ≡ l.initial.self.terms ++ terms_at (number_of (net_of l.net) l.block) (factor_of (net_of l.net) l.block l.factor) (take l.number-index l.numbers);
  constant : l.self.constant ≡ l.initial.self.constant;
}
