use Rattle.std.proofs.Common.{◌≡◌, take}
use Rattle.drawn_numbers.specs.Draws.{draws, state_after}
use Rattle.drawn_numbers.proofs.draws.Draws.fill.Given as goal

abbrev pub invariant-loop-byte : goal.invariant-loop-byte
invariant-loop-byte l = record {
  bytes : take l.byte-index l.into ≡ draws l.initial.self.state 256 l.byte-index;
  state : l.self.state ≡ state_after l.initial.self.state l.byte-index;
}
