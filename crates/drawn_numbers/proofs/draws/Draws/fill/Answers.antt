use Rattle.std.proofs.Common.{refl, ◌∙◌, arith}
use Rattle.std.proofs.lemmas.List.{take_more_set}
use Rattle.drawn_numbers.proofs.Steps.{no_draw, next_more, draws_more}
use Rattle.drawn_numbers.proofs.draws.Draws.fill.Goals as goal

pub loop-byte-init : goal.loop-byte-init
loop-byte-init c = record { bytes = refl; state = no_draw c.args.self.now.state }

pub loop-byte-preserved : goal.loop-byte-preserved
loop-byte-preserved c =
    let s = c.args.self.now.state in
    let t = c.loop-byte.self.state in
    let u = c.below.new.self.state in
    let i = c.loop-byte.byte-index in
    let at = c.loop-byte.invariant.state in record {
      bytes = take_more_set c.loop-byte.into i c.below.result (search arith)
          ∙ draws_more s t u 256 i c.below.result _ at c.below.ensures.state c.below.ensures.drawn c.loop-byte.invariant.bytes;
      state = next_more s t u i at c.below.ensures.state;
    }
