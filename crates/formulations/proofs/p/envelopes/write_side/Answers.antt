use Rattle.std.proofs.Common.{pos, arith, refl, ◌∙◌}
use Rattle.integers.proofs.Grids.{grid-below}
use Rattle.pool_model.specs.Network.{net_of}
use Rattle.row_model.specs.Variables.{variables}
use Rattle.row_model.specs.Envelopes.{Side, side}
use Rattle.mccormick.specs.Views.{shown_ends}
use Rattle.box_space.specs.Views.{shown_box}
use Rattle.box_space.proofs.Writing.{line-same}
use Rattle.formulations.proofs.QualityEnvelopes.{AreNumbers, AreApart, apart, side_terms, envelope_row, three}
use Rattle.formulations.proofs.p.envelopes.write_side.Goals as goal

pub envelope-requires-clause-a_w : goal.envelope-requires-clause-a_w
envelope-requires-clause-a_w c =
    let n = net_of c.args.net.now in
    omega (arith, grid-below n.pools n.qualities c.out-pool.result.0 c.args.quality c.out-pool.ensures.known_pool c.requires.quality)

pub returns : goal.returns
returns c =
    let n = net_of c.args.net.now in
    let b = shown_box c.args.v.now in
    let l = c.out-pool.result.0 in
    let numbers : AreNumbers n c.args.out c.args.quality l c.variable_number-a.result c.variable_number-b.result c.variable_number-w.result =
    record {
      out = c.requires.out;
      quality = c.requires.quality;
      pool = c.out-pool.ensures.known_pool;
      a_is = c.variable_number-a.ensures;
      b_is =
          c.variable_number-b.ensures;
      w_is = c.variable_number-w.ensures;
    } in
    let apart : AreApart n c.variable_number-a.result c.variable_number-b.result c.variable_number-w.result = apart n c.args.out c.args.quality l _ _ _ numbers in
    let s : Side = side c.args.side (pos 1) (shown_ends c.quality_ends-ends.result) in
    line-same n (three c.args.out c.args.quality l s) _ c.envelope.new.row _
    (envelope_row n b c.args.out c.args.quality c.args.side l s (shown_ends c.quality_ends-ends.result) c.out-pool.ensures.pool c.quality_ends-ends.ensures refl)
    record {
      terms = c.envelope.ensures.terms (variables n) (omega arith) (omega arith) (omega arith)
          ∙ side_terms n c.args.out c.args.quality l _ _ _ s numbers;
      constant = c.envelope.ensures.constant;
      kind = refl;
    }
