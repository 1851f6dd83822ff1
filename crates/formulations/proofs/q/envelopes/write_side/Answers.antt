use Rattle.std.proofs.Common.{pos, arith, refl, ◌∙◌}
use Rattle.pool_model.specs.Network.{net_of}
use Rattle.row_model.specs.Boxes.{grain}
use Rattle.row_model.specs.Variables.{variables}
use Rattle.row_model.specs.Envelopes.{Side, side}
use Rattle.mccormick.specs.Views.{shown_ends}
use Rattle.box_space.specs.Views.{shown_box}
use Rattle.box_space.proofs.Writing.{line-same}
use Rattle.formulations.proofs.ProportionEnvelopes.{AreNumbers, side_terms, envelope_row, three}
use Rattle.formulations.proofs.q.envelopes.write_side.Goals as goal

pub returns : goal.returns
returns c =
    let n = net_of c.args.net.now in
    let arcs = c.path-feed.ensures in
    let e = c.path-feed.result.0 in
    let o = c.path-feed.result.1 in
    let numbers : AreNumbers n c.args.path e o c.variable_number-a.result c.variable_number-b.result c.variable_number-w.result =
    record { path = c.requires.path; feed = arcs.known_feed; out = arcs.known_out; a_is = c.variable_number-a.ensures; b_is = c.variable_number-b.ensures; w_is = c.variable_number-w.ensures } in
    let s : Side = side c.args.side (pos grain) (shown_ends c.proportion_ends-ends.result) in
    line-same n (three c.args.path e o s) _ c.envelope.new.row _
    (envelope_row n (shown_box c.args.v.now) c.args.path c.args.side e o s (shown_ends c.proportion_ends-ends.result) arcs.feed arcs.out c.proportion_ends-ends.ensures refl)
    record {
      terms = c.envelope.ensures.terms (variables n) (omega arith) (omega arith) (omega arith)
          ∙ side_terms n c.args.path e o _ _ _ s numbers;
      constant = c.envelope.ensures.constant;
      kind = refl;
    }
