-- The ends and the sides that the types of this crate stand for.
use Rattle.row_model.specs.Envelopes as model
use Rattle.mccormick.specs.declared.sides.Ends.{Ends}
use Rattle.mccormick.specs.declared.sides.Side.{Side}

abbrev pub shown_ends : Ends → model.Ends
shown_ends e = record { a_low = e.a_low; a_high = e.a_high; b_low = e.b_low; b_high = e.b_high }

abbrev pub shown_side : Side → model.Side
shown_side s = record { of_w = s.of_w; of_a = s.of_a; of_b = s.of_b; constant = s.constant }
