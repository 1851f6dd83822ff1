use Rattle.std.proofs.Common.{pos}
use Rattle.row_model.proofs.EnvelopeLaw.{side-holds}
use Rattle.row_model.proofs.row_laws.envelope_law.Goals as goal

pub returns : goal.returns
returns c = record {
  holds = λ number scale e w a b t d a_low a_high b_low b_high product.
      side-holds number scale e w a (pos t) b (pos d) record { a_low = a_low; a_high = a_high; b_low = b_low; b_high = b_high; product = product };
}
