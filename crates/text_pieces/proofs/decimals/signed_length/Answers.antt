use Rattle.text_pieces.proofs.Lengths.{length-signed}
use Rattle.text_pieces.proofs.decimals.signed_length.Goals as goal

pub returns : goal.returns
returns c = length-signed c.args.negative c.args.size c.minus.result.now c.format-units.result.now c.minus.ensures c.format-units.ensures.text
