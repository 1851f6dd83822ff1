use Rattle.std.proofs.Common.{◌∙◌}
use Rattle.quantity.proofs.Laws.{quantity-only, stands_if}
use Rattle.quantity.proofs.read.quantity_of.Goals as goal

pub returns-clause-stands : goal.returns-clause-stands
returns-clause-stands c = stands_if c.args.text.now c.signed.result c.signed.ensures

pub returns-clause-only : goal.returns-clause-only
returns-clause-only c = λ q s. c.signed.ensures ∙ quantity-only c.args.text.now q s
