use Rattle.pool_model.proofs.Plain.{plain-by_number, plain-keeps, plain-cost, plain-inflow, plain-brought, plain-room}
use Rattle.pool_model.proofs.laws.plain_law.Goals as goal

pub returns : goal.returns
returns c = record { plain = plain-by_number; maxima = plain-keeps; cost = plain-cost; inflow = plain-inflow; brought = plain-brought; room = plain-room }
