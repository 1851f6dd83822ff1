use Rattle.program_model.proofs.SameFlows.{obeys-same, cost-same}
use Rattle.program_model.proofs.laws.same_flows_law.Goals as goal

pub returns : goal.returns
returns c = record { obeys = obeys-same; cost = cost-same }
