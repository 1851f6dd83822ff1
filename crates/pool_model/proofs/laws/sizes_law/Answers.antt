use Rattle.pool_model.proofs.Sizes.{cost-most, written-most, reach-most}
use Rattle.pool_model.proofs.laws.sizes_law.Goals as goal

pub returns : goal.returns
returns c = record { cost = cost-most; written = written-most; reach = reach-most }
