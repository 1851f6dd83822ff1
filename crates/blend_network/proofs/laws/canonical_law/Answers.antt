use Rattle.blend_network.proofs.CanonicalFaults.{canonical_network, canonical_rectangular, canonical_faultless}
use Rattle.blend_network.proofs.laws.canonical_law.Goals as goal

pub returns : goal.returns
returns c = record { network = canonical_network; rectangular = canonical_rectangular; faultless = canonical_faultless }
