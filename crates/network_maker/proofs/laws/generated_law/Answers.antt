use Rattle.std.proofs.Common.{refl, sym}
use Rattle.pool_model.specs.Network.{net_of}
use Rattle.blend_network.specs.Canonical.{canonical_rows}
use Rattle.network_maker.specs.Generated.{generated}
use Rattle.network_maker.proofs.Faultless.{rectangular, faultless, same_network, path_count}
use Rattle.network_maker.proofs.laws.generated_law.Goals as goal

pub returns-clause-made : goal.returns-clause-made
returns-clause-made c seed =
    record { rows = canonical_rows (generated seed); rectangular = rectangular seed; faultless = faultless seed; named = sym (same_network seed) }

pub returns-clause-counts : goal.returns-clause-counts
unfolding generated net_of
returns-clause-counts c seed = refl

pub returns-clause-paths : goal.returns-clause-paths
returns-clause-paths c = path_count

pub returns-clause-plain : goal.returns-clause-plain
unfolding generated
returns-clause-plain c seed = refl
