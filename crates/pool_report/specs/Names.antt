-- The names of nodes and qualities, by number.
use Rattle.std.specs.Prelude.{ℕ, List, [], get_or}
use Rattle.pool_model.specs.Network.{Network}
use Rattle.blend_network.specs.Kinds.{names_of}
use Rattle.network_parts.specs.declared.fault.Kind.TheVariants as kinds

abbrev pub source_name : Network → ℕ → List ℕ
source_name n i = get_or (names_of n kinds.Source) i []

abbrev pub pool_name : Network → ℕ → List ℕ
pool_name n l = get_or (names_of n kinds.Pool) l []

abbrev pub product_name : Network → ℕ → List ℕ
product_name n j = get_or (names_of n kinds.Product) j []

abbrev pub quality_name : Network → ℕ → List ℕ
quality_name n k = get_or (names_of n kinds.Quality) k []
