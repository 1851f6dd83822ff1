-- What each kind of row has.
use Rattle.std.specs.Prelude.{ℕ, List, [], map}
use Rattle.pool_model.specs.Network.{Network}
use Rattle.network_parts.specs.declared.fault.Kind.{Kind}
use Rattle.network_parts.specs.declared.fault.Kind.TheVariants.{Source, Pool, Product, Quality, Arc}

-- the names of a kind, by number: arcs have none
abbrev pub names_of : Network → Kind → List (List ℕ)
names_of n Source = map (λ s. s.name) n.sources
names_of n Pool = map (λ p. p.name) n.pools
names_of n Product = map (λ p. p.name) n.products
names_of n Quality = n.qualities
names_of n Arc = []
