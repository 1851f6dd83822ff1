-- How long the lists of a network are: one for each quality.
use Rattle.std.proofs.Common.{◌≡◌, ℕ, ◌<◌, pos, length, map, get_or, ◌∙◌, sym}
use Rattle.std.proofs.lemmas.List.{length-map}
use Rattle.pool_model.specs.Network.{Network, no_source, no_pool, no_product}
use Rattle.blend_network.specs.Made.{IsMade}
use Rattle.blend_network.specs.Canonical.{canonical_source, canonical_pool, canonical_product}
use Rattle.blend_network.proofs.CanonicalFaults.{canonical_rectangular, held}

pub quality_each : (n : Network) → IsMade n → (i : ℕ) → i < length n.sources → length (get_or n.sources i no_source).quality ≡ length n.qualities
quality_each n made i h = held (λ s. length s.quality ≡ length n.qualities) canonical_source n.sources no_source (canonical_rectangular n made).sources i h

pub least_each : (n : Network) → IsMade n → (j : ℕ) → j < length n.products → length (get_or n.products j no_product).least ≡ length n.qualities
least_each n made j h = held (λ p. length p.least ≡ length n.qualities) canonical_product n.products no_product (canonical_rectangular n made).least j h

pub most_each : (n : Network) → IsMade n → (j : ℕ) → j < length n.products → length (get_or n.products j no_product).most ≡ length n.qualities
most_each n made j h = held (λ p. length p.most ≡ length n.qualities) canonical_product n.products no_product (canonical_rectangular n made).most j h

pub ratio_each : (n : Network) → IsMade n → (l : ℕ) → l < length n.pools → length (get_or n.pools l no_pool).ratio ≡ length n.qualities
ratio_each n made l h =
    sym (length-map (get_or n.pools l no_pool).ratio pos) ∙ held (λ p. length p.ratio ≡ length n.qualities) canonical_pool n.pools no_pool (canonical_rectangular n made).ratio l h
