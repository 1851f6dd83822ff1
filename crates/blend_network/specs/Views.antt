-- The fields of a network as the model sees them.
use Rattle.std.specs.Prelude.{string_bytes}
use Rattle.pool_model.specs.Network as model
use Rattle.pool_model.specs.Limits as limits
use Rattle.blend_network.specs.declared.limits.Limit.{Limit}
use Rattle.blend_network.specs.declared.network.Source.{Source}
use Rattle.blend_network.specs.declared.network.Pool.{Pool}
use Rattle.blend_network.specs.declared.network.Product.{Product}

abbrev pub shown_source : Source → model.Source
shown_source s = record { name = string_bytes s.name; cost = s.cost; max = s.max; quality = s.quality.items }

abbrev pub shown_pool : Pool → model.Pool
shown_pool p = record { name = string_bytes p.name; max = p.max; ratio = p.ratio.items }

abbrev pub shown_product : Product → model.Product
shown_product p = record { name = string_bytes p.name; price = p.price; min = p.min; max = p.max; least = p.least.items; most = p.most.items }

abbrev pub shown_limit : Limit → limits.Limit
shown_limit u = record { product = u.product; quality = u.quality; limit = u.limit }
