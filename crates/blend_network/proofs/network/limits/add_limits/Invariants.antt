use Rattle.std.proofs.Common.{◌≡◌, ◌++◌, map, get_or, None}
use Rattle.pool_model.specs.Limits.{product_limits}
use Rattle.blend_network.specs.Views.{shown_limit}
use Rattle.blend_network.proofs.network.limits.add_limits.Given as goal

abbrev pub invariant-loop-quality : goal.invariant-loop-quality
invariant-loop-quality l = map shown_limit l.limits.items ≡ map shown_limit l.initial.limits.items ++ product_limits (λ _ k. get_or l.values k None) l.quality l.product
