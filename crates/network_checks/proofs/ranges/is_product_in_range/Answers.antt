use Rattle.std.proofs.Common.{◌^◌, rules}
use Rattle.pool_model.specs.Network.{IsWithin}
use Rattle.network_parts.specs.Faults.{IsUpTo}
use Rattle.network_checks.proofs.ranges.is_product_in_range.Goals as goal

pub returns-then-are_amounts : goal.returns-then-are_amounts
returns-then-are_amounts c =
    let both = rw (c.deref.ensures.value, c.deref-then-are_amounts.ensures.value) at c.are_both_limits.ensures in
    let amounts : IsWithin (10 ^ 12) c.args.row.now.price × IsUpTo (10 ^ 12) c.args.row.now.min × IsUpTo (10 ^ 12) c.args.row.now.max = search rules in
    (λ t. record { price = amounts.0; min = amounts.1; max = amounts.2; least = (both.0 t).0; most = (both.0 t).1 }, λ p. both.1 (p.least, p.most))
