-- Which family a row of the network is of.
use Rattle.std.proofs.Common.{◌≡◌, ℕ, ◌-◌, ◌<◌, ◌≤◌, refl}
use Rattle.pool_model.specs.Network.{Net}
use Rattle.row_model.specs.Catalogue.{network_families, row_in, balance_row}
use Rattle.row_model.proofs.Families.{test_true, test_false}

pub at_balance : (n : Net) (i : ℕ) → n.sources ≤ i → i - n.sources < n.pools → row_in (network_families n) i ≡ balance_row n (i - n.sources)
at_balance n i past h = rw (test_false i n.sources past, test_true (i - n.sources) n.pools h) refl
