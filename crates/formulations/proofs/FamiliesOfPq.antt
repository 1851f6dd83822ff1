-- Which family the row of a number is of.
use Rattle.std.proofs.Common.{◌≡◌, ℕ, ◌<◌, nat_lt, true, refl, arith}
use Rattle.std.proofs.lemmas.Bool.Decides.{nat_tests}
use Rattle.pool_model.specs.Network.{Net}
use Rattle.row_model.specs.Catalogue.{pq_families, row_in, out_row}

pub at_out : (n : Net) (i : ℕ) → i < n.outs → row_in (pq_families n) i ≡ out_row n i
at_out n i h = let first : nat_lt i n.outs ≡ true = grind (arith, nat_tests) in rw first refl
