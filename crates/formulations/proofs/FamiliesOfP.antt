-- Which family the row of a number is of.
use Rattle.std.proofs.Common.{◌≡◌, ℕ, ◌+◌, ◌-◌, ◌*◌, ◌/◌, ◌%◌, ◌<◌, ◌≤◌, length, nat_lt, true, false, refl, ap, arith, get_or}
use Rattle.std.proofs.lemmas.Bool.Decides.{nat_tests}
use Rattle.pool_model.specs.Network.{Net}
use Rattle.row_model.specs.Boxes.{Box}
use Rattle.pool_model.specs.Limits.{most_limits, least_limits, no_limit}
use Rattle.row_model.specs.Catalogue.{p_families, row_in, mixing_row, mixed_most_row, mixed_least_row, quality_envelope_row}

pub at_mixing : (n : Net) (b : Box) (i : ℕ) → i < n.pools * n.qualities → row_in (p_families n b) i ≡ mixing_row n (i / n.qualities) (i % n.qualities)
at_mixing n b i h = let first : nat_lt i (n.pools * n.qualities) ≡ true = grind (arith, nat_tests) in rw first refl

pub at_most : (n : Net) (b : Box) (i : ℕ) → n.pools * n.qualities ≤ i → i - n.pools * n.qualities < length (most_limits n)
    → row_in (p_families n b) i ≡ mixed_most_row n (get_or (most_limits n) (i - n.pools * n.qualities) no_limit)
at_most n b i past h =
    let first : nat_lt i (n.pools * n.qualities) ≡ false = grind (arith, nat_tests) in
    let second : nat_lt (i - n.pools * n.qualities) (length (most_limits n)) ≡ true = grind (arith, nat_tests) in
    rw (first, second) refl

pub at_least : (n : Net) (b : Box) (i : ℕ) → n.pools * n.qualities ≤ i → length (most_limits n) ≤ i - n.pools * n.qualities
    → i - n.pools * n.qualities - length (most_limits n) < length (least_limits n)
    → row_in (p_families n b) i ≡ mixed_least_row n (get_or (least_limits n) (i - n.pools * n.qualities - length (most_limits n)) no_limit)
at_least n b i past behind h =
    let first : nat_lt i (n.pools * n.qualities) ≡ false = grind (arith, nat_tests) in
    let second : nat_lt (i - n.pools * n.qualities) (length (most_limits n)) ≡ false = grind (arith, nat_tests) in
    let third : nat_lt (i - n.pools * n.qualities - length (most_limits n)) (length (least_limits n)) ≡ true = grind (arith, nat_tests) in
    rw (first, second, third) refl

pub at_envelope : (n : Net) (b : Box) (i first : ℕ) → first ≡ n.pools * n.qualities + (length (most_limits n) + length (least_limits n)) → first ≤ i → i - first < n.outs * (n.qualities * 4)
    → row_in (p_families n b) i ≡ quality_envelope_row n b ((i - first) / (n.qualities * 4)) ((i - first) % (n.qualities * 4) / 4) ((i - first) % 4 + 1)
at_envelope n b i first is past h =
    let test : nat_lt i (n.pools * n.qualities) ≡ false = grind (arith, nat_tests) in
    let second : nat_lt (i - n.pools * n.qualities) (length (most_limits n)) ≡ false = grind (arith, nat_tests) in
    let third : nat_lt (i - n.pools * n.qualities - length (most_limits n)) (length (least_limits n)) ≡ false = grind (arith, nat_tests) in
    let fourth : nat_lt (i - n.pools * n.qualities - length (most_limits n) - length (least_limits n)) (n.outs * (n.qualities * 4)) ≡ true = grind (arith, nat_tests) in
    let place : i - n.pools * n.qualities - length (most_limits n) - length (least_limits n) ≡ i - first = omega arith in
    rw (test, second, third, fourth) (ap (λ (j : ℕ). quality_envelope_row n b (j / (n.qualities * 4)) (j % (n.qualities * 4) / 4) (j % 4 + 1)) place)
