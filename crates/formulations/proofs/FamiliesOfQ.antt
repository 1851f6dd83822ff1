-- Which family the row of a number is of.
use Rattle.std.proofs.Common.{◌≡◌, ℕ, ◌+◌, ◌-◌, ◌*◌, ◌/◌, ◌%◌, ◌<◌, ◌≤◌, length, nat_lt, true, false, refl, ap, arith, get_or}
use Rattle.std.proofs.lemmas.Bool.Decides.{nat_tests}
use Rattle.pool_model.specs.Network.{Net}
use Rattle.row_model.specs.Boxes.{Box}
use Rattle.row_model.specs.Variables.{path_count}
use Rattle.pool_model.specs.Limits.{most_limits, least_limits, no_limit}
use Rattle.row_model.specs.Catalogue.{q_families, row_in, proportions_row, feed_row, path_most_row, path_least_row, proportion_envelope_row}

pub at_proportions : (n : Net) (b : Box) (i : ℕ) → i < n.pools → row_in (q_families n b) i ≡ proportions_row n i
at_proportions n b i h = let first : nat_lt i n.pools ≡ true = grind (arith, nat_tests) in rw first refl

pub at_feed : (n : Net) (b : Box) (i : ℕ) → n.pools ≤ i → i - n.pools < n.feeds → row_in (q_families n b) i ≡ feed_row n (i - n.pools)
at_feed n b i past h =
    let first : nat_lt i n.pools ≡ false = grind (arith, nat_tests) in
    let second : nat_lt (i - n.pools) n.feeds ≡ true = grind (arith, nat_tests) in
    rw (first, second) refl

pub at_most : (n : Net) (b : Box) (i : ℕ) → n.pools ≤ i → n.feeds ≤ i - n.pools → i - n.pools - n.feeds < length (most_limits n)
    → row_in (q_families n b) i ≡ path_most_row n (get_or (most_limits n) (i - n.pools - n.feeds) no_limit)
at_most n b i past behind h =
    let first : nat_lt i n.pools ≡ false = grind (arith, nat_tests) in
    let second : nat_lt (i - n.pools) n.feeds ≡ false = grind (arith, nat_tests) in
    let third : nat_lt (i - n.pools - n.feeds) (length (most_limits n)) ≡ true = grind (arith, nat_tests) in
    rw (first, second, third) refl

pub at_least : (n : Net) (b : Box) (i : ℕ) → n.pools ≤ i → n.feeds ≤ i - n.pools → length (most_limits n) ≤ i - n.pools - n.feeds
    → i - n.pools - n.feeds - length (most_limits n) < length (least_limits n)
    → row_in (q_families n b) i ≡ path_least_row n (get_or (least_limits n) (i - n.pools - n.feeds - length (most_limits n)) no_limit)
at_least n b i past behind after h =
    let first : nat_lt i n.pools ≡ false = grind (arith, nat_tests) in
    let second : nat_lt (i - n.pools) n.feeds ≡ false = grind (arith, nat_tests) in
    let third : nat_lt (i - n.pools - n.feeds) (length (most_limits n)) ≡ false = grind (arith, nat_tests) in
    let fourth : nat_lt (i - n.pools - n.feeds - length (most_limits n)) (length (least_limits n)) ≡ true = grind (arith, nat_tests) in
    rw (first, second, third, fourth) refl

pub at_envelope : (n : Net) (b : Box) (i first : ℕ) → first ≡ n.pools + (n.feeds + (length (most_limits n) + length (least_limits n))) → first ≤ i → i - first < path_count n * 4
    → row_in (q_families n b) i ≡ proportion_envelope_row n b ((i - first) / 4) ((i - first) % 4 + 1)
at_envelope n b i first is past h =
    let test : nat_lt i n.pools ≡ false = grind (arith, nat_tests) in
    let second : nat_lt (i - n.pools) n.feeds ≡ false = grind (arith, nat_tests) in
    let third : nat_lt (i - n.pools - n.feeds) (length (most_limits n)) ≡ false = grind (arith, nat_tests) in
    let fourth : nat_lt (i - n.pools - n.feeds - length (most_limits n)) (length (least_limits n)) ≡ false = grind (arith, nat_tests) in
    let fifth : nat_lt (i - n.pools - n.feeds - length (most_limits n) - length (least_limits n)) (path_count n * 4) ≡ true = grind (arith, nat_tests) in
    let place : i - n.pools - n.feeds - length (most_limits n) - length (least_limits n) ≡ i - first = omega arith in
    rw (test, second, third, fourth, fifth) (ap (λ (j : ℕ). proportion_envelope_row n b (j / 4) (j % 4 + 1)) place)
