-- Boxes that agree have the same ends of variables.
use Rattle.std.proofs.Common.{◌≡◌, ℕ, ◌<◌, ℤ, pos, arith, refl, ap, ◌∙◌}
use Rattle.std.specs.Int.{int_min}
use Rattle.integers.proofs.Grids.{grid-below}
use Rattle.pool_model.specs.Network.{Net, IsLimited, capped}
use Rattle.row_model.specs.Boxes.{Box, Agree, coords, prop_number, qual_number, flow_number}
use Rattle.row_model.specs.Variables.{variables, by_number, path_feed, path_out, least_product, greatest_product, lows, highs}
use Rattle.row_model.proofs.Numbering.{by_number-each}
use Rattle.row_model.proofs.PathSums.{path_out-below}

products-same : (f : ℤ → ℤ → ℤ → ℤ → ℤ) (a b c d p q r s : ℤ) → a ≡ p → b ≡ q → c ≡ r → d ≡ s → f a b c d ≡ f p q r s
products-same f a b c d p q r s e g h k = ap (λ x. f x b c d) e ∙ ap (λ x. f p x c d) g ∙ ap (λ x. f p q x d) h ∙ ap (λ x. f p q r x) k

module _ (n : Net) (b c : Box) (limited : IsLimited n) (a : Agree n b c) where
  prop_there : (e : ℕ) → e < n.feeds → prop_number n e < coords n
  prop_there e h = omega arith

  qual_there : (l k : ℕ) → l < n.pools → k < n.qualities → qual_number n l k < coords n
  qual_there l k h j = omega (arith, grid-below n.pools n.qualities l k h j)

  flow_there : (o : ℕ) → o < n.outs → flow_number n o < coords n
  flow_there o h = omega arith

  products : (f : ℤ → ℤ → ℤ → ℤ → ℤ) (i j : ℕ) → i < coords n → j < coords n → f (b.low i) (b.high i) (b.low j) (b.high j) ≡ f (c.low i) (c.high i) (c.low j) (c.high j)
  products f i j h k = products-same f (b.low i) (b.high i) (b.low j) (b.high j) (c.low i) (c.high i) (c.low j) (c.high j) (a.low i h) (a.high i h) (a.low j k) (a.high j k)

  pub low-same : (v : ℕ) → v < variables n → by_number n (lows n b) v ≡ by_number n (lows n c) v
  low-same v h = by_number-each n (λ x y. x ≡ y) (lows n b) (lows n c) record {
    x = λ e lt. refl;
    y = λ o lt. a.low (flow_number n o) (flow_there o lt);
    z = λ e lt. refl;
    w = λ q lt. refl;
    proportion = λ e lt. a.low (prop_number n e) (prop_there e lt);
    quality = λ l k lt lk. a.low (qual_number n l k) (qual_there l k lt lk);
    mixed = λ o k lt lk. products least_product (qual_number n (n.out_pool o) k) (flow_number n o) (qual_there (n.out_pool o) k (limited.out_pools o lt) lk) (flow_there o lt);
  } v h

  pub high-same : (v : ℕ) → v < variables n → by_number n (highs n b) v ≡ by_number n (highs n c) v
  high-same v h = by_number-each n (λ x y. x ≡ y) (highs n b) (highs n c) record {
    x = λ e lt. refl;
    y = λ o lt. a.high (flow_number n o) (flow_there o lt);
    z = λ e lt. refl;
    w = λ q lt. ap (λ z. int_min (pos (capped (n.feed_max (path_feed n q)) (n.source_max (n.feed_source (path_feed n q))))) z) (a.high (flow_number n (path_out n q)) (flow_there (path_out n q) (path_out-below n q lt)));
    proportion = λ e lt. a.high (prop_number n e) (prop_there e lt);
    quality = λ l k lt lk. a.high (qual_number n l k) (qual_there l k lt lk);
    mixed = λ o k lt lk. products greatest_product (qual_number n (n.out_pool o) k) (flow_number n o) (qual_there (n.out_pool o) k (limited.out_pools o lt) lk) (flow_there o lt);
  } v h
