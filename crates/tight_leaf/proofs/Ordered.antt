-- In the program of a proper box each variable's low end is at most its high end.
use Rattle.std.proofs.Common.{ℕ, ◌<◌, ℤ, pos, ◌*ℤ◌, ◌≤ℤ◌, sym, subst, arith}
use Rattle.std.specs.Int.{int_min, int_max}
use Rattle.std.proofs.lemmas.Int.{ints, clamps}
use Rattle.integers.proofs.Grids.{grid-below}
use Rattle.pool_model.specs.Network.{Net, capped}
use Rattle.row_model.specs.Boxes.{Box, Coord, IsProper, coords, flow_number, prop_number, qual_number, root_low}
use Rattle.row_model.specs.Variables.{by_number, greatest_product, highs, least_product, lows, path_feed, path_out, variables}
use Rattle.row_model.proofs.Numbering.{HoldsByKind, by_number-each, coord_at-flow}
use Rattle.row_model.proofs.PathSums.{path_out-below}
use Rattle.exact_run.specs.Programs.{Program}
use Rattle.run_laws.specs.Points as runs
use Rattle.box_space.specs.declared.coordinates.Form.{Form}
use Rattle.tight_leaf.specs.Programs.{IsBoxProgram}

products-ordered : (a b c d : ℤ) → least_product a b c d ≤ℤ greatest_product a b c d
products-ordered a b c d = between (a *ℤ c) (a *ℤ d) (b *ℤ c) (b *ℤ d)
  where
    between : (p q r s : ℤ) → int_min (int_min p q) (int_min r s) ≤ℤ int_max (int_max p q) (int_max r s)
    between p q r s = omega (arith, ints, clamps)

path-ordered : (a : ℕ) (z : ℤ) → pos 0 ≤ℤ z → pos 0 ≤ℤ int_min (pos a) z
path-ordered a z h = omega (arith, ints, clamps)

module _ (n : Net) (b : Box) (proper : IsProper n b) where
  flow-high : (o : ℕ) → o < n.outs → pos 0 ≤ℤ b.high (flow_number n o)
  flow-high o lt =
      let among : flow_number n o < coords n = omega (arith, lt) in
      let low : pos 0 ≤ℤ b.low (flow_number n o) = subst (λ (c : Coord). root_low n c ≤ℤ b.low (flow_number n o)) (coord_at-flow n o lt) (proper.low (flow_number n o) among) in
      omega (arith, ints, low, proper.in_order (flow_number n o) among)

  pub ends-ordered : (v : ℕ) → v < variables n → by_number n (lows n b) v ≤ℤ by_number n (highs n b) v
  ends-ordered v lt = by_number-each n (λ l h. l ≤ℤ h) (lows n b) (highs n b) by-kind v lt
    where
      by-kind : HoldsByKind n (λ l h. l ≤ℤ h) (lows n b) (highs n b)
      by-kind = record {
        x = λ e h. omega (arith, ints);
        y = λ o h. proper.in_order (flow_number n o) (omega (arith, h));
        z = λ e h. omega (arith, ints);
        w = λ q h. path-ordered (capped (n.feed_max (path_feed n q)) (n.source_max (n.feed_source (path_feed n q)))) (b.high (flow_number n (path_out n q))) (flow-high (path_out n q) (path_out-below n q h));
        proportion = λ e h. proper.in_order (prop_number n e) (omega (arith, h));
        quality = λ l k h j. proper.in_order (qual_number n l k) (omega (arith, grid-below n.pools n.qualities l k h j));
        mixed = λ o k h j. products-ordered (b.low (qual_number n (n.out_pool o) k)) (b.high (qual_number n (n.out_pool o) k)) (b.low (flow_number n o)) (b.high (flow_number n o));
      }

  pub program-proper : (form : Form) (p : Program) → IsBoxProgram n form b p → runs.IsProper p
  program-proper form p is v lt =
      let here : v < variables n = omega (arith, lt, is.variables) in
      subst (λ (l : ℤ). l ≤ℤ p.high v) (sym (is.low v lt)) (subst (λ (h : ℤ). by_number n (lows n b) v ≤ℤ h) (sym (is.high v lt)) (ends-ordered v here))
