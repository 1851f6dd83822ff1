-- A point of P keeps the lines of P.
use Rattle.std.proofs.Common.{◌≡◌, ℕ, ◌+◌, ◌*◌, ◌/◌, ◌%◌, ◌<◌, ◌++◌, ℤ, pos, ◌*ℤ◌, ◌≤ℤ◌, arith, refl, sym, ap, subst, ◌∙◌}
use Rattle.std.proofs.lemmas.Bool.{false≢true}
use Rattle.std.proofs.lemmas.Nat.{div-mul-add, mod-mul-add}
use Rattle.std.proofs.lemmas.List.Elements.{All-append}
use Rattle.std.proofs.Math.Nat.{mul-le-mul}
use Rattle.integers.specs.Numbers.{tabulate}
use Rattle.integers.proofs.Ring.{additive, linear, sorted}
use Rattle.integers.proofs.Order.{four_products-over, four_products-over_high}
use Rattle.integers.proofs.Grids.{grid-row, grid-column}
use Rattle.integers.proofs.Tabulate.{All-tabulate}
use Rattle.pool_model.specs.Network.{Net, IsLimited}
use Rattle.row_model.specs.Boxes.{root, qual, qual_number, flow_number, root_low, root_high}
use Rattle.row_model.specs.Variables.{variables, by_number, lows, highs}
use Rattle.row_model.specs.Catalogue.{network_families}
use Rattle.row_model.specs.Lift.{lift, lift_base, MeetsRow}
use Rattle.row_book.specs.declared.catalogue.Group.TheVariants as groups
use Rattle.box_space.specs.declared.coordinates.Form.TheVariants.{P}
use Rattle.row_model.proofs.Families.{each-front, each-behind}
use Rattle.program_model.specs.Points.{QualityPoint, quality_flows}
use Rattle.program_model.specs.Rows.{exact_p_families, quality_values, SolvesP}
use Rattle.program_text.specs.Names.{named}
use Rattle.program_text.specs.declared.names.Symbol.TheVariants as symbols
use Rattle.printed_program.specs.Numbers.{Keeps, IsPointOf}
use Rattle.printed_program.specs.Printed.{group_rows, mixed_product, program_lines}
use Rattle.printed_program.specs.Points.{quality_numbers}
use Rattle.printed_program.proofs.VariableKinds.{HoldsByNumber, each_variable, out_number, direct_number, path_number, proportion_number, quality_number, mixed_number}
use Rattle.printed_program.proofs.Terms.{over-named, name-feed, name-out, name-direct, name-path, name-proportion, name-quality, name-mixed}
use Rattle.printed_program.proofs.Terms.{number-feed, number-out, number-direct, number-path, number-proportion, number-quality, number-mixed}
use Rattle.printed_program.proofs.Groups.{group-keeps}
use Rattle.printed_program.proofs.Ends.{IsWithin, KeepsEnds, keeps-ends, variables-keep, quality-low, quality-high, flow-low}
use Rattle.printed_program.proofs.FlowEnds.{scaled_up, scaled_down, natural-within, feed-under, out-under, direct-under}
use Rattle.printed_program.proofs.Parts.{from_parts}

module _ (n : Net) (lim : IsLimited n) (q : QualityPoint) (s : SolvesP n q)
    (fits : (v : ℕ) → v < variables n
    → by_number n (lift n (quality_flows q)) v ≤ℤ (by_number n (highs n (root n)) v *ℤ pos (lift_base n (quality_flows q))))
  where
    quality-within : (l k : ℕ) → l < n.pools → k < n.qualities
        → IsWithin (q.base * q.qual_base) (root_low n (qual l k)) (root_high n (qual l k)) (pos q.base *ℤ q.quality l k)
    quality-within l k ll lk = record {
      low = omega (arith, additive, scaled_down q.base q.qual_base (root_low n (qual l k)) (q.quality l k) (s.low l k ll lk), other (root_low n (qual l k)) q.base q.qual_base);
      high = omega (arith, additive, scaled_up q.base q.qual_base (root_high n (qual l k)) (q.quality l k) (s.high l k ll lk), other (root_high n (qual l k)) q.base q.qual_base);
    }
      where
        turned : (z a b : ℤ) → z *ℤ (a *ℤ b) ≡ z *ℤ (b *ℤ a)
        turned z a b = simp sorted refl

        other : (z : ℤ) (a b : ℕ) → z *ℤ pos (a * b) ≡ z *ℤ pos (b * a)
        other z a b = turned z (pos a) (pos b)

    mixed-within : (o k : ℕ) → o < n.outs → k < n.qualities
        → IsWithin (q.base * q.qual_base) ((lows n (root n)).mixed o k) ((highs n (root n)).mixed o k) (pos q.qual_base *ℤ q.mixed o k)
    mixed-within o k lo lk =
        let l = n.out_pool o in
        let ll = lim.out_pools o lo in
        let p = q.quality l k in
        let y = pos (q.out o) in
        let p_low = (root n).low (qual_number n l k) in
        let p_high = (root n).high (qual_number n l k) in
        let y_low = (root n).low (flow_number n o) in
        let y_high = (root n).high (flow_number n o) in
        let over_p : (p_low *ℤ pos q.qual_base) ≤ℤ p = subst (λ z. (z *ℤ pos q.qual_base) ≤ℤ p) (sym (quality-low n l k ll lk)) (s.low l k ll lk) in
        let under_p : p ≤ℤ (p_high *ℤ pos q.qual_base) = subst (λ z. p ≤ℤ (z *ℤ pos q.qual_base)) (sym (quality-high n l k ll lk)) (s.high l k ll lk) in
        let over_y : (y_low *ℤ pos q.base) ≤ℤ y = subst (λ z. (z *ℤ pos q.base) ≤ℤ y) (sym (flow-low n o lo)) (omega (arith, linear)) in
        let under_y : y ≤ℤ (y_high *ℤ pos q.base) = out-under n (quality_flows q) fits o lo in
        record {
          low = omega (
            arith,
            additive,
            four_products-over (pos q.qual_base) (pos q.base) p_low p p_high y_low y y_high (omega (arith, linear)) (omega (arith, linear)) over_p under_p over_y under_y,
            s.products o k lo lk,
            turned ((lows n (root n)).mixed o k) (pos q.qual_base) (pos q.base),
            twice (q.mixed o k) (pos q.qual_base),
          );
          high = omega (
            arith,
            additive,
            four_products-over_high (pos q.qual_base) (pos q.base) p_low p p_high y_low y y_high (omega (arith, linear)) (omega (arith, linear)) over_p under_p over_y under_y,
            s.products o k lo lk,
            turned ((highs n (root n)).mixed o k) (pos q.qual_base) (pos q.base),
            twice (q.mixed o k) (pos q.qual_base),
          );
        }
      where
        turned : (z a b : ℤ) → z *ℤ (a *ℤ b) ≡ z *ℤ (b *ℤ a)
        turned z a b = simp sorted refl

        twice : (m r : ℤ) → m *ℤ r ≡ r *ℤ m
        twice m r = simp sorted refl

    variables-within : HoldsByNumber n (KeepsEnds n P (quality_numbers n q))
    variables-within =
        let lo = lows n (root n) in
        let hi = highs n (root n) in
        let numbers = quality_numbers n q in
        let p = quality_flows q in
        record {
          feed = λ e lt. keeps-ends n P numbers e (named symbols.Feed e) (pos 0) (hi.x e) (name-feed n e lt) (number-feed n lo e lt) (number-feed n hi e lt)
              (λ has. natural-within q.qual_base q.base (q.feed e) (hi.x e) (feed-under n p fits e lt));
          out = λ o lt.
              keeps-ends n P numbers (out_number n o) (named symbols.Out o) (pos 0) (hi.y o) (name-out n o lt) (number-out n lo o lt ∙ flow-low n o lt) (number-out n hi o lt)
              (λ has. natural-within q.qual_base q.base (q.out o) (hi.y o) (out-under n p fits o lt));
          direct = λ e lt.
              keeps-ends n P numbers (direct_number n e) (named symbols.Direct e) (pos 0) (hi.z e) (name-direct n e lt) (number-direct n lo e lt) (number-direct n hi e lt)
              (λ has. natural-within q.qual_base q.base (q.direct e) (hi.z e) (direct-under n p fits e lt));
          path = λ a lt.
              keeps-ends n P numbers (path_number n a) (named symbols.Path a) (lo.w a) (hi.w a) (name-path n a lt) (number-path n lo a lt) (number-path n hi a lt)
              (λ has. absurd (false≢true has));
          proportion = λ e lt.
              keeps-ends n P numbers (proportion_number n e) (named symbols.Proportion e) (lo.proportion e) (hi.proportion e)
              (name-proportion n e lt) (number-proportion n lo e lt) (number-proportion n hi e lt) (λ has. absurd (false≢true has));
          quality = λ i lt.
              let l = i / n.qualities in
              let k = i % n.qualities in
              let ll = grid-row n.pools n.qualities i lt in
              let lk = grid-column n.pools n.qualities i lt in
              keeps-ends n P numbers (quality_number n i) (named symbols.Quality i) (root_low n (qual l k)) (root_high n (qual l k)) (name-quality n i lt)
              (number-quality n lo i lt ∙ quality-low n l k ll lk) (number-quality n hi i lt ∙ quality-high n l k ll lk) (λ has. quality-within l k ll lk);
          mixed = λ i lt.
              let o = i / n.qualities in
              let k = i % n.qualities in
              keeps-ends n P numbers (mixed_number n i) (named symbols.Mixed i) (lo.mixed o k) (hi.mixed o k) (name-mixed n i) (number-mixed n lo i) (number-mixed n hi i)
              (λ has. mixed-within o k (grid-row n.outs n.qualities i lt) (grid-column n.outs n.qualities i lt));
        }

    product-kept : (i : ℕ) → i < n.outs * n.qualities → Keeps (quality_numbers n q) (mixed_product n i)
    product-kept i lt =
        let o = i / n.qualities in
        let k = i % n.qualities in
        let l = n.out_pool o in
        let lk = grid-column n.outs n.qualities i lt in
        let quality = λ (x y : ℕ). (quality_values q).quality x y in
        let place = l * n.qualities + k in
        ap (λ z. z *ℤ pos (q.base * q.qual_base)) (once (pos q.qual_base *ℤ q.mixed o k))
        ∙ first (pos q.qual_base) (q.mixed o k) (pos q.base)
        ∙ ap (λ z. (pos q.base *ℤ pos q.qual_base) *ℤ z) (s.products o k (grid-row n.outs n.qualities i lt) lk)
        ∙ last (pos q.base) (pos q.qual_base) (q.quality l k) (pos (q.out o))
        ∙ ap (λ z. z *ℤ (pos q.qual_base *ℤ pos (q.out o)))
        (sym (ap (λ (x : ℕ). quality x (place % n.qualities)) (div-mul-add l n.qualities k lk) ∙ ap (quality l) (mod-mul-add l n.qualities k lk)))
      where
        once : (z : ℤ) → pos 1 *ℤ z ≡ z
        once z = omega (arith, linear)

        first : (r m b : ℤ) → (r *ℤ m) *ℤ (b *ℤ r) ≡ (b *ℤ r) *ℤ (m *ℤ r)
        first r m b = simp sorted refl

        last : (b r l y : ℤ) → (b *ℤ r) *ℤ (l *ℤ y) ≡ (b *ℤ l) *ℤ (r *ℤ y)
        last b r l y = simp sorted refl

    pub point-keeps_p : IsPointOf (program_lines n P) (quality_numbers n q)
    point-keeps_p =
        let a = quality_values q in
        let base = q.base * q.qual_base in
        let numbers = quality_numbers n q in
        let named = over-named n a base in
        record {
          base = mul-le-mul s.base s.qual_base;
          keeps = from_parts n P numbers record {
            variables = variables-keep n P numbers (each_variable n (KeepsEnds n P numbers) variables-within);
            network = group-keeps n numbers a groups.Network named (each-front (MeetsRow n a base) (network_families n) (exact_p_families n) s.rows);
            own = All-append (Keeps numbers) (group_rows n groups.P) (tabulate (mixed_product n) (n.outs * n.qualities))
                (group-keeps n numbers a groups.P named (each-behind (MeetsRow n a base) (network_families n) (exact_p_families n) s.rows))
                (All-tabulate (Keeps numbers) (mixed_product n) (n.outs * n.qualities) product-kept);
          };
        }
