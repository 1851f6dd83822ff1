-- A point of Q, and of Pq, keeps its lines.
use Rattle.std.proofs.Common.{All, ◌≡◌, ℕ, ◌*◌, ◌/◌, ◌%◌, ◌<◌, ◌≤◌, false, ◌++◌, ℤ, pos, ◌*ℤ◌, ◌≤ℤ◌, arith, refl, sym, ap, ◌∙◌}
use Rattle.std.proofs.lemmas.Bool.{false≢true}
use Rattle.std.proofs.lemmas.List.Elements.{All-append}
use Rattle.std.proofs.Math.Nat.{mul-le-mul, mul-le-mul_left}
use Rattle.integers.specs.Numbers.{tabulate}
use Rattle.integers.proofs.Ring.{additive, linear, sorted}
use Rattle.integers.proofs.Order.{le-mul_int_min}
use Rattle.integers.proofs.AtKey.{term-le-sum_at}
use Rattle.integers.proofs.Tabulate.{All-tabulate}
use Rattle.pool_model.specs.Network.{Net, IsLimited, capped}
use Rattle.pool_model.proofs.Capped.{le-mul_capped}
use Rattle.row_model.specs.Boxes.{root, prop, flow_number, root_low, root_high, grain}
use Rattle.row_model.specs.Variables.{variables, by_number, lows, highs, path_count, path_feed, path_out}
use Rattle.row_model.specs.Catalogue.{network_families, pq_families, HoldsOfEach}
use Rattle.row_model.specs.Lift.{lift, lift_base, MeetsRow}
use Rattle.row_model.proofs.PathSums.{path_feed-below, path_out-below}
use Rattle.row_book.specs.declared.catalogue.Group.TheVariants as groups
use Rattle.box_space.specs.declared.coordinates.Form.{Form}
use Rattle.box_space.specs.declared.coordinates.Form.TheVariants.{Q, Pq}
use Rattle.row_model.proofs.Families.{each-front, each-behind}
use Rattle.program_model.specs.Points.{ProportionPoint, proportion_flows}
use Rattle.program_model.specs.Programs.{IsPointOfQ}
use Rattle.program_model.specs.Rows.{exact_q_families, proportion_values}
use Rattle.program_text.specs.Names.{named, has_symbol}
use Rattle.program_text.specs.declared.names.Symbol.TheVariants as symbols
use Rattle.printed_program.specs.Numbers.{Keeps, IsPointOf}
use Rattle.printed_program.specs.Printed.{variable_lines, group_rows, path_product, program_lines}
use Rattle.printed_program.specs.Points.{proportion_numbers}
use Rattle.printed_program.proofs.VariableKinds.{HoldsByNumber, each_variable, out_number, direct_number, path_number, proportion_number, quality_number, mixed_number}
use Rattle.printed_program.proofs.Terms.{over-named, name-feed, name-out, name-direct, name-path, name-proportion, name-quality, name-mixed}
use Rattle.printed_program.proofs.Terms.{number-feed, number-out, number-direct, number-path, number-proportion, number-quality, number-mixed}
use Rattle.printed_program.proofs.Groups.{group-keeps}
use Rattle.printed_program.proofs.Ends.{IsWithin, KeepsEnds, keeps-ends, variables-keep, proportion-low, proportion-high, flow-low}
use Rattle.printed_program.proofs.FlowEnds.{natural-within, feed-under, out-under, direct-under}
use Rattle.printed_program.proofs.Parts.{from_parts}

-- a form that has no qualities and no mixed variables
pub record LacksQualities (form : Form) : Type 0 where
  pub quality : has_symbol form symbols.Quality ≡ false
  pub mixed : has_symbol form symbols.Mixed ≡ false

-- what is known of a point of Q: it is one, no flow along a path passes that of its out, and no proportion passes 1
module _ (n : Net) (lim : IsLimited n) (q : ProportionPoint) (h : IsPointOfQ n q)
    (fits : (v : ℕ) → v < variables n
    → by_number n (lift n (proportion_flows q)) v ≤ℤ (by_number n (highs n (root n)) v *ℤ pos (lift_base n (proportion_flows q))))
    (path_most : (a : ℕ) → a < path_count n → q.path a ≤ q.out (path_out n a)) (proportion_most : (e : ℕ) → e < n.feeds → q.proportion e ≤ q.prop_base)
  where
    path-under : (a : ℕ) → a < path_count n → pos (q.path a) ≤ℤ ((highs n (root n)).w a *ℤ pos q.base)
    path-under a lt =
        let e = path_feed n a in
        let o = path_out n a in
        let le = path_feed-below n a lt in
        let i = n.feed_source e in
        let along_feed : q.path a ≤ q.feed e = omega (arith, h.feeds e le, term-le-sum_at (path_feed n) e q.path (path_count n) a lt refl) in
        let by_source : q.path a ≤ q.base * n.source_max i = omega (
          arith,
          along_feed,
          term-le-sum_at n.feed_source i q.feed n.feeds e le refl,
          h.carries.sources i (lim.feed_sources e le),
        ) in
        let sent = capped (n.feed_max e) (n.source_max i) in
        let by_feed : q.path a ≤ q.base * sent = le-mul_capped (n.feed_max e) (q.path a) q.base (n.source_max i) by_source
        (λ m is. omega (arith, along_feed, h.carries.arcs.feeds e m le is)) in
        let most = path_most a lt in
        le-mul_int_min (pos (q.path a)) (pos q.base) (pos sent) ((root n).high (flow_number n o))
        (signed (q.path a) q.base sent by_feed)
        (omega (arith, additive, most, out-under n (proportion_flows q) fits o (path_out-below n a lt)))
      where
        signed : (x b m : ℕ) → x ≤ b * m → pos x ≤ℤ (pos m *ℤ pos b)
        signed x b m h = omega (arith, linear)

    proportion-within : (e : ℕ) → e < n.feeds → IsWithin (q.base * q.prop_base) (root_low n (prop e)) (root_high n (prop e)) (pos (grain * q.base * q.proportion e))
    proportion-within e lt = record {
      low = omega (arith, linear);
      high = below grain q.base q.prop_base (q.proportion e) (proportion_most e lt);
    }
      where
        below : (g b r x : ℕ) → x ≤ r → pos (g * b * x) ≤ℤ (pos g *ℤ pos (b * r))
        below g b r x h = omega (arith, linear, mul-le-mul_left (g * b) h)

    variables-within : (form : Form) → LacksQualities form → HoldsByNumber n (KeepsEnds n form (proportion_numbers n q))
    variables-within form lacks =
        let lo = lows n (root n) in
        let hi = highs n (root n) in
        let numbers = proportion_numbers n q in
        let p = proportion_flows q in
        record {
          feed = λ e lt. keeps-ends n form numbers e (named symbols.Feed e) (pos 0) (hi.x e) (name-feed n e lt) (number-feed n lo e lt) (number-feed n hi e lt)
              (λ has. natural-within q.prop_base q.base (q.feed e) (hi.x e) (feed-under n p fits e lt));
          out = λ o lt.
              keeps-ends n form numbers (out_number n o) (named symbols.Out o) (pos 0) (hi.y o) (name-out n o lt) (number-out n lo o lt ∙ flow-low n o lt) (number-out n hi o lt)
              (λ has. natural-within q.prop_base q.base (q.out o) (hi.y o) (out-under n p fits o lt));
          direct = λ e lt.
              keeps-ends n form numbers (direct_number n e) (named symbols.Direct e) (pos 0) (hi.z e) (name-direct n e lt) (number-direct n lo e lt) (number-direct n hi e lt)
              (λ has. natural-within q.prop_base q.base (q.direct e) (hi.z e) (direct-under n p fits e lt));
          path = λ a lt.
              keeps-ends n form numbers (path_number n a) (named symbols.Path a) (pos 0) (hi.w a) (name-path n a lt) (number-path n lo a lt) (number-path n hi a lt)
              (λ has. natural-within q.prop_base q.base (q.path a) (hi.w a) (path-under a lt));
          proportion = λ e lt.
              keeps-ends n form numbers (proportion_number n e) (named symbols.Proportion e) (root_low n (prop e)) (root_high n (prop e)) (name-proportion n e lt)
              (number-proportion n lo e lt ∙ proportion-low n e lt) (number-proportion n hi e lt ∙ proportion-high n e lt) (λ has. proportion-within e lt);
          quality = λ i lt.
              keeps-ends n form numbers (quality_number n i) (named symbols.Quality i) (lo.quality (i / n.qualities) (i % n.qualities)) (hi.quality (i / n.qualities) (i % n.qualities))
              (name-quality n i lt) (number-quality n lo i lt) (number-quality n hi i lt) (λ has. absurd (false≢true (sym lacks.quality ∙ has)));
          mixed = λ i lt.
              keeps-ends n form numbers (mixed_number n i) (named symbols.Mixed i) (lo.mixed (i / n.qualities) (i % n.qualities)) (hi.mixed (i / n.qualities) (i % n.qualities))
              (name-mixed n i) (number-mixed n lo i) (number-mixed n hi i) (λ has. absurd (false≢true (sym lacks.mixed ∙ has)));
        }

    variables-kept : (form : Form) → LacksQualities form → All (Keeps (proportion_numbers n q)) (variable_lines n form)
    variables-kept form lacks = variables-keep n form (proportion_numbers n q) (each_variable n (KeepsEnds n form (proportion_numbers n q)) (variables-within form lacks))

    product-kept : (a : ℕ) → a < path_count n → Keeps (proportion_numbers n q) (path_product n a)
    product-kept a lt =
        let e = path_feed n a in
        let o = path_out n a in
        first (pos grain) (pos q.prop_base) (pos (q.path a)) (pos q.base)
        ∙ ap (λ z. (pos grain *ℤ pos q.base *ℤ pos q.prop_base) *ℤ pos z) (h.products a lt)
        ∙ last (pos grain) (pos q.base) (pos q.prop_base) (pos (q.proportion e)) (pos (q.out o))
      where
        first : (g r w b : ℤ) → g *ℤ (r *ℤ w) *ℤ (b *ℤ r) ≡ (g *ℤ b *ℤ r) *ℤ (w *ℤ r)
        first g r w b = simp sorted refl

        last : (g b r x y : ℤ) → (g *ℤ b *ℤ r) *ℤ (x *ℤ y) ≡ (g *ℤ b *ℤ x) *ℤ (r *ℤ y)
        last g b r x y = simp sorted refl

    own-kept : HoldsOfEach (MeetsRow n (proportion_values q) (q.base * q.prop_base)) (exact_q_families n)
        → All (Keeps (proportion_numbers n q)) (group_rows n groups.Q ++ tabulate (path_product n) (path_count n))
    own-kept met =
        let numbers = proportion_numbers n q in
        All-append (Keeps numbers) (group_rows n groups.Q) (tabulate (path_product n) (path_count n))
        (group-keeps n numbers (proportion_values q) groups.Q (over-named n (proportion_values q) (q.base * q.prop_base)) met)
        (All-tabulate (Keeps numbers) (path_product n) (path_count n) product-kept)

    pub point-keeps_q : HoldsOfEach (MeetsRow n (proportion_values q) (q.base * q.prop_base)) (network_families n ++ exact_q_families n)
        → IsPointOf (program_lines n Q) (proportion_numbers n q)
    point-keeps_q met =
        let a = proportion_values q in
        let base = q.base * q.prop_base in
        let numbers = proportion_numbers n q in
        record {
          base = mul-le-mul h.base h.prop_base;
          keeps = from_parts n Q numbers record {
            variables = variables-kept Q record { quality = refl; mixed = refl };
            network = group-keeps n numbers a groups.Network (over-named n a base) (each-front (MeetsRow n a base) (network_families n) (exact_q_families n) met);
            own = own-kept (each-behind (MeetsRow n a base) (network_families n) (exact_q_families n) met);
          };
        }

    pub point-keeps_pq : HoldsOfEach (MeetsRow n (proportion_values q) (q.base * q.prop_base)) (network_families n ++ (exact_q_families n ++ pq_families n))
        → IsPointOf (program_lines n Pq) (proportion_numbers n q)
    point-keeps_pq met =
        let a = proportion_values q in
        let base = q.base * q.prop_base in
        let numbers = proportion_numbers n q in
        let named = over-named n a base in
        let rest = each-behind (MeetsRow n a base) (network_families n) (exact_q_families n ++ pq_families n) met in
        record {
          base = mul-le-mul h.base h.prop_base;
          keeps = from_parts n Pq numbers record {
            variables = variables-kept Pq record { quality = refl; mixed = refl };
            network = group-keeps n numbers a groups.Network named (each-front (MeetsRow n a base) (network_families n) (exact_q_families n ++ pq_families n) met);
            own = All-append (Keeps numbers) (group_rows n groups.Q ++ tabulate (path_product n) (path_count n)) (group_rows n groups.Further)
                (own-kept (each-front (MeetsRow n a base) (exact_q_families n) (pq_families n) rest))
                (group-keeps n numbers a groups.Further named (each-behind (MeetsRow n a base) (exact_q_families n) (pq_families n) rest));
          };
        }
