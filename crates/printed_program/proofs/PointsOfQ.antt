-- Numbers that keep the lines of Q, or of Pq, are a point of it.
use Rattle.std.proofs.Common.{All, ◌≡◌, ℕ, ◌*◌, ◌<◌, true, List, ◌++◌, ℤ, pos, ◌*ℤ◌, unsigned_abs, arith, refl, sym, ap, ◌∙◌}
use Rattle.integers.specs.Numbers.{tabulate}
use Rattle.integers.proofs.Ring.{sorted}
use Rattle.integers.proofs.Order.{same_pos}
use Rattle.pool_model.specs.Network.{Net}
use Rattle.row_model.specs.Boxes.{grain}
use Rattle.row_model.specs.Variables.{path_count, path_feed, path_out}
use Rattle.row_model.specs.Catalogue.{Row, Family, network_families, pq_families, HoldsOfEach}
use Rattle.row_model.specs.Lift.{MeetsRow}
use Rattle.row_model.proofs.PathSums.{path_feed-below, path_out-below}
use Rattle.row_book.specs.declared.catalogue.Group.TheVariants as groups
use Rattle.row_model.proofs.Families.{each-append}
use Rattle.box_space.specs.declared.coordinates.Form.{Form}
use Rattle.box_space.specs.declared.coordinates.Form.TheVariants.{Q, Pq}
use Rattle.program_model.specs.Rows.{exact_q_families, proportion_values, SolvesQ, SolvesPq}
use Rattle.program_text.specs.Names.{named, has_symbol}
use Rattle.program_text.specs.declared.names.Symbol.TheVariants as symbols
use Rattle.printed_program.specs.Numbers.{Numbers, Keeps, IsPointOf}
use Rattle.printed_program.specs.Printed.{variable_lines, group_rows, path_product, program_lines}
use Rattle.printed_program.specs.Points.{proportion_point_at}
use Rattle.printed_program.proofs.Lists.{All-front, All-behind, at-tabulate}
use Rattle.printed_program.proofs.Scaling.{AreTimes, times-number, times-nothing, row-times}
use Rattle.printed_program.proofs.Terms.{numbers_of, numbers-named}
use Rattle.printed_program.proofs.Groups.{group-meets}
use Rattle.printed_program.proofs.Ends.{unsigned}
use Rattle.printed_program.proofs.Maxima.{maxima-kept}
use Rattle.printed_program.proofs.Parts.{to_parts, each-both, feed-signed, out-signed, direct-signed, path-signed, proportion-signed, has-feeds, has-outs, has-directs}

-- a row of Q has no quality and no mixed variable
pub record IsOfQ (r : Row) : Type 0 where
  pub quality : (l k : ℕ) → r.coefs.quality l k ≡ pos 0
  pub mixed : (o k : ℕ) → r.coefs.mixed o k ≡ pos 0

network-of_q : (n : Net) → HoldsOfEach IsOfQ (network_families n)
network-of_q n = (
  λ i lt. record { quality = λ l k. refl; mixed = λ o k. refl },
  (
    λ i lt. record { quality = λ l k. refl; mixed = λ o k. refl },
    (
      λ i lt. record { quality = λ l k. refl; mixed = λ o k. refl },
      (λ i lt. record { quality = λ l k. refl; mixed = λ o k. refl }, (λ i lt. record { quality = λ l k. refl; mixed = λ o k. refl }, tt)),
    ),
  ),
)

own-of_q : (n : Net) → HoldsOfEach IsOfQ (exact_q_families n)
own-of_q n = (
  λ i lt. record { quality = λ l k. refl; mixed = λ o k. refl },
  (
    λ i lt. record { quality = λ l k. refl; mixed = λ o k. refl },
    (λ i lt. record { quality = λ l k. refl; mixed = λ o k. refl }, (λ i lt. record { quality = λ l k. refl; mixed = λ o k. refl }, tt)),
  ),
)

further-of_q : (n : Net) → HoldsOfEach IsOfQ (pq_families n)
further-of_q n = (λ i lt. record { quality = λ l k. refl; mixed = λ o k. refl }, (λ i lt. record { quality = λ l k. refl; mixed = λ o k. refl }, tt))

-- a form that has proportions and flows along paths
pub record HasPaths (form : Form) : Type 0 where
  pub path : has_symbol form symbols.Path ≡ true
  pub proportion : has_symbol form symbols.Proportion ≡ true

pub q-paths : HasPaths Q
q-paths = record { path = refl; proportion = refl }

pub pq-paths : HasPaths Pq
pq-paths = record { path = refl; proportion = refl }

module _ (n : Net) (form : Form) (has : HasPaths form) (q : Numbers) (h : All (Keeps q) (variable_lines n form)) where
  -- the point's numbers are those of the names, times the grain and the denominator
  multiples : (r : Row) → IsOfQ r → AreTimes n (pos (grain * q.base)) r.coefs (proportion_values (proportion_point_at q)) (numbers_of n q.value)
  multiples r is =
      let k = pos (grain * q.base) in
      let v = numbers_of n q.value in
      let w = proportion_values (proportion_point_at q) in
      record {
        x = λ e lt. times-number k (r.coefs.x e) (w.x e) (v.x e) (ap (λ z. k *ℤ z) (unsigned (v.x e) (feed-signed n form q h e lt (has-feeds form))));
        y = λ o lt. times-number k (r.coefs.y o) (w.y o) (v.y o) (ap (λ z. k *ℤ z) (unsigned (v.y o) (out-signed n form q h o lt (has-outs form))));
        z = λ e lt. times-number k (r.coefs.z e) (w.z e) (v.z e) (ap (λ z. k *ℤ z) (unsigned (v.z e) (direct-signed n form q h e lt (has-directs form))));
        w = λ a lt. times-number k (r.coefs.w a) (w.w a) (v.w a) (ap (λ z. k *ℤ z) (unsigned (v.w a) (path-signed n form q h a lt has.path)));
        proportion = λ e lt. times-number k (r.coefs.proportion e) (w.proportion e) (v.proportion e)
            (ap (λ z. k *ℤ z) (unsigned (v.proportion e) (proportion-signed n form q h e lt has.proportion)));
        quality = λ l j lt lj. times-nothing k (r.coefs.quality l j) (w.quality l j) (v.quality l j) (is.quality l j);
        mixed = λ o j lt lj. times-nothing k (r.coefs.mixed o j) (w.mixed o j) (v.mixed o j) (is.mixed o j);
      }

  families-met : (fs : List Family) → HoldsOfEach IsOfQ fs → HoldsOfEach (MeetsRow n (numbers_of n q.value) q.base) fs
      → HoldsOfEach (MeetsRow n (proportion_values (proportion_point_at q)) (q.base * (grain * q.base))) fs
  families-met fs is met =
      let v = numbers_of n q.value in
      let w = proportion_values (proportion_point_at q) in
      each-both IsOfQ (MeetsRow n v q.base) (MeetsRow n w (q.base * (grain * q.base))) fs
      (λ r is_q kept. row-times n (grain * q.base) q.base r w v (multiples r is_q) kept) is met

  product-kept : All (Keeps q) (tabulate (path_product n) (path_count n)) → (a : ℕ) → a < path_count n
      → unsigned_abs (q.value (named symbols.Path a)) * (grain * q.base)
      ≡ unsigned_abs (q.value (named symbols.Proportion (path_feed n a))) * unsigned_abs (q.value (named symbols.Out (path_out n a)))
  product-kept products a lt =
      let w = q.value (named symbols.Path a) in
      let r = q.value (named symbols.Proportion (path_feed n a)) in
      let y = q.value (named symbols.Out (path_out n a)) in
      let kept = at-tabulate (Keeps q) (path_product n) (path_count n) a products lt in
      same_pos (unsigned_abs w * (grain * q.base)) (unsigned_abs r * unsigned_abs y)
      (turned (pos (unsigned_abs w)) (pos grain) (pos q.base)
      ∙ ap (λ z. pos grain *ℤ z *ℤ pos q.base) (unsigned w (path-signed n form q h a lt has.path))
      ∙ kept
      ∙ ap (λ z. z *ℤ y) (sym (unsigned r (proportion-signed n form q h (path_feed n a) (path_feed-below n a lt) has.proportion)))
      ∙ ap (λ z. pos (unsigned_abs r) *ℤ z) (sym (unsigned y (out-signed n form q h (path_out n a) (path_out-below n a lt) (has-outs form)))))
    where
      turned : (w g b : ℤ) → w *ℤ (g *ℤ b) ≡ g *ℤ w *ℤ b
      turned w g b = simp sorted refl

pub lines-solve_q : (n : Net) (q : Numbers) → IsPointOf (program_lines n Q) q → SolvesQ n (proportion_point_at q)
lines-solve_q n q h =
    let parts = to_parts n Q q h.keeps in
    let products = tabulate (path_product n) (path_count n) in
    let v = numbers_of n q.value in
    let named = numbers-named n q.value in
    record {
      base = h.base;
      prop_base = omega (arith, h.base);
      rows = families-met n Q q-paths q parts.variables (network_families n ++ exact_q_families n)
          (each-append IsOfQ (network_families n) (exact_q_families n) (network-of_q n) (own-of_q n))
          (each-append (MeetsRow n v q.base) (network_families n) (exact_q_families n)
          (group-meets n q v groups.Network named parts.network)
          (group-meets n q v groups.Q named (All-front (Keeps q) (group_rows n groups.Q) products parts.own)));
      products = product-kept n Q q-paths q parts.variables (All-behind (Keeps q) (group_rows n groups.Q) products parts.own);
      maxima = maxima-kept n Q q parts.variables;
    }

pub lines-solve_pq : (n : Net) (q : Numbers) → IsPointOf (program_lines n Pq) q → SolvesPq n (proportion_point_at q)
lines-solve_pq n q h =
    let parts = to_parts n Pq q h.keeps in
    let products = tabulate (path_product n) (path_count n) in
    let rows = group_rows n groups.Q ++ products in
    let of_q = All-front (Keeps q) rows (group_rows n groups.Further) parts.own in
    let v = numbers_of n q.value in
    let named = numbers-named n q.value in
    record {
      base = h.base;
      prop_base = omega (arith, h.base);
      rows = families-met n Pq pq-paths q parts.variables (network_families n ++ (exact_q_families n ++ pq_families n))
          (each-append IsOfQ (network_families n) (exact_q_families n ++ pq_families n) (network-of_q n)
          (each-append IsOfQ (exact_q_families n) (pq_families n) (own-of_q n) (further-of_q n)))
          (each-append (MeetsRow n v q.base) (network_families n) (exact_q_families n ++ pq_families n)
          (group-meets n q v groups.Network named parts.network)
          (each-append (MeetsRow n v q.base) (exact_q_families n) (pq_families n)
          (group-meets n q v groups.Q named (All-front (Keeps q) (group_rows n groups.Q) products of_q))
          (group-meets n q v groups.Further named (All-behind (Keeps q) rows (group_rows n groups.Further) parts.own))));
      products = product-kept n Pq pq-paths q parts.variables (All-behind (Keeps q) (group_rows n groups.Q) products of_q);
      maxima = maxima-kept n Pq q parts.variables;
    }
