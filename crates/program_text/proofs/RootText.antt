-- The text of a program rests on the ends of the box alone.
use Rattle.std.proofs.Common.{◌≡◌, ℕ, ◌+◌, ◌*◌, ◌<◌, ◌++◌, List, get_or, Bool, if◌then◌else◌, ℤ, pos, arith, refl, ap, ◌∙◌, []}
use Rattle.std.specs.Prelude.{codes}
use Rattle.std.specs.Int.{int_min}
use Rattle.integers.proofs.Grids.{grid-below}
use Rattle.pool_model.specs.Network.{Net, IsLimited, capped}
use Rattle.row_model.specs.Boxes.{Box, Agree, root, coords, prop_number, qual_number, flow_number}
use Rattle.row_model.specs.Variables.{variables, by_number, lows, highs, least_product, greatest_product, path_count, path_feed, path_out}
use Rattle.row_model.specs.Catalogue.{Row}
use Rattle.row_model.proofs.Agreement.{rows-same}
use Rattle.row_model.proofs.Numbering.{by_number-each}
use Rattle.row_model.proofs.PathSums.{path_out-below}
use Rattle.row_book.specs.PartRows.{kind_at, coef_at, constant_at}
use Rattle.row_book.specs.declared.catalogue.Group.TheVariants as groups
use Rattle.row_book.specs.Exact.{first_of, exact_count}
use Rattle.box_space.specs.Views.{AreRoot, shown_box}
use Rattle.box_space.specs.declared.boxes.BoxEnds.{BoxEnds}
use Rattle.box_space.specs.declared.boxes.BoxView.{BoxView}
use Rattle.box_space.specs.declared.coordinates.Form.{Form}
use Rattle.box_space.specs.declared.coordinates.Form.TheVariants.{P, Q, Pq}
use Rattle.text_pieces.specs.Pieces.{each_below}
use Rattle.program_text.specs.Names.{has_symbol, name_of}
use Rattle.program_text.specs.Lines.{row_head, row_line, row_lines, terms_text, ends_line, ends_text, ends_lines, mixed_line, path_line, cost_line}
use Rattle.program_text.specs.Programs.{head_line, first_lines, network_lines, p_lines}
use Rattle.program_text.specs.Programs.{q_lines, pq_lines, family_lines, program_in}
use Rattle.text_pieces.proofs.Each.{each_below-same}

-- ---- rows

row_line-same : (n : Net) (b c : Box) (id : ℕ) → IsLimited n → Agree n b c → row_line n b id ≡ row_line n c id
unfolding kind_at coef_at constant_at
row_line-same n b c id lim a =
    ap (λ (r : ℕ → Row). row_head id (r id).kind (r id).constant ++ (terms_text n (by_number n (r id).coefs) ++ codes "\n")) (rows-same n b c lim a)

row_lines-same : (n : Net) (b c : Box) (first count : ℕ) → IsLimited n → Agree n b c → row_lines n b first count ≡ row_lines n c first count
row_lines-same n b c first count lim a = each_below-same (λ i. row_line n b (first + i)) (λ i. row_line n c (first + i)) count (λ i lt. row_line-same n b c (first + i) lim a)

-- ---- ends

flow-below : (n : Net) (o : ℕ) → o < n.outs → flow_number n o < coords n
flow-below n o h = omega arith

prop-below : (n : Net) (e : ℕ) → e < n.feeds → prop_number n e < coords n
prop-below n e h = omega arith

qual-below : (n : Net) (l k : ℕ) → l < n.pools → k < n.qualities → qual_number n l k < coords n
qual-below n l k h g = omega (arith, grid-below n.pools n.qualities l k h g)

products-same : (f : ℤ → ℤ → ℤ → ℤ → ℤ) (a b c d p q r s : ℤ) → a ≡ p → b ≡ q → c ≡ r → d ≡ s → f a b c d ≡ f p q r s
products-same f a b c d p q r s e g h k = ap (λ x. f x b c d) e ∙ ap (λ x. f p x c d) g ∙ ap (λ x. f p q x d) h ∙ ap (λ x. f p q r x) k

lows-same : (n : Net) (b c : Box) (v : ℕ) → IsLimited n → Agree n b c → v < variables n → by_number n (lows n b) v ≡ by_number n (lows n c) v
lows-same n b c v lim a h = by_number-each n (λ x y. x ≡ y) (lows n b) (lows n c) record {
  x = λ e lt. refl;
  y = λ o lt. a.low (flow_number n o) (flow-below n o lt);
  z = λ e lt. refl;
  w = λ q lt. refl;
  proportion = λ e lt. a.low (prop_number n e) (prop-below n e lt);
  quality = λ l k lt lk. a.low (qual_number n l k) (qual-below n l k lt lk);
  mixed = λ o k lt lk.
      let held = qual_below n o k lim lt lk in
      products-same least_product (b.low (qual_number n (n.out_pool o) k)) (b.high (qual_number n (n.out_pool o) k)) (b.low (flow_number n o)) (b.high (flow_number n o))
      (c.low (qual_number n (n.out_pool o) k)) (c.high (qual_number n (n.out_pool o) k)) (c.low (flow_number n o)) (c.high (flow_number n o))
      (a.low (qual_number n (n.out_pool o) k) held) (a.high (qual_number n (n.out_pool o) k) held) (a.low (flow_number n o) (flow-below n o lt)) (a.high (flow_number n o) (flow-below n o lt));
} v h
  where
    qual_below : (n : Net) (o k : ℕ) → IsLimited n → o < n.outs → k < n.qualities → qual_number n (n.out_pool o) k < coords n
    qual_below n o k lim lt lk = qual-below n (n.out_pool o) k (lim.out_pools o lt) lk

highs-same : (n : Net) (b c : Box) (v : ℕ) → IsLimited n → Agree n b c → v < variables n → by_number n (highs n b) v ≡ by_number n (highs n c) v
highs-same n b c v lim a h = by_number-each n (λ x y. x ≡ y) (highs n b) (highs n c) record {
  x = λ e lt. refl;
  y = λ o lt. a.high (flow_number n o) (flow-below n o lt);
  z = λ e lt. refl;
  w = λ q lt. ap (int_min (pos (capped (n.feed_max (path_feed n q)) (n.source_max (n.feed_source (path_feed n q)))))) (a.high (flow_number n (path_out n q)) (flow-below n (path_out n q) (path_out-below n q lt)));
  proportion = λ e lt. a.high (prop_number n e) (prop-below n e lt);
  quality = λ l k lt lk. a.high (qual_number n l k) (qual-below n l k lt lk);
  mixed = λ o k lt lk.
      let held = qual_below n o k lim lt lk in
      products-same greatest_product (b.low (qual_number n (n.out_pool o) k)) (b.high (qual_number n (n.out_pool o) k)) (b.low (flow_number n o)) (b.high (flow_number n o))
      (c.low (qual_number n (n.out_pool o) k)) (c.high (qual_number n (n.out_pool o) k)) (c.low (flow_number n o)) (c.high (flow_number n o))
      (a.low (qual_number n (n.out_pool o) k) held) (a.high (qual_number n (n.out_pool o) k) held) (a.low (flow_number n o) (flow-below n o lt)) (a.high (flow_number n o) (flow-below n o lt));
} v h
  where
    qual_below : (n : Net) (o k : ℕ) → IsLimited n → o < n.outs → k < n.qualities → qual_number n (n.out_pool o) k < coords n
    qual_below n o k lim lt lk = qual-below n (n.out_pool o) k (lim.out_pools o lt) lk

ends_lines-same : (n : Net) (b c : Box) (form : Form) → IsLimited n → Agree n b c → ends_lines n b form ≡ ends_lines n c form
ends_lines-same n b c form lim a = each_below-same (ends_text n b form) (ends_text n c form) (variables n)
    (λ v lt. both (has_symbol form (name_of n v).symbol) v (by_number n (lows n b) v) (by_number n (highs n b) v) (by_number n (lows n c) v) (by_number n (highs n c) v)
    (lows-same n b c v lim a lt) (highs-same n b c v lim a lt))
  where
    both : (t : Bool) (v : ℕ) (x y p q : ℤ) → x ≡ p → y ≡ q → (if t then ends_line n v x y else []) ≡ (if t then ends_line n v p q else [])
    both t v x y p q e f = ap (λ z. if t then ends_line n v z y else []) e ∙ ap (λ z. if t then ends_line n v p z else []) f

-- ---- programs

p_lines-same : (n : Net) (b c : Box) → IsLimited n → Agree n b c → p_lines n b ≡ p_lines n c
p_lines-same n b c lim a = ap (λ (w : List ℕ). w ++ each_below (mixed_line n) (n.outs * n.qualities)) (row_lines-same n b c (first_of n groups.P) (exact_count n groups.P) lim a)

q_lines-same : (n : Net) (b c : Box) → IsLimited n → Agree n b c → q_lines n b ≡ q_lines n c
q_lines-same n b c lim a = ap (λ (w : List ℕ). w ++ each_below (path_line n) (path_count n)) (row_lines-same n b c (first_of n groups.Q) (exact_count n groups.Q) lim a)

family_lines-same : (n : Net) (b c : Box) (form : Form) → IsLimited n → Agree n b c → family_lines n b form ≡ family_lines n c form
family_lines-same n b c P lim a = p_lines-same n b c lim a
family_lines-same n b c Q lim a = q_lines-same n b c lim a
family_lines-same n b c Pq lim a =
    ap (λ (w : List ℕ). w ++ pq_lines n b) (q_lines-same n b c lim a)
    ∙ ap (λ (w : List ℕ). q_lines n c ++ w) (row_lines-same n b c (first_of n groups.Further) (exact_count n groups.Further) lim a)

pub program_in-same : (n : Net) (b c : Box) (form : Form) → IsLimited n → Agree n b c → program_in n b form ≡ program_in n c form
program_in-same n b c form lim a =
    ap (λ (w : List ℕ). (head_line form ++ (cost_line n ++ w)) ++ (network_lines n b ++ (family_lines n b form ++ codes "end\n"))) (ends_lines-same n b c form lim a)
    ∙ ap (λ (w : List ℕ). first_lines n c form ++ (w ++ (family_lines n b form ++ codes "end\n"))) (row_lines-same n b c (first_of n groups.Network) (exact_count n groups.Network) lim a)
    ∙ ap (λ (w : List ℕ). first_lines n c form ++ (network_lines n c ++ (w ++ codes "end\n"))) (family_lines-same n b c form lim a)

-- a view of the root box has the ends of the root
pub view-agrees : (n : Net) (b : BoxEnds) (v : BoxView) → v.low.now ≡ b.low.items → v.high.now ≡ b.high.items → AreRoot n b → Agree n (shown_box v) (root n)
view-agrees n b v e f h = record {
  low = λ c lt. ap (λ (xs : List ℤ). get_or xs c (pos 0)) e ∙ h.low c lt;
  high = λ c lt. ap (λ (xs : List ℤ). get_or xs c (pos 0)) f ∙ h.high c lt;
}
