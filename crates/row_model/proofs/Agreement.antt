-- What a proof shows of a box rests on the ends of its coordinates alone: boxes that agree have the same rows and the same ends of variables.
use Rattle.std.proofs.Common.{◌≡◌, ℕ, ◌+◌, ◌-◌, ◌*◌, ◌/◌, ◌%◌, ◌<◌, ◌≤◌, inl, inr, max, nat_lt, ◌==◌, ◌^◌, Bool, true, false, if◌then◌else◌}
use Rattle.std.proofs.Common.{List, [], ◌∷◌, ◌++◌, All, length, get_or, ℤ, pos, ◌-ℤ◌, ◌*ℤ◌, ◌≤ℤ◌, ◌<ℤ◌, unsigned_abs, arith, refl, sym, ap, subst, ◌∙◌}
use Rattle.std.proofs.Math.Path.{fun_ext}
use Rattle.std.specs.List.{sum_by}
use Rattle.std.specs.Int.{int_min, int_div_euclid}
use Rattle.std.proofs.lemmas.Bool.{cases_lt}
use Rattle.std.proofs.lemmas.Bool.Decides.{nat_tests}
use Rattle.integers.specs.Sums.{int_sum_by, int_sum_below, sum_below}
use Rattle.integers.proofs.ByIndex.{int_sum_below-same}
use Rattle.integers.proofs.AtKey.{sum_below-same}
use Rattle.integers.proofs.Grids.{grid-below, grid-row, grid-column}
use Rattle.pool_model.specs.Network.{Net, IsLimited, capped}
use Rattle.row_model.specs.Boxes.{Box, Agree, IsProper, root, coords, prop_number, qual_number, flow_number, grain}
use Rattle.row_model.specs.Variables.{none, variables, by_number, path_count, path_feed, path_out, least_product, greatest_product, lows, highs, costs}
use Rattle.row_model.specs.Envelopes.{Ends, side}
use Rattle.pool_model.specs.Limits.{most_limits, least_limits, no_limit}
use Rattle.row_model.specs.Catalogue.{at_least, when, Row, Family, mixing_row, mixed_most_row, mixed_least_row, quality_envelope_row, proportions_row}
use Rattle.row_model.specs.Catalogue.{feed_row, path_most_row, path_least_row, proportion_envelope_row, network_families, pq_families, p_families, q_families, row_in, row_at}
use Rattle.row_model.specs.Multipliers.{Proof, rest, number, weight, rest_weight, IsSigned, IsInOrder, no_plan, bound, shown_by}
use Rattle.row_model.proofs.Numbering.{HoldsByKind, by_number-each}
use Rattle.row_model.proofs.PathSums.{path_feed-below, path_out-below}

pub agree-back : (n : Net) (b c : Box) → Agree n b c → Agree n c b
agree-back n b c a = record { low = λ i h. sym (a.low i h); high = λ i h. sym (a.high i h) }

pub proper-same : (n : Net) (b c : Box) → Agree n b c → IsProper n b → IsProper n c
proper-same n b c a h = record {
  in_order = λ i lt. subst (λ (z : ℤ). z ≤ℤ c.high i) (a.low i lt) (subst (λ (z : ℤ). b.low i ≤ℤ z) (a.high i lt) (h.in_order i lt));
  low = λ i lt. subst (λ (z : ℤ). (root n).low i ≤ℤ z) (a.low i lt) (h.low i lt);
  high = λ i lt. subst (λ (z : ℤ). z ≤ℤ (root n).high i) (a.high i lt) (h.high i lt);
}

-- ---- the ends of each kind of coordinate

-- what two boxes give at a coordinate
record Same (b c : Box) (number : ℕ) : Type 0 where
  low : b.low number ≡ c.low number
  high : b.high number ≡ c.high number

same_at : (n : Net) (b c : Box) (number : ℕ) → Agree n b c → number < coords n → Same b c number
same_at n b c number a h = record { low = a.low number h; high = a.high number h }

same-prop : (n : Net) (b c : Box) (e : ℕ) → Agree n b c → e < n.feeds → Same b c (prop_number n e)
same-prop n b c e a h = same_at n b c (prop_number n e) a (omega arith)

same-qual : (n : Net) (b c : Box) (l k : ℕ) → Agree n b c → l < n.pools → k < n.qualities → Same b c (qual_number n l k)
same-qual n b c l k a h j = same_at n b c (qual_number n l k) a (omega (arith, grid-below n.pools n.qualities l k h j))

same-flow : (n : Net) (b c : Box) (o : ℕ) → Agree n b c → o < n.outs → Same b c (flow_number n o)
same-flow n b c o a h = same_at n b c (flow_number n o) a (omega arith)

-- a function of four ends
four : {X : Type 0} (f : ℤ → ℤ → ℤ → ℤ → X) (b c : Box) (i j : ℕ) → Same b c i → Same b c j → f (b.low i) (b.high i) (b.low j) (b.high j) ≡ f (c.low i) (c.high i) (c.low j) (c.high j)
four f b c i j h k =
    ap (λ (z : ℤ). f z (b.high i) (b.low j) (b.high j)) h.low
    ∙ ap (λ (z : ℤ). f (c.low i) z (b.low j) (b.high j)) h.high
    ∙ ap (λ (z : ℤ). f (c.low i) (c.high i) z (b.high j)) k.low
    ∙ ap (λ (z : ℤ). f (c.low i) (c.high i) (c.low j) z) k.high

-- ---- ends of variables

same-lows : (n : Net) (b c : Box) → IsLimited n → Agree n b c → HoldsByKind n (λ x y. x ≡ y) (lows n b) (lows n c)
same-lows n b c lim a = record {
  x = λ e h. refl;
  y = λ o h. (same-flow n b c o a h).low;
  z = λ e h. refl;
  w = λ q h. refl;
  proportion = λ e h. (same-prop n b c e a h).low;
  quality = λ l k h j. (same-qual n b c l k a h j).low;
  mixed = λ o k h j. four least_product b c (qual_number n (n.out_pool o) k) (flow_number n o) (same-qual n b c (n.out_pool o) k a (lim.out_pools o h) j) (same-flow n b c o a h);
}

same-highs : (n : Net) (b c : Box) → IsLimited n → Agree n b c → HoldsByKind n (λ x y. x ≡ y) (highs n b) (highs n c)
same-highs n b c lim a = record {
  x = λ e h. refl;
  y = λ o h. (same-flow n b c o a h).high;
  z = λ e h. refl;
  w = λ q h. ap (λ (z : ℤ). int_min (pos (capped (n.feed_max (path_feed n q)) (n.source_max (n.feed_source (path_feed n q))))) z) (same-flow n b c (path_out n q) a (path_out-below n q h)).high;
  proportion = λ e h. (same-prop n b c e a h).high;
  quality = λ l k h j. (same-qual n b c l k a h j).high;
  mixed = λ o k h j. four greatest_product b c (qual_number n (n.out_pool o) k) (flow_number n o) (same-qual n b c (n.out_pool o) k a (lim.out_pools o h) j) (same-flow n b c o a h);
}

low-same : (n : Net) (b c : Box) (v : ℕ) → IsLimited n → Agree n b c → v < variables n → by_number n (lows n b) v ≡ by_number n (lows n c) v
low-same n b c v lim a h = by_number-each n (λ x y. x ≡ y) (lows n b) (lows n c) (same-lows n b c lim a) v h

high-same : (n : Net) (b c : Box) (v : ℕ) → IsLimited n → Agree n b c → v < variables n → by_number n (highs n b) v ≡ by_number n (highs n c) v
high-same n b c v lim a h = by_number-each n (λ x y. x ≡ y) (highs n b) (highs n c) (same-highs n b c lim a) v h

-- ---- rows

-- a family and those behind it, where both are the same up to its count
family-same : (count : ℕ) (r s : ℕ → Row) (fs gs : List Family) (i : ℕ) → ((j : ℕ) → j < count → r j ≡ s j) → ((j : ℕ) → row_in fs j ≡ row_in gs j)
    → row_in (record { count = count; row = r } ∷ fs) i ≡ row_in (record { count = count; row = s } ∷ gs) i
family-same count r s fs gs i h k = elim (cases_lt i count) [
  | inl lt ↦ let test : nat_lt i count ≡ true = grind (arith, nat_tests) in
      ap (λ (t : Bool). if t then r i else row_in fs (i - count)) test ∙ h i lt ∙ sym (ap (λ (t : Bool). if t then s i else row_in gs (i - count)) test)
  | inr ge ↦ let test : nat_lt i count ≡ false = grind (arith, nat_tests) in
      ap (λ (t : Bool). if t then r i else row_in fs (i - count)) test ∙ k (i - count) ∙ sym (ap (λ (t : Bool). if t then s i else row_in gs (i - count)) test)
]

families-same : (ps fs gs : List Family) → ((j : ℕ) → row_in fs j ≡ row_in gs j) → (i : ℕ) → row_in (ps ++ fs) i ≡ row_in (ps ++ gs) i
families-same [] fs gs h i = h i
families-same (f ∷ ps) fs gs h i = family-same f.count f.row f.row (ps ++ fs) (ps ++ gs) i (λ j lt. refl) (families-same ps fs gs h)

abbrev ends_of_four : ℤ → ℤ → ℤ → ℤ → Ends
ends_of_four al ah bl bh = record { a_low = al; a_high = ah; b_low = bl; b_high = bh }

-- an envelope's row from its ends
abbrev quality_row : Net → ℕ → ℕ → ℕ → Ends → Row
quality_row n o k number e =
    let s = side number (pos 1) e in
    record {
      kind = at_least;
      coefs = record none {
        y = λ f. when f o s.of_b;
        quality = λ l h. when h k (when l (n.out_pool o) s.of_a);
        mixed = λ f h. when h k (when f o s.of_w);
      };
      constant = s.constant;
    }

abbrev proportion_row : Net → ℕ → ℕ → Ends → Row
proportion_row n p number e =
    let s = side number (pos grain) e in
    record {
      kind = at_least;
      coefs = record none {
        y = λ o. when o (path_out n p) s.of_b;
        w = λ q. when q p s.of_w;
        proportion = λ e. when e (path_feed n p) s.of_a;
      };
      constant = s.constant;
    }

quality-same : (n : Net) (b c : Box) (o k number : ℕ) → IsLimited n → Agree n b c → o < n.outs → k < n.qualities → quality_envelope_row n b o k number ≡ quality_envelope_row n c o k number
quality-same n b c o k number lim a h j =
    four (λ al ah bl bh. quality_row n o k number (ends_of_four al ah bl bh)) b c (qual_number n (n.out_pool o) k) (flow_number n o)
    (same-qual n b c (n.out_pool o) k a (lim.out_pools o h) j) (same-flow n b c o a h)

proportion-same : (n : Net) (b c : Box) (p number : ℕ) → Agree n b c → p < path_count n → proportion_envelope_row n b p number ≡ proportion_envelope_row n c p number
proportion-same n b c p number a h =
    four (λ al ah bl bh. proportion_row n p number (ends_of_four al ah bl bh)) b c (prop_number n (path_feed n p)) (flow_number n (path_out n p))
    (same-prop n b c (path_feed n p) a (path_feed-below n p h)) (same-flow n b c (path_out n p) a (path_out-below n p h))

same_rest : (fs : List Family) (j : ℕ) → row_in fs j ≡ row_in fs j
same_rest fs j = refl

q-same : (n : Net) (b c : Box) → Agree n b c → (i : ℕ) → row_in (q_families n b ++ pq_families n) i ≡ row_in (q_families n c ++ pq_families n) i
q-same n b c a i =
    let first : List Family = record { count = n.pools; row = proportions_row n }
    ∷ record { count = n.feeds; row = feed_row n }
    ∷ record { count = length (most_limits n); row = λ i. path_most_row n (get_or (most_limits n) i no_limit) }
    ∷ record { count = length (least_limits n); row = λ i. path_least_row n (get_or (least_limits n) i no_limit) }
    ∷ [] in
    let envelopes = λ (z : Box) (i : ℕ). proportion_envelope_row n z (i / 4) (i % 4 + 1) in
    families-same first (record { count = path_count n * 4; row = envelopes b } ∷ pq_families n) (record { count = path_count n * 4; row = envelopes c } ∷ pq_families n)
    (λ j. family-same (path_count n * 4) (envelopes b) (envelopes c) (pq_families n) (pq_families n) j
    (λ m lt. proportion-same n b c (m / 4) (m % 4 + 1) a (grid-row (path_count n) 4 m lt)) (same_rest (pq_families n))) i

p-same : (n : Net) (b c : Box) → IsLimited n → Agree n b c → (i : ℕ) → row_in (p_families n b ++ (q_families n b ++ pq_families n)) i ≡ row_in (p_families n c ++ (q_families n c ++ pq_families n)) i
p-same n b c lim a i =
    let first : List Family = record { count = n.pools * n.qualities; row = λ i. mixing_row n (i / n.qualities) (i % n.qualities) }
    ∷ record { count = length (most_limits n); row = λ i. mixed_most_row n (get_or (most_limits n) i no_limit) }
    ∷ record { count = length (least_limits n); row = λ i. mixed_least_row n (get_or (least_limits n) i no_limit) }
    ∷ [] in
    let envelopes = λ (z : Box) (i : ℕ). quality_envelope_row n z (i / (n.qualities * 4)) (i % (n.qualities * 4) / 4) (i % 4 + 1) in
    let count = n.outs * (n.qualities * 4) in
    families-same first (record { count = count; row = envelopes b } ∷ (q_families n b ++ pq_families n)) (record { count = count; row = envelopes c } ∷ (q_families n c ++ pq_families n))
    (λ j. family-same count (envelopes b) (envelopes c) (q_families n b ++ pq_families n) (q_families n c ++ pq_families n) j
    (λ m lt. quality-same n b c (m / (n.qualities * 4)) (m % (n.qualities * 4) / 4) (m % 4 + 1) lim a (grid-row n.outs (n.qualities * 4) m lt)
    (grid-row n.qualities 4 (m % (n.qualities * 4)) (grid-column n.outs (n.qualities * 4) m lt)))
    (q-same n b c a)) i

pub rows-same : (n : Net) (b c : Box) → IsLimited n → Agree n b c → row_at n b ≡ row_at n c
rows-same n b c lim a =
    fun_ext (families-same (network_families n) (p_families n b ++ (q_families n b ++ pq_families n)) (p_families n c ++ (q_families n c ++ pq_families n)) (p-same n b c lim a))

-- ---- the number and the weight of a proof

rest-same : (n : Net) (b c : Box) (proof : Proof) (v : ℕ) → IsLimited n → Agree n b c → rest n b proof v ≡ rest n c proof v
rest-same n b c proof v lim a =
    ap (λ (r : ℕ → Row). pos proof.scale *ℤ by_number n (costs n) v -ℤ int_sum_by (λ q. q.mult *ℤ by_number n (r q.row).coefs v) proof.parts) (rows-same n b c lim a)

pub number-same : (n : Net) (b c : Box) (proof : Proof) → IsLimited n → Agree n b c → number n b proof ≡ number n c proof
number-same n b c proof lim a =
    let least = λ (z : Box) (v : ℕ). int_min (rest n z proof v *ℤ by_number n (lows n z) v) (rest n z proof v *ℤ by_number n (highs n z) v) in
    let constants = λ (r : ℕ → Row). int_sum_by (λ q. q.mult *ℤ (r q.row).constant) proof.parts in
    ap (λ (x : ℤ). x -ℤ constants (row_at n b)) (int_sum_below-same (least b) (least c) (variables n) (λ v h.
    ap (λ (x : ℤ). int_min (x *ℤ by_number n (lows n b) v) (x *ℤ by_number n (highs n b) v)) (rest-same n b c proof v lim a)
    ∙ ap (λ (x : ℤ). int_min (rest n c proof v *ℤ x) (rest n c proof v *ℤ by_number n (highs n b) v)) (low-same n b c v lim a h)
    ∙ ap (λ (x : ℤ). int_min (rest n c proof v *ℤ by_number n (lows n c) v) (rest n c proof v *ℤ x)) (high-same n b c v lim a h)))
    ∙ ap (λ (r : ℕ → Row). int_sum_below (least c) (variables n) -ℤ constants r) (rows-same n b c lim a)

pub weight-same : (n : Net) (b c : Box) (proof : Proof) → IsLimited n → Agree n b c → weight n b proof ≡ weight n c proof
weight-same n b c proof lim a =
    let rests = λ (r : ℕ → Row) (v : ℕ). proof.scale * unsigned_abs (by_number n (costs n) v) + sum_by (λ q. unsigned_abs q.mult * unsigned_abs (by_number n (r q.row).coefs v)) proof.parts in
    let most = λ (z : Box) (v : ℕ). rest_weight n z proof v * max (unsigned_abs (by_number n (lows n z) v)) (unsigned_abs (by_number n (highs n z) v)) in
    let constants = λ (r : ℕ → Row). sum_by (λ q. unsigned_abs q.mult * unsigned_abs (r q.row).constant) proof.parts in
    ap (λ (x : ℕ). constants (row_at n b) + x) (sum_below-same (most b) (most c) (variables n) (λ v h.
    ap (λ (r : ℕ → Row). rests r v * max (unsigned_abs (by_number n (lows n b) v)) (unsigned_abs (by_number n (highs n b) v))) (rows-same n b c lim a)
    ∙ ap (λ (x : ℤ). rest_weight n c proof v * max (unsigned_abs x) (unsigned_abs (by_number n (highs n b) v))) (low-same n b c v lim a h)
    ∙ ap (λ (x : ℤ). rest_weight n c proof v * max (unsigned_abs (by_number n (lows n c) v)) (unsigned_abs x)) (high-same n b c v lim a h)))
    ∙ ap (λ (r : ℕ → Row). constants r + sum_below (most c) (variables n)) (rows-same n b c lim a)

-- ---- what proofs are in order, and what they show

pub in_order-same : (n : Net) (b c : Box) (proof : Proof) → IsLimited n → Agree n b c → IsInOrder n b proof → IsInOrder n c proof
in_order-same n b c proof lim a h = record {
  rising = h.rising;
  known = h.known;
  signed = subst (λ (r : ℕ → Row). All (λ q. IsSigned (r q.row).kind q.mult) proof.parts) (rows-same n b c lim a) h.signed;
  nonzero = h.nonzero;
  narrow = subst (λ (w : ℕ). w ≤ 2 ^ 126) (weight-same n b c proof lim a) h.narrow;
  shows = λ e. subst (λ (z : ℤ). pos 0 <ℤ z) (number-same n b c proof lim a) (h.shows e);
}

pub shown-same : (n : Net) (b c : Box) (proof : Proof) → IsLimited n → Agree n b c → shown_by n b proof ≡ shown_by n c proof
shown-same n b c proof lim a =
    ap (λ (z : ℤ). if proof.scale == 0 then no_plan else bound (int_div_euclid z (pos proof.scale))) (number-same n b c proof lim a)
