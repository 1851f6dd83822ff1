-- At the point of a plan that obeys and lies in a box, each variable lies between its ends.
use Rattle.std.proofs.Common.{◌≡◌, ℕ, ◌*◌, ◌<◌, ◌≤◌, min, max, ℤ, pos, ◌*ℤ◌, ◌≤ℤ◌, arith, refl, sym, ap}
use Rattle.std.proofs.Math.Nat.{mul-le-mul_left}
use Rattle.integers.specs.Sums.{product_below, product_but}
use Rattle.integers.proofs.Ring.{additive, sorted}
use Rattle.integers.proofs.Order.{le-mul, four_products-over}
use Rattle.integers.proofs.AtKey.{product_but_is, term-le-sum_at}
use Rattle.pool_model.specs.Network.{Net, IsLimited, capped}
use Rattle.pool_model.specs.Plan.{Plan, Carries, Obeys, outflow, factor, mix}
use Rattle.row_model.specs.Boxes.{Box, prop, qual, prop_number, qual_number, flow_number, place, LiesIn}
use Rattle.row_model.specs.Variables.{path_count, path_feed, path_out, variables, by_number, lows, highs}
use Rattle.row_model.specs.Lift.{lift_base, lift}
use Rattle.integers.proofs.Order.{le-mul_min, le-mul_int_min, four_products-over_high}
use Rattle.pool_model.proofs.Capped.{le-mul_capped}
use Rattle.row_model.proofs.Shares.{feed-le, out-le, quality-out}
use Rattle.row_model.proofs.Numbering.{lies-prop, lies-qual, lies-flow, HoldsByKind, by_number-each}
use Rattle.row_model.proofs.PathSums.{path_feed-below, path_out-below, path-joined}

-- ---- ends over a denominator
abbrev IsLow : ℕ → ℤ → ℤ → Type 0
IsLow base low v = (low *ℤ pos base) ≤ℤ v

abbrev IsHigh : ℕ → ℤ → ℤ → Type 0
IsHigh base high v = v ≤ℤ (high *ℤ pos base)

-- a flow over a base, times the factors of all pools
scaled-most : (all x base most : ℕ) → x ≤ base * most → IsHigh (base * all) (pos most) (pos all *ℤ pos x)
scaled-most all x base most h = omega (arith, additive, mul-le-mul_left all h)

scaled-low : (all base : ℕ) (low x : ℤ) → IsLow base low x → IsLow (base * all) low (pos all *ℤ x)
scaled-low all base low x h = omega (arith, additive, le-mul (pos all) (low *ℤ pos base) x (omega (arith, additive)) h, turned (pos all) low (pos base))
  where
    turned : (a l b : ℤ) → a *ℤ (l *ℤ b) ≡ l *ℤ (b *ℤ a)
    turned a l b = simp sorted refl

scaled-high : (all base : ℕ) (high x : ℤ) → IsHigh base high x → IsHigh (base * all) high (pos all *ℤ x)
scaled-high all base high x h = omega (arith, additive, le-mul (pos all) x (high *ℤ pos base) (omega (arith, additive)) h, turned (pos all) high (pos base))
  where
    turned : (a l b : ℤ) → a *ℤ (l *ℤ b) ≡ l *ℤ (b *ℤ a)
    turned a l b = simp sorted refl

-- what counts over one pool's factor, times the base and the factors of all other pools
pooled-low : (base others factor all : ℕ) (low x : ℤ) → others * factor ≡ all → IsLow factor low x → IsLow (base * all) low (pos base *ℤ pos others *ℤ x)
pooled-low base others factor all low x whole h =
    omega (
      arith,
      additive,
      le-mul (pos base *ℤ pos others) (low *ℤ pos factor) x (omega (arith, additive)) h,
      turned (pos base) (pos others) low (pos factor),
      ap (λ z. low *ℤ (pos base *ℤ pos z)) whole,
    )
  where
    turned : (b o l f : ℤ) → (b *ℤ o) *ℤ (l *ℤ f) ≡ l *ℤ (b *ℤ (o *ℤ f))
    turned b o l f = simp sorted refl

pooled-high : (base others factor all : ℕ) (high x : ℤ) → others * factor ≡ all → IsHigh factor high x → IsHigh (base * all) high (pos base *ℤ pos others *ℤ x)
pooled-high base others factor all high x whole h =
    omega (
      arith,
      additive,
      le-mul (pos base *ℤ pos others) x (high *ℤ pos factor) (omega (arith, additive)) h,
      turned (pos base) (pos others) high (pos factor),
      ap (λ z. high *ℤ (pos base *ℤ pos z)) whole,
    )
  where
    turned : (b o l f : ℤ) → (b *ℤ o) *ℤ (l *ℤ f) ≡ l *ℤ (b *ℤ (o *ℤ f))
    turned b o l f = simp sorted refl

-- what counts over one pool's factor and over the base, times the factors of all other pools
joint-low : (base others factor all : ℕ) (low x : ℤ) → others * factor ≡ all → (low *ℤ (pos factor *ℤ pos base)) ≤ℤ x → IsLow (base * all) low (pos others *ℤ x)
joint-low base others factor all low x whole h =
    omega (
      arith,
      additive,
      le-mul (pos others) (low *ℤ (pos factor *ℤ pos base)) x (omega (arith, additive)) h,
      turned (pos base) (pos others) low (pos factor),
      ap (λ z. low *ℤ (pos base *ℤ pos z)) whole,
    )
  where
    turned : (b o l f : ℤ) → o *ℤ (l *ℤ (f *ℤ b)) ≡ l *ℤ (b *ℤ (o *ℤ f))
    turned b o l f = simp sorted refl

joint-high : (base others factor all : ℕ) (high x : ℤ) → others * factor ≡ all → x ≤ℤ (high *ℤ (pos factor *ℤ pos base)) → IsHigh (base * all) high (pos others *ℤ x)
joint-high base others factor all high x whole h =
    omega (
      arith,
      additive,
      le-mul (pos others) x (high *ℤ (pos factor *ℤ pos base)) (omega (arith, additive)) h,
      turned (pos base) (pos others) high (pos factor),
      ap (λ z. high *ℤ (pos base *ℤ pos z)) whole,
    )
  where
    turned : (b o l f : ℤ) → o *ℤ (l *ℤ (f *ℤ b)) ≡ l *ℤ (b *ℤ (o *ℤ f))
    turned b o l f = simp sorted refl

-- ---- flows
feed-source_max : (n : Net) (p : Plan) (e : ℕ) → IsLimited n → Carries n p → e < n.feeds → p.feed e ≤ p.base * n.source_max (n.feed_source e)
feed-source_max n p e lim c h = omega (arith, term-le-sum_at n.feed_source (n.feed_source e) p.feed n.feeds e h refl, c.sources (n.feed_source e) (lim.feed_sources e h))

feed-high : (n : Net) (p : Plan) (e : ℕ) → IsLimited n → Carries n p → e < n.feeds
    → p.feed e ≤ p.base * capped (n.feed_max e) (min (n.source_max (n.feed_source e)) (n.pool_max (n.feed_pool e)))
feed-high n p e lim c h =
    le-mul_capped (n.feed_max e) (p.feed e) p.base (min (n.source_max (n.feed_source e)) (n.pool_max (n.feed_pool e)))
    (le-mul_min (p.feed e) p.base (n.source_max (n.feed_source e)) (n.pool_max (n.feed_pool e))
    (feed-source_max n p e lim c h)
    (omega (arith, feed-le n p e lim c h, c.pools (n.feed_pool e) (lim.feed_pools e h))))
    (λ m is. c.arcs.feeds e m h is)

direct-high : (n : Net) (p : Plan) (e : ℕ) → IsLimited n → Carries n p → e < n.directs
    → p.direct e ≤ p.base * capped (n.direct_max e) (min (n.source_max (n.direct_source e)) (n.product_max (n.direct_product e)))
direct-high n p e lim c h =
    le-mul_capped (n.direct_max e) (p.direct e) p.base (min (n.source_max (n.direct_source e)) (n.product_max (n.direct_product e)))
    (le-mul_min (p.direct e) p.base (n.source_max (n.direct_source e)) (n.product_max (n.direct_product e))
    (omega (arith, term-le-sum_at n.direct_source (n.direct_source e) p.direct n.directs e h refl, c.sources (n.direct_source e) (lim.direct_sources e h)))
    (omega (arith, term-le-sum_at n.direct_product (n.direct_product e) p.direct n.directs e h refl, c.at_most (n.direct_product e) (lim.direct_products e h))))
    (λ m is. c.arcs.directs e m h is)

-- what a feed's source and the feed itself can carry
feed-along : (n : Net) (p : Plan) (e : ℕ) → IsLimited n → Carries n p → e < n.feeds
    → p.feed e ≤ p.base * capped (n.feed_max e) (n.source_max (n.feed_source e))
feed-along n p e lim c h = le-mul_capped (n.feed_max e) (p.feed e) p.base (n.source_max (n.feed_source e)) (feed-source_max n p e lim c h) (λ m is. c.arcs.feeds e m h is)

-- ---- flows along paths: at most the feed's, and at most the out's
along-le : (others x y t all : ℕ) → others * max t 1 ≡ all → y ≤ t → others * (x * y) ≤ all * x
along-le others x y t all whole h = omega (arith, mul-le-mul_left (others * x) (let wide : y ≤ max t 1 = omega arith in wide), ap (λ z. z * x) whole)

path-high : (n : Net) (p : Plan) (b : Box) (q : ℕ) → IsLimited n → Carries n p → LiesIn n p b → q < path_count n
    → IsHigh (lift_base n p) ((highs n b).w q) ((lift n p).w q)
path-high n p b q lim c h lt =
    let e = path_feed n q in
    let o = path_out n q in
    let le = path_feed-below n q lt in
    let lo = path_out-below n q lt in
    let l = n.out_pool o in
    let joined : outflow n p (n.feed_pool e) ≡ outflow n p l = ap (outflow n p) (sym (path-joined n q lt)) in
    let all = product_below (factor n p) n.pools in
    let but = product_but l (factor n p) n.pools in
    let whole : but * max (outflow n p l) 1 ≡ all = product_but_is l (factor n p) n.pools (lim.out_pools o lo) in
    let by_feed = along-le but (p.feed e) (p.out o) (outflow n p l) all whole (out-le n p o lo) in
    let by_out = along-le but (p.out o) (p.feed e) (outflow n p l) all whole (omega (arith, feed-le n p e lim c le)) in
    let brought = capped (n.feed_max e) (n.source_max (n.feed_source e)) in
    le-mul_int_min ((lift n p).w q) (pos (lift_base n p)) (pos brought) (b.high (flow_number n o))
    (omega (arith, additive, by_feed, scaled-most all (p.feed e) p.base brought (feed-along n p e lim c le)))
    (omega (arith, additive, by_out, scaled-high all p.base (b.high (flow_number n o)) (pos (p.out o)) (lies-flow n p b o h lo).high))

-- ---- an out's mixed variables
mixed-low : (n : Net) (p : Plan) (b : Box) (o k : ℕ) → IsLimited n → LiesIn n p b → o < n.outs → k < n.qualities
    → IsLow (lift_base n p) ((lows n b).mixed o k) ((lift n p).mixed o k)
mixed-low n p b o k lim h lo hk =
    let l = n.out_pool o in
    let hl = lim.out_pools o lo in
    let quality = lies-qual n p b l k h hl hk in
    let flow = lies-flow n p b o h lo in
    joint-low p.base (product_but l (factor n p) n.pools) (factor n p l) (product_below (factor n p) n.pools) ((lows n b).mixed o k)
    (mix n p l k *ℤ pos (p.out o)) (product_but_is l (factor n p) n.pools hl)
    (rw (← quality-out n p o k lo)
    (four_products-over (pos (factor n p l)) (pos p.base) (b.low (qual_number n l k)) (place n p (qual l k)) (b.high (qual_number n l k))
    (b.low (flow_number n o)) (pos (p.out o)) (b.high (flow_number n o))
    (omega (arith, additive)) (omega (arith, additive)) quality.low quality.high flow.low flow.high))

mixed-high : (n : Net) (p : Plan) (b : Box) (o k : ℕ) → IsLimited n → LiesIn n p b → o < n.outs → k < n.qualities
    → IsHigh (lift_base n p) ((highs n b).mixed o k) ((lift n p).mixed o k)
mixed-high n p b o k lim h lo hk =
    let l = n.out_pool o in
    let hl = lim.out_pools o lo in
    let quality = lies-qual n p b l k h hl hk in
    let flow = lies-flow n p b o h lo in
    joint-high p.base (product_but l (factor n p) n.pools) (factor n p l) (product_below (factor n p) n.pools) ((highs n b).mixed o k)
    (mix n p l k *ℤ pos (p.out o)) (product_but_is l (factor n p) n.pools hl)
    (rw (← quality-out n p o k lo)
    (four_products-over_high (pos (factor n p l)) (pos p.base) (b.low (qual_number n l k)) (place n p (qual l k)) (b.high (qual_number n l k))
    (b.low (flow_number n o)) (pos (p.out o)) (b.high (flow_number n o))
    (omega (arith, additive)) (omega (arith, additive)) quality.low quality.high flow.low flow.high))

-- ---- each variable
lows-hold : (n : Net) (p : Plan) (b : Box) → IsLimited n → Obeys n p → LiesIn n p b → HoldsByKind n (IsLow (lift_base n p)) (lows n b) (lift n p)
lows-hold n p b lim ob h =
    let all = product_below (factor n p) n.pools in
    let but = λ (l : ℕ). product_but l (factor n p) n.pools in
    let whole = λ (l : ℕ) (lt : l < n.pools). product_but_is l (factor n p) n.pools lt in
    record {
      x = λ e le. omega (arith, additive);
      y = λ o lo. scaled-low all p.base (b.low (flow_number n o)) (pos (p.out o)) (lies-flow n p b o h lo).low;
      z = λ e le. omega (arith, additive);
      w = λ q lq. omega (arith, additive);
      proportion = λ e le. pooled-low p.base (but (n.feed_pool e)) (factor n p (n.feed_pool e)) all (b.low (prop_number n e)) (place n p (prop e))
          (whole (n.feed_pool e) (lim.feed_pools e le)) (lies-prop n p b e h le).low;
      quality = λ l k hl hk. pooled-low p.base (but l) (factor n p l) all (b.low (qual_number n l k)) (place n p (qual l k)) (whole l hl) (lies-qual n p b l k h hl hk).low;
      mixed = λ o k lo hk. mixed-low n p b o k lim h lo hk;
    }

highs-hold : (n : Net) (p : Plan) (b : Box) → IsLimited n → Obeys n p → LiesIn n p b → HoldsByKind n (IsHigh (lift_base n p)) (highs n b) (lift n p)
highs-hold n p b lim ob h =
    let all = product_below (factor n p) n.pools in
    let but = λ (l : ℕ). product_but l (factor n p) n.pools in
    let whole = λ (l : ℕ) (lt : l < n.pools). product_but_is l (factor n p) n.pools lt in
    record {
      x = λ e le. scaled-most all (p.feed e) p.base (capped (n.feed_max e) (min (n.source_max (n.feed_source e)) (n.pool_max (n.feed_pool e)))) (feed-high n p e lim ob.carries le);
      y = λ o lo. scaled-high all p.base (b.high (flow_number n o)) (pos (p.out o)) (lies-flow n p b o h lo).high;
      z = λ e le. scaled-most all (p.direct e) p.base (capped (n.direct_max e) (min (n.source_max (n.direct_source e)) (n.product_max (n.direct_product e)))) (direct-high n p e lim ob.carries le);
      w = λ q lq. path-high n p b q lim ob.carries h lq;
      proportion = λ e le. pooled-high p.base (but (n.feed_pool e)) (factor n p (n.feed_pool e)) all (b.high (prop_number n e)) (place n p (prop e))
          (whole (n.feed_pool e) (lim.feed_pools e le)) (lies-prop n p b e h le).high;
      quality = λ l k hl hk. pooled-high p.base (but l) (factor n p l) all (b.high (qual_number n l k)) (place n p (qual l k)) (whole l hl) (lies-qual n p b l k h hl hk).high;
      mixed = λ o k lo hk. mixed-high n p b o k lim h lo hk;
    }

pub lows-hold_by_number : (n : Net) (p : Plan) (b : Box) (v : ℕ) → IsLimited n → Obeys n p → LiesIn n p b → v < variables n
    → (by_number n (lows n b) v *ℤ pos (lift_base n p)) ≤ℤ by_number n (lift n p) v
lows-hold_by_number n p b v lim ob h lt = by_number-each n (IsLow (lift_base n p)) (lows n b) (lift n p) (lows-hold n p b lim ob h) v lt

pub highs-hold_by_number : (n : Net) (p : Plan) (b : Box) (v : ℕ) → IsLimited n → Obeys n p → LiesIn n p b → v < variables n
    → by_number n (lift n p) v ≤ℤ (by_number n (highs n b) v *ℤ pos (lift_base n p))
highs-hold_by_number n p b v lim ob h lt = by_number-each n (IsHigh (lift_base n p)) (highs n b) (lift n p) (highs-hold n p b lim ob h) v lt
