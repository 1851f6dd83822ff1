-- Where a plan's point lies between the ends of a box, the plan lies in the box.
use Rattle.std.proofs.Common.{◌≡◌, ◌∙◌, ℕ, zero, suc, ◌+◌, ◌-◌, ◌*◌, ◌/◌, ◌%◌, ◌<◌, ◌≤◌, ◌⊎◌, inl, inr, ℤ, pos, ◌*ℤ◌, ◌≤ℤ◌, ◌<ℤ◌, ap, sym, subst, refl, arith}
use Rattle.std.proofs.lemmas.Nat.{div-add-mod', div-mul-add, mod-mul-add}
use Rattle.integers.specs.Sums.{piece, product_below, product_but}
use Rattle.integers.proofs.AtKey.{product_but_is}
use Rattle.integers.proofs.ByIndex.{piece-first, piece-rest}
use Rattle.integers.proofs.Grids.{grid-below, grid-column, grid-row}
use Rattle.integers.proofs.Order.{le-cancel, le-mul, pos-mul}
use Rattle.integers.proofs.Ring.{additive, sorted, mul_comm_ℤ}
use Rattle.pool_model.specs.Network.{Net, IsLimited}
use Rattle.pool_model.specs.Plan.{Plan, factor}
use Rattle.row_model.specs.Boxes.{Box, Coord, LiesIn, coord_at, coords, flow, flow_number, place, prop, prop_number, qual, qual_number}
use Rattle.row_model.specs.Lift.{lift, lift_base}
use Rattle.row_model.specs.Variables.{PerVariable, by_number, highs, lows, path_count, variables}
use Rattle.row_model.proofs.Numbering.{IsBetween, coord_at-flow, coord_at-prop, coord_at-qual}
use Rattle.relaxation_points.specs.Points.{LiesBetween, Point}
use Rattle.tight_leaf.specs.PlanPoints.{IsPlanPoint}

-- ---- coordinates and variables by number

first_or_rest : (m c : ℕ) → (c < m) ⊎ (m ≤ c)
first_or_rest m c = grind arith

at-number : (n : Net) (P : ℕ → Type 0) → ((e : ℕ) → e < n.feeds → P (prop_number n e)) → ((l k : ℕ) → l < n.pools → k < n.qualities → P (qual_number n l k))
    → ((o : ℕ) → o < n.outs → P (flow_number n o)) → (c : ℕ) → c < coords n → P c
at-number n P at-prop at-qual at-flow c lt = elim (first_or_rest n.feeds c) [
  | inl h ↦ at-prop c h
  | inr past ↦ elim (first_or_rest (n.pools * n.qualities) (c - n.feeds)) [
    | inl h ↦
        subst P (back c n.feeds ((c - n.feeds) / n.qualities * n.qualities + (c - n.feeds) % n.qualities) past (div-add-mod' (c - n.feeds) n.qualities))
        (at-qual ((c - n.feeds) / n.qualities) ((c - n.feeds) % n.qualities) (grid-row n.pools n.qualities (c - n.feeds) h) (grid-column n.pools n.qualities (c - n.feeds) h))
    | inr behind ↦ subst P (back_two c n.feeds (n.pools * n.qualities) past behind) (at-flow (c - n.feeds - n.pools * n.qualities) (left c n.feeds (n.pools * n.qualities) n.outs past behind lt))
  ]
]
  where
    back : (c f i : ℕ) → f ≤ c → i ≡ c - f → f + i ≡ c
    back c f i h e = omega arith

    back_two : (c f m : ℕ) → f ≤ c → m ≤ c - f → f + (m + (c - f - m)) ≡ c
    back_two c f m h k = omega arith

    left : (c f m o : ℕ) → f ≤ c → m ≤ c - f → c < f + (m + o) → c - f - m < o
    left c f m o h k lt = omega arith

module _ (n : Net) (a : PerVariable) where
  abbrev rest-mixed : ℕ → ℤ
  rest-mixed i = a.mixed (i / n.qualities) (i % n.qualities)

  abbrev rest-quality : ℕ → ℤ
  rest-quality = piece (n.pools * n.qualities) (λ i. a.quality (i / n.qualities) (i % n.qualities)) rest-mixed

  abbrev rest-proportion : ℕ → ℤ
  rest-proportion = piece n.feeds a.proportion rest-quality

  abbrev rest-w : ℕ → ℤ
  rest-w = piece (path_count n) a.w rest-proportion

  abbrev rest-z : ℕ → ℤ
  rest-z = piece n.directs a.z rest-w

  abbrev rest-y : ℕ → ℤ
  rest-y = piece n.outs a.y rest-z

  at-y : (o : ℕ) → o < n.outs → by_number n a (n.feeds + o) ≡ a.y o
  at-y o lt = piece-rest n.feeds a.x rest-y o ∙ piece-first n.outs a.y rest-z o lt

  at-proportion : (e : ℕ) → e < n.feeds → by_number n a (n.feeds + (n.outs + (n.directs + (path_count n + e)))) ≡ a.proportion e
  at-proportion e lt =
      piece-rest n.feeds a.x rest-y (n.outs + (n.directs + (path_count n + e)))
      ∙ piece-rest n.outs a.y rest-z (n.directs + (path_count n + e))
      ∙ piece-rest n.directs a.z rest-w (path_count n + e)
      ∙ piece-rest (path_count n) a.w rest-proportion e
      ∙ piece-first n.feeds a.proportion rest-quality e lt

  at-quality : (i : ℕ) → i < n.pools * n.qualities → by_number n a (n.feeds + (n.outs + (n.directs + (path_count n + (n.feeds + i))))) ≡ a.quality (i / n.qualities) (i % n.qualities)
  at-quality i lt =
      piece-rest n.feeds a.x rest-y (n.outs + (n.directs + (path_count n + (n.feeds + i))))
      ∙ piece-rest n.outs a.y rest-z (n.directs + (path_count n + (n.feeds + i)))
      ∙ piece-rest n.directs a.z rest-w (path_count n + (n.feeds + i))
      ∙ piece-rest (path_count n) a.w rest-proportion (n.feeds + i)
      ∙ piece-rest n.feeds a.proportion rest-quality i
      ∙ piece-first (n.pools * n.qualities) (λ i. a.quality (i / n.qualities) (i % n.qualities)) rest-mixed i lt

-- ---- the plan between the ends

factor-some : (o f a : ℕ) → o * f ≡ a → 0 < a → 0 < o
factor-some zero f a e h = absurd (omega (arith, e, h))
factor-some (suc o) f a e h = omega arith

module _ (n : Net) (b : Box) (p : Plan) (q : Point) (is : IsPlanPoint n p q) (some : 0 < product_below (factor n p) n.pools) (positive : 0 < p.base) (limited : IsLimited n)
    (ends : (v : ℕ) → v < variables n → LiesBetween n b q v) where
  abbrev all : ℤ
  all = pos (product_below (factor n p) n.pools)

  turned : (z d a : ℤ) → a *ℤ (z *ℤ d) ≡ z *ℤ (d *ℤ a)
  turned z d a = simp sorted refl

  base-over : (z : ℤ) → all *ℤ (z *ℤ pos q.base) ≡ z *ℤ pos (lift_base n p)
  base-over z = ap (λ (k : ℕ). all *ℤ (z *ℤ pos k)) is.base ∙ turned z (pos p.base) all

  not-below : pos 0 ≤ℤ all
  not-below = omega (arith, additive)

  lift-low : (v : ℕ) → v < variables n → (by_number n (lows n b) v *ℤ pos (lift_base n p)) ≤ℤ by_number n (lift n p) v
  lift-low v lt =
      omega (
        arith,
        additive,
        le-mul all (by_number n (lows n b) v *ℤ pos q.base) (q.value v) not-below (ends v lt).low,
        is.value v lt,
        mul_comm_ℤ all (q.value v),
        base-over (by_number n (lows n b) v),
      )

  lift-high : (v : ℕ) → v < variables n → by_number n (lift n p) v ≤ℤ (by_number n (highs n b) v *ℤ pos (lift_base n p))
  lift-high v lt =
      omega (
        arith,
        additive,
        le-mul all (q.value v) (by_number n (highs n b) v *ℤ pos q.base) not-below (ends v lt).high,
        is.value v lt,
        mul_comm_ℤ all (q.value v),
        base-over (by_number n (highs n b) v),
      )

  -- ---- cancelled

  all-some : pos 0 <ℤ all
  all-some = omega (arith, additive, some)

  flow-moved : (z d a : ℤ) → z *ℤ (d *ℤ a) ≡ a *ℤ (z *ℤ d)
  flow-moved z d a = simp sorted refl

  place-moved : (z d o f : ℤ) → z *ℤ (d *ℤ (o *ℤ f)) ≡ (d *ℤ o) *ℤ (z *ℤ f)
  place-moved z d o f = simp sorted refl

  module _ (l : ℕ) (lt : l < n.pools) where
    abbrev others : ℤ
    others = pos (product_but l (factor n p) n.pools)

    whole : all ≡ others *ℤ pos (factor n p l)
    whole = ap pos (sym (product_but_is l (factor n p) n.pools lt))

    part-some : pos 0 <ℤ (pos p.base *ℤ others)
    part-some =
        pos-mul (pos p.base) others (omega (arith, additive, positive))
        (omega (arith, additive, factor-some (product_but l (factor n p) n.pools) (factor n p l) (product_below (factor n p) n.pools) (product_but_is l (factor n p) n.pools lt) some))

    over-whole : (z : ℤ) → z *ℤ pos (lift_base n p) ≡ (pos p.base *ℤ others) *ℤ (z *ℤ pos (factor n p l))
    over-whole z = ap (λ (a : ℤ). z *ℤ (pos p.base *ℤ a)) whole ∙ place-moved z (pos p.base) others (pos (factor n p l))

    place-low : (z y : ℤ) → (z *ℤ pos (lift_base n p)) ≤ℤ (pos p.base *ℤ others *ℤ y) → (z *ℤ pos (factor n p l)) ≤ℤ y
    place-low z y h = le-cancel (pos p.base *ℤ others) (z *ℤ pos (factor n p l)) y part-some (omega (arith, additive, h, over-whole z))

    place-high : (z y : ℤ) → (pos p.base *ℤ others *ℤ y) ≤ℤ (z *ℤ pos (lift_base n p)) → y ≤ℤ (z *ℤ pos (factor n p l))
    place-high z y h = le-cancel (pos p.base *ℤ others) y (z *ℤ pos (factor n p l)) part-some (omega (arith, additive, h, over-whole z))

  -- ---- by kind

  flow-between : (o : ℕ) → o < n.outs → IsBetween n p b (flow_number n o) (flow o)
  flow-between o lt =
      let v = n.feeds + o in
      let here : v < variables n = omega (arith, lt) in
      record {
        low = le-cancel all (b.low (flow_number n o) *ℤ pos p.base) (pos (p.out o)) all-some
            (omega (
              arith,
              additive,
              subst (λ (z : ℤ). (z *ℤ pos (lift_base n p)) ≤ℤ by_number n (lift n p) v) (at-y n (lows n b) o lt) (lift-low v here),
              at-y n (lift n p) o lt,
              flow-moved (b.low (flow_number n o)) (pos p.base) all,
            ));
        high = le-cancel all (pos (p.out o)) (b.high (flow_number n o) *ℤ pos p.base) all-some
            (omega (
              arith,
              additive,
              subst (λ (z : ℤ). by_number n (lift n p) v ≤ℤ (z *ℤ pos (lift_base n p))) (at-y n (highs n b) o lt) (lift-high v here),
              at-y n (lift n p) o lt,
              flow-moved (b.high (flow_number n o)) (pos p.base) all,
            ));
      }

  prop-between : (e : ℕ) → e < n.feeds → IsBetween n p b (prop_number n e) (prop e)
  prop-between e lt =
      let v = n.feeds + (n.outs + (n.directs + (path_count n + e))) in
      let here : v < variables n = omega (arith, lt) in
      let l = n.feed_pool e in
      let hl = limited.feed_pools e lt in
      record {
        low = place-low l hl (b.low (prop_number n e)) (place n p (prop e))
            (subst (λ (z : ℤ). (b.low (prop_number n e) *ℤ pos (lift_base n p)) ≤ℤ z) (at-proportion n (lift n p) e lt)
            (subst (λ (z : ℤ). (z *ℤ pos (lift_base n p)) ≤ℤ by_number n (lift n p) v) (at-proportion n (lows n b) e lt) (lift-low v here)));
        high = place-high l hl (b.high (prop_number n e)) (place n p (prop e))
            (subst (λ (z : ℤ). z ≤ℤ (b.high (prop_number n e) *ℤ pos (lift_base n p))) (at-proportion n (lift n p) e lt)
            (subst (λ (z : ℤ). by_number n (lift n p) v ≤ℤ (z *ℤ pos (lift_base n p))) (at-proportion n (highs n b) e lt) (lift-high v here)));
      }

  qual-between : (l k : ℕ) → l < n.pools → k < n.qualities → IsBetween n p b (qual_number n l k) (qual l k)
  qual-between l k hl hk =
      let i = l * n.qualities + k in
      let lt : i < n.pools * n.qualities = grid-below n.pools n.qualities l k hl hk in
      let v = n.feeds + (n.outs + (n.directs + (path_count n + (n.feeds + i)))) in
      let here : v < variables n = omega (arith, lt) in
      let is-low : by_number n (lows n b) v ≡ b.low (qual_number n l k) = at-quality n (lows n b) i lt ∙ named (lows n b) l k hk in
      let is-high : by_number n (highs n b) v ≡ b.high (qual_number n l k) = at-quality n (highs n b) i lt ∙ named (highs n b) l k hk in
      let is-lift : by_number n (lift n p) v ≡ (pos p.base *ℤ others l hl *ℤ place n p (qual l k)) = at-quality n (lift n p) i lt ∙ named (lift n p) l k hk in
      record {
        low = place-low l hl (b.low (qual_number n l k)) (place n p (qual l k))
            (subst (λ (z : ℤ). (b.low (qual_number n l k) *ℤ pos (lift_base n p)) ≤ℤ z) is-lift
            (subst (λ (z : ℤ). (z *ℤ pos (lift_base n p)) ≤ℤ by_number n (lift n p) v) is-low (lift-low v here)));
        high = place-high l hl (b.high (qual_number n l k)) (place n p (qual l k))
            (subst (λ (z : ℤ). z ≤ℤ (b.high (qual_number n l k) *ℤ pos (lift_base n p))) is-lift
            (subst (λ (z : ℤ). by_number n (lift n p) v ≤ℤ (z *ℤ pos (lift_base n p))) is-high (lift-high v here)));
      }
    where
      named : (a : PerVariable) (l k : ℕ) → k < n.qualities → a.quality ((l * n.qualities + k) / n.qualities) ((l * n.qualities + k) % n.qualities) ≡ a.quality l k
      named a l k hk =
          ap (λ (m : ℕ). a.quality m ((l * n.qualities + k) % n.qualities)) (div-mul-add l n.qualities k hk) ∙ ap (λ (m : ℕ). a.quality l m) (mod-mul-add l n.qualities k hk)

  between : (c : ℕ) → c < coords n → IsBetween n p b c (coord_at n c)
  between =
      at-number n (λ c. IsBetween n p b c (coord_at n c))
      (λ e lt. subst (λ (k : Coord). IsBetween n p b (prop_number n e) k) (sym (coord_at-prop n e lt)) (prop-between e lt))
      (λ l k hl hk. subst (λ (c : Coord). IsBetween n p b (qual_number n l k) c) (sym (coord_at-qual n l k hl hk)) (qual-between l k hl hk))
      (λ o lt. subst (λ (k : Coord). IsBetween n p b (flow_number n o) k) (sym (coord_at-flow n o lt)) (flow-between o lt))

  pub lies : LiesIn n p b
  lies = record { low = λ c lt. (between c lt).low; high = λ c lt. (between c lt).high }
