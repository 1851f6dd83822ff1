-- The values of a written plan's point are those of its lift, with the factors of all pools cancelled; and how large they are.
use Rattle.std.proofs.Common.{◌≡◌, ◌≢◌, ℕ, ◌*◌, ◌^◌, ◌<◌, ◌≤◌, ◌∙◌, inl, inr, ◌==◌, if◌then◌else◌, ℤ, pos, ◌*ℤ◌, sym, ap, refl, arith}
use Rattle.std.proofs.Math.Nat.{mul-le-mul_left}
use Rattle.integers.specs.Sums.{product_below, product_but}
use Rattle.integers.proofs.Ring.{sorted, mul_comm_ℤ}
use Rattle.integers.proofs.AtKey.{same_or_other, chosen, passed, term-le-sum_at, int_sum_at-same, int_sum_at-mul, product_but_is}
use Rattle.pool_model.specs.Network.{Net, IsLimited}
use Rattle.pool_model.specs.Plan.{Written, IsWritten, Obeys, plan_of, outflow, factor, weight, written_out, written_outflow}
use Rattle.pool_model.specs.Starting.{feeds_before, first_weight}
use Rattle.row_model.specs.Boxes.{grain, share, place, qual}
use Rattle.row_model.specs.Lift.{lift}
use Rattle.row_model.specs.Variables.{path_feed, path_out, variables, by_number}
use Rattle.row_model.proofs.Numbering.{HoldsByKind, by_number-each}
use Rattle.row_model.proofs.PathSums.{path_out-below, path-joined}
use Rattle.row_model.proofs.Shares as shares
use Rattle.row_model.proofs.Shares.{share-flow, share-first, quality-out}
use Rattle.plan_core.specs.Faults.{IsShaped}
use Rattle.plan_core.proofs.Blends.{outflow-plan_of}
use Rattle.plan_core.proofs.Supply.{room_of}
use Rattle.tight_leaf.specs.PlanPoints.{plan_values, quality_by, share_of}

-- ---- rings

ring-path : (s y o f : ℤ) → (s *ℤ y) *ℤ (o *ℤ f) ≡ o *ℤ ((s *ℤ f) *ℤ y)
ring-path s y o f = simp sorted refl

ring-path_back : (r h y o : ℤ) → o *ℤ ((r *ℤ h) *ℤ y) ≡ o *ℤ (h *ℤ (r *ℤ y))
ring-path_back r h y o = simp sorted refl

ring-proportion : (g s d o f : ℤ) → ((g *ℤ s) *ℤ d) *ℤ (o *ℤ f) ≡ ((d *ℤ o) *ℤ g) *ℤ (s *ℤ f)
ring-proportion g s d o f = simp sorted refl

ring-proportion_back : (g r h d o : ℤ) → ((d *ℤ o) *ℤ g) *ℤ (r *ℤ h) ≡ ((d *ℤ r) *ℤ o) *ℤ (g *ℤ h)
ring-proportion_back g r h d o = simp sorted refl

ring-quality : (q d o f : ℤ) → (q *ℤ d) *ℤ (o *ℤ f) ≡ (d *ℤ o) *ℤ (q *ℤ f)
ring-quality q d o f = simp sorted refl

ring-quality_back : (r h d o : ℤ) → (d *ℤ o) *ℤ (r *ℤ h) ≡ ((d *ℤ r) *ℤ o) *ℤ h
ring-quality_back r h d o = simp sorted refl

ring-moved : (q s f : ℤ) → f *ℤ (q *ℤ s) ≡ q *ℤ (s *ℤ f)
ring-moved q s f = simp sorted refl

ring-moved_back : (q r h : ℤ) → q *ℤ (r *ℤ h) ≡ r *ℤ (q *ℤ h)
ring-moved_back q r h = simp sorted refl

module _ (n : Net) (w : Written) (lim : IsLimited n) (written : IsWritten n w) where
  -- ---- shares

  some-base : 1 ≤ w.base
  some-base = written.base.0

  none-sent : (l : ℕ) → written_outflow n w l ≡ 0 → outflow n (plan_of n w) l ≡ 0
  none-sent l z = outflow-plan_of n w l ∙ ap (λ (t : ℕ). w.base * t) z ∙ nothing w.base
    where
      nothing : (b : ℕ) → b * 0 ≡ 0
      nothing b = omega arith

  factor-none : (l : ℕ) → written_outflow n w l ≡ 0 → factor n (plan_of n w) l ≡ 1
  factor-none l z = omega (arith, none-sent l z)

  positive-product : (b t : ℕ) → 1 ≤ b → t ≢ 0 → 1 ≤ b * t
  positive-product b t h nz = grind arith

  factor-some : (l : ℕ) → written_outflow n w l ≢ 0 → factor n (plan_of n w) l ≡ w.base * written_outflow n w l
  factor-some l nz = omega (arith, outflow-plan_of n w l, positive-product w.base (written_outflow n w l) some-base nz)

  some-sent : (l : ℕ) → written_outflow n w l ≢ 0 → outflow n (plan_of n w) l ≢ 0
  some-sent l nz z = omega (arith, outflow-plan_of n w l, positive-product w.base (written_outflow n w l) some-base nz)

  -- a feed's part of its pool, over the base, is its share over the pool's factor
  share-is : (e : ℕ) → pos (share_of n w e) *ℤ pos (factor n (plan_of n w) (n.feed_pool e)) ≡ pos w.base *ℤ pos (share n (plan_of n w) e)
  share-is e = ap pos (elim (same_or_other (written_outflow n w (n.feed_pool e)) 0) [
    | inl z ↦
        ap (λ (s : ℕ). s * factor n (plan_of n w) (n.feed_pool e)) (chosen (written_outflow n w (n.feed_pool e)) 0 (w.base * first_weight n e) (weight w e) z)
        ∙ ap (λ (f : ℕ). w.base * first_weight n e * f) (factor-none (n.feed_pool e) z)
        ∙ times_one (w.base * first_weight n e)
        ∙ ap (λ (s : ℕ). w.base * s) (sym (share-first n (plan_of n w) e (none-sent (n.feed_pool e) z)))
    | inr nz ↦
        ap (λ (s : ℕ). s * factor n (plan_of n w) (n.feed_pool e)) (passed (written_outflow n w (n.feed_pool e)) 0 (w.base * first_weight n e) (weight w e) nz)
        ∙ ap (λ (f : ℕ). weight w e * f) (factor-some (n.feed_pool e) nz)
        ∙ turned (weight w e) w.base (written_outflow n w (n.feed_pool e))
        ∙ ap (λ (s : ℕ). w.base * s) (sym (share-flow n (plan_of n w) e (some-sent (n.feed_pool e) nz)))
  ])
    where
      times_one : (a : ℕ) → a * 1 ≡ a
      times_one a = omega arith

      turned : (g r t : ℕ) → g * (r * t) ≡ r * (g * t)
      turned g r t = omega arith

  -- a pool's quality, over the base, is its place over the pool's factor
  quality-is : (l k : ℕ) → quality_by n w l k *ℤ pos (factor n (plan_of n w) l) ≡ pos w.base *ℤ place n (plan_of n w) (qual l k)
  quality-is l k =
      let q = λ (e : ℕ). n.source_quality (n.feed_source e) k in
      let f = pos (factor n (plan_of n w) l) in
      mul_comm_ℤ (quality_by n w l k) f
      ∙ sym (int_sum_at-mul n.feed_pool l f (λ e. q e *ℤ pos (share_of n w e)) n.feeds)
      ∙ int_sum_at-same n.feed_pool l (λ e. f *ℤ (q e *ℤ pos (share_of n w e))) (λ e. pos w.base *ℤ (q e *ℤ pos (share n (plan_of n w) e))) n.feeds
      (λ e lt is.
      ring-moved (q e) (pos (share_of n w e)) f
      ∙ ap (λ (z : ℤ). q e *ℤ z) (ap (λ (i : ℕ). pos (share_of n w e) *ℤ pos (factor n (plan_of n w) i)) (sym is) ∙ share-is e)
      ∙ ring-moved_back (q e) (pos w.base) (pos (share n (plan_of n w) e)))
      ∙ int_sum_at-mul n.feed_pool l (pos w.base) (λ e. q e *ℤ pos (share n (plan_of n w) e)) n.feeds

  -- ---- flows along paths

  no-out : (o : ℕ) → o < n.outs → written_outflow n w (n.out_pool o) ≡ 0 → written_out w o ≡ 0
  no-out o lt z = omega (arith, term-le-sum_at n.out_pool (n.out_pool o) (written_out w) n.outs o lt refl)

  -- times what an out of its pool carries, a feed's part is its weight
  share-out : (e o : ℕ) → o < n.outs → n.feed_pool e ≡ n.out_pool o → pos (weight w e) *ℤ pos (written_out w o) ≡ pos (share_of n w e) *ℤ pos (written_out w o)
  share-out e o lt same = elim (same_or_other (written_outflow n w (n.feed_pool e)) 0) [
    | inl z ↦
        let none : written_out w o ≡ 0 = no-out o lt (ap (written_outflow n w) (sym same) ∙ z) in
        ap (λ (y : ℕ). pos (weight w e) *ℤ pos y) none ∙ nothing (weight w e) (share_of n w e) ∙ sym (ap (λ (y : ℕ). pos (share_of n w e) *ℤ pos y) none)
    | inr nz ↦ ap (λ (s : ℕ). pos s *ℤ pos (written_out w o)) (sym (passed (written_outflow n w (n.feed_pool e)) 0 (w.base * first_weight n e) (weight w e) nz))
  ]
    where
      nothing : (a b : ℕ) → pos a *ℤ pos 0 ≡ pos b *ℤ pos 0
      nothing a b = ap pos (zeros a b)
        where
          zeros : (a b : ℕ) → a * 0 ≡ b * 0
          zeros a b = omega arith

  -- a share of what an out carries is the feed's flow of it
  flow-out : (e o : ℕ) → o < n.outs → n.feed_pool e ≡ n.out_pool o
      → pos (share n (plan_of n w) e) *ℤ pos ((plan_of n w).out o) ≡ pos ((plan_of n w).feed e) *ℤ pos ((plan_of n w).out o)
  flow-out e o lt same = ap pos (shares.share-out n (plan_of n w) e o lt (sym same))

  -- ---- all values

  whole : (l : ℕ) → l < n.pools → pos (product_below (factor n (plan_of n w)) n.pools) ≡ pos (product_but l (factor n (plan_of n w)) n.pools) *ℤ pos (factor n (plan_of n w) l)
  whole l lt = ap pos (sym (product_but_is l (factor n (plan_of n w)) n.pools lt))

  abbrev Cancels : ℤ → ℤ → Type 0
  Cancels z v = z *ℤ pos (product_below (factor n (plan_of n w)) n.pools) ≡ v

  by-kind : HoldsByKind n Cancels (plan_values n w) (lift n (plan_of n w))
  by-kind =
      let all = pos (product_below (factor n (plan_of n w)) n.pools) in
      let r = pos w.base in
      let d = pos w.flow_base in record {
        x = λ e lt. mul_comm_ℤ (pos ((plan_of n w).feed e)) all;
        y = λ o lt. mul_comm_ℤ (pos ((plan_of n w).out o)) all;
        z = λ e lt. mul_comm_ℤ (pos ((plan_of n w).direct e)) all;
        w = λ q lt.
            let e = path_feed n q in
            let o = path_out n q in
            let l = n.out_pool o in
            let lo = path_out-below n q lt in
            let joined : n.feed_pool e ≡ l = sym (path-joined n q lt) in
            let others = pos (product_but l (factor n (plan_of n w)) n.pools) in
            let f = pos (factor n (plan_of n w) l) in
            let s = pos (share_of n w e) in
            let y = pos (written_out w o) in
            ap (λ (z : ℤ). z *ℤ all) (share-out e o lo joined)
            ∙ ap (λ (z : ℤ). (s *ℤ y) *ℤ z) (whole l (lim.out_pools o lo))
            ∙ ring-path s y others f
            ∙ ap (λ (z : ℤ). others *ℤ (z *ℤ y)) (ap (λ (i : ℕ). s *ℤ pos (factor n (plan_of n w) i)) (sym joined) ∙ share-is e)
            ∙ ring-path_back r (pos (share n (plan_of n w) e)) y others
            ∙ ap (λ (z : ℤ). others *ℤ z) (flow-out e o lo joined);
        proportion = λ e lt.
            let l = n.feed_pool e in
            let others = pos (product_but l (factor n (plan_of n w)) n.pools) in
            ap (λ (z : ℤ). ((pos grain *ℤ pos (share_of n w e)) *ℤ d) *ℤ z) (whole l (lim.feed_pools e lt))
            ∙ ring-proportion (pos grain) (pos (share_of n w e)) d others (pos (factor n (plan_of n w) l))
            ∙ ap (λ (z : ℤ). ((d *ℤ others) *ℤ pos grain) *ℤ z) (share-is e)
            ∙ ring-proportion_back (pos grain) r (pos (share n (plan_of n w) e)) d others;
        quality = λ l k lt lk.
            let others = pos (product_but l (factor n (plan_of n w)) n.pools) in
            ap (λ (z : ℤ). (quality_by n w l k *ℤ d) *ℤ z) (whole l lt)
            ∙ ring-quality (quality_by n w l k) d others (pos (factor n (plan_of n w) l))
            ∙ ap (λ (z : ℤ). (d *ℤ others) *ℤ z) (quality-is l k)
            ∙ ring-quality_back r (place n (plan_of n w) (qual l k)) d others;
        mixed = λ o k lt lk.
            let l = n.out_pool o in
            let others = pos (product_but l (factor n (plan_of n w)) n.pools) in
            let y = pos (written_out w o) in
            ap (λ (z : ℤ). (quality_by n w l k *ℤ y) *ℤ z) (whole l (lim.out_pools o lt))
            ∙ ring-path (quality_by n w l k) y others (pos (factor n (plan_of n w) l))
            ∙ ap (λ (z : ℤ). others *ℤ (z *ℤ y)) (quality-is l k)
            ∙ ring-path_back r (place n (plan_of n w) (qual l k)) y others
            ∙ ap (λ (z : ℤ). others *ℤ z) (quality-out n (plan_of n w) o k lt);
      }

  pub values-are : (v : ℕ) → v < variables n → by_number n (plan_values n w) v *ℤ pos (product_below (factor n (plan_of n w)) n.pools) ≡ by_number n (lift n (plan_of n w)) v
  values-are v lt = by_number-each n Cancels (plan_values n w) (lift n (plan_of n w)) by-kind v lt

  -- ---- sizes

  pub weight-small : (e : ℕ) → e < n.feeds → weight w e ≤ w.base
  weight-small e lt = omega (arith, term-le-sum_at n.feed_pool (n.feed_pool e) (weight w) n.feeds e lt refl, written.weight_sums (n.feed_pool e) (lim.feed_pools e lt))

  -- ---- shares as they are found

  none-written : (l t : ℕ) → t ≡ outflow n (plan_of n w) l → t ≤ 0 → written_outflow n w l ≡ 0
  none-written l t is none = elim (same_or_other (written_outflow n w l) 0) [
    | inl z ↦ z
    | inr nz ↦ absurd (some-sent l nz (omega (arith, is, none)))
  ]

  -- where the pool sends something it is the feed's weight
  pub share-weight : (e t : ℕ) → t ≡ outflow n (plan_of n w) (n.feed_pool e) → 0 < t → share_of n w e ≡ weight w e
  share-weight e t is some =
      passed (written_outflow n w (n.feed_pool e)) 0 (w.base * first_weight n e) (weight w e) (λ z. omega (arith, is, some, none-sent (n.feed_pool e) z))

  -- and else all of it or nothing
  pub share-none : (e t first : ℕ) → t ≡ outflow n (plan_of n w) (n.feed_pool e) → t ≤ 0 → first_weight n e ≡ first → share_of n w e ≡ w.base * first
  share-none e t first is none one =
      chosen (written_outflow n w (n.feed_pool e)) 0 (w.base * first_weight n e) (weight w e) (none-written (n.feed_pool e) t is none) ∙ ap (λ (k : ℕ). w.base * k) one

  pub share-small : (e : ℕ) → e < n.feeds → share_of n w e ≤ 2 ^ 20
  share-small e lt = elim (same_or_other (written_outflow n w (n.feed_pool e)) 0) [
    | inl z ↦ omega (arith, chosen (written_outflow n w (n.feed_pool e)) 0 (w.base * first_weight n e) (weight w e) z, at_most w.base (first_weight n e) (one_at_most (feeds_before n e)), written.base)
    | inr nz ↦ omega (arith, passed (written_outflow n w (n.feed_pool e)) 0 (w.base * first_weight n e) (weight w e) nz, weight-small e lt, written.base)
  ]
    where
      one_at_most : (k : ℕ) → (if k == 0 then 1 else 0) ≤ 1
      one_at_most k = grind arith

      at_most : (b f : ℕ) → f ≤ 1 → b * f ≤ b
      at_most b f h = omega (arith, mul-le-mul_left b h)

-- ---- a plan that obeys

shaped : (n : Net) (w : Written) → IsWritten n w → IsShaped n w
shaped n w written = record { base = written.base; flow_base = written.flow_base; weights = written.weights; outflows = written.outflows; direct = written.direct }

-- what an out carries
pub out-small : (n : Net) (w : Written) (o : ℕ) → IsLimited n → IsWritten n w → Obeys n (plan_of n w) → o < n.outs → written_out w o ≤ 2 ^ 56
out-small n w o limited written obeys lt =
    (room_of n w limited (shaped n w written) (λ l broken. broken.1 (written.weight_sums l broken.0)) (λ j broken. omega (arith, obeys.carries.at_most j broken.0, broken.1))).outflows o lt
