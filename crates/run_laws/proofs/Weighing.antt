-- Multipliers on the rows, added up over a point of the rows.
use Rattle.std.proofs.Common.{◌≡◌, ◌∙◌, sym, ap, ℕ, zero, suc, ◌<◌, ℤ, pos, neg_ℤ, ◌+ℤ◌, ◌-ℤ◌, ◌*ℤ◌, ◌≤ℤ◌, arith, refl}
use Rattle.std.proofs.Math.IntN.{zero-*ℤ}
use Rattle.std.specs.Int.{int_min}
use Rattle.std.proofs.lemmas.Int.{clamps}
use Rattle.integers.specs.Sums.{int_sum_below, piece}
use Rattle.integers.proofs.Ring.{additive, sorted, mul_assoc_ℤ, neg-mul, add-mul}
use Rattle.integers.proofs.Order.{le-mul, le-mul_neg}
use Rattle.integers.proofs.ByIndex.{int_sum_below-add, int_sum_below-mul, int_sum_below-mul_right, int_sum_below-same, int_sum_below-append, int_sum_below-zero, piece-first, piece-rest}
use Rattle.exact_run.specs.Programs.{Program, columns, row_column}
use Rattle.exact_run.specs.declared.ends.End.{End}
use Rattle.exact_run.specs.declared.ends.End.TheVariants.{Low, High}
use Rattle.run_laws.specs.Points.{cost_value}
use Rattle.run_laws.specs.Multipliers.{rest, number}
use Rattle.run_laws.proofs.Times.{times_one, one_times}
use Rattle.run_laws.proofs.Sums.{dot, dot-piece_right, dot-same_right, at_one, dot-at_one}
use Rattle.run_laws.proofs.Tables.{IsDirection}
use Rattle.run_laws.proofs.Signs.{toward}
use Rattle.run_laws.proofs.Ends.{end_of}

-- ---- the direction of one variable

module _ (p : Program) (v : ℕ) (lt : v < p.variables) where
  -- the variable moves by 1, no other does, and the rows as they say
  abbrev pub unit : ℕ → ℤ
  unit = piece p.variables (at_one v (pos 1)) (λ r. p.coef r v)

  pub unit-direction : IsDirection p unit
  unit-direction r lr =
      piece-rest p.variables (at_one v (pos 1)) (λ i. p.coef i v) r
      ∙ sym (dot-same_right p.variables (p.coef r) unit (at_one v (pos 1)) (λ i within. piece-first p.variables (at_one v (pos 1)) (λ j. p.coef j v) i within)
      ∙ dot-at_one p.variables (p.coef r) v (pos 1) lt ∙ times_one (p.coef r v))

  pub dot-unit : (f : ℕ → ℤ) → dot (columns p) f unit ≡ f v +ℤ int_sum_below (λ r. f (row_column p r) *ℤ p.coef r v) p.rows
  dot-unit f =
      dot-piece_right p.variables p.rows f (at_one v (pos 1)) (λ r. p.coef r v)
      ∙ ap (λ (z : ℤ). z +ℤ int_sum_below (λ r. f (row_column p r) *ℤ p.coef r v) p.rows) (dot-at_one p.variables f v (pos 1) lt ∙ times_one (f v))

  -- the cost of the direction is the variable's
  pub cost-unit : dot p.variables p.cost unit ≡ p.cost v
  cost-unit =
      dot-same_right p.variables p.cost unit (at_one v (pos 1)) (λ i within. piece-first p.variables (at_one v (pos 1)) (λ j. p.coef j v) i within)
      ∙ dot-at_one p.variables p.cost v (pos 1) lt ∙ times_one (p.cost v)

  -- Factors that stand to the multipliers on the rows' columns as two numbers do so to the rest on the variable.
  pub rest-is : (scale : ℕ) (mult : ℕ → ℤ) (f : ℕ → ℤ) (n d c : ℤ) → ((r : ℕ) → r < p.rows → f (row_column p r) *ℤ n ≡ mult r *ℤ d)
      → dot (columns p) f unit ≡ d *ℤ c → c *ℤ n ≡ pos scale *ℤ p.cost v → f v *ℤ n ≡ rest p scale mult v *ℤ d
  rest-is scale mult f n d c rows direction costs =
      let here = int_sum_below (λ r. f (row_column p r) *ℤ p.coef r v) p.rows in
      let there = int_sum_below (λ r. mult r *ℤ p.coef r v) p.rows in
      let sums : here *ℤ n ≡ there *ℤ d =
      sym (int_sum_below-mul_right (λ r. f (row_column p r) *ℤ p.coef r v) n p.rows)
      ∙ int_sum_below-same (λ r. (f (row_column p r) *ℤ p.coef r v) *ℤ n) (λ r. (mult r *ℤ p.coef r v) *ℤ d) p.rows
      (λ r lr. moved (f (row_column p r)) (p.coef r v) n ∙ ap (λ (z : ℤ). z *ℤ p.coef r v) (rows r lr) ∙ sym (moved (mult r) (p.coef r v) d))
      ∙ int_sum_below-mul_right (λ r. mult r *ℤ p.coef r v) d p.rows in
      let both : (f v +ℤ here) *ℤ n ≡ (d *ℤ c) *ℤ n = ap (λ (z : ℤ). z *ℤ n) (sym (dot-unit f) ∙ direction) in
      left (f v) here n there d c (pos scale *ℤ p.cost v) sums both costs
    where
      moved : (a b n : ℤ) → (a *ℤ b) *ℤ n ≡ (a *ℤ n) *ℤ b
      moved a b n = simp sorted refl

      left : (f h n t d c k : ℤ) → h *ℤ n ≡ t *ℤ d → (f +ℤ h) *ℤ n ≡ (d *ℤ c) *ℤ n → c *ℤ n ≡ k → f *ℤ n ≡ (k -ℤ t) *ℤ d
      left f h n t d c k e g w =
          omega (arith, additive, add-mul f h n, e, g, mul_assoc_ℤ d c n, ap (λ (z : ℤ). d *ℤ z) w, difference k t d)
        where
          difference : (k t d : ℤ) → (k -ℤ t) *ℤ d ≡ d *ℤ k -ℤ t *ℤ d
          difference k t d = simp sorted (omega (arith, additive))

-- ---- sums of rests

-- a variable's rest by the first rows alone
abbrev rest_by : (scale : ℤ) (cost : ℕ → ℤ) (coef : ℕ → ℕ → ℤ) (mult : ℕ → ℤ) → ℕ → ℕ → ℤ
rest_by scale cost coef mult m v = scale *ℤ cost v -ℤ int_sum_below (λ r. mult r *ℤ coef r v) m

module _ (n : ℕ) (scale : ℤ) (cost : ℕ → ℤ) (coef : ℕ → ℕ → ℤ) (mult x : ℕ → ℤ) where
  split-rest : (c m k r v : ℤ) → (c -ℤ (r +ℤ m *ℤ k)) *ℤ v ≡ pos 1 *ℤ ((c -ℤ r) *ℤ v) +ℤ neg_ℤ m *ℤ (k *ℤ v)
  split-rest c m k r v = omega (arith, additive, plain c m k r v, one_times ((c -ℤ r) *ℤ v))
    where
      plain : (c m k r v : ℤ) → (c -ℤ (r +ℤ m *ℤ k)) *ℤ v ≡ (c -ℤ r) *ℤ v +ℤ neg_ℤ m *ℤ (k *ℤ v)
      plain c m k r v = simp sorted (omega (arith, additive))

  no_rows : (s c v : ℤ) → (s *ℤ c -ℤ pos 0) *ℤ v ≡ s *ℤ (c *ℤ v)
  no_rows s c v = ap (λ (z : ℤ). z *ℤ v) (nothing (s *ℤ c)) ∙ mul_assoc_ℤ s c v
    where
      nothing : (z : ℤ) → z -ℤ pos 0 ≡ z
      nothing z = omega (arith, additive)

  pub rests-sum : (m : ℕ) → dot n (rest_by scale cost coef mult m) x ≡ scale *ℤ dot n cost x -ℤ int_sum_below (λ r. mult r *ℤ dot n (coef r) x) m
  rests-sum zero =
      int_sum_below-same (λ v. rest_by scale cost coef mult zero v *ℤ x v) (λ v. scale *ℤ (cost v *ℤ x v)) n (λ v lt. no_rows scale (cost v) (x v))
      ∙ omega (arith, additive, int_sum_below-mul scale (λ v. cost v *ℤ x v) n)
  rests-sum (suc m) =
      let old = λ (v : ℕ). rest_by scale cost coef mult m v *ℤ x v in
      let here = λ (v : ℕ). coef m v *ℤ x v in
      int_sum_below-same (λ v. rest_by scale cost coef mult (suc m) v *ℤ x v) (λ v. pos 1 *ℤ old v +ℤ neg_ℤ (mult m) *ℤ here v) n
      (λ v lt. split-rest (scale *ℤ cost v) (mult m) (coef m v) (int_sum_below (λ r. mult r *ℤ coef r v) m) (x v))
      ∙ omega (
        arith,
        additive,
        int_sum_below-add (λ v. pos 1 *ℤ old v) (λ v. neg_ℤ (mult m) *ℤ here v) n,
        int_sum_below-mul (pos 1) old n,
        int_sum_below-mul (neg_ℤ (mult m)) here n,
        neg-mul (mult m) (dot n (coef m) x),
        one_times (int_sum_below old n),
        rests-sum m,
      )

-- ---- the number of multipliers

module _ (p : Program) (scale : ℕ) (mult x g : ℕ → ℤ) (d : ℤ) where
  abbrev least : ℕ → ℤ
  least v = int_min (rest p scale mult v *ℤ p.low v) (rest p scale mult v *ℤ p.high v)

  -- Over a point of the rows the number is the scaled cost, and what each column adds.
  pub number-at : ((r : ℕ) → r < p.rows → x (row_column p r) ≡ dot p.variables (p.coef r) x +ℤ p.constant r *ℤ d)
      → ((v : ℕ) → v < p.variables → least v *ℤ d ≡ rest p scale mult v *ℤ x v +ℤ g v)
      → ((r : ℕ) → r < p.rows → mult r *ℤ x (row_column p r) +ℤ g (row_column p r) ≡ pos 0)
      → number p scale mult *ℤ d ≡ pos scale *ℤ cost_value p x +ℤ int_sum_below g (columns p)
  number-at point leasts rows =
      let leasts_sum = int_sum_below least p.variables in
      let constants = int_sum_below (λ r. mult r *ℤ p.constant r) p.rows in
      let first : leasts_sum *ℤ d ≡ dot p.variables (rest p scale mult) x +ℤ int_sum_below g p.variables =
      sym (int_sum_below-mul_right least d p.variables)
      ∙ int_sum_below-same (λ v. least v *ℤ d) (λ v. rest p scale mult v *ℤ x v +ℤ g v) p.variables leasts
      ∙ int_sum_below-add (λ v. rest p scale mult v *ℤ x v) g p.variables in
      let dots : int_sum_below (λ r. mult r *ℤ dot p.variables (p.coef r) x) p.rows +ℤ constants *ℤ d +ℤ int_sum_below (λ r. g (row_column p r)) p.rows ≡ pos 0 =
      added_rows in
      omega (
        arith,
        additive,
        difference leasts_sum constants d,
        first,
        rests-sum p.variables (pos scale) p.cost p.coef mult x p.rows,
        dots,
        int_sum_below-append g p.variables p.rows,
      )
    where
      difference : (a b d : ℤ) → (a -ℤ b) *ℤ d ≡ a *ℤ d -ℤ b *ℤ d
      difference a b d = simp sorted (omega (arith, additive))

      row_sum : (m c d x t g : ℤ) → x ≡ t +ℤ c *ℤ d → m *ℤ x +ℤ g ≡ pos 0 → (m *ℤ t +ℤ (m *ℤ c) *ℤ d) +ℤ g ≡ pos 0
      row_sum m c d x t g e h = omega (arith, additive, split m c d t, ap (λ (z : ℤ). m *ℤ z) e, h)
        where
          split : (m c d t : ℤ) → m *ℤ (t +ℤ c *ℤ d) ≡ m *ℤ t +ℤ (m *ℤ c) *ℤ d
          split m c d t = simp sorted (omega (arith, additive))

      added_rows : int_sum_below (λ r. mult r *ℤ dot p.variables (p.coef r) x) p.rows +ℤ int_sum_below (λ r. mult r *ℤ p.constant r) p.rows *ℤ d
          +ℤ int_sum_below (λ r. g (row_column p r)) p.rows ≡ pos 0
      added_rows =
          let t = λ (r : ℕ). mult r *ℤ dot p.variables (p.coef r) x in
          let c = λ (r : ℕ). (mult r *ℤ p.constant r) *ℤ d in
          let h = λ (r : ℕ). g (row_column p r) in
          omega (
            arith,
            additive,
            int_sum_below-mul_right (λ r. mult r *ℤ p.constant r) d p.rows,
            int_sum_below-add t c p.rows,
            int_sum_below-add (λ r. t r +ℤ c r) h p.rows,
            int_sum_below-same (λ r. (t r +ℤ c r) +ℤ h r) (λ r. pos 0) p.rows
                (λ r lr. row_sum (mult r) (p.constant r) d (x (row_column p r)) (dot p.variables (p.coef r) x) (g (row_column p r)) (point r lr) (rows r lr)),
            int_sum_below-zero p.rows,
          )

-- ---- the end at which a rest is least

pub least-end : (e : End) (r low high : ℤ) → low ≤ℤ high → pos 0 ≤ℤ toward e r → int_min (r *ℤ low) (r *ℤ high) ≡ r *ℤ end_of low high e
least-end Low r low high le h = omega (arith, additive, clamps, le-mul r low high h le)
least-end High r low high le h = omega (arith, additive, clamps, le-mul_neg r low high (omega (arith, additive, h)) le)

-- where both ends are one
pub least-fixed : (e : End) (r low high : ℤ) → high ≡ low → int_min (r *ℤ low) (r *ℤ high) ≡ r *ℤ end_of low high e
least-fixed Low r low high h = omega (arith, additive, clamps, ap (λ (z : ℤ). r *ℤ z) h)
least-fixed High r low high h = omega (arith, additive, clamps, ap (λ (z : ℤ). r *ℤ z) h)

-- where there is no rest
pub least-none : (r low high : ℤ) → r ≡ pos 0 → int_min (r *ℤ low) (r *ℤ high) ≡ pos 0
least-none r low high e =
    omega (arith, additive, clamps, ap (λ (z : ℤ). z *ℤ low) e, ap (λ (z : ℤ). z *ℤ high) e, zero-*ℤ low, zero-*ℤ high)
