-- A pivot on a table: it has again what the program's rows say.
use Rattle.std.proofs.Common.{◌≡◌, ◌≢◌, ◌∙◌, sym, ap, subst, ℕ, ◌<◌, inl, inr, ◌==◌, if◌then◌else◌, ℤ, pos, neg_ℤ, ◌+ℤ◌, ◌-ℤ◌, ◌*ℤ◌, ◌<ℤ◌, arith, refl}
use Rattle.std.proofs.Math.IntN.{*ℤ-zero, zero-*ℤ}
use Rattle.integers.proofs.Ring.{additive, sorted}
use Rattle.integers.proofs.ByNode.{int_sum_below-one}
use Rattle.integers.proofs.AtKey.{same_or_other, chosen, passed}
use Rattle.exact_run.specs.Programs.{Program, columns, row_column}
use Rattle.exact_run.specs.States.{State}
use Rattle.exact_run.specs.Steps.{Pivot}
use Rattle.run_laws.proofs.Times.{factor-dropped, square-positive}
use Rattle.run_laws.proofs.Sums.{dot, dot-combined, dot-combined_right, dot-added, at_one, dot-at_one, at_keys, at_keys-of, at_keys-none, dot-at_keys}
use Rattle.run_laws.proofs.Tables.{Table, IsDirection, IsTableOf, IsSound, IsShown}

-- the factor of the column that leaves on that which enters
abbrev pub pivot_of : Pivot → Table → ℤ
pivot_of v t = t.line v.place v.entering

-- how far the value is past its end
abbrev pub gap_of : State → Pivot → Table → ℤ
gap_of s v t = v.end *ℤ t.scale -ℤ t.point (s.basic v.place)

-- how all columns move with the one that enters
abbrev pub along : Program → State → Pivot → Table → ℕ → ℤ
along p s v t j = at_keys s.basic (λ q. t.line q v.entering) p.rows j +ℤ at_one v.entering t.scale j

-- how many times each line is taken, and the line of the place
abbrev pub kept : Pivot → Table → ℕ → ℤ
kept v t q = if q == v.place then neg_ℤ (t.scale *ℤ pivot_of v t) else pivot_of v t *ℤ pivot_of v t

abbrev pub added : Pivot → Table → ℕ → ℤ
added v t q = if q == v.place then pos 0 else neg_ℤ (pivot_of v t *ℤ t.line q v.entering)

-- the table after the step
abbrev pub next : Program → State → Pivot → Table → Table
next p s v t = record {
  scale = t.scale *ℤ (pivot_of v t *ℤ pivot_of v t);
  line = λ q j. kept v t q *ℤ t.line q j +ℤ added v t q *ℤ t.line v.place j;
  cost = λ j. (pivot_of v t *ℤ pivot_of v t) *ℤ t.cost j +ℤ neg_ℤ (pivot_of v t *ℤ t.cost v.entering) *ℤ t.line v.place j;
  point = λ j. (pivot_of v t *ℤ pivot_of v t) *ℤ t.point j +ℤ (pivot_of v t *ℤ gap_of s v t) *ℤ along p s v t j;
}

not_zero_product : (a b : ℤ) → a ≢ pos 0 → b ≢ pos 0 → neg_ℤ (a *ℤ b) ≢ pos 0
not_zero_product a b h k e = k (factor-dropped a b h (omega (arith, additive, e)))

pub above_zero : (d : ℤ) → pos 0 <ℤ d → d ≢ pos 0
above_zero d h e = let k : pos 0 <ℤ pos 0 = subst (λ (x : ℤ). pos 0 <ℤ x) e h in absurd k.lt

-- what is known of the pivot: a place of a row, a column that is not basic, and a factor that is not 0
pub record IsTurn (p : Program) (s : State) (v : Pivot) (t : Table) : Type 0 where
  pub sound : IsSound p s
  pub shown : IsShown p s t
  pub place : v.place < p.rows
  pub column : v.entering < columns p
  pub free : (r : ℕ) → r < p.rows → s.basic r ≢ v.entering
  pub nonzero : pivot_of v t ≢ pos 0

module _ (p : Program) (s : State) (v : Pivot) (t : Table) (h : IsTurn p s v t) where
  -- ---- how columns move

  pub along-basic : (q : ℕ) → q < p.rows → along p s v t (s.basic q) ≡ t.line q v.entering
  along-basic q lt = omega (
    arith,
    additive,
    at_keys-of s.basic (λ i. t.line i v.entering) p.rows q lt (λ i below e. h.sound.apart i q below lt e),
    passed (s.basic q) v.entering t.scale (pos 0) (h.free q lt),
  )

  pub along-entering : along p s v t v.entering ≡ t.scale
  along-entering = omega (
    arith,
    additive,
    at_keys-none s.basic (λ i. t.line i v.entering) p.rows v.entering h.free,
    chosen v.entering v.entering t.scale (pos 0) refl,
  )

  pub along-others : (j : ℕ) → ((r : ℕ) → r < p.rows → s.basic r ≢ j) → j ≢ v.entering → along p s v t j ≡ pos 0
  along-others j free ne = omega (
    arith,
    additive,
    at_keys-none s.basic (λ i. t.line i v.entering) p.rows j free,
    passed j v.entering t.scale (pos 0) ne,
  )

  cancels : (d x : ℤ) → neg_ℤ d *ℤ x +ℤ x *ℤ d ≡ pos 0
  cancels d x = simp sorted (omega (arith, additive))

  -- each line is 0 on it
  along-lines : (q : ℕ) → q < p.rows → dot (columns p) (t.line q) (along p s v t) ≡ pos 0
  along-lines q lt =
      let basic : dot (columns p) (t.line q) (at_keys s.basic (λ i. t.line i v.entering) p.rows) ≡ neg_ℤ t.scale *ℤ t.line q v.entering =
      dot-at_keys (columns p) (t.line q) s.basic (λ i. t.line i v.entering) p.rows h.sound.columns
      ∙ int_sum_below-one (λ i. t.line q (s.basic i) *ℤ t.line i v.entering) q p.rows lt
      (λ i below ne. ap (λ (z : ℤ). z *ℤ t.line i v.entering) (h.shown.basic q i lt below (λ e. ne (sym e))) ∙ zero-*ℤ (t.line i v.entering))
      ∙ ap (λ (z : ℤ). z *ℤ t.line q v.entering) (h.shown.own q lt) in
      dot-added (columns p) (t.line q) (at_keys s.basic (λ i. t.line i v.entering) p.rows) (at_one v.entering t.scale)
      ∙ ap (λ (z : ℤ). z +ℤ dot (columns p) (t.line q) (at_one v.entering t.scale)) basic
      ∙ ap (λ (z : ℤ). neg_ℤ t.scale *ℤ t.line q v.entering +ℤ z) (dot-at_one (columns p) (t.line q) v.entering t.scale h.column)
      ∙ cancels t.scale (t.line q v.entering)

  -- ---- the lines after the step

  next_line : (x : ℕ → ℤ) (q : ℕ) → dot (columns p) ((next p s v t).line q) x ≡ kept v t q *ℤ dot (columns p) (t.line q) x +ℤ added v t q *ℤ dot (columns p) (t.line v.place) x
  next_line x q = dot-combined (columns p) (kept v t q) (added v t q) (t.line q) (t.line v.place) x

  both_zero : (a b x y : ℤ) → x ≡ pos 0 → y ≡ pos 0 → a *ℤ x +ℤ b *ℤ y ≡ pos 0
  both_zero a b x y e g = ap (λ (z : ℤ). a *ℤ z +ℤ b *ℤ y) e ∙ ap (λ (z : ℤ). a *ℤ pos 0 +ℤ b *ℤ z) g ∙ omega (arith, additive, *ℤ-zero a, *ℤ-zero b)

  first_zero : (a b x y : ℤ) → a *ℤ x +ℤ b *ℤ y ≡ pos 0 → b *ℤ y ≡ pos 0 → a *ℤ x ≡ pos 0
  first_zero a b x y e g = omega (arith, additive, e, g)

  -- the line of the place was 0 where it is after the step
  place_was : (x : ℕ → ℤ) → dot (columns p) ((next p s v t).line v.place) x ≡ pos 0 → dot (columns p) (t.line v.place) x ≡ pos 0
  place_was x none =
      let here = dot (columns p) (t.line v.place) x in
      let is : kept v t v.place ≡ neg_ℤ (t.scale *ℤ pivot_of v t) = chosen v.place v.place (neg_ℤ (t.scale *ℤ pivot_of v t)) (pivot_of v t *ℤ pivot_of v t) refl in
      let nothing : added v t v.place ≡ pos 0 = chosen v.place v.place (pos 0) (neg_ℤ (pivot_of v t *ℤ t.line v.place v.entering)) refl in
      factor-dropped (neg_ℤ (t.scale *ℤ pivot_of v t)) here (not_zero_product t.scale (pivot_of v t) (above_zero t.scale h.shown.positive) h.nonzero)
      (ap (λ (z : ℤ). z *ℤ here) (sym is)
      ∙ first_zero (kept v t v.place) (added v t v.place) here here (sym (next_line x v.place) ∙ none) (ap (λ (z : ℤ). z *ℤ here) nothing ∙ zero-*ℤ here))

  line_was : (x : ℕ → ℤ) (q : ℕ) → dot (columns p) (t.line v.place) x ≡ pos 0 → dot (columns p) ((next p s v t).line q) x ≡ pos 0 → q ≢ v.place
      → dot (columns p) (t.line q) x ≡ pos 0
  line_was x q before none ne =
      let here = dot (columns p) (t.line q) x in
      let there = dot (columns p) (t.line v.place) x in
      let is : kept v t q ≡ pivot_of v t *ℤ pivot_of v t = passed q v.place (neg_ℤ (t.scale *ℤ pivot_of v t)) (pivot_of v t *ℤ pivot_of v t) ne in
      factor-dropped (pivot_of v t *ℤ pivot_of v t) here (above_zero (pivot_of v t *ℤ pivot_of v t) (square-positive (pivot_of v t) h.nonzero))
      (ap (λ (z : ℤ). z *ℤ here) (sym is)
      ∙ first_zero (kept v t q) (added v t q) here there (sym (next_line x q) ∙ none) (ap (λ (z : ℤ). added v t q *ℤ z) before ∙ *ℤ-zero (added v t q)))

  -- ---- what the rows say of it

  module _ (of : IsTableOf p t) where
    along-direction : IsDirection p (along p s v t)
    along-direction = of.only (along p s v t) along-lines

    next_cost : (x : ℕ → ℤ) → IsDirection p x → dot (columns p) (next p s v t).cost x ≡ (next p s v t).scale *ℤ dot p.variables p.cost x
    next_cost x direction =
        dot-combined (columns p) (pivot_of v t *ℤ pivot_of v t) (neg_ℤ (pivot_of v t *ℤ t.cost v.entering)) t.cost (t.line v.place) x
        ∙ costs (pivot_of v t *ℤ pivot_of v t) (neg_ℤ (pivot_of v t *ℤ t.cost v.entering)) t.scale (dot (columns p) t.cost x) (dot p.variables p.cost x)
        (dot (columns p) (t.line v.place) x) (of.cost x direction) (of.lines x direction v.place h.place)
      where
        costs : (a b d x c y : ℤ) → x ≡ d *ℤ c → y ≡ pos 0 → a *ℤ x +ℤ b *ℤ y ≡ (d *ℤ a) *ℤ c
        costs a b d x c y e g = ap (λ (z : ℤ). a *ℤ z +ℤ b *ℤ y) e ∙ ap (λ (z : ℤ). a *ℤ (d *ℤ c) +ℤ b *ℤ z) g ∙ omega (arith, additive, *ℤ-zero b, order a d c)
          where
            order : (a d c : ℤ) → a *ℤ (d *ℤ c) ≡ (d *ℤ a) *ℤ c
            order a d c = simp sorted refl

    next_point : (r : ℕ) → r < p.rows → (next p s v t).point (row_column p r) ≡ dot p.variables (p.coef r) (next p s v t).point +ℤ p.constant r *ℤ (next p s v t).scale
    next_point r lt =
        points (pivot_of v t *ℤ pivot_of v t) (pivot_of v t *ℤ gap_of s v t) t.scale (p.constant r) (t.point (row_column p r)) (along p s v t (row_column p r))
        (dot p.variables (p.coef r) t.point) (dot p.variables (p.coef r) (along p s v t)) (of.point r lt) (along-direction r lt)
        ∙ ap (λ (z : ℤ). z +ℤ p.constant r *ℤ (t.scale *ℤ (pivot_of v t *ℤ pivot_of v t)))
        (sym (dot-combined_right p.variables (pivot_of v t *ℤ pivot_of v t) (pivot_of v t *ℤ gap_of s v t) (p.coef r) t.point (along p s v t)))
      where
        points : (a g d c x u m n : ℤ) → x ≡ m +ℤ c *ℤ d → u ≡ n → a *ℤ x +ℤ g *ℤ u ≡ (a *ℤ m +ℤ g *ℤ n) +ℤ c *ℤ (d *ℤ a)
        points a g d c x u m n e k = ap (λ (z : ℤ). a *ℤ z +ℤ g *ℤ u) e ∙ ap (λ (z : ℤ). a *ℤ (m +ℤ c *ℤ d) +ℤ g *ℤ z) k ∙ order a g d c m n
          where
            order : (a g d c m n : ℤ) → a *ℤ (m +ℤ c *ℤ d) +ℤ g *ℤ n ≡ (a *ℤ m +ℤ g *ℤ n) +ℤ c *ℤ (d *ℤ a)
            order a g d c m n = simp sorted (omega (arith, additive))

    pub next-of : IsTableOf p (next p s v t)
    next-of = record {
      lines = λ x direction q lt.
          next_line x q
          ∙ both_zero (kept v t q) (added v t q) (dot (columns p) (t.line q) x) (dot (columns p) (t.line v.place) x) (of.lines x direction q lt) (of.lines x direction v.place h.place);
      only = λ x none.
          let before = place_was x (none v.place h.place) in
          of.only x (λ q lt. elim (same_or_other q v.place) [
            | inl e ↦ subst (λ (i : ℕ). dot (columns p) (t.line i) x ≡ pos 0) (sym e) before
            | inr ne ↦ line_was x q before (none q lt) ne
          ]);
      cost = next_cost;
      point = next_point;
    }
