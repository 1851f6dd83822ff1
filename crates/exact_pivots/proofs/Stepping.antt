-- A state in memory after a step: it is that of the definition, and it fits.
use Rattle.std.proofs.Common.{◌≡◌, ◌≢◌, ◌∙◌, sym, ap, subst, refl, ℕ, ◌+◌, ◌*◌, ◌<◌, ◌⊎◌, inl, inr, List, get_or, set, length, arith, ℤ, pos, negsuc, ◌+ℤ◌, ◌*ℤ◌, neg_ℤ}
use Rattle.integers.proofs.AtKey.{same_or_other}
use Rattle.integers.proofs.Order.{same-cancel}
use Rattle.integers.proofs.Ring.{mul_comm_ℤ}
use Rattle.exact_num.specs.Fraction.{Fraction, sum_of, negative_of, product_of, quotient_of, turned}
use Rattle.exact_num.proofs.Cancelling.{positive-product}
use Rattle.exact_run.specs.Operations.{whole, IsReduced}
use Rattle.exact_run.specs.Programs.{Program, columns, end_value}
use Rattle.exact_run.specs.States.{State, IsFree}
use Rattle.exact_run.specs.Steps.{Leaves, Enters, Pivot, IsPivot, StaysFree, AreChanged, IsStep}
use Rattle.exact_run.specs.declared.ends.End.{End}
use Rattle.exact_run.specs.declared.operations.Operation.{Operation}
use Rattle.exact_pivots.specs.Views.{Shown, shown_line, line_at, state_with}
use Rattle.exact_pivots.specs.Fits.{IsTidy}
use Rattle.exact_pivots.specs.Lines.{IsPivotRow, IsChangedRow, IsChangedLine, IsWrittenChanging, AreChangedTo}
use Rattle.exact_pivots.specs.declared.tableau.Line.{Line}
use Rattle.exact_pivots.specs.declared.pivots.Leaving.{Leaving}
use Rattle.std.proofs.lemmas.List.{length-set}
use Rattle.exact_pivots.proofs.Least.{positive}
use Rattle.exact_pivots.proofs.Memory.{line_is, line_at-set, line_at-other}
use Rattle.exact_pivots.proofs.PivotThere.{IsLowestState, back_other, same_or_other_int}
use Rattle.exact_pivots.proofs.Reduced.{zero_times, no_product, sum-no_part, added_to_nothing, reduced-same, reduced-unique, whole-lowest}

-- ---- nothing

minus_one : negsuc 0 ≢ pos 0
minus_one h = cc

pub nothing-reduced : (e : Fraction) → e.num ≡ pos 0 → IsReduced e (whole (pos 0))
nothing-reduced e h = record {
  positive = omega arith;
  lowest = whole-lowest (pos 0);
  same = zero_times (pos e.den) ∙ sym (ap (λ (z : ℤ). z *ℤ pos 1) h ∙ zero_times (pos 1));
}

-- what is in lowest terms for nothing is nothing
pub reduced-nothing : (e x : Fraction) → 0 < e.den → e.num ≡ pos 0 → IsReduced e x → x.num ≡ pos 0
reduced-nothing e x p h r = same-cancel (pos e.den) x.num (pos 0) (positive p)
    (mul_comm_ℤ (pos e.den) x.num ∙ r.same ∙ ap (λ (z : ℤ). z *ℤ pos x.den) h ∙ zero_times (pos x.den) ∙ sym (mul_comm_ℤ (pos e.den) (pos 0) ∙ zero_times (pos e.den)))

no_sum : (b e : Fraction) → b.num ≡ pos 0 → e.num ≡ pos 0 → (sum_of b e).num ≡ pos 0
no_sum b e h k = two b.num e.num (pos e.den) (pos b.den) h k
  where
    two : (m n d c : ℤ) → m ≡ pos 0 → n ≡ pos 0 → m *ℤ d +ℤ n *ℤ c ≡ pos 0
    two m n d c h k = ap (λ (z : ℤ). z *ℤ d +ℤ n *ℤ c) h ∙ ap (λ (z : ℤ). pos 0 *ℤ d +ℤ z *ℤ c) k ∙ ap (λ (z : ℤ). z +ℤ pos 0 *ℤ c) (zero_times d) ∙ ap (λ (z : ℤ). pos 0 +ℤ z) (zero_times c)

-- a sum with nothing before it
pub sum-was_part : (b e x : Fraction) → 0 < b.den → 0 < e.den → b.num ≡ pos 0 → IsReduced (sum_of b e) x → IsReduced e x
sum-was_part b e x p q h r = reduced-same (sum_of b e) e x (positive-product b.den e.den p q) (sym (added_to_nothing b.num (pos b.den) e.num (pos e.den) h)) r

-- ---- rows that change

-- where a changed row has a factor, the row before or the pivot's has one, and it is not the column that enters
changed_where : (k j : ℕ) (own before after : ℕ → Fraction) → ((i : ℕ) → 0 < (own i).den) → ((i : ℕ) → 0 < (before i).den) → IsChangedRow k own before after → (after j).num ≢ pos 0
    → (j ≢ k) × (((before j).num ≢ pos 0) ⊎ ((own j).num ≢ pos 0))
changed_where k j own before after po pb h there = (
  other,
  elim (same_or_other_int (before j).num (pos 0)) [
    | inr ne ↦ inl ne
    | inl none ↦ elim (same_or_other_int (own j).num (pos 0)) [
      | inr ne ↦ inr ne
      | inl nothing ↦ absurd (there (reduced-nothing (sum_of (before j) (product_of (before k) (own j))) (after j)
          (positive-product (before j).den ((before k).den * (own j).den) (pb j) (positive-product (before k).den (own j).den (pb k) (po j)))
          (no_sum (before j) (product_of (before k) (own j)) none (no_product (before k) (own j) nothing)) (h.others j other)))
    ]
  ],
)
  where
    other : j ≢ k
    other e = there (ap (λ (i : ℕ). (after i).num) e ∙ ap (λ (x : Fraction). x.num) h.entering)

-- ---- the pivot

-- what is known of the pivot's row that code has made
pub record Stepping (p : Program) (s : State) (l : Leaving) (k : ℕ) (moved value : Fraction) (own : ℕ → Fraction) : Type 0 where
  pub low : IsLowestState s
  pub low_own : (j : ℕ) → IsReduced (own j) (own j)
  pub tidy : IsTidy p s
  pub leaves : Leaves p s l.place l.side l.end
  pub enters : Enters p s l.place l.side k
  pub row : IsPivotRow p s l k moved own value

-- the pivot that code goes by
abbrev pub pivot_with : Leaving → ℕ → Fraction → (ℕ → Fraction) → Pivot
pivot_with l k moved own = record { place = l.place; side = l.side; end = l.end; entering = k; moved = moved; own = own }

module _ (p : Program) (s : State) (l : Leaving) (k : ℕ) (moved value : Fraction) (own : ℕ → Fraction) (h : Stepping p s l k moved value own) where
  pub by_other : (s.factor l.place k).num ≢ pos 0
  by_other = back_other l.side (s.stands k) (s.factor l.place k).num h.enters.candidate.back

  pub entering_other : (q : ℕ) → q < p.rows → s.basic q ≢ k
  entering_other q lt = h.enters.candidate.free.free q lt

  own_at_leaving : (s.factor l.place (s.basic l.place)).num ≢ pos 0
  own_at_leaving e = minus_one (sym (ap (λ (x : Fraction). x.num) (h.tidy.own l.place h.leaves.place)) ∙ e)

  own_reduced : (j : ℕ) → StaysFree p s (pivot_with l k moved own) j → IsReduced (quotient_of (negative_of (s.factor l.place j)) (s.factor l.place k)) (own j)
  own_reduced j f = elim (same_or_other_int (s.factor l.place j).num (pos 0)) [
    | inr ne ↦ (h.row.own j).others f.stays (λ e. f.free.free l.place h.leaves.place (sym e)) ne
    | inl none ↦ subst (λ (x : Fraction). IsReduced (quotient_of (negative_of (s.factor l.place j)) (s.factor l.place k)) x) (sym ((h.row.own j).zero f.stays none))
        (nothing-reduced (quotient_of (negative_of (s.factor l.place j)) (s.factor l.place k)) (no_quotient (s.factor l.place j) (s.factor l.place k) none))
  ]
    where
      no_negative : (z : ℤ) → z ≡ pos 0 → neg_ℤ z ≡ pos 0
      no_negative z e = ap neg_ℤ e

      no_quotient : (x by : Fraction) → x.num ≡ pos 0 → (quotient_of (negative_of x) by).num ≡ pos 0
      no_quotient x by e = ap (λ (z : ℤ). z *ℤ turned by.num (pos by.den)) (no_negative x.num e) ∙ zero_times (turned by.num (pos by.den))

  pub is_pivot : IsPivot p s (pivot_with l k moved own)
  is_pivot = record {
    leaves = h.leaves;
    enters = h.enters;
    moved = h.row.moved;
    own_leaving = (h.row.own (s.basic l.place)).leaving (entering_other l.place h.leaves.place) refl own_at_leaving;
    own = own_reduced;
  }

  -- no other row has a factor on the column that leaves, nor has the cost
  pub not_at_leaving : (q : ℕ) → q < p.rows → q ≢ l.place → (s.factor q (s.basic l.place)).num ≡ pos 0
  not_at_leaving q lt ne = elim (same_or_other_int (s.factor q (s.basic l.place)).num (pos 0)) [
    | inl e ↦ e
    | inr there ↦ elim (h.tidy.lines q (s.basic l.place) lt there) [
      | inl free ↦ absurd (free.free l.place h.leaves.place refl)
      | inr e ↦ absurd (h.tidy.apart l.place q h.leaves.place lt (λ i. ne (sym i)) e)
    ]
  ]

  pub cost_not_at_leaving : (s.cost (s.basic l.place)).num ≡ pos 0
  cost_not_at_leaving = elim (same_or_other_int (s.cost (s.basic l.place)).num (pos 0)) [
    | inl e ↦ e
    | inr there ↦ absurd ((h.tidy.cost (s.basic l.place) there).free l.place h.leaves.place refl)
  ]

  -- the pivot's row has factors on the columns that stay free, and on the one that leaves
  pub own_stays : (j : ℕ) → j ≢ k → (own j).num ≢ pos 0 → StaysFree p s (pivot_with l k moved own) j ⊎ (j ≡ s.basic l.place)
  own_stays j ne there = elim (same_or_other_int (s.factor l.place j).num (pos 0)) [
    | inl none ↦ absurd (there (ap (λ (x : Fraction). x.num) ((h.row.own j).zero ne none)))
    | inr is ↦ elim (h.tidy.lines l.place j h.leaves.place is) [
      | inl free ↦ inl record { free = free; stays = ne }
      | inr e ↦ inr e
    ]
  ]

  -- factors that the step changes
  pub are_changed : (before after : ℕ → Fraction) → ((j : ℕ) → IsReduced (before j) (before j)) → (before (s.basic l.place)).num ≡ pos 0
      → IsChangedRow k own before after → AreChanged p s (pivot_with l k moved own) before after
  are_changed before after lows none c =
      let leaving : ℕ = s.basic l.place in record {
        leaving = sum-was_part (before leaving) (product_of (before k) (own leaving)) (after leaving) (lows leaving).positive
            (positive-product (before k).den (own leaving).den (lows k).positive (h.low_own leaving).positive) none (c.others leaving (entering_other l.place h.leaves.place));
        others = λ j f. c.others j f.stays;
      }

-- ---- the state after the step

pub record Stepped (p : Program) (line after : ℕ → Shown) (stands stands2 : ℕ → End) (cost cost2 : ℕ → Fraction) (l : Leaving) (k : ℕ) (moved value : Fraction) (own : ℕ → Fraction) : Type 0 where
  pub stepping : Stepping p (state_with line stands cost) l k moved value own
  pub entered : after l.place ≡ record { basic = k; value = value; factor = own }
  pub changed : (q : ℕ) → q < p.rows → q ≢ l.place → IsChangedLine k moved own (line q) (after q)
  pub costs : IsChangedRow k own cost cost2
  pub leaver : stands2 (line l.place).basic ≡ l.side
  pub others : (j : ℕ) → j ≢ (line l.place).basic → stands2 j ≡ stands j

module _ (p : Program) (line after : ℕ → Shown) (stands stands2 : ℕ → End) (cost cost2 : ℕ → Fraction) (l : Leaving) (k : ℕ) (moved value : Fraction) (own : ℕ → Fraction)
    (d : Stepped p line after stands stands2 cost cost2 l k moved value own) where
  pub step_is : IsStep p (state_with line stands cost) (pivot_with l k moved own) (state_with after stands2 cost2)
  step_is =
      let s = state_with line stands cost in
      let h = d.stepping in record {
        basic = ap (λ (x : Shown). x.basic) d.entered;
        basic_others = λ q lt ne. (d.changed q lt ne).basic;
        stands = d.leaver;
        stands_others = λ j f. d.others j (λ e. f.free.free l.place h.leaves.place (sym e));
        value = subst (λ (x : Fraction). IsReduced (sum_of (whole (end_value p k (stands k))) moved) x) (sym (ap (λ (x : Shown). x.value) d.entered)) h.row.value;
        value_others = λ q lt ne. (d.changed q lt ne).value;
        factor_leaving = ap (λ (x : Shown). x.factor (line l.place).basic) d.entered;
        factor = λ j f. ap (λ (x : Shown). x.factor j) d.entered;
        factor_others = λ q lt ne. are_changed p s l k moved value own h (line q).factor (after q).factor (λ j. h.low.factor q j) (not_at_leaving p s l k moved value own h q lt ne) (d.changed q lt ne).row;
        cost = are_changed p s l k moved value own h cost cost2 h.low.cost (cost_not_at_leaving p s l k moved value own h) d.costs;
      }

  -- ---- it is tidy

  free_after : (j : ℕ) → j < columns p → j ≢ k → ((q : ℕ) → q < p.rows → q ≢ l.place → (line q).basic ≢ j) → IsFree p (state_with after stands2 cost2) j
  free_after j among ne others = record {
    among = among;
    free = λ q lt e. elim (same_or_other q l.place) [
      | inl at ↦ ne (sym e ∙ ap (λ (i : ℕ). (after i).basic) at ∙ ap (λ (x : Shown). x.basic) d.entered)
      | inr away ↦ others q lt away (sym (d.changed q lt away).basic ∙ e)
    ];
  }

  own_where : (j : ℕ) → j ≢ k → (own j).num ≢ pos 0 → IsFree p (state_with after stands2 cost2) j
  own_where j ne there = elim (own_stays p (state_with line stands cost) l k moved value own d.stepping j ne there) [
    | inl f ↦ free_after j f.free.among ne (λ q lt away. f.free.free q lt)
    | inr e ↦ subst (λ (i : ℕ). IsFree p (state_with after stands2 cost2) i) (sym e)
        (free_after (line l.place).basic (d.stepping.tidy.columns l.place d.stepping.leaves.place) (λ i. ne (e ∙ i))
        (λ q lt away i. d.stepping.tidy.apart q l.place lt d.stepping.leaves.place away i))
  ]

  lines_tidy : (r j : ℕ) → r < p.rows → r ≢ l.place → ((after r).factor j).num ≢ pos 0 → IsFree p (state_with after stands2 cost2) j ⊎ (j ≡ (after r).basic)
  lines_tidy r j lt away there =
      let c = d.changed r lt away in
      let where_is = changed_where k j own (line r).factor (after r).factor (λ i. (d.stepping.low_own i).positive) (λ i. (d.stepping.low.factor r i).positive) c.row there in elim where_is.1 [
        | inr mine ↦ inl (own_where j where_is.0 mine)
        | inl before ↦ elim (d.stepping.tidy.lines r j lt before) [
          | inl free ↦ inl (free_after j free.among where_is.0 (λ q below other. free.free q below))
          | inr e ↦ inr (e ∙ sym c.basic)
        ]
      ]

  cost_tidy : (j : ℕ) → (cost2 j).num ≢ pos 0 → IsFree p (state_with after stands2 cost2) j
  cost_tidy j there =
      let where_is = changed_where k j own cost cost2 (λ i. (d.stepping.low_own i).positive) (λ i. (d.stepping.low.cost i).positive) d.costs there in elim where_is.1 [
        | inr mine ↦ own_where j where_is.0 mine
        | inl before ↦ let free = d.stepping.tidy.cost j before in free_after j free.among where_is.0 (λ q below other. free.free q below)
      ]

  -- a line that stays has -1 on its own column
  own_tidy : (r : ℕ) → r < p.rows → r ≢ l.place → (after r).factor (after r).basic ≡ whole (negsuc 0)
  own_tidy r lt away =
      let c = d.changed r lt away in
      let b : ℕ = (line r).basic in
      let h = d.stepping in
      let s = state_with line stands cost in
      let ne : b ≢ k = entering_other p s l k moved value own h r lt in
      let none : ((line l.place).factor b).num ≡ pos 0 = elim (same_or_other_int ((line l.place).factor b).num (pos 0)) [
        | inl e ↦ e
        | inr there ↦ elim (h.tidy.lines l.place b h.leaves.place there) [
          | inl free ↦ absurd (free.free r lt refl)
          | inr e ↦ absurd (h.tidy.apart r l.place lt h.leaves.place away e)
        ]
      ] in
      let mine : own b ≡ whole (pos 0) = (h.row.own b).zero ne none in
      let e = sum_of ((line r).factor b) (product_of ((line r).factor k) (own b)) in
      let positive_e : 0 < e.den = positive-product ((line r).factor b).den (((line r).factor k).den * (own b).den) (h.low.factor r b).positive
      (positive-product ((line r).factor k).den (own b).den (h.low.factor r k).positive (h.low_own b).positive) in
      let kept : (after r).factor b ≡ (line r).factor b = reduced-unique e ((after r).factor b) ((line r).factor b) positive_e (c.row.others b ne)
      (sum-no_part ((line r).factor b) (product_of ((line r).factor k) (own b)) (h.low.factor r b).positive (h.low.factor r b).lowest
      (no_product ((line r).factor k) (own b) (ap (λ (x : Fraction). x.num) mine))) in
      ap (λ (i : ℕ). (after r).factor i) c.basic ∙ kept ∙ h.tidy.own r lt

  pub tidy_is : IsTidy p (state_with after stands2 cost2)
  tidy_is =
      let h = d.stepping in
      let s = state_with line stands cost in record {
        columns = λ r lt. elim (same_or_other r l.place) [
          | inl at ↦ subst (λ (i : ℕ). i < columns p) (sym (ap (λ (i : ℕ). (after i).basic) at ∙ ap (λ (x : Shown). x.basic) d.entered)) h.enters.candidate.free.among
          | inr away ↦ subst (λ (i : ℕ). i < columns p) (sym (d.changed r lt away).basic) (h.tidy.columns r lt)
        ];
        apart = λ r q lt below ne e. elim (same_or_other r l.place) [
          | inl at ↦ elim (same_or_other q l.place) [
            | inl also ↦ ne (at ∙ sym also)
            | inr other ↦ entering_other p s l k moved value own h q below (sym (d.changed q below other).basic ∙ sym e ∙ ap (λ (i : ℕ). (after i).basic) at ∙ ap (λ (x : Shown). x.basic) d.entered)
          ]
          | inr away ↦ elim (same_or_other q l.place) [
            | inl also ↦ entering_other p s l k moved value own h r lt (sym (d.changed r lt away).basic ∙ e ∙ ap (λ (i : ℕ). (after i).basic) also ∙ ap (λ (x : Shown). x.basic) d.entered)
            | inr other ↦ h.tidy.apart r q lt below ne (sym (d.changed r lt away).basic ∙ e ∙ (d.changed q below other).basic)
          ]
        ];
        own = λ r lt. elim (same_or_other r l.place) [
          | inl at ↦ ap (λ (i : ℕ). (after i).factor (after i).basic) at ∙ ap (λ (x : Shown). x.factor x.basic) d.entered ∙ (h.row.own k).entering refl
          | inr away ↦ own_tidy r lt away
        ];
        lines = λ r j lt there. elim (same_or_other r l.place) [
          | inl at ↦ place_tidy r j at there
          | inr away ↦ lines_tidy r j lt away there
        ];
        cost = cost_tidy;
      }
    where
      place_tidy : (r j : ℕ) → r ≡ l.place → ((after r).factor j).num ≢ pos 0 → IsFree p (state_with after stands2 cost2) j ⊎ (j ≡ (after r).basic)
      place_tidy r j at there =
          let is : after r ≡ record { basic = k; value = value; factor = own } = ap after at ∙ d.entered in elim (same_or_other j k) [
            | inl e ↦ inr (e ∙ sym (ap (λ (x : Shown). x.basic) is))
            | inr ne ↦ inl (own_where j ne (λ z. there (ap (λ (x : Shown). (x.factor j).num) is ∙ z)))
          ]

-- ---- one line more is changed

pub changed_step : (skipped enters : ℕ) (moved : Fraction) (own : ℕ → Fraction) (before now : List Line) (n : ℕ) (old new : Line)
    → AreChangedTo skipped enters moved own before now n → n < length now → n ≢ skipped → old ≡ get_or now n old
    → IsChangedLine enters moved own (shown_line old) (shown_line new) → AreChangedTo skipped enters moved own before (set now n new) (n + 1)
changed_step skipped enters moved own before now n old new h lt ne is c =
    let was : shown_line old ≡ line_at before n = line_is now n old lt is ∙ h.rest n (omega arith) in record {
      length = length-set now n new ∙ h.length;
      done = λ q below other. elim (last q n below) [
        | inl early ↦ subst (λ (x : Shown). IsChangedLine enters moved own (line_at before q) x) (sym (line_at-other now n q new (omega arith))) (h.done q early other)
        | inr at ↦ subst (λ (i : ℕ). IsChangedLine enters moved own (line_at before i) (line_at (set now n new) i)) (sym at)
            (subst (λ (x : Shown). IsChangedLine enters moved own x (line_at (set now n new) n)) was
            (subst (λ (x : Shown). IsChangedLine enters moved own (shown_line old) x) (sym (line_at-set now n new lt)) c))
      ];
      rest = λ q le. line_at-other now n q new (omega arith) ∙ h.rest q (omega arith);
      place = line_at-other now n skipped new (λ e. ne (sym e)) ∙ h.place;
    }
  where
    last : (q n : ℕ) → q < n + 1 → (q < n) ⊎ (q ≡ n)
    last q n lt = grind arith

-- the operations of all lines but one
abbrev pub AnyChanging : ℕ → ℕ → Fraction → (ℕ → Fraction) → List Line → Operation → Fraction → Fraction → Type 0
AnyChanging skipped enters moved own lines o a b = (q : ℕ) × (q < length lines) × (q ≢ skipped) × IsWrittenChanging enters moved own (line_at lines q) o a b
