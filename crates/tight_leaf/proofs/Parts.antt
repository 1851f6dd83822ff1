-- The parts of a proof, from the multipliers that are listed.
use Rattle.std.proofs.Common.{◌≡◌, ◌≢◌, ℕ, zero, suc, ◌+◌, ◌<◌, ◌∙◌, ◌⊎◌, inl, inr, Bool, true, false, cond, List, [], ◌∷◌, length, get_or, map, All, ℤ, pos, negsuc, neg_ℤ, sym, ap, subst, refl, arith}
use Rattle.std.specs.Prelude.{filter}
use Rattle.std.specs.List.{AllPairs}
use Rattle.std.proofs.Math.IntN.{neg_ℤ-neg_ℤ}
use Rattle.std.proofs.lemmas.Int.{ints}
use Rattle.std.proofs.lemmas.List.{get_or-map, get_or_default, length-map}
use Rattle.std.proofs.lemmas.List.Elements.{All-cons, All-nil, All-weaker, filter-append}
use Rattle.integers.specs.Numbers.{tabulate}
use Rattle.integers.proofs.Pairwise.{AllPairs-append, AllPairs-nil}
use Rattle.pool_model.specs.Network.{Net}
use Rattle.row_model.specs.Multipliers.{Part}
use Rattle.row_model.specs.Catalogue.{rows}
use Rattle.box_space.specs.Views.{shown_part}
use Rattle.box_space.specs.declared.coordinates.Form.{Form}
use Rattle.linear_program.specs.declared.multipliers.Part as listed
use Rattle.dual_rounding.specs.Programs.{form_rows, has_row}
use Rattle.dual_rounding.proofs.FormRows.{All-numbers}
use Rattle.exact_num.specs.Fraction.{Fraction}
use Rattle.exact_num.specs.Views.{shown_frac}
use Rattle.exact_run.specs.Operations.{whole}
use Rattle.common_denominators.specs.Multiples.{IsCoarseIn, IsCommonOf, IsDenominatorOf, IsLeastMultiple, IsTimes, StandsIn}
use Rattle.tight_leaf.specs.Parts.{AreMultipliers, ArePartsOver, shown_multipliers, signed}
use Rattle.tight_leaf.specs.Programs.{row_number}
use Rattle.tight_leaf.specs.Proofs.{AreParts}
use Rattle.tight_leaf.specs.declared.proof.Multipliers.{Multipliers}
use Rattle.tight_leaf.proofs.Multiples.{coarse-of_all, least-of_all}

pub zero_or_other : (z : ℤ) → (z ≡ pos 0) ⊎ (z ≢ pos 0)
zero_or_other (pos zero) = inl refl
zero_or_other (pos (suc n)) = inr (λ e. omega (arith, ints, e))
zero_or_other (negsuc n) = inr (λ e. cc)

pub neg-zero : (z : ℤ) → neg_ℤ z ≡ pos 0 → z ≡ pos 0
neg-zero z e = sym (neg_ℤ-neg_ℤ z) ∙ ap neg_ℤ e

signed-other : (b : Bool) (x : Fraction) → x.num ≢ pos 0 → (signed b x).num ≢ pos 0
signed-other true x nz e = nz (neg-zero x.num e)
signed-other false x nz e = nz e

-- ---- the numbers of a form's rows rise

filter-rise : (p : ℕ → Bool) (n : ℕ) → AllPairs (λ i j. i < j) (filter p (tabulate (λ i. i) n))
filter-rise p zero = AllPairs-nil (λ i j. i < j)
filter-rise p (suc n) = subst (λ (xs : List ℕ). AllPairs (λ i j. i < j) xs) (sym (filter-append p (tabulate (λ i. i) n) (n ∷ [])))
    (AllPairs-append (λ i j. i < j) (filter p (tabulate (λ i. i) n)) (filter p (n ∷ [])) (filter-rise p n) (one (p n))
    (All-weaker (λ i. i < n) (λ i. All (λ j. i < j) (filter p (n ∷ []))) (λ i lt. behind i lt (p n)) (filter p (tabulate (λ i. i) n)) (All-numbers p n)))
  where
    one : (b : Bool) → AllPairs (λ i j. i < j) (cond b (n ∷ []) [])
    one true = λ i j d lt within. absurd (omega arith)
    one false = AllPairs-nil (λ i j. i < j)

    behind : (i : ℕ) → i < n → (b : Bool) → All (λ j. i < j) (cond b (n ∷ []) [])
    behind i lt true = All-cons (λ j. i < j) n [] lt (All-nil (λ j. i < j))
    behind i lt false = All-nil (λ j. i < j)

pub rows-rise : (n : Net) (form : Form) (i j : ℕ) → i < j → j < length (form_rows n form) → row_number n form i < row_number n form j
rows-rise n form i j lt within = filter-rise (has_row n form) (rows n) i j 0 lt within

-- ---- parts in memory

rows-shown : (ps : List listed.Part) → map (λ (q : Part). q.row) (map shown_part ps) ≡ map (λ (q : listed.Part). q.row) ps
rows-shown [] = refl
rows-shown (q ∷ qs) = ap (λ (l : List ℕ). q.row ∷ l) (rows-shown qs)

mults-shown : (ps : List listed.Part) → map (λ (q : Part). q.mult) (map shown_part ps) ≡ map (λ (q : listed.Part). q.mult) ps
mults-shown [] = refl
mults-shown (q ∷ qs) = ap (λ (l : List ℤ). q.mult ∷ l) (mults-shown qs)

same_part : (q r : Part) → q.row ≡ r.row → q.mult ≡ r.mult → q ≡ r
same_part q r e f = ap (λ (i : ℕ). make i q.mult) e ∙ ap (λ (z : ℤ). make r.row z) f
  where
    make : ℕ → ℤ → Part
    make i z = record { row = i; mult = z }

-- there are as many numbers of rows as multipliers
pub same-count : (numbers : List ℕ) (first : ℕ) (negated : Bool) (f : ℕ → Fraction) (ms : Multipliers) → AreMultipliers numbers first negated f ms → length ms.rows.items ≡ length ms.values.items
same-count numbers first negated f ms made =
    ap (λ (l : List ℕ). length l) made.numbers ∙ length-map made.places (λ r. get_or numbers r 0) ∙ sym (length-map made.places (λ r. signed negated (f (first + r))))
    ∙ sym (ap (λ (l : List Fraction). length l) made.values) ∙ length-map ms.values.items shown_frac

module _ (numbers : List ℕ) (first : ℕ) (negated : Bool) (f : ℕ → Fraction) (ms : Multipliers) (multipliers : ℕ → Fraction → Type 0)
    (made : AreMultipliers numbers first negated f ms)
    (has : (r : ℕ) → r < length numbers → (f (first + r)).num ≢ pos 0 → multipliers r (signed negated (f (first + r))))
    (only : (r : ℕ) (x : Fraction) → multipliers r x → x.num ≢ pos 0
    → (r < length numbers) × ((f (first + r)).num ≢ pos 0) × (x ≡ signed negated (f (first + r))))
    (none : (r : ℕ) (x : Fraction) → multipliers r x → x.num ≡ pos 0 → x.den ≡ 1) where
  abbrev value_of : ℕ → Fraction
  value_of r = signed negated (f (first + r))

  listed-at : (r : ℕ) → r < length numbers → (f (first + r)).num ≢ pos 0 → (k : ℕ) × StandsIn (shown_multipliers ms) k (value_of r)
  listed-at r lt nz =
      let c = made.known.all r lt nz in (
        c.0,
        subst (λ (xs : List Fraction). StandsIn xs c.0 (value_of r)) (sym made.values)
            (omega (arith, length-map made.places value_of, c.1), sym (get_or-map value_of made.places c.0 r (whole (pos 0)) c.1 ∙ ap value_of c.2)),
      )

  into : (r : ℕ) (x : Fraction) → multipliers r x → (x.den ≡ 1) ⊎ IsDenominatorOf (StandsIn (shown_multipliers ms)) x.den
  into r x h = elim (zero_or_other x.num) [
    | inl z ↦ inl (none r x h z)
    | inr nz ↦
        let o = only r x h nz in
        let w = listed-at r o.0 o.1 in
        inr (w.0, value_of r, w.1, ap (λ (y : Fraction). y.den) o.2)
  ]

  -- what is known of the multiplier at a place of the list
  at-place : (k : ℕ) → k < length made.places → multipliers (get_or made.places k 0) (value_of (get_or made.places k 0))
  at-place k lt = let p = made.known.each k 0 lt in has (get_or made.places k 0) p.0 p.1

  back : (k : ℕ) (x : Fraction) → StandsIn (shown_multipliers ms) k x → (j : ℕ) × multipliers j x
  back k x h =
      let g : StandsIn (map value_of made.places) k x = subst (λ (xs : List Fraction). StandsIn xs k x) made.values h in
      let lt : k < length made.places = omega (arith, length-map made.places value_of, g.0) in
      let at : x ≡ value_of (get_or made.places k 0) = g.1 ∙ get_or-map value_of made.places k 0 (whole (pos 0)) lt in
      (get_or made.places k 0, subst (λ (y : Fraction). multipliers (get_or made.places k 0) y) (sym at) (at-place k lt))

  pub least-is : (m : ℕ) → IsCommonOf (shown_multipliers ms) m → IsLeastMultiple (IsDenominatorOf multipliers) m
  least-is m h = least-of_all multipliers (StandsIn (shown_multipliers ms)) into back m h

  pub coarse-is : (times : ℕ) (x : Fraction) → IsCoarseIn (StandsIn (shown_multipliers ms)) times x → IsCoarseIn multipliers times x
  coarse-is times x h = coarse-of_all multipliers (StandsIn (shown_multipliers ms)) into back times x h

  module _ (n : Net) (form : Form) (same : numbers ≡ form_rows n form) (times : ℕ) (ps : List listed.Part) (over : ArePartsOver times ms ps) where
    abbrev shown : List Part
    shown = map shown_part ps

    count-rows : length ms.rows.items ≡ length made.places
    count-rows = ap (λ (l : List ℕ). length l) made.numbers ∙ length-map made.places (λ r. get_or numbers r 0)

    count-is : length shown ≡ length made.places
    count-is = length-map ps shown_part ∙ sym (length-map ps (λ (q : listed.Part). q.row)) ∙ ap (λ (l : List ℕ). length l) over.rows ∙ count-rows

    row-at : (k : ℕ) (d : Part) → k < length made.places → (get_or shown k d).row ≡ row_number n form (get_or made.places k 0)
    row-at k d lt =
        sym (get_or-map (λ (q : Part). q.row) shown k d d.row (omega (arith, count-is, lt)))
        ∙ ap (λ (l : List ℕ). get_or l k d.row) (rows-shown ps ∙ over.rows ∙ made.numbers)
        ∙ get_or-map (λ r. get_or numbers r 0) made.places k 0 d.row lt
        ∙ ap (λ (l : List ℕ). get_or l (get_or made.places k 0) 0) same

    mult-at : (k : ℕ) (d : Part) → k < length made.places → (get_or shown k d).mult ≡ get_or (map (λ (q : listed.Part). q.mult) ps) k (pos 0)
    mult-at k d lt =
        let long : length (map (λ (q : listed.Part). q.mult) ps) ≡ length made.places = length-map ps (λ (q : listed.Part). q.mult) ∙ sym (length-map ps shown_part) ∙ count-is in
        sym (get_or-map (λ (q : Part). q.mult) shown k d d.mult (omega (arith, count-is, lt)))
        ∙ ap (λ (l : List ℤ). get_or l k d.mult) (mults-shown ps)
        ∙ get_or_default (map (λ (q : listed.Part). q.mult) ps) k d.mult (pos 0) (omega (arith, long, lt))

    times-at : (k : ℕ) → k < length made.places → IsTimes times (value_of (get_or made.places k 0)) (get_or (map (λ (q : listed.Part). q.mult) ps) k (pos 0))
    times-at k lt =
        subst (λ (x : Fraction). IsTimes times x (get_or (map (λ (q : listed.Part). q.mult) ps) k (pos 0)))
        (ap (λ (xs : List Fraction). get_or xs k (whole (pos 0))) made.values ∙ get_or-map value_of made.places k 0 (whole (pos 0)) lt)
        (over.times k (omega (arith, count-rows, lt)))

    pub parts-are : (scale : ℕ) → AreParts n form multipliers times record { scale = scale; parts = shown }
    parts-are scale = record {
      rising = λ i j lt within.
          let jn : j < length made.places = omega (arith, count-is, within) in
          let ri = row-at i record { row = 0; mult = pos 0 } (omega (arith, jn, lt)) in
          let rj = row-at j record { row = 0; mult = pos 0 } jn in
          let last = made.known.each j 0 jn in
          omega (arith, ri, rj, rows-rise n form (get_or made.places i 0) (get_or made.places j 0) (made.known.rising i j lt jn) (subst (λ (l : List ℕ). get_or made.places j 0 < length l) same last.0));
      parts = λ k d within.
          let lt : k < length made.places = omega (arith, count-is, within) in
          let p = made.known.each k 0 lt in
          record {
            place = get_or made.places k 0;
            multiplier = value_of (get_or made.places k 0);
            listed = at-place k lt;
            nonzero = signed-other negated (f (first + get_or made.places k 0)) p.1;
            row = row-at k d lt;
            mult = subst (λ (z : ℤ). IsTimes times (value_of (get_or made.places k 0)) z) (sym (mult-at k d lt)) (times-at k lt);
          };
      each = λ r x h nz.
          let o = only r x h nz in
          let c = made.known.all r o.0 o.1 in
          let z : ℤ = get_or (map (λ (q : listed.Part). q.mult) ps) c.0 (pos 0) in
          let at : get_or made.places c.0 0 ≡ r = get_or_default made.places c.0 0 r c.1 ∙ c.2 in
          let part : Part = record { row = row_number n form r; mult = z } in (
            z,
            subst (λ (y : Fraction). IsTimes times y z) (ap value_of at ∙ sym o.2) (times-at c.0 c.1),
            (
              c.0,
              omega (arith, count-is, c.1),
              same_part (get_or shown c.0 part) part (row-at c.0 part c.1 ∙ ap (λ (i : ℕ). row_number n form i) at) (mult-at c.0 part c.1),
            ),
          );
    }
