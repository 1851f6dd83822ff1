-- The places of the rows with a factor that is not 0, from the entries of a row of factors.
use Rattle.std.proofs.Common.{◌≡◌, ◌≢◌, ℕ, zero, suc, ◌+◌, ◌-◌, ◌<◌, ◌≤◌, ◌∙◌, inl, inr, nat_lt, Bool, true, false, if◌then◌else◌, List, [], ◌∷◌, ◌++◌, length, get_or, map, All, pos, sym, ap, subst, refl, arith}
use Rattle.std.specs.List.{Contains}
use Rattle.std.proofs.lemmas.Bool.Decides.{nat_tests}
use Rattle.std.proofs.lemmas.List.{map_push}
use Rattle.std.proofs.lemmas.List.Elements.{All-nil, All-cons, Contains-append_right}
use Rattle.integers.proofs.AtKey.{chosen, passed, same_or_other}
use Rattle.exact_num.specs.Fraction.{Fraction}
use Rattle.exact_num.specs.Views.{shown_frac}
use Rattle.exact_pivots.specs.Entries.{factor_at, AreRising}
use Rattle.exact_pivots.specs.declared.entry.Entry.{Entry}
use Rattle.tight_leaf.specs.Parts.{AreMultipliers, ArePlaces, shown_multipliers, signed}
use Rattle.tight_leaf.specs.declared.proof.Multipliers.{Multipliers}

-- the places of the entries from a first column on
abbrev pub places_in : ℕ → List Entry → List ℕ
places_in first [] = []
places_in first (e ∷ es) = if nat_lt e.column first then places_in first es else (e.column - first) ∷ places_in first es

-- one entry more
pub places-skip : (first : ℕ) (xs : List Entry) (e : Entry) → e.column < first → places_in first (xs ++ e ∷ []) ≡ places_in first xs
places-skip first [] e lt = let t : nat_lt e.column first ≡ true = grind (arith, nat_tests) in rw t refl
places-skip first (x ∷ xs) e lt = ap (λ (l : List ℕ). if nat_lt x.column first then l else (x.column - first) ∷ l) (places-skip first xs e lt)

pub places-push : (first : ℕ) (xs : List Entry) (e : Entry) → first ≤ e.column → places_in first (xs ++ e ∷ []) ≡ places_in first xs ++ (e.column - first) ∷ []
places-push first [] e le = let t : nat_lt e.column first ≡ false = grind (arith, nat_tests) in rw t refl
places-push first (x ∷ xs) e le =
    ap (λ (l : List ℕ). if nat_lt x.column first then l else (x.column - first) ∷ l) (places-push first xs e le)
    ∙ out (nat_lt x.column first) (x.column - first) (e.column - first) (places_in first xs)
  where
    out : (b : Bool) (i j : ℕ) (l : List ℕ) → (if b then l ++ j ∷ [] else i ∷ (l ++ j ∷ [])) ≡ (if b then l else i ∷ l) ++ j ∷ []
    out true i j l = refl
    out false i j l = refl

-- ---- rising places

-- they rise, the first at least this one
abbrev AreUp : ℕ → List ℕ → Type 0
AreUp least [] = Unit {0}
AreUp least (r ∷ rs) = (least ≤ r) × AreUp (r + 1) rs

up-weaker : (rs : List ℕ) (m n : ℕ) → n ≤ m → AreUp m rs → AreUp n rs
up-weaker [] m n le h = tt
up-weaker (r ∷ rs) m n le h = (omega (arith, h.0), h.1)

up-least : (rs : List ℕ) (least j : ℕ) → AreUp least rs → j < length rs → least ≤ get_or rs j 0
up-least [] least j h lt = absurd (omega arith)
up-least (r ∷ rs) least zero h lt = h.0
up-least (r ∷ rs) least (suc j) h lt = omega (arith, h.0, up-least rs (r + 1) j h.1 (omega arith))

up-rises : (rs : List ℕ) (least i j : ℕ) → AreUp least rs → i < j → j < length rs → get_or rs i 0 < get_or rs j 0
up-rises [] least i j h lt within = absurd (omega arith)
up-rises (r ∷ rs) least i zero h lt within = absurd (omega arith)
up-rises (r ∷ rs) least zero (suc j) h lt within = omega (arith, up-least rs (r + 1) j h.1 (omega arith))
up-rises (r ∷ rs) least (suc i) (suc j) h lt within = up-rises rs (r + 1) i j h.1 (omega arith) (omega arith)

places-up : (first least : ℕ) (xs : List Entry) → AreRising least xs → AreUp (least - first) (places_in first xs)
places-up first least [] h = tt
places-up first least (e ∷ es) h = cases (places-up first (e.column + 1) es h.2) (nat_lt e.column first) refl
  where
    cases : AreUp (e.column + 1 - first) (places_in first es) → (b : Bool) → nat_lt e.column first ≡ b → AreUp (least - first) (if b then places_in first es else (e.column - first) ∷ places_in first es)
    cases rest true t = let lt : e.column < first = grind (arith, nat_tests) in up-weaker (places_in first es) (e.column + 1 - first) (least - first) (omega (arith, h.0)) rest
    cases rest false t =
        let le : first ≤ e.column = grind (arith, nat_tests) in
        (omega (arith, h.0), up-weaker (places_in first es) (e.column + 1 - first) (e.column - first + 1) (omega arith) rest)

-- ---- which places they are

places-all : (first j : ℕ) (xs : List Entry) → first ≤ j → (factor_at xs j).num ≢ pos 0 → Contains (places_in first xs) (j - first)
places-all first j [] le nz = absurd (nz refl)
places-all first j (e ∷ es) le nz = elim (same_or_other e.column j) [
  | inl eq ↦
      let t : nat_lt e.column first ≡ false = grind (arith, nat_tests) in
      subst (λ (b : Bool). Contains (if b then places_in first es else (e.column - first) ∷ places_in first es) (j - first)) (sym t)
      (0, omega arith, ap (λ (i : ℕ). i - first) eq)
  | inr ne ↦
      cases (nat_lt e.column first) (places-all first j es le (subst (λ (x : Fraction). x.num ≢ pos 0) (passed e.column j (shown_frac e.value) (factor_at es j) ne) nz))
]
  where
    cases : (b : Bool) → Contains (places_in first es) (j - first) → Contains (if b then places_in first es else (e.column - first) ∷ places_in first es) (j - first)
    cases true h = h
    cases false h = Contains-append_right ((e.column - first) ∷ []) (places_in first es) (j - first) h

module _ (first count : ℕ) (f : ℕ → Fraction) (under : (j : ℕ) → (f j).num ≢ pos 0 → j < first + count) where
  abbrev IsPlace : ℕ → Type 0
  IsPlace r = (r < count) × ((f (first + r)).num ≢ pos 0)

  place-of : (j : ℕ) → first ≤ j → (f j).num ≢ pos 0 → IsPlace (j - first)
  place-of j le nz =
      let at : first + (j - first) ≡ j = omega arith in
      let lt = under j nz in
      (omega (arith, lt), subst (λ (k : ℕ). (f k).num ≢ pos 0) (sym at) nz)

  places-each : (least : ℕ) (xs : List Entry) → AreRising least xs → ((j : ℕ) → least ≤ j → f j ≡ factor_at xs j) → All IsPlace (places_in first xs)
  places-each least [] h same = All-nil IsPlace
  places-each least (e ∷ es) h same =
      cases (places-each (e.column + 1) es h.2 (λ j le. same j (omega (arith, h.0, le)) ∙ passed e.column j (shown_frac e.value) (factor_at es j) (omega (arith, le))))
      (nat_lt e.column first) refl
    where
      here : f e.column ≡ shown_frac e.value
      here = same e.column h.0 ∙ chosen e.column e.column (shown_frac e.value) (factor_at es e.column) refl

      cases : All IsPlace (places_in first es) → (b : Bool) → nat_lt e.column first ≡ b → All IsPlace (if b then places_in first es else (e.column - first) ∷ places_in first es)
      cases rest true t = rest
      cases rest false t =
          let le : first ≤ e.column = grind (arith, nat_tests) in
          All-cons IsPlace (e.column - first) (places_in first es) (place-of e.column le (subst (λ (x : Fraction). x.num ≢ pos 0) (sym here) h.1)) rest

  pub are-places : (xs : List Entry) → AreRising 0 xs → ((j : ℕ) → factor_at xs j ≡ f j) → ArePlaces first f count (places_in first xs)
  are-places xs h same = record {
    rising = λ i j lt within. up-rises (places_in first xs) (0 - first) i j (places-up first 0 xs h) lt within;
    all = λ r lt nz.
        let at : first + r - first ≡ r = omega arith in
        subst (λ (k : ℕ). Contains (places_in first xs) k) at
        (places-all first (first + r) xs (omega arith) (subst (λ (x : Fraction). x.num ≢ pos 0) (sym (same (first + r))) nz));
    each = places-each 0 xs h (λ j le. sym (same j));
  }

-- ---- the factor of an entry is that on its column

later : (xs : List Entry) (least i : ℕ) (d : Entry) → AreRising least xs → i < length xs → least ≤ (get_or xs i d).column
later [] least i d h lt = absurd (omega arith)
later (e ∷ es) least zero d h lt = h.0
later (e ∷ es) least (suc i) d h lt = omega (arith, h.0, later es (e.column + 1) i d h.2 (omega arith))

pub entry-factor : (xs : List Entry) (least i : ℕ) (d : Entry) → AreRising least xs → i < length xs → factor_at xs (get_or xs i d).column ≡ shown_frac (get_or xs i d).value
entry-factor [] least i d h lt = absurd (omega arith)
entry-factor (e ∷ es) least zero d h lt = chosen e.column e.column (shown_frac e.value) (factor_at es e.column) refl
entry-factor (e ∷ es) least (suc i) d h lt =
    let le = later es (e.column + 1) i d h.2 (omega arith) in
    passed e.column (get_or es i d).column (shown_frac e.value) (factor_at es (get_or es i d).column) (omega (arith, le)) ∙ entry-factor es (e.column + 1) i d h.2 (omega arith)

pub entry-other : (xs : List Entry) (least i : ℕ) (d : Entry) → AreRising least xs → i < length xs → (shown_frac (get_or xs i d).value).num ≢ pos 0
entry-other [] least i d h lt = absurd (omega arith)
entry-other (e ∷ es) least zero d h lt = h.1
entry-other (e ∷ es) least (suc i) d h lt = entry-other es (e.column + 1) i d h.2 (omega arith)

-- ---- multipliers as they are listed, entry by entry

-- the multipliers of these entries
pub record IsListed (numbers : List ℕ) (first : ℕ) (negated : Bool) (f : ℕ → Fraction) (done : List Entry) (ids : List ℕ) (fractions : List Fraction) : Type 0 where
  pub rows : ids ≡ map (λ r. get_or numbers r 0) (places_in first done)
  pub values : fractions ≡ map (λ r. signed negated (f (first + r))) (places_in first done)

pub listed-none : (numbers : List ℕ) (first : ℕ) (negated : Bool) (f : ℕ → Fraction) (rows : List ℕ) (values : List Fraction) → rows ≡ [] → values ≡ []
    → IsListed numbers first negated f [] rows values
listed-none numbers first negated f rows values e g = record { rows = e; values = g }

module _ (numbers : List ℕ) (first : ℕ) (negated : Bool) (f : ℕ → Fraction) (done more : List Entry) (e : Entry) (rows : List ℕ) (values : List Fraction)
    (is : more ≡ done ++ e ∷ []) (h : IsListed numbers first negated f done rows values) where
  pub listed-skip : e.column < first → IsListed numbers first negated f more rows values
  listed-skip lt =
      let same : places_in first more ≡ places_in first done = ap (places_in first) is ∙ places-skip first done e lt in
      record {
        rows = h.rows ∙ sym (ap (map (λ r. get_or numbers r 0)) same);
        values = h.values ∙ sym (ap (map (λ r. signed negated (f (first + r)))) same);
      }

  pub listed-more : (row : ℕ) (value : Fraction) (rows-more : List ℕ) (values-more : List Fraction) → first ≤ e.column → f e.column ≡ shown_frac e.value
      → row ≡ get_or numbers (e.column - first) 0 → value ≡ signed negated (shown_frac e.value) → rows-more ≡ rows ++ row ∷ [] → values-more ≡ values ++ value ∷ []
      → IsListed numbers first negated f more rows-more values-more
  listed-more row value rows-more values-more le hit row-is value-is rows-are values-are =
      let place = e.column - first in
      let places = places_in first done in
      let same : places_in first more ≡ places ++ place ∷ [] = ap (places_in first) is ∙ places-push first done e le in
      let back : first + place ≡ e.column = omega (arith, le) in
      record {
        rows = rows-are ∙ ap (λ (l : List ℕ). l ++ row ∷ []) h.rows ∙ ap (λ (i : ℕ). map (λ r. get_or numbers r 0) places ++ i ∷ []) row-is
            ∙ sym (ap (map (λ r. get_or numbers r 0)) same ∙ map_push (λ r. get_or numbers r 0) places place);
        values = values-are ∙ ap (λ (l : List Fraction). l ++ value ∷ []) h.values
            ∙ ap (λ (x : Fraction). map (λ r. signed negated (f (first + r))) places ++ x ∷ [])
            (value-is ∙ ap (signed negated) (sym hit) ∙ ap (λ (j : ℕ). signed negated (f j)) (sym back))
            ∙ sym (ap (map (λ r. signed negated (f (first + r)))) same ∙ map_push (λ r. signed negated (f (first + r))) places place);
      }

pub listed-all : (numbers : List ℕ) (first : ℕ) (negated : Bool) (f : ℕ → Fraction) (ms : Multipliers) (xs : List Entry) → AreRising 0 xs → ((j : ℕ) → factor_at xs j ≡ f j)
    → ((j : ℕ) → (f j).num ≢ pos 0 → j < first + length numbers) → IsListed numbers first negated f xs ms.rows.items (shown_multipliers ms) → AreMultipliers numbers first negated f ms
listed-all numbers first negated f ms xs rising same under h = record {
  places = places_in first xs;
  known = are-places first (length numbers) f under xs rising same;
  numbers = h.rows;
  values = h.values;
}
