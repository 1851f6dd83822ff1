-- The linear program of a box, written again for the run: it is narrow, it has the box's rows, ends and costs, and the run can start.
use Rattle.std.proofs.Common.{◌≡◌, ◌≢◌, ℕ, zero, suc, ◌+◌, ◌*◌, ◌^◌, ◌<◌, ◌≤◌, max, ◌∙◌, inl, inr, Bool, false, ◌==◌, if◌then◌else◌, List, [], ◌∷◌, ◌++◌, length, get_or, map, All, ℤ, pos, ◌+ℤ◌, ◌-ℤ◌, unsigned_abs, sym, ap, subst, refl, arith}
use Rattle.std.proofs.lemmas.Int.{ints}
use Rattle.std.proofs.lemmas.List.{get_or-map, length-map}
use Rattle.std.proofs.lemmas.List.Elements.{All-weaker}
use Rattle.integers.specs.Numbers.{tabulate}
use Rattle.integers.specs.Sums.{sum_below}
use Rattle.integers.proofs.AtKey.{same_or_other, chosen, passed, sum_below-le}
use Rattle.integers.proofs.Tabulate.{All-tabulate, get_or-tabulate, length-tabulate}
use Rattle.pool_model.specs.Network.{Net, IsLimited, IsWithin}
use Rattle.row_model.specs.Boxes.{Box, IsProper}
use Rattle.row_model.specs.Catalogue.{rows, at_least, equal}
use Rattle.row_model.specs.Variables.{variables, by_number, costs, lows, highs}
use Rattle.row_model.proofs.Numbering.{HoldsByKind, by_number-each}
use Rattle.box_space.specs.Lines.{term_of, terms_from}
use Rattle.box_space.specs.declared.coordinates.Form.{Form}
use Rattle.row_book.specs.PartRows.{coef_at, constant_at, kind_at}
use Rattle.row_book.proofs.Terms.{terms-small}
use Rattle.linear_program.specs.declared.lp.Lp.{Lp}
use Rattle.linear_program.specs.declared.lp.LpRow.{LpRow}
use Rattle.linear_program.specs.declared.terms.Term.{Term}
use Rattle.dual_rounding.specs.Programs.{IsProgramOf, IsRowIn, form_rows}
use Rattle.exact_num.specs.Fraction.{IsShort}
use Rattle.exact_pivots.specs.Fits.{AreTerms, IsReady, end_size}
use Rattle.exact_pivots.specs.Views.{coef_of, program_of}
use Rattle.exact_pivots.specs.declared.program.BoundedProgram.{BoundedProgram}
use Rattle.exact_pivots.specs.declared.program.BoundedRow.{BoundedRow}
use Rattle.exact_pivots.specs.declared.program.Coefficient.{Coefficient}
use Rattle.exact_pivots.specs.declared.program.Variable.{Variable}
use Rattle.tight_leaf.specs.Programs.{IsBoxProgram, row_number}
use Rattle.tight_leaf.specs.Rewritten.{AreRowsOf, AreVariablesOf, IsNarrow, shown_term}
use Rattle.tight_leaf.proofs.RowCaps.{end-capped, row-capped, term-capped}

-- ---- the terms of a row, by rising variable

-- the coefficient of the first term of a variable
abbrev first_in : List Term → ℕ → ℤ
first_in [] v = pos 0
first_in (t ∷ ts) v = if t.var == v then t.coef else first_in ts v

-- the variables rise, from this one on, and are below the limit
abbrev Rise : ℕ → ℕ → List Term → Type 0
Rise limit least [] = Unit {0}
Rise limit least (t ∷ ts) = (least ≤ t.var) × (t.var < limit) × Rise limit (t.var + 1) ts

rise-more : (ts : List Term) (m limit least v : ℕ) (c : ℤ) → m ≤ v → v < limit → least ≤ v → Rise m least ts → Rise limit least (ts ++ record { var = v; coef = c } ∷ [])
rise-more [] m limit least v c hm hv hl h = (hl, hv, tt)
rise-more (t ∷ ts) m limit least v c hm hv hl h = (h.0, omega (arith, h.1), rise-more ts m limit (t.var + 1) v c hm hv (omega (arith, h.1)) h.2)

rise-wider : (ts : List Term) (m limit least : ℕ) → m ≤ limit → Rise m least ts → Rise limit least ts
rise-wider [] m limit least hm h = tt
rise-wider (t ∷ ts) m limit least hm h = (h.0, omega (arith, h.1), rise-wider ts m limit (t.var + 1) hm h.2)

first_in-past : (ts us : List Term) (m least v : ℕ) → m ≤ v → Rise m least ts → first_in (ts ++ us) v ≡ first_in us v
first_in-past [] us m least v le h = refl
first_in-past (t ∷ ts) us m least v le h = passed t.var v t.coef (first_in (ts ++ us) v) (omega (arith, h.1)) ∙ first_in-past ts us m (t.var + 1) v le h.2

first_in-other : (ts : List Term) (m v : ℕ) (c : ℤ) → m ≢ v → first_in (ts ++ record { var = m; coef = c } ∷ []) v ≡ first_in ts v
first_in-other [] m v c ne = passed m v c (pos 0) ne
first_in-other (t ∷ ts) m v c ne = ap (λ (z : ℤ). if t.var == v then t.coef else z) (first_in-other ts m v c ne)

nothing : (c : ℤ) → unsigned_abs c ≡ 0 → c ≡ pos 0
nothing c e = omega (arith, ints)

none : (ts : List Term) → ts ++ [] ≡ ts
none [] = refl
none (t ∷ ts) = ap (λ (l : List Term). t ∷ l) (none ts)

-- one variable more
record Written (first : ℕ) (f : ℕ → ℤ) (n : ℕ) (ts : List Term) : Type 0 where
  rise : Rise (first + n) first ts
  coefs : (i : ℕ) → i < n → first_in ts (first + i) ≡ f i

before_or_last : (i n : ℕ) → i < suc n → i ≢ n → i < n
before_or_last i n lt ne = omega arith

apart : (first i n : ℕ) → i ≢ n → first + n ≢ first + i
apart first i n ne e = ne (omega arith)

written-more : (first : ℕ) (f : ℕ → ℤ) (n : ℕ) (ts : List Term) → Written first f n ts → Written first f (suc n) (ts ++ term_of (first + n) (f n))
written-more first f n ts h = elim (same_or_other (unsigned_abs (f n)) 0) [
  | inl e ↦ subst (λ (us : List Term). Written first f (suc n) (ts ++ us)) (sym (chosen (unsigned_abs (f n)) 0 [] (record { var = first + n; coef = f n } ∷ []) e))
      (subst (λ (us : List Term). Written first f (suc n) us) (sym (none ts)) record {
        rise = rise-wider ts (first + n) (first + suc n) first (omega arith) h.rise;
        coefs = λ i lt. elim (same_or_other i n) [
          | inl is ↦
              subst (λ (k : ℕ). first_in ts (first + k) ≡ f k) (sym is)
              (ap (λ (us : List Term). first_in us (first + n)) (sym (none ts)) ∙ first_in-past ts [] (first + n) first (first + n) (omega arith) h.rise ∙ sym (nothing (f n) e))
          | inr ne ↦ h.coefs i (before_or_last i n lt ne)
        ];
      })
  | inr d ↦ subst (λ (us : List Term). Written first f (suc n) (ts ++ us)) (sym (passed (unsigned_abs (f n)) 0 [] (record { var = first + n; coef = f n } ∷ []) d)) record {
    rise = rise-more ts (first + n) (first + suc n) first (first + n) (f n) (omega arith) (omega arith) (omega arith) h.rise;
    coefs = λ i lt. elim (same_or_other i n) [
      | inl is ↦
          subst (λ (k : ℕ). first_in (ts ++ record { var = first + n; coef = f n } ∷ []) (first + k) ≡ f k) (sym is)
          (first_in-past ts (record { var = first + n; coef = f n } ∷ []) (first + n) first (first + n) (omega arith) h.rise
          ∙ chosen (first + n) (first + n) (f n) (pos 0) refl)
      | inr ne ↦ first_in-other ts (first + n) (first + i) (f n) (apart first i n ne) ∙ h.coefs i (before_or_last i n lt ne)
    ];
  }
]

written-all : (first : ℕ) (f : ℕ → ℤ) (n : ℕ) → Written first f n (terms_from first f n)
written-all first f zero = record { rise = tt; coefs = λ i lt. absurd (omega arith) }
written-all first f (suc n) = written-more first f n (terms_from first f n) (written-all first f n)

-- ---- the same of coefficients

coef_of-shown : (cs : List Coefficient) (v : ℕ) → coef_of cs v ≡ first_in (map shown_term cs) v
coef_of-shown [] v = refl
coef_of-shown (c ∷ cs) v = ap (λ (z : ℤ). if c.variable == v then c.value else z) (coef_of-shown cs v)

terms-shown : (cs : List Coefficient) (limit least : ℕ) → Rise limit least (map shown_term cs) → AreTerms limit least cs
terms-shown [] limit least h = tt
terms-shown (c ∷ cs) limit least h = (h.0, h.1, terms-shown cs limit (c.variable + 1) h.2)

coefs-written : (cs : List Coefficient) (f : ℕ → ℤ) (n v : ℕ) → map shown_term cs ≡ terms_from 0 f n → v < n → coef_of cs v ≡ f v
coefs-written cs f n v e lt =
    coef_of-shown cs v ∙ ap (λ (ts : List Term). first_in ts v) e ∙ ap (λ (k : ℕ). first_in (terms_from 0 f n) k) from_zero ∙ (written-all 0 f n).coefs v lt
  where
    from_zero : v ≡ 0 + v
    from_zero = omega arith

terms-written : (cs : List Coefficient) (f : ℕ → ℤ) (n : ℕ) → map shown_term cs ≡ terms_from 0 f n → AreTerms n 0 cs
terms-written cs f n e =
    terms-shown cs n 0 (subst (λ (ts : List Term). Rise n 0 ts) (sym e) (subst (λ (k : ℕ). Rise k 0 (terms_from 0 f n)) from_zero (written-all 0 f n).rise))
  where
    from_zero : 0 + n ≡ n
    from_zero = omega arith

-- ---- a linear program of a box is narrow

costs-small : (n : Net) → IsLimited n → HoldsByKind n (λ x y. unsigned_abs x ≤ 3 * 10 ^ 12) (costs n) (costs n)
costs-small n limited = record {
  x = λ e h. bought (n.source_cost (n.feed_source e)) (n.feed_cost e) (limited.source_costs (n.feed_source e) (limited.feed_sources e h)) (limited.feed_costs e h);
  y = λ o h. sold (n.out_cost o) (n.price (n.out_product o)) (limited.out_costs o h) (limited.prices (n.out_product o) (limited.out_products o h));
  z = λ e h. passed_on (n.source_cost (n.direct_source e)) (n.direct_cost e) (n.price (n.direct_product e)) (limited.source_costs (n.direct_source e) (limited.direct_sources e h))
      (limited.direct_costs e h) (limited.prices (n.direct_product e) (limited.direct_products e h));
  w = λ q h. omega arith;
  proportion = λ e h. omega arith;
  quality = λ l k h j. omega arith;
  mixed = λ o k h j. omega arith;
}
  where
    bought : (a b : ℤ) → IsWithin (10 ^ 12) a → IsWithin (10 ^ 12) b → unsigned_abs (a +ℤ b) ≤ 3 * 10 ^ 12
    bought a b (al, ah) (bl, bh) = omega (arith, ints)

    sold : (a b : ℤ) → IsWithin (10 ^ 12) a → IsWithin (10 ^ 12) b → unsigned_abs (a -ℤ b) ≤ 3 * 10 ^ 12
    sold a b (al, ah) (bl, bh) = omega (arith, ints)

    passed_on : (a b c : ℤ) → IsWithin (10 ^ 12) a → IsWithin (10 ^ 12) b → IsWithin (10 ^ 12) c → unsigned_abs (a +ℤ b -ℤ c) ≤ 3 * 10 ^ 12
    passed_on a b c (al, ah) (bl, bh) (cl, ch) = omega (arith, ints)

short-list : (xs : List ℤ) (f : ℕ → ℤ) (n : ℕ) → xs ≡ tabulate f n → ((i : ℕ) → i < n → unsigned_abs (f i) ≤ 10 ^ 24) → All IsShort xs
short-list xs f n e h = subst (λ (l : List ℤ). All IsShort l) (sym e) (All-tabulate IsShort f n (λ i lt. let le = h i lt in omega (arith, le)))

short-terms : (ts : List Term) (f : ℕ → ℤ) (n : ℕ) → ts ≡ terms_from 0 f n → ((i : ℕ) → i < n → unsigned_abs (f i) < 2 ^ 48) → All (λ t. IsShort t.coef) ts
short-terms ts f n e h =
    subst (λ (l : List Term). All (λ t. IsShort t.coef) l) (sym e)
    (All-weaker (λ (t : Term). unsigned_abs t.coef < 2 ^ 48) (λ t. IsShort t.coef) (λ t lt. omega (arith, lt)) (terms_from 0 f n) (terms-small f n (2 ^ 48) h))

module _ (n : Net) (form : Form) (b : Box) (lp : Lp) (limited : IsLimited n) (proper : IsProper n b) (is : IsProgramOf n form b lp) where
  pub count-low : length lp.low.items ≡ variables n
  count-low = ap (λ (l : List ℤ). length l) is.over.low ∙ length-tabulate (by_number n (lows n b)) (variables n)

  pub narrow : IsNarrow lp
  narrow = record {
    highs = ap (λ (l : List ℤ). length l) is.over.high ∙ length-tabulate (by_number n (highs n b)) (variables n) ∙ sym count-low;
    costs = ap (λ (l : List ℤ). length l) is.over.costs ∙ length-tabulate (by_number n (costs n)) (variables n) ∙ sym count-low;
    low = short-list lp.low.items (by_number n (lows n b)) (variables n) is.over.low (λ i lt. (end-capped n b limited proper i lt).0);
    high = short-list lp.high.items (by_number n (highs n b)) (variables n) is.over.high (λ i lt. (end-capped n b limited proper i lt).1);
    cost = short-list lp.cost.items (by_number n (costs n)) (variables n) is.over.costs
        (λ i lt. let le = by_number-each n (λ x y. unsigned_abs x ≤ 3 * 10 ^ 12) (costs n) (costs n) (costs-small n limited) i lt in omega (arith, le));
    coefs = All-weaker (IsRowIn n b) (λ (r : LpRow). All (λ (t : Term). IsShort t.coef) r.terms.items)
        (λ r h. short-terms r.terms.items (coef_at n b r.id) (variables n) h.written.terms h.written.small) lp.rows.items is.over.rows;
  }

-- ---- the program of it, as the run takes it

module _ (n : Net) (form : Form) (b : Box) (lp : Lp) (program : BoundedProgram) (limited : IsLimited n) (proper : IsProper n b) (is : IsProgramOf n form b lp)
    (vs : AreVariablesOf lp program.variables.items) (ws : AreRowsOf lp.rows.items program.rows.items) where
  count-variables : length program.variables.items ≡ variables n
  count-variables =
      sym (length-map program.variables.items (λ (v : Variable). v.low)) ∙ ap (λ (l : List ℤ). length l) (vs.low ∙ is.over.low)
      ∙ length-tabulate (by_number n (lows n b)) (variables n)

  count-lp : length lp.rows.items ≡ length (form_rows n form)
  count-lp = sym (length-map lp.rows.items (λ (r : LpRow). r.id)) ∙ ap (λ (l : List ℕ). length l) is.numbers

  count-rows : length program.rows.items ≡ length lp.rows.items
  count-rows =
      sym (length-map program.rows.items (λ (w : BoundedRow). w.equal)) ∙ ap (λ (l : List Bool). length l) ws.equal
      ∙ length-map lp.rows.items (λ (r : LpRow). r.equal)

  -- the program's row at a place
  record IsAt (r : ℕ) (row : LpRow) : Type 0 where
    id : row.id ≡ row_number n form r
    is_row : IsRowIn n b row
    terms : map shown_term (get_or (map (λ (w : BoundedRow). w.terms.items) program.rows.items) r []) ≡ row.terms.items
    constant : get_or (map (λ (w : BoundedRow). w.constant) program.rows.items) r (pos 0) ≡ row.constant
    equal : get_or (map (λ (w : BoundedRow). w.equal) program.rows.items) r false ≡ row.equal

  map-map : (cs : List (List Coefficient)) (r : ℕ) → map shown_term (get_or cs r []) ≡ get_or (map (λ (c : List Coefficient). map shown_term c) cs) r []
  map-map [] r = refl
  map-map (c ∷ cs) zero = refl
  map-map (c ∷ cs) (suc r) = map-map cs r

  shown-rows : (rs : List BoundedRow) → map (λ (c : List Coefficient). map shown_term c) (map (λ (w : BoundedRow). w.terms.items) rs) ≡ map (λ (w : BoundedRow). map shown_term w.terms.items) rs
  shown-rows [] = refl
  shown-rows (w ∷ rs) = ap (λ (l : List (List Term)). map shown_term w.terms.items ∷ l) (shown-rows rs)

  at-row : (r : ℕ) (d : LpRow) → r < length lp.rows.items → IsAt r (get_or lp.rows.items r d)
  at-row r d lt = record {
    id = sym (get_or-map (λ (q : LpRow). q.id) lp.rows.items r d 0 lt) ∙ ap (λ (l : List ℕ). get_or l r 0) is.numbers;
    is_row = is.over.rows r d lt;
    terms =
        map-map (map (λ (w : BoundedRow). w.terms.items) program.rows.items) r
        ∙ ap (λ (l : List (List Term)). get_or l r []) (shown-rows program.rows.items ∙ ws.terms)
        ∙ get_or-map (λ (q : LpRow). q.terms.items) lp.rows.items r d [] lt;
    constant = ap (λ (l : List ℤ). get_or l r (pos 0)) ws.constant ∙ get_or-map (λ (q : LpRow). q.constant) lp.rows.items r d (pos 0) lt;
    equal = ap (λ (l : List Bool). get_or l r false) ws.equal ∙ get_or-map (λ (q : LpRow). q.equal) lp.rows.items r d false lt;
  }

  no_lp_row : (xs : List LpRow) → length xs ≡ 0 → (r : ℕ) → r < length xs → ⊥
  no_lp_row xs e r lt = omega arith

  row-there : (r : ℕ) → r < length program.rows.items → (row : LpRow) × IsAt r row
  row-there r lt = first lp.rows.items refl
    where
      first : (xs : List LpRow) → xs ≡ lp.rows.items → (row : LpRow) × IsAt r row
      first [] e = absurd (omega (arith, count-rows, lt, ap (λ (l : List LpRow). length l) e))
      first (x ∷ xs) e = (get_or lp.rows.items r x, at-row r x (omega (arith, count-rows, lt)))

  coef-is : (r v : ℕ) → r < length program.rows.items → v < length program.variables.items → (program_of program).coef r v ≡ coef_at n b (row_number n form r) v
  coef-is r v lt hv =
      let t = row-there r lt in
      coefs-written (get_or (map (λ (w : BoundedRow). w.terms.items) program.rows.items) r []) (coef_at n b t.0.id) (variables n) v
      (t.1.terms ∙ t.1.is_row.written.terms) (omega (arith, count-variables, hv))
      ∙ ap (λ (i : ℕ). coef_at n b i v) t.1.id

  number-at : (get : Variable → ℤ) (f : ℕ → ℤ) (xs : List ℤ) (v : ℕ) → map get program.variables.items ≡ xs → xs ≡ tabulate f (variables n) → v < length program.variables.items
      → get_or (map get program.variables.items) v (pos 0) ≡ f v
  number-at get f xs v e g lt = ap (λ (l : List ℤ). get_or l v (pos 0)) (e ∙ g) ∙ get_or-tabulate f (variables n) v (pos 0) (omega (arith, count-variables, lt))

  pub box-program : IsBoxProgram n form b (program_of program)
  box-program = record {
    variables = count-variables;
    rows = count-rows ∙ count-lp;
    coef = coef-is;
    constant = λ r lt. let t = row-there r lt in t.1.constant ∙ t.1.is_row.written.constant ∙ ap (λ (i : ℕ). constant_at n b i) t.1.id;
    kind = λ r lt.
        let t = row-there r lt in
        ap (λ (e : Bool). if e then equal else at_least) t.1.equal ∙ t.1.is_row.kind ∙ ap (λ (i : ℕ). kind_at n b i) t.1.id;
    cost = λ v lt. number-at (λ (x : Variable). x.cost) (by_number n (costs n)) lp.cost.items v vs.cost is.over.costs lt;
    low = λ v lt. number-at (λ (x : Variable). x.low) (by_number n (lows n b)) lp.low.items v vs.low is.over.low lt;
    high = λ v lt. number-at (λ (x : Variable). x.high) (by_number n (highs n b)) lp.high.items v vs.high is.over.high lt;
  }

  -- ---- the run can start

  term-size : (id v : ℕ) → id < rows n → v < variables n → unsigned_abs (coef_at n b id v) * max (unsigned_abs (by_number n (lows n b) v)) (unsigned_abs (by_number n (highs n b) v)) ≤ 2 * 10 ^ 28
  unfolding coef_at
  term-size id v lt hv = term-capped n b limited proper id v lt hv

  constant-size : (id : ℕ) → id < rows n → unsigned_abs (constant_at n b id) ≤ 10 ^ 24
  unfolding constant_at
  constant-size id lt = (row-capped n b limited proper id lt).constant

  pub ready : variables n ≤ 4096 → IsReady program
  ready few = record {
    terms = λ r lt.
        let t = row-there r lt in
        subst (λ (m : ℕ). AreTerms m 0 (get_or (map (λ (w : BoundedRow). w.terms.items) program.rows.items) r [])) (sym count-variables)
        (terms-written (get_or (map (λ (w : BoundedRow). w.terms.items) program.rows.items) r []) (coef_at n b t.0.id) (variables n) (t.1.terms ∙ t.1.is_row.written.terms));
    short = λ r lt.
        let p = program_of program in
        let t = row-there r lt in
        let id = row_number n form r in
        let known : id < rows n = subst (λ (i : ℕ). i < rows n) t.1.id t.1.is_row.known in
        let constant : unsigned_abs (p.constant r) ≤ 10 ^ 24 = subst (λ (z : ℤ). unsigned_abs z ≤ 10 ^ 24) (sym (box-program.constant r lt)) (constant-size id known) in
        let sum : sum_below (λ v. unsigned_abs (p.coef r v) * end_size p v) p.variables ≤ sum_below (λ v. 2 * 10 ^ 28) p.variables =
        sum_below-le (λ v. unsigned_abs (p.coef r v) * end_size p v) (λ v. 2 * 10 ^ 28) p.variables
        (λ v hv.
        let vn : v < variables n = omega (arith, count-variables, hv) in
        subst (λ (k : ℕ). k ≤ 2 * 10 ^ 28)
        (ap (λ (z : ℤ). unsigned_abs z * max (unsigned_abs (by_number n (lows n b) v)) (unsigned_abs (by_number n (highs n b) v))) (sym (coef-is r v lt hv))
        ∙ ap (λ (z : ℤ). unsigned_abs (p.coef r v) * max (unsigned_abs z) (unsigned_abs (by_number n (highs n b) v))) (sym (box-program.low v hv))
        ∙ ap (λ (z : ℤ). unsigned_abs (p.coef r v) * max (unsigned_abs (p.low v)) (unsigned_abs z)) (sym (box-program.high v hv)))
        (term-size id v known vn)) in
        let count : p.variables ≤ 4096 = omega (arith, count-variables, few) in
        total (unsigned_abs (p.constant r)) (sum_below (λ v. unsigned_abs (p.coef r v) * end_size p v) p.variables) p.variables constant count sum;
  }
    where
      same-sum : (k m : ℕ) → sum_below (λ v. k) m ≡ k * m
      same-sum k zero = omega arith
      same-sum k (suc m) = omega (arith, same-sum k m)

      total : (c s m : ℕ) → c ≤ 10 ^ 24 → m ≤ 4096 → s ≤ sum_below (λ v. 2 * 10 ^ 28) m → c + s < 2 ^ 127
      total c s m hc hm hs = omega (arith, same-sum (2 * 10 ^ 28) m)
