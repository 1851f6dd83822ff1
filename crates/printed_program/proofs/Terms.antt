-- Terms by name and coefficients by variable: a row of the text is the row of the catalogue.
use Rattle.std.proofs.Common.{◌≡◌, ℕ, ◌+◌, ◌*◌, ◌/◌, ◌%◌, ◌<◌, Bool, true, false, ◌==◌, if◌then◌else◌, [], ◌∷◌, ℤ, pos, ◌+ℤ◌, ◌*ℤ◌, unsigned_abs, arith, refl, sym, ap, subst, ◌∙◌}
use Rattle.std.proofs.Math.IntN.{zero-*ℤ}
use Rattle.std.proofs.Math.Nat.{div-add-mod}
use Rattle.std.proofs.lemmas.Int.{ints}
use Rattle.std.proofs.lemmas.Bool.Decides.{nat_tests}
use Rattle.integers.specs.Sums.{int_sum_by}
use Rattle.integers.proofs.Ring.{additive}
use Rattle.integers.proofs.ByIndex.{int_sum_below-same}
use Rattle.pool_model.specs.Network.{Net}
use Rattle.row_model.specs.Boxes.{root}
use Rattle.row_model.specs.Variables.{PerVariable, path_count, variables, by_number, dot}
use Rattle.row_model.specs.Catalogue.{row_at}
use Rattle.row_model.specs.Lift.{IsMet, MeetsRow}
use Rattle.row_model.proofs.Numbering.{by_number-dot}
use Rattle.row_book.specs.PartRows.{kind_at, coef_at, constant_at}
use Rattle.program_text.specs.Names.{named, name_of}
use Rattle.program_text.specs.declared.names.Name.{Name}
use Rattle.program_text.specs.declared.names.Symbol.TheVariants as symbols
use Rattle.printed_program.specs.ProgramLines.{NamedTerm}
use Rattle.printed_program.specs.Numbers.{Numbers, terms_at, Keeps}
use Rattle.printed_program.specs.Printed.{named_term, named_terms, catalogue_row}
use Rattle.printed_program.specs.Points.{numbers_over}
use Rattle.printed_program.proofs.Lists.{int_sum_by-lists_below}
use Rattle.printed_program.proofs.VariableKinds.{each_variable, at_feed, at_out, at_direct, at_path, at_proportion, at_quality, at_mixed}
use Rattle.printed_program.proofs.VariableKinds.{out_number, direct_number, path_number, proportion_number, quality_number, mixed_number}

-- ---- what each variable's number is in a point of names

-- the numbers by kind that a function of names gives
abbrev pub numbers_of : Net → (Name → ℤ) → PerVariable
numbers_of n f = record {
  x = λ e. f (named symbols.Feed e);
  y = λ o. f (named symbols.Out o);
  z = λ e. f (named symbols.Direct e);
  w = λ a. f (named symbols.Path a);
  proportion = λ e. f (named symbols.Proportion e);
  quality = λ l k. f (named symbols.Quality (l * n.qualities + k));
  mixed = λ o k. f (named symbols.Mixed (o * n.qualities + k));
}

-- a function of names gives these numbers
pub record AreNamed (n : Net) (f : Name → ℤ) (a : PerVariable) : Type 0 where
  pub each : (v : ℕ) → v < variables n → f (name_of n v) ≡ by_number n a v

module _ (n : Net) where
  -- the name of a variable of each kind
  pub name-feed : (e : ℕ) → e < n.feeds → name_of n e ≡ named symbols.Feed e
  name-feed = at_feed n (named symbols.Feed) (named symbols.Out) (named symbols.Direct) (named symbols.Path) (named symbols.Proportion) (named symbols.Quality) (named symbols.Mixed)

  pub name-out : (o : ℕ) → o < n.outs → name_of n (out_number n o) ≡ named symbols.Out o
  name-out = at_out n (named symbols.Feed) (named symbols.Out) (named symbols.Direct) (named symbols.Path) (named symbols.Proportion) (named symbols.Quality) (named symbols.Mixed)

  pub name-direct : (e : ℕ) → e < n.directs → name_of n (direct_number n e) ≡ named symbols.Direct e
  name-direct = at_direct n (named symbols.Feed) (named symbols.Out) (named symbols.Direct) (named symbols.Path) (named symbols.Proportion) (named symbols.Quality) (named symbols.Mixed)

  pub name-path : (a : ℕ) → a < path_count n → name_of n (path_number n a) ≡ named symbols.Path a
  name-path = at_path n (named symbols.Feed) (named symbols.Out) (named symbols.Direct) (named symbols.Path) (named symbols.Proportion) (named symbols.Quality) (named symbols.Mixed)

  pub name-proportion : (e : ℕ) → e < n.feeds → name_of n (proportion_number n e) ≡ named symbols.Proportion e
  name-proportion = at_proportion n (named symbols.Feed) (named symbols.Out) (named symbols.Direct) (named symbols.Path) (named symbols.Proportion) (named symbols.Quality) (named symbols.Mixed)

  pub name-quality : (i : ℕ) → i < n.pools * n.qualities → name_of n (quality_number n i) ≡ named symbols.Quality i
  name-quality = at_quality n (named symbols.Feed) (named symbols.Out) (named symbols.Direct) (named symbols.Path) (named symbols.Proportion) (named symbols.Quality) (named symbols.Mixed)

  pub name-mixed : (i : ℕ) → name_of n (mixed_number n i) ≡ named symbols.Mixed i
  name-mixed = at_mixed n (named symbols.Feed) (named symbols.Out) (named symbols.Direct) (named symbols.Path) (named symbols.Proportion) (named symbols.Quality) (named symbols.Mixed)

  -- the number of a variable of each kind
  module _ (a : PerVariable) where
    abbrev in_grid : (ℕ → ℕ → ℤ) → ℕ → ℤ
    in_grid f i = f (i / n.qualities) (i % n.qualities)

    pub number-feed : (e : ℕ) → e < n.feeds → by_number n a e ≡ a.x e
    number-feed = at_feed n a.x a.y a.z a.w a.proportion (in_grid a.quality) (in_grid a.mixed)

    pub number-out : (o : ℕ) → o < n.outs → by_number n a (out_number n o) ≡ a.y o
    number-out = at_out n a.x a.y a.z a.w a.proportion (in_grid a.quality) (in_grid a.mixed)

    pub number-direct : (e : ℕ) → e < n.directs → by_number n a (direct_number n e) ≡ a.z e
    number-direct = at_direct n a.x a.y a.z a.w a.proportion (in_grid a.quality) (in_grid a.mixed)

    pub number-path : (p : ℕ) → p < path_count n → by_number n a (path_number n p) ≡ a.w p
    number-path = at_path n a.x a.y a.z a.w a.proportion (in_grid a.quality) (in_grid a.mixed)

    pub number-proportion : (e : ℕ) → e < n.feeds → by_number n a (proportion_number n e) ≡ a.proportion e
    number-proportion = at_proportion n a.x a.y a.z a.w a.proportion (in_grid a.quality) (in_grid a.mixed)

    pub number-quality : (i : ℕ) → i < n.pools * n.qualities → by_number n a (quality_number n i) ≡ a.quality (i / n.qualities) (i % n.qualities)
    number-quality = at_quality n a.x a.y a.z a.w a.proportion (in_grid a.quality) (in_grid a.mixed)

    pub number-mixed : (i : ℕ) → by_number n a (mixed_number n i) ≡ a.mixed (i / n.qualities) (i % n.qualities)
    number-mixed = at_mixed n a.x a.y a.z a.w a.proportion (in_grid a.quality) (in_grid a.mixed)

  -- a function of names that gives the numbers kind by kind
  pub named-by_kind : (f : Name → ℤ) (a : PerVariable)
      → ((e : ℕ) → f (named symbols.Feed e) ≡ a.x e)
      → ((o : ℕ) → f (named symbols.Out o) ≡ a.y o)
      → ((e : ℕ) → f (named symbols.Direct e) ≡ a.z e)
      → ((p : ℕ) → f (named symbols.Path p) ≡ a.w p)
      → ((e : ℕ) → f (named symbols.Proportion e) ≡ a.proportion e)
      → ((i : ℕ) → f (named symbols.Quality i) ≡ a.quality (i / n.qualities) (i % n.qualities))
      → ((i : ℕ) → f (named symbols.Mixed i) ≡ a.mixed (i / n.qualities) (i % n.qualities))
      → AreNamed n f a
  named-by_kind f a hx hy hz hw hr hq hm = record {
    each = each_variable n (λ v. f (name_of n v) ≡ by_number n a v) record {
      feed = λ e lt. ap f (name-feed e lt) ∙ hx e ∙ sym (number-feed a e lt);
      out = λ o lt. ap f (name-out o lt) ∙ hy o ∙ sym (number-out a o lt);
      direct = λ e lt. ap f (name-direct e lt) ∙ hz e ∙ sym (number-direct a e lt);
      path = λ p lt. ap f (name-path p lt) ∙ hw p ∙ sym (number-path a p lt);
      proportion = λ e lt. ap f (name-proportion e lt) ∙ hr e ∙ sym (number-proportion a e lt);
      quality = λ i lt. ap f (name-quality i lt) ∙ hq i ∙ sym (number-quality a i lt);
      mixed = λ i lt. ap f (name-mixed i) ∙ hm i ∙ sym (number-mixed a i);
    };
  }

  whole : (i : ℕ) → i ≡ (i / n.qualities) * n.qualities + i % n.qualities
  whole i = omega (arith, div-add-mod i n.qualities, turned n.qualities (i / n.qualities))
    where
      turned : (a b : ℕ) → a * b ≡ b * a
      turned a b = omega arith

  pub numbers-named : (f : Name → ℤ) → AreNamed n f (numbers_of n f)
  numbers-named f = named-by_kind f (numbers_of n f) (λ e. refl) (λ o. refl) (λ e. refl) (λ p. refl) (λ e. refl)
      (λ i. ap (λ (j : ℕ). f (named symbols.Quality j)) (whole i)) (λ i. ap (λ (j : ℕ). f (named symbols.Mixed j)) (whole i))

  pub over-named : (a : PerVariable) (base : ℕ) → AreNamed n (numbers_over n a base).value a
  over-named a base = named-by_kind (numbers_over n a base).value a (λ e. refl) (λ o. refl) (λ e. refl) (λ p. refl) (λ e. refl) (λ i. refl) (λ i. refl)

-- ---- sums of terms

-- a term that is left out adds nothing
term-sum : (n : Net) (q : Numbers) (v : ℕ) (c : ℤ) → int_sum_by (λ t. t.coef *ℤ q.value t.name) (named_term n v c) ≡ c *ℤ q.value (name_of n v)
term-sum n q v c = cases (unsigned_abs c == 0) refl
  where
    nothing : (c : ℤ) → (unsigned_abs c == 0) ≡ true → c ≡ pos 0
    nothing c e = let none : unsigned_abs c ≡ 0 = grind (arith, nat_tests) in omega (arith, ints, none)

    cases : (test : Bool) → (unsigned_abs c == 0) ≡ test
        → int_sum_by (λ (t : NamedTerm). t.coef *ℤ q.value t.name) (if test then [] else record { name = name_of n v; coef = c } ∷ []) ≡ c *ℤ q.value (name_of n v)
    cases true e = sym (ap (λ z. z *ℤ q.value (name_of n v)) (nothing c e) ∙ zero-*ℤ (q.value (name_of n v)))
    cases false e = omega (arith, additive)

pub terms-dot : (n : Net) (q : Numbers) (c a : PerVariable) → AreNamed n q.value a → terms_at q (named_terms n (by_number n c)) ≡ dot n c a
terms-dot n q c a h =
    int_sum_by-lists_below (λ (t : NamedTerm). t.coef *ℤ q.value t.name) (λ v. named_term n v (by_number n c v)) (variables n)
    ∙ int_sum_below-same (λ v. int_sum_by (λ (t : NamedTerm). t.coef *ℤ q.value t.name) (named_term n v (by_number n c v))) (λ v. by_number n c v *ℤ by_number n a v) (variables n)
    (λ v lt. term-sum n q v (by_number n c v) ∙ ap (λ z. by_number n c v *ℤ z) (h.each v lt))
    ∙ by_number-dot n c a

-- ---- rows

-- a row of the text says what the row of the catalogue says
pub row-meets : (n : Net) (q : Numbers) (a : PerVariable) (id : ℕ) → AreNamed n q.value a → Keeps q (catalogue_row n id) → MeetsRow n a q.base (row_at n (root n) id)
unfolding kind_at coef_at constant_at
row-meets n q a id h kept =
    let r = row_at n (root n) id in
    subst (λ z. IsMet r.kind (z +ℤ r.constant *ℤ pos q.base)) (terms-dot n q r.coefs a h) kept

pub row-keeps : (n : Net) (q : Numbers) (a : PerVariable) (id : ℕ) → AreNamed n q.value a → MeetsRow n a q.base (row_at n (root n) id) → Keeps q (catalogue_row n id)
unfolding kind_at coef_at constant_at
row-keeps n q a id h met =
    let r = row_at n (root n) id in
    subst (λ z. IsMet r.kind (z +ℤ r.constant *ℤ pos q.base)) (sym (terms-dot n q r.coefs a h)) met
