-- Which coordinate the rule of a name picks.
use Rattle.std.proofs.Common.{
  ◌≡◌,
  ℕ,
  zero,
  suc,
  ◌<◌,
  ◌≤◌,
  ◌⊎◌,
  inl,
  inr,
  List,
  [],
  ◌∷◌,
  ◌++◌,
  length,
  get_or,
  All,
  Bool,
  true,
  false,
  ℤ,
  pos,
  ◌+ℤ◌,
  ◌-ℤ◌,
  ◌*ℤ◌,
  ◌≤ℤ◌,
  ◌<ℤ◌,
  add-one,
  arith,
  refl,
  sym,
  ap,
  subst,
  ◌∙◌,
}
use Rattle.std.specs.Prelude.{filter}
use Rattle.std.proofs.lemmas.List.{get_or-map, length-map}
use Rattle.std.proofs.lemmas.List.Elements.{All-get_or}
use Rattle.std.proofs.lemmas.Grind.{common_steps}
use Rattle.integers.specs.Numbers.{tabulate}
use Rattle.pool_model.specs.Network.{Net}
use Rattle.std.proofs.lemmas.Bool.{cases_lt}
use Rattle.row_model.specs.Boxes.{Box, root, coords}
use Rattle.row_model.specs.Trees.{Split as Cut}
use Rattle.box_tree.specs.Counts.{cuts_on}
use Rattle.box_space.specs.declared.coordinates.Form.{Form}
use Rattle.box_space.specs.declared.coordinates.Split.{Split}
use Rattle.branching.specs.Rows.{View, row_at, no_row, width_of, IsOpenAt}
use Rattle.branching.specs.Rules.{Answers, IsPick}
use Rattle.branching.specs.Known.{IsFirstOpen, IsFirstGreatest, IsMoreCut, IsNarrower, IsPickedBy}
use Rattle.branching.specs.declared.view.CoordRow.{CoordRow}
use Rattle.dual_rounding.proofs.FormRows.{passes_more, fails_more, All-numbers}
use Rattle.branching.specs.declared.name.RuleName.{RuleName}
use Rattle.branching.specs.declared.name.RuleName.TheVariants.{First, Widest, Violated, Fewest}
use Rattle.leaf_cuts.specs.Views.{form_coords, IsRowOf, AreRowsOf, IsViewOf}
use Rattle.search_core.specs.Cases.{IsCuttable}
use Rattle.leaf_cuts.proofs.FormCoords.{cuts_at, row-of}
use Rattle.search_run.specs.Orders.{picked}
use Rattle.search_run.specs.Steps.{width, IsNarrowerAt, IsWidest, IsFewest, IsChosen}

-- ---- the coordinates of a view's rows rise

abbrev IsRising : List ℕ → Type 0
IsRising xs = (i j : ℕ) → i < j → j < length xs → get_or xs i 0 < get_or xs j 0

rising-push : (xs : List ℕ) (c : ℕ) → IsRising xs → All (λ d. d < c) xs → IsRising (xs ++ c ∷ [])
rising-push xs c rising less i j h k = grind (arith, common_steps, rising i j h, λ (l : i < length xs). All-get_or (λ d. d < c) xs i 0 l less)

true_or_false : (b : Bool) → (b ≡ true) ⊎ (b ≡ false)
true_or_false b = elim b as (λ v. (v ≡ true) ⊎ (v ≡ false)) [ true ↦ inl refl | false ↦ inr refl ]

rising-numbers : (p : ℕ → Bool) (n : ℕ) → IsRising (filter p (tabulate (λ i. i) n))
rising-numbers p zero = λ i j h k. absurd (omega arith)
rising-numbers p (suc n) =
    subst (λ (m : ℕ). IsRising (filter p (tabulate (λ i. i) m))) (add-one n)
    (elim (true_or_false (p n)) [
      | inl t ↦ subst IsRising (sym (passes_more p n t)) (rising-push (filter p (tabulate (λ i. i) n)) n (rising-numbers p n) (All-numbers p n))
      | inr f ↦ subst IsRising (sym (fails_more p n f)) (rising-numbers p n)
    ])

module _ (n : Net) (form : Form) (splits : List Cut) (b : Box) (rows : List CoordRow) (are : AreRowsOf n form splits b rows) where
  coord-at : (i : ℕ) → i < length rows → get_or (form_coords n form) i 0 ≡ (row_at rows i).coord
  coord-at i h = ap (λ (xs : List ℕ). get_or xs i 0) (sym are.coords) ∙ get_or-map (λ (r : CoordRow). r.coord) rows i no_row 0 h

  long : length (form_coords n form) ≡ length rows
  long = ap (λ (xs : List ℕ). length xs) (sym are.coords) ∙ length-map rows (λ (r : CoordRow). r.coord)

  coords-rise : (i j : ℕ) → i < j → j < length rows → (row_at rows i).coord < (row_at rows j).coord
  coords-rise i j h k =
      let less = rising-numbers (cuts_at n form) (coords n) i j h (omega (arith, long, k)) in
      omega (arith, less, coord-at i (omega arith), coord-at j k)

  ends-at : (i : ℕ) → i < length rows → IsRowOf n splits b (row_at rows i)
  ends-at i h = All-get_or (IsRowOf n splits b) rows i no_row h are.ends

  -- the open row of a coordinate at which the box can be cut
  row-open : (d : ℕ) → IsCuttable n form b d → (j : ℕ) × IsOpenAt rows j × ((row_at rows j).coord ≡ d)
  row-open d cuttable =
      let (j, there, is) = row-of n form splits b rows d are record { known = cuttable.known; of_form = cuttable.of_form } in
      let ends = ends-at j there in
      let wide : (b.low (row_at rows j).coord +ℤ pos 2) ≤ℤ b.high (row_at rows j).coord = subst (λ (c : ℕ). (b.low c +ℤ pos 2) ≤ℤ b.high c) (sym is) cuttable.wide in (
        j,
        record {
          there = there;
          is_open = subst (λ (z : ℤ). ((row_at rows j).low +ℤ pos 2) ≤ℤ z) (sym ends.high) (subst (λ (z : ℤ). (z +ℤ pos 2) ≤ℤ b.high (row_at rows j).coord) (sym ends.low) wide);
        },
        is,
      )

  less-or-more : (a b : ℕ) → (a < b) ⊎ ((a ≡ b) ⊎ (b < a))
  less-or-more a b = grind arith

  -- a row of a lower coordinate stands before
  sooner : (i j : ℕ) → j < length rows → (row_at rows j).coord < (row_at rows i).coord → j < i
  sooner i j h less = elim (less-or-more j i) [
    | inl l ↦ l
    | inr r ↦ elim r [
      | inl e ↦ absurd (omega (arith, less, ap (λ (m : ℕ). (row_at rows m).coord) e))
      | inr g ↦ absurd (omega (arith, less, coords-rise i j g h))
    ]
  ]

  -- ---- the first

  chosen-first : (i : ℕ) → IsFirstOpen rows i → (d : ℕ) → IsCuttable n form b d → (row_at rows i).coord ≤ d
  chosen-first i is d cuttable =
      let (j, here, at) = row-open d cuttable in
      elim (before-or-not j i) [
        | inl h ↦ absurd (is.first j h here)
        | inr h ↦ no-later i j h here.there at
      ]
    where
      before-or-not : (j i : ℕ) → (j < i) ⊎ (i ≤ j)
      before-or-not j i = grind arith

      same-or-less : (i j : ℕ) → i ≤ j → (i ≡ j) ⊎ (i < j)
      same-or-less i j h = grind arith

      no-later : (i j : ℕ) → i ≤ j → j < length rows → (row_at rows j).coord ≡ d → (row_at rows i).coord ≤ d
      no-later i j h k at = elim (same-or-less i j h) [
        | inl e ↦ omega (arith, ap (λ (m : ℕ). (row_at rows m).coord) e, at)
        | inr l ↦ omega (arith, coords-rise i j l k, at)
      ]

  -- ---- the widest

  width-at : (i : ℕ) → i < length rows → width_of (row_at rows i) ≡ width b (row_at rows i).coord
  width-at i h = let e = ends-at i h in ap (λ (z : ℤ). z -ℤ (row_at rows i).low) e.high ∙ ap (λ (z : ℤ). b.high (row_at rows i).coord -ℤ z) e.low

  root-at : (i : ℕ) → i < length rows → (row_at rows i).root_width ≡ width (root n) (row_at rows i).coord
  root-at i h = (ends-at i h).root_width

  products : (i j : ℕ) → i < length rows → j < length rows
      → (width_of (row_at rows i) *ℤ (row_at rows j).root_width) ≡ (width b (row_at rows i).coord *ℤ width (root n) (row_at rows j).coord)
  products i j h k = ap (λ (z : ℤ). z *ℤ (row_at rows j).root_width) (width-at i h) ∙ ap (λ (z : ℤ). width b (row_at rows i).coord *ℤ z) (root-at j k)

  narrower-to : (i j : ℕ) → i < length rows → j < length rows → IsNarrower (row_at rows i) (row_at rows j) → IsNarrowerAt n b (row_at rows i).coord (row_at rows j).coord
  narrower-to i j h k less =
      subst (λ (z : ℤ). (width b (row_at rows i).coord *ℤ width (root n) (row_at rows j).coord) <ℤ z) (products j i k h)
      (subst (λ (z : ℤ). z <ℤ (width_of (row_at rows j) *ℤ (row_at rows i).root_width)) (products i j h k) less)

  narrower-from : (i j : ℕ) → i < length rows → j < length rows → IsNarrowerAt n b (row_at rows i).coord (row_at rows j).coord → IsNarrower (row_at rows i) (row_at rows j)
  narrower-from i j h k less =
      subst (λ (z : ℤ). (width_of (row_at rows i) *ℤ (row_at rows j).root_width) <ℤ z) (sym (products j i k h))
      (subst (λ (z : ℤ). z <ℤ (width b (row_at rows j).coord *ℤ width (root n) (row_at rows i).coord)) (sym (products i j h k)) less)

  chosen-widest : (i : ℕ) → IsFirstGreatest IsNarrower rows i → IsWidest n form b (row_at rows i).coord
  chosen-widest i is = record {
    widest = λ d cuttable less.
        let (j, here, at) = row-open d cuttable in
        is.greatest j here (narrower-from i j is.is_open.there here.there (subst (IsNarrowerAt n b (row_at rows i).coord) (sym at) less));
    first = λ d cuttable lower.
        let (j, here, at) = row-open d cuttable in
        subst (λ (c : ℕ). IsNarrowerAt n b c (row_at rows i).coord) at
        (narrower-to j i here.there is.is_open.there (is.first j (sooner i j here.there (omega (arith, at, lower))) here));
  }

  -- ---- the one with the fewest splits

  chosen-fewest : (i : ℕ) → IsFirstGreatest IsMoreCut rows i → IsFewest n form splits b (row_at rows i).coord
  chosen-fewest i is = record {
    fewest = λ d cuttable.
        let (j, here, at) = row-open d cuttable in
        elim (cases_lt (row_at rows j).cuts (row_at rows i).cuts) [
          | inl l ↦ absurd (is.greatest j here l)
          | inr g ↦ omega (arith, g, (ends-at i is.is_open.there).cuts, (ends-at j here.there).cuts, ap (λ (c : ℕ). cuts_on splits c) at)
        ];
    first = λ d cuttable lower.
        let (j, here, at) = row-open d cuttable in
        let less = is.first j (sooner i j here.there (omega (arith, at, lower))) here in
        omega (arith, less, (ends-at i is.is_open.there).cuts, (ends-at j here.there).cuts, ap (λ (c : ℕ). cuts_on splits c) at);
  }

-- ---- the rule of a name

-- what the rule answered holds of the view
answered-by : (rule : RuleName) (v : View) (i : ℕ) → Answers (picked rule) v i → IsPickedBy rule v.rows i
answered-by rule v i a = subst (λ (w : View). IsPickedBy rule w.rows i) a.shows a.says

pub pick-chosen : (n : Net) (form : Form) (rule : RuleName) (splits : List Cut) (b : Box) (node : ℕ) (v : View) (split : Split)
    → IsViewOf n form splits b node v → IsPick (picked rule) v split → IsChosen n form rule splits b split.coord
pick-chosen n form First splits b node v split seen pick = λ d cuttable.
    subst (λ (c : ℕ). c ≤ d) (sym pick.split_at.coord) (chosen-first n form splits b v.rows seen.rows pick.place (answered-by First v pick.place pick.answered) d cuttable)
pick-chosen n form Widest splits b node v split seen pick =
    subst (IsWidest n form b) (sym pick.split_at.coord) (chosen-widest n form splits b v.rows seen.rows pick.place (answered-by Widest v pick.place pick.answered))
pick-chosen n form Violated splits b node v split seen pick = tt
pick-chosen n form Fewest splits b node v split seen pick =
    subst (IsFewest n form splits b) (sym pick.split_at.coord) (chosen-fewest n form splits b v.rows seen.rows pick.place (answered-by Fewest v pick.place pick.answered))
