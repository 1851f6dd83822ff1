-- The rows of a view, one coordinate of the form after another.
use Rattle.std.proofs.Common.{◌≡◌, ℕ, zero, suc, ◌+◌, ◌<◌, ◌⊎◌, inl, inr, List, [], ◌∷◌, ◌++◌, map, length, get_or, All, Bool, true, false, IsTrue, ◌↔◌}
use Rattle.std.proofs.Common.{add-one, arith, refl, sym, ap, subst, ◌∙◌, length-append}
use Rattle.std.specs.Prelude.{filter}
use Rattle.std.proofs.lemmas.List.{map-append, get_or-map, length-map}
use Rattle.std.proofs.lemmas.List.Elements.{All-append, All-cons, All-nil, All-get_or, filter_passes}
use Rattle.std.proofs.lemmas.Grind.{common_steps}
use Rattle.integers.specs.Numbers.{tabulate}
use Rattle.pool_model.specs.Network.{Net}
use Rattle.row_model.specs.Boxes.{Box, coords, coord_at}
use Rattle.row_model.specs.Trees.{Split}
use Rattle.box_space.specs.Forms.{cuts}
use Rattle.box_space.specs.Views.{AreEndsOf}
use Rattle.box_space.specs.declared.coordinates.Form.{Form}
use Rattle.box_space.specs.declared.boxes.BoxEnds.{BoxEnds}
use Rattle.branching.specs.Rows.{row_at, no_row, IsRow, AreRows}
use Rattle.branching.specs.declared.view.CoordRow.{CoordRow}
use Rattle.branching.proofs.Pushed.{AreRows-push}
use Rattle.dual_rounding.proofs.FormRows.{passes_more, fails_more, All-numbers}
use Rattle.leaf_cuts.specs.Views.{form_coords, IsRowOf, AreRowsOf}

-- whether a form cuts the coordinate of a number
abbrev pub cuts_at : Net → Form → ℕ → Bool
cuts_at n form c = cuts form (coord_at n c)

-- ---- rows so far

-- a row is the tree's, over each box whose ends these are
abbrev pub HasEnds : Net → List Split → BoxEnds → CoordRow → Type 0
HasEnds n splits e r = (b : Box) → AreEndsOf n b e → IsRowOf n splits b r

-- a row for each coordinate of the form below a count
pub record AreSoFar (n : Net) (form : Form) (splits : List Split) (e : BoxEnds) (count : ℕ) (rows : List CoordRow) : Type 0 where
  pub coords : map (λ r. r.coord) rows ≡ filter (cuts_at n form) (tabulate (λ c. c) count)
  pub ends : All (HasEnds n splits e) rows
  pub are : AreRows rows
  pub below : (i : ℕ) → i < length rows → (row_at rows i).coord < count

pub so_far-push : (n : Net) (form : Form) (splits : List Split) (e : BoxEnds) (count : ℕ) (rows : List CoordRow) (r : CoordRow) → AreSoFar n form splits e count rows
    → cuts_at n form count ≡ true → r.coord ≡ count → IsRow r → HasEnds n splits e r → AreSoFar n form splits e (count + 1) (rows ++ r ∷ [])
so_far-push n form splits e count rows r so cut is row ends =
    let below : (i : ℕ) → i < length rows → (row_at rows i).coord < r.coord = λ i h. subst (λ (c : ℕ). (row_at rows i).coord < c) (sym is) (so.below i h) in
    record {
      coords = map-append (λ (s : CoordRow). s.coord) rows (r ∷ []) ∙ ap (λ (xs : List ℕ). xs ++ r.coord ∷ []) so.coords
          ∙ ap (λ (c : ℕ). filter (cuts_at n form) (tabulate (λ c. c) count) ++ c ∷ []) is ∙ sym (passes_more (cuts_at n form) count cut);
      ends = All-append (HasEnds n splits e) rows (r ∷ []) so.ends (All-cons (HasEnds n splits e) r [] ends (All-nil (HasEnds n splits e)));
      are = AreRows-push rows r so.are row below;
      below = λ i h. pushed i h (length-append rows (r ∷ []));
    }
  where
    pushed : (i : ℕ) → i < length (rows ++ r ∷ []) → length (rows ++ r ∷ []) ≡ length rows + 1 → (row_at (rows ++ r ∷ []) i).coord < count + 1
    pushed i h long = grind (arith, common_steps, so.below i, is)

pub so_far-pass : (n : Net) (form : Form) (splits : List Split) (e : BoxEnds) (count : ℕ) (rows : List CoordRow) → AreSoFar n form splits e count rows → cuts_at n form count ≡ false
    → AreSoFar n form splits e (count + 1) rows
so_far-pass n form splits e count rows so uncut = record {
  coords = so.coords ∙ sym (fails_more (cuts_at n form) count uncut);
  ends = so.ends;
  are = so.are;
  below = λ i h. let b = so.below i h in omega arith;
}

-- ---- the coordinates of rows

-- the coordinate of a row is one of the form
pub record IsOfForm (n : Net) (form : Form) (c : ℕ) : Type 0 where
  pub known : c < coords n
  pub of_form : IsTrue (cuts form (coord_at n c))

pub coord-of : (n : Net) (form : Form) (splits : List Split) (b : Box) (rows : List CoordRow) (i : ℕ) → AreRowsOf n form splits b rows → i < length rows → IsOfForm n form (row_at rows i).coord
coord-of n form splits b rows i are h =
    let at : get_or (form_coords n form) i 0 ≡ (row_at rows i).coord =
    ap (λ (xs : List ℕ). get_or xs i 0) (sym are.coords) ∙ get_or-map (λ (r : CoordRow). r.coord) rows i no_row 0 h in
    let long : length (form_coords n form) ≡ length rows = ap (λ (xs : List ℕ). length xs) (sym are.coords) ∙ length-map rows (λ (r : CoordRow). r.coord) in
    let there : i < length (form_coords n form) = omega (arith, long, h) in
    subst (λ (c : ℕ). IsOfForm n form c) at record {
      known = All-get_or (λ (c : ℕ). c < coords n) (form_coords n form) i 0 there (All-numbers (cuts_at n form) (coords n));
      of_form = All-get_or (λ (c : ℕ). cuts_at n form c ≡ true) (form_coords n form) i 0 there (filter_passes (cuts_at n form) (tabulate (λ c. c) (coords n)));
    }

-- each coordinate of the form is there
pub record IsAmong (xs : List ℕ) (c : ℕ) : Type 0 where
  pub place : ℕ
  pub there : place < length xs
  pub is : get_or xs place 0 ≡ c

among-left : (xs ys : List ℕ) (c : ℕ) → IsAmong xs c → IsAmong (xs ++ ys) c
among-left xs ys c a = record { place = a.place; there = omega (arith, a.there, length-append xs ys); is = grind (arith, common_steps, a.is, a.there) }

among-last : (xs : List ℕ) (c : ℕ) → IsAmong (xs ++ c ∷ []) c
among-last xs c = record { place = length xs; there = let e : length (c ∷ []) ≡ 1 = refl in omega (arith, length-append xs (c ∷ []), e); is = grind (arith, common_steps) }

last_or_not : (c n : ℕ) → c < suc n → (c < n) ⊎ (c ≡ n)
last_or_not c n h = grind arith

true_or_false : (b : Bool) → (b ≡ true) ⊎ (b ≡ false)
true_or_false b = elim b as (λ v. (v ≡ true) ⊎ (v ≡ false)) [ true ↦ inl refl | false ↦ inr refl ]

among-numbers : (p : ℕ → Bool) (n c : ℕ) → c < n → p c ≡ true → IsAmong (filter p (tabulate (λ i. i) n)) c
among-numbers p zero c h cut = absurd (omega arith)
among-numbers p (suc n) c h cut =
    subst (λ (m : ℕ). IsAmong (filter p (tabulate (λ i. i) m)) c) (add-one n)
    (elim (true_or_false (p n)) [
      | inl t ↦ subst (λ (xs : List ℕ). IsAmong xs c) (sym (passes_more p n t)) (elim (last_or_not c n h) [
        | inl below ↦ among-left (filter p (tabulate (λ i. i) n)) (n ∷ []) c (among-numbers p n c below cut)
        | inr at ↦ subst (λ (d : ℕ). IsAmong (filter p (tabulate (λ i. i) n) ++ n ∷ []) d) (sym at) (among-last (filter p (tabulate (λ i. i) n)) n)
      ])
      | inr f ↦ subst (λ (xs : List ℕ). IsAmong xs c) (sym (fails_more p n f)) (elim (last_or_not c n h) [
        | inl below ↦ among-numbers p n c below cut
        | inr at ↦ absurd (clash (p n) f (ap p (sym at) ∙ cut))
      ])
    ])
  where
    clash : (b : Bool) → b ≡ false → b ≡ true → ⊥
    clash b e t = cc

pub row-of : (n : Net) (form : Form) (splits : List Split) (b : Box) (rows : List CoordRow) (c : ℕ) → AreRowsOf n form splits b rows → IsOfForm n form c → (i : ℕ) × (i < length rows) × ((row_at rows i).coord ≡ c)
row-of n form splits b rows c are of =
    let a = among-numbers (cuts_at n form) (coords n) c of.known of.of_form in
    let long : length (form_coords n form) ≡ length rows = ap (λ (xs : List ℕ). length xs) (sym are.coords) ∙ length-map rows (λ (r : CoordRow). r.coord) in
    let there : a.place < length rows = omega (arith, long, a.there) in
    (a.place, there, sym (get_or-map (λ (r : CoordRow). r.coord) rows a.place no_row 0 there) ∙ ap (λ (xs : List ℕ). get_or xs a.place 0) are.coords ∙ a.is)

-- what the test of a coordinate says
pub cut-off : (n : Net) (form : Form) (c : ℕ) (r : Bool) → c < coords n → (IsTrue r ↔ ((c < coords n) × IsTrue (cuts form (coord_at n c)))) → r ≡ false → cuts_at n form c ≡ false
cut-off n form c r lt h e = elim (true_or_false (cuts_at n form c)) [ inl t ↦ absurd (untrue r e (h.1 (lt, t))) | inr f ↦ f ]
  where
    untrue : (b : Bool) → b ≡ false → IsTrue b → ⊥
    untrue b f t = cc
