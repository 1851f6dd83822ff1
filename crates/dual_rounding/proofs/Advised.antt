-- The parts of an advice, row by row.
use Rattle.std.proofs.Common.{◌≡◌, ℕ, ◌+◌, ◌<◌, ◌≤◌, List, [], ◌∷◌, ◌++◌, map, take, length, get_or, ℤ}
use Rattle.std.proofs.Common.{add-one, arith, sym, ap, ◌∙◌}
use Rattle.std.specs.List.{zip}
use Rattle.std.proofs.Math.Seq.{take-suc}
use Rattle.std.proofs.lemmas.List.{map-append, take_all}
use Rattle.std.proofs.lemmas.List.Elements.{filter-append}
use Rattle.std.proofs.lemmas.Slice.Zip.{get_or-zip, length-zip}
use Rattle.row_model.specs.Multipliers.{Part}
use Rattle.linear_program.specs.declared.lp.LpRow.{LpRow}
use Rattle.dual_rounding.specs.Price.{is_nonzero, nonzero}
use Rattle.dual_rounding.specs.Tried.{advised_part}

module _ (scale : ℕ) (rows : List LpRow) (duals : List ℤ) where
  -- the parts of the first rows
  abbrev pub parts_before : ℕ → List Part
  parts_before k = nonzero (map (advised_part scale) (take k (zip rows duals)))

  -- one row more
  pub parts-more : (k : ℕ) (row : LpRow) (dual : ℤ) → k < length rows → k < length duals → row ≡ get_or rows k row → dual ≡ get_or duals k dual
      → parts_before (k + 1) ≡ parts_before k ++ nonzero (advised_part scale (row, dual) ∷ [])
  parts-more k row dual in_rows in_duals is_row is_dual =
      let pairs = zip rows duals in
      let here : get_or pairs k (row, dual) ≡ (row, dual) =
      get_or-zip rows duals k (row, dual) in_rows in_duals ∙ ap (λ (r : LpRow). (r, get_or duals k dual)) (sym is_row) ∙ ap (λ (z : ℤ). (row, z)) (sym is_dual) in
      let long : k < length pairs = omega (arith, length-zip rows duals) in
      ap parts_before (add-one k)
      ∙ ap (λ zs. nonzero (map (advised_part scale) zs)) (take-suc pairs k (row, dual) long ∙ ap (λ p. take k pairs ++ p ∷ []) here)
      ∙ ap nonzero (map-append (advised_part scale) (take k pairs) ((row, dual) ∷ []))
      ∙ filter-append is_nonzero (map (advised_part scale) (take k pairs)) (advised_part scale (row, dual) ∷ [])

  -- all rows
  pub parts-all : (k : ℕ) → length (zip rows duals) ≤ k → parts_before k ≡ nonzero (map (advised_part scale) (zip rows duals))
  parts-all k h = ap (λ zs. nonzero (map (advised_part scale) zs)) (take_all k (zip rows duals) h)
