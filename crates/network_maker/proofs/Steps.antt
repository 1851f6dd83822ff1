-- One row more.
use Rattle.std.proofs.Common.{◌≡◌, ℕ, ◌+◌, List, [], ◌∷◌, ◌++◌, map, sym, ap, ◌∙◌, add-one}
use Rattle.std.proofs.lemmas.List.{map-append}
use Rattle.integers.specs.Numbers.{tabulate}

-- a table and one row more
pub row_more : {X Y : Type 0} (view : X → Y) (f : ℕ → Y) (xs ys : List X) (x : X) (i : ℕ) → map view xs ≡ tabulate f i → ys ≡ xs ++ x ∷ [] → view x ≡ f i → map view ys ≡ tabulate f (i + 1)
row_more view f xs ys x i so_far e here =
    ap (map view) e ∙ map-append view xs (x ∷ []) ∙ ap (λ zs. zs ++ view x ∷ []) so_far ∙ ap (λ z. tabulate f i ++ z ∷ []) here ∙ ap (tabulate f) (sym (add-one i))
