-- The same line by the same numbers and names.
use Rattle.std.proofs.Common.{◌≡◌, ℕ, List, [], ◌∷◌, codes, ℤ, ap, ◌∙◌}
use Rattle.text_pieces.specs.Decimals.{decimal_text}
use Rattle.text_pieces.specs.Pieces.{joined}

-- the lines of a claim, by the numbers that they tell
abbrev pub gap_text : ℤ → ℤ → ℤ → List ℕ
gap_text cost bound gap = joined (codes "kind gap\ncost " ∷ decimal_text cost ∷ codes "\nbound " ∷ decimal_text bound ∷ codes "\ngap " ∷ decimal_text gap ∷ codes "\n" ∷ [])

pub gap_text-same : (a b c x y z : ℤ) → a ≡ x → b ≡ y → c ≡ z → gap_text a b c ≡ gap_text x y z
gap_text-same a b c x y z e f g = ap (λ (v : ℤ). gap_text v b c) e ∙ ap (λ (v : ℤ). gap_text x v c) f ∙ ap (λ (v : ℤ). gap_text x y v) g

abbrev pub only_bound_text : ℤ → List ℕ
only_bound_text bound = joined (codes "kind bound\nbound " ∷ decimal_text bound ∷ codes "\n" ∷ [])
