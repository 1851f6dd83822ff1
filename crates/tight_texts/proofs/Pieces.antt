-- Points, reasons and marks, piece by piece.
use Rattle.std.proofs.Common.{◌≡◌, List, ℕ, [], ◌∷◌, ◌++◌, length, sym, ap, ◌∙◌, append_assoc}
use Rattle.std.specs.Prelude.{map, decimal, codes}
use Rattle.std.specs.Fmt.{signed_decimal}
use Rattle.std.specs.List.{flat_map}
use Rattle.std.proofs.lemmas.List.Concat.{flat_map-append}
use Rattle.cert_writing.specs.Text.{field}
use Rattle.cert_writing.proofs.Pieces.{line_text}
use Rattle.relaxation_points.specs.declared.point.RelaxPoint.{RelaxPoint}
use Rattle.exact_num.specs.Fraction.{Fraction}
use Rattle.tight_texts.specs.Texts.{Operated, point_fields, fraction_fields, operation_word, wide_fields}
use Rattle.tight_texts.specs.Views.{shown_values}

two : (x y q : List ℕ) → ((32 ∷ x) ++ ((32 ∷ y) ++ [])) ++ q ≡ (32 ∷ x) ++ ((32 ∷ y) ++ q)
two x y q = simp append_assoc

-- the fields before the values
abbrev pub base_text : RelaxPoint → List ℕ
base_text q = flat_map field (decimal q.base ∷ decimal (length q.values.items) ∷ [])

pub point_text : (q : RelaxPoint) → base_text q ++ flat_map field (map signed_decimal q.values.items) ≡ flat_map field (point_fields (shown_values q))
point_text q = two (decimal q.base) (decimal (length q.values.items)) (flat_map field (map signed_decimal q.values.items))

pub wide_text : (w : Operated) → flat_map field (codes "2" ∷ operation_word w.operation ∷ []) ++ (flat_map field (fraction_fields w.left) ++ flat_map field (fraction_fields w.right)) ≡ flat_map field (codes "2" ∷ wide_fields w)
wide_text w =
    let front : List (List ℕ) = codes "2" ∷ operation_word w.operation ∷ [] in
    let left = fraction_fields w.left in
    let right = fraction_fields w.right in
    ap (λ (t : List ℕ). flat_map field front ++ t) (sym (flat_map-append field left right)) ∙ sym (flat_map-append field front (left ++ right))

pub coarse_text : (n : List ℕ) (x : Fraction) → (32 ∷ codes "3") ++ (flat_map field (n ∷ []) ++ flat_map field (fraction_fields x)) ≡ flat_map field (codes "3" ∷ n ∷ fraction_fields x)
coarse_text n x = ap (λ (t : List ℕ). (32 ∷ codes "3") ++ t) (sym (flat_map-append field (n ∷ []) (fraction_fields x)))

pub mark_text : (word shown n f : List ℕ) → word ≡ shown → word ++ (((32 ∷ n) ++ []) ++ (f ++ 10 ∷ [])) ≡ shown ++ (((32 ∷ n) ++ f) ++ 10 ∷ [])
mark_text word shown n f e = ap (λ (w : List ℕ). w ++ (((32 ∷ n) ++ []) ++ (f ++ 10 ∷ []))) e ∙ line_text shown n f
