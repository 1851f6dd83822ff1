-- Terms as they are kept and as they are written.
use Rattle.std.proofs.Common.{◌≡◌, ℕ, zero, suc, ◌+◌, Bool, true, false, ◌==◌, if◌then◌else◌, List, [], ◌∷◌, ◌++◌, ℤ, unsigned_abs, zero-add, refl, ap, ◌∙◌}
use Rattle.std.specs.List.{flat_map}
use Rattle.std.proofs.lemmas.List.{append-nil}
use Rattle.std.proofs.lemmas.List.Concat.{flat_map-append}
use Rattle.pool_model.specs.Network.{Net}
use Rattle.box_space.specs.Lines.{term_of, terms_from}
use Rattle.linear_program.specs.declared.terms.Term.{Term}
use Rattle.text_pieces.specs.Pieces.{each_below}
use Rattle.program_text.specs.Lines.{written_term, term_text}

-- the text of one term
one : (n : Net) (v : ℕ) (c : ℤ) → flat_map (λ t. written_term n t.var t.coef) (term_of v c) ≡ term_text n v c
one n v c = cases (unsigned_abs c == 0)
  where
    cases : (test : Bool) → flat_map (λ (t : Term). written_term n t.var t.coef) (if test then [] else record { var = v; coef = c } ∷ []) ≡ (if test then [] else written_term n v c)
    cases true = refl
    cases false = append-nil (written_term n v c)

-- the terms of coefficients that are not 0, written, are the texts of all coefficients
pub terms_from-text : (n : Net) (c : ℕ → ℤ) (m : ℕ) → flat_map (λ t. written_term n t.var t.coef) (terms_from 0 c m) ≡ each_below (λ v. term_text n v (c v)) m
terms_from-text n c zero = refl
terms_from-text n c (suc m) =
    flat_map-append (λ (t : Term). written_term n t.var t.coef) (terms_from 0 c m) (term_of (0 + m) (c m))
    ∙ ap (λ (w : List ℕ). w ++ flat_map (λ (t : Term). written_term n t.var t.coef) (term_of (0 + m) (c m))) (terms_from-text n c m)
    ∙ ap (λ (w : List ℕ). each_below (λ v. term_text n v (c v)) m ++ w) (ap (λ (v : ℕ). flat_map (λ (t : Term). written_term n t.var t.coef) (term_of v (c m))) (zero-add m) ∙ one n m (c m))
