-- One of some words, where none of them begins another.
use Rattle.std.proofs.Common.{◌≡◌, ℕ, true, List, [], ◌∷◌, ◌++◌, Option, Some, None, refl, ap, ◌∙◌}
use Rattle.cert_text.specs.Lines.{first_line}
use Rattle.cert_text.specs.Reading.{after_word, with_unit}
use Rattle.cert_text.proofs.Laws.{Reads}
use Rattle.cert_text.proofs.PieceLaws.{value_of, some_pair, pair_is, one_line, after_word_is, after_word-within, piece_reads}
use Rattle.tight_texts.specs.Reading.{as_word, or_else, choice_from, choice_at}

abbrev pub Any : {X : Type 0} → X → Type 0
Any x = Unit {0}

choice_is : (X : Type 0) (spell : X → List ℕ) (xs : List X) (b : List ℕ) (x : X) (r : List ℕ) → choice_from spell xs b ≡ some_pair x r → b ≡ spell x ++ r
choice_is X spell [] b x r e = absurd cc
choice_is X spell (y ∷ ys) b x r e = by_word (after_word (spell y) b) refl (choice_is X spell ys b x r) e
  where
    by_word : (o : Option (List ℕ)) → after_word (spell y) b ≡ o → (choice_from spell ys b ≡ some_pair x r → b ≡ spell x ++ r)
        → or_else (as_word y o) (choice_from spell ys b) ≡ some_pair x r → b ≡ spell x ++ r
    by_word None f later e2 = later e2
    by_word (Some t) f later e2 =
        let p = pair_is y x t r e2 in
        after_word_is (spell y) b t f ∙ ap (λ (z : X). spell z ++ t) p.0 ∙ ap (λ (w : List ℕ). spell x ++ w) p.1

choice_within : (X : Type 0) (spell : X → List ℕ) (xs : List X) → ((x : X) → one_line (spell x) ≡ true) → (b : List ℕ) → value_of (choice_from spell xs b) ≡ value_of (choice_from spell xs (first_line b))
choice_within X spell [] o b = refl
choice_within X spell (y ∷ ys) o b = by_both (after_word (spell y) b) (after_word (spell y) (first_line b)) (after_word-within (spell y) b (o y)) (choice_within X spell ys o b)
  where
    by_both : (p q : Option (List ℕ)) → value_of (with_unit p) ≡ value_of (with_unit q) → value_of (choice_from spell ys b) ≡ value_of (choice_from spell ys (first_line b))
        → value_of (or_else (as_word y p) (choice_from spell ys b)) ≡ value_of (or_else (as_word y q) (choice_from spell ys (first_line b)))
    by_both None None e g = g
    by_both (Some r) (Some q) e g = refl
    by_both None (Some q) e g = absurd cc
    by_both (Some r) None e g = absurd cc

-- the word of a value is found
abbrev pub IsFound : {X : Type 0} → (X → List ℕ) → List X → X → List ℕ → Type 0
IsFound spell xs x r = choice_from spell xs (spell x ++ r) ≡ some_pair x r

-- a value is read by its word
pub choice_reads : (X : Type 0) (spell : X → List ℕ) (xs : List X) → ((x : X) → one_line (spell x) ≡ true) → ((x : X) (r : List ℕ) → IsFound spell xs x r)
    → X → Reads X Any spell (choice_at spell xs)
choice_reads X spell xs o again d = piece_reads X Any spell (choice_from spell xs) (record {
  takes = λ b x r e. (tt, choice_is X spell xs b x r e);
  again = λ x r h. again x r;
  within = choice_within X spell xs o;
  some = (d, tt);
})
