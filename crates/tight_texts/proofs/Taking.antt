-- Whether a word stands at the front of what is to come.
use Rattle.std.proofs.Common.{◌≡◌, ℕ, Bool, true, false, cond, eqb, ◌&&◌, List, [], ◌∷◌, Option, Some, None, Err, refl}
use Rattle.std.specs.List.{starts_with}
use Rattle.cert_text.specs.declared.fault.Stop.{Stop}
use Rattle.cert_text.specs.declared.fault.Stop.TheVariants.{Text, Source}
use Rattle.cert_text.specs.Reading.{At, Stops, found_at, after_word, with_unit, word_at}

pub not_begun : (w b : List ℕ) → starts_with eqb b w ≡ false → after_word w b ≡ None
not_begun [] b e = absurd cc
not_begun (w ∷ ws) [] e = refl
not_begun (w ∷ ws) (c ∷ cs) e = by_test (eqb w c) (not_begun ws cs) e
  where
    by_test : (t : Bool) → (starts_with eqb cs ws ≡ false → after_word ws cs ≡ None) → (t && starts_with eqb cs ws) ≡ false → cond t (after_word ws cs) None ≡ None
    by_test true f e2 = f e2
    by_test false f e2 = refl

begun : (w b : List ℕ) → starts_with eqb b w ≡ true → after_word w b ≡ None → ⊥
begun [] b e f = absurd cc
begun (w ∷ ws) [] e f = absurd cc
begun (w ∷ ws) (c ∷ cs) e f = by_test (eqb w c) (begun ws cs) e f
  where
    by_test : (t : Bool) → (starts_with eqb cs ws ≡ true → after_word ws cs ≡ None → ⊥) → (t && starts_with eqb cs ws) ≡ true → cond t (after_word ws cs) None ≡ None → ⊥
    by_test true g e2 f2 = g e2 f2
    by_test false g e2 f2 = absurd cc

-- a word that stands there is read
pub not_stopped : (w : List ℕ) (a : At) (s : Stop) → starts_with eqb a.rest w ≡ true → Stops s false (word_at w a) → ⊥
not_stopped w a (Text f) e h = begun w a.rest e (none_found (after_word w a.rest) h)
  where
    none_found : (o : Option (List ℕ)) → found_at a.line (λ _. w) (with_unit o) ≡ Err f.line → o ≡ None
    none_found None e2 = refl
    none_found (Some r) e2 = absurd cc
not_stopped w a Source e h = absurd (let x = h in cc)
