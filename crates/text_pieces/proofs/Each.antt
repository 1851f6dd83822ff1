-- The texts of numbers, written one behind the other.
use Rattle.std.proofs.Common.{◌≡◌, ℕ, zero, suc, ◌+◌, ◌<◌, ◌⊎◌, inl, inr, List, [], ◌++◌, Option, add-one, append_assoc, arith, refl, sym, ap, ◌∙◌}
use Rattle.std.proofs.lemmas.List.{append-nil}
use Rattle.edge_io.specs.Writing.{behind, TookFront}
use Rattle.edge_io.proofs.Writes.{behind-then, front-at}
use Rattle.text_pieces.specs.Pieces.{each_below}

-- the text of a number, with those before it and behind it
pub record IsSplitAt (text : ℕ → List ℕ) (i n : ℕ) : Type 0 where
  pub rest : List ℕ
  pub parts : each_below text n ≡ each_below text i ++ (text i ++ rest)

each_below-split : (text : ℕ → List ℕ) (i n : ℕ) → i < n → IsSplitAt text i n
each_below-split text i zero h = absurd (omega arith)
each_below-split text i (suc n) h = elim (last_or_below i n h) [
  | inl e ↦ record { rest = []; parts = ap (λ (k : ℕ). each_below text k ++ text k) (sym e) ∙ ap (λ (w : List ℕ). each_below text i ++ w) (sym (append-nil (text i))) }
  | inr l ↦ let s = each_below-split text i n l in record {
    rest = s.rest ++ text n;
    parts = ap (λ (w : List ℕ). w ++ text n) s.parts ∙ append_assoc (each_below text i) (text i ++ s.rest) (text n)
        ∙ ap (λ (w : List ℕ). each_below text i ++ w) (append_assoc (text i) s.rest (text n));
  }
]
  where
    last_or_below : (k n : ℕ) → k < suc n → (k ≡ n) ⊎ (k < n)
    last_or_below k n h = grind arith

-- a fault in the text of a number
pub front-each : (text : ℕ → List ℕ) (i n : ℕ) (old mid new : Option (List ℕ)) → i < n → mid ≡ behind old (each_below text i) → TookFront mid (text i) new → TookFront old (each_below text n) new
front-each text i n old mid new h e front =
    let s = each_below-split text i n h in front-at old (each_below text n) (each_below text i) (text i) s.rest mid new s.parts e front

-- one text more
pub more-each : (text : ℕ → List ℕ) (i : ℕ) (old mid new : Option (List ℕ)) → mid ≡ behind old (each_below text i) → new ≡ behind mid (text i) → new ≡ behind old (each_below text (i + 1))
more-each text i old mid new e f = rw add-one (f ∙ behind-then old mid (each_below text i) (text i) e)

-- the same texts
pub each_below-same : (f g : ℕ → List ℕ) (n : ℕ) → ((i : ℕ) → i < n → f i ≡ g i) → each_below f n ≡ each_below g n
each_below-same f g zero h = refl
each_below-same f g (suc n) h = ap (λ (w : List ℕ). w ++ f n) (each_below-same f g n (λ i lt. h i (omega arith))) ∙ ap (λ (w : List ℕ). each_below g n ++ w) (h n (omega arith))
