-- How the rest of a half's line begins: the word for no proof, or a scale.
use Rattle.std.proofs.Common.{◌≡◌, ℕ, ◌-◌, ◌^◌, ◌<◌, ◌≤◌, Bool, true, false, cond, eqb, List, [], ◌∷◌, ◌++◌, Option, Some, None, refl, sym, ap, subst, ◌≢◌, ◌∙◌, inl, arith, lit<, lit≤, Ok}
use Rattle.std.specs.Prelude.{codes}
use Rattle.std.proofs.lemmas.Bool.{eqb-true}
use Rattle.cert_text.specs.Lines.{first_line}
use Rattle.cert_text.specs.declared.pieces.Ends.TheVariants.{Space}
use Rattle.cert_text.specs.declared.fault.Stop.{Stop}
use Rattle.cert_text.specs.declared.fault.Stop.TheVariants.{Text, Source}
use Rattle.cert_text.specs.Reading.{At, Stops, ◌>>=◌, found_at, first_byte, first_of, word_at, u64_at, after_word, with_unit, number_from, number_spelling, end_of}
use Rattle.cert_text.proofs.Laws.{Reads}
use Rattle.cert_text.proofs.PieceLaws.{IsPiece, value_of, some_pair, pair_is, after_word_is, after_word-within, number_piece, piece_reads}
use Rattle.job_texts.specs.Reading.{head_spelling, as_none, as_scale, head_from, head_at}

abbrev scale_from : List ℕ → Option (ℕ × List ℕ)
scale_from = number_from (2 ^ 64 - 1) (end_of Space)

-- a scale of 64 bits, where there is one
abbrev pub IsHead : Option ℕ → Type 0
IsHead None = Unit {0}
IsHead (Some scale) = scale < 2 ^ 64

scale_piece : IsPiece ℕ (λ k. k ≤ 2 ^ 64 - 1) (number_spelling (end_of Space)) scale_from
scale_piece = number_piece (2 ^ 64 - 1) (end_of Space) (record { ends = λ k. inl refl }) (lit≤ tt) (lit< tt)

none_is : (cs : List ℕ) (x : Option ℕ) (r : List ℕ) (o : Option (List ℕ)) → after_word (codes "one\n") cs ≡ o → as_none o ≡ some_pair x r → IsHead x × (110 ∷ cs ≡ head_spelling x ++ r)
none_is cs x r None f e = absurd cc
none_is cs x r (Some t) f e =
    let p = pair_is None x t r e in
    let whole : 110 ∷ cs ≡ head_spelling None ++ t = ap (λ (y : List ℕ). 110 ∷ y) (after_word_is (codes "one\n") cs t f) in
    subst (λ (y : Option ℕ). IsHead y × (110 ∷ cs ≡ head_spelling y ++ r)) p.0 (tt, whole ∙ ap (λ (y : List ℕ). head_spelling None ++ y) p.1)

scale_is : (b : List ℕ) (x : Option ℕ) (r : List ℕ) (o : Option (ℕ × List ℕ)) → scale_from b ≡ o → as_scale o ≡ some_pair x r → IsHead x × (b ≡ head_spelling x ++ r)
scale_is b x r None f e = absurd cc
scale_is b x r (Some q) f e =
    let p = pair_is (Some q.0) x q.1 r e in
    let t = scale_piece.takes b q.0 q.1 f in
    subst (λ (y : Option ℕ). IsHead y × (b ≡ head_spelling y ++ r)) p.0 (omega (arith, t.0), t.1 ∙ ap (λ (y : List ℕ). head_spelling (Some q.0) ++ y) p.1)

head_is : (b : List ℕ) (x : Option ℕ) (r : List ℕ) → head_from b ≡ some_pair x r → IsHead x × (b ≡ head_spelling x ++ r)
head_is [] x r e = absurd cc
head_is (c ∷ cs) x r e = by_letter (eqb c 110) (eqb-true c 110) e
  where
    by_letter : (t : Bool) → (t ≡ true → c ≡ 110) → cond t (as_none (after_word (codes "one\n") cs)) (as_scale (scale_from (c ∷ cs))) ≡ some_pair x r → IsHead x × (c ∷ cs ≡ head_spelling x ++ r)
    by_letter true h k = subst (λ (d : ℕ). IsHead x × (d ∷ cs ≡ head_spelling x ++ r)) (sym (h refl)) (none_is cs x r (after_word (codes "one\n") cs) refl k)
    by_letter false h k = scale_is (c ∷ cs) x r (scale_from (c ∷ cs)) refl k

-- a number that is read is no word
plain_scale : (b : List ℕ) (k : ℕ) (r : List ℕ) → scale_from b ≡ some_pair k r → head_from b ≡ some_pair (Some k) r
plain_scale [] k r e = absurd cc
plain_scale (c ∷ cs) k r e = by_letter (eqb c 110) (eqb-true c 110)
  where
    by_letter : (t : Bool) → (t ≡ true → c ≡ 110) → cond t (as_none (after_word (codes "one\n") cs)) (as_scale (scale_from (c ∷ cs))) ≡ some_pair (Some k) r
    by_letter true h = absurd (let g : scale_from (c ∷ cs) ≡ None = ap (λ (d : ℕ). scale_from (d ∷ cs)) (h refl) in let f = e in cc)
    by_letter false h = ap as_scale e

head_again : (x : Option ℕ) (r : List ℕ) → IsHead x → head_from (head_spelling x ++ r) ≡ some_pair x r
head_again None r h = refl
head_again (Some k) r h = plain_scale (head_spelling (Some k) ++ r) k r (scale_piece.again k r (omega (arith, h)))

scale-within : (o p : Option (ℕ × List ℕ)) → value_of o ≡ value_of p → value_of (as_scale o) ≡ value_of (as_scale p)
scale-within None None e = refl
scale-within None (Some p) e = absurd cc
scale-within (Some o) None e = absurd cc
scale-within (Some o) (Some p) e = let h : o.0 ≡ p.0 = cc in ap (λ (k : ℕ). some_value (Some k)) h
  where
    some_value : Option ℕ → Option (Option ℕ)
    some_value x = Some x

none-within : (o p : Option (List ℕ)) → value_of (with_unit o) ≡ value_of (with_unit p) → value_of (as_none o) ≡ value_of (as_none p)
none-within None None e = refl
none-within (Some r) (Some q) e = refl
none-within None (Some q) e = absurd cc
none-within (Some r) None e = absurd cc

head_within : (b : List ℕ) → value_of (head_from b) ≡ value_of (head_from (first_line b))
head_within [] = refl
head_within (c ∷ cs) = by_letter (eqb c 110) (eqb c 10) (eqb-true c 110) (eqb-true c 10) (scale_piece.within (c ∷ cs))
  where
    by_letter : (t m : Bool) → (t ≡ true → c ≡ 110) → (m ≡ true → c ≡ 10) → value_of (scale_from (c ∷ cs)) ≡ value_of (scale_from (c ∷ cond m [] (first_line cs)))
        → value_of (cond t (as_none (after_word (codes "one\n") cs)) (as_scale (scale_from (c ∷ cs))))
        ≡ value_of (cond t (as_none (after_word (codes "one\n") (cond m [] (first_line cs)))) (as_scale (scale_from (c ∷ cond m [] (first_line cs)))))
    by_letter false m h k g = scale-within (scale_from (c ∷ cs)) (scale_from (c ∷ cond m [] (first_line cs))) g
    by_letter true false h k g = none-within (after_word (codes "one\n") cs) (after_word (codes "one\n") (first_line cs)) (after_word-within (codes "one\n") cs refl)
    by_letter true true h k g = absurd (let x = h refl in let y = k refl in omega arith)

pub head_reads : Reads (Option ℕ) IsHead head_spelling head_at
head_reads = piece_reads (Option ℕ) IsHead head_spelling head_from (record {
  takes = λ b x r e. head_is b x r e;
  again = λ x r h. head_again x r h;
  within = head_within;
  some = (None, tt);
})

-- ---- the first byte tells which

head-none : (a : At) → first_of a ≡ Some 110 → head_at a ≡ (word_at (codes "none\n") a >>= λ w. Ok (None, w.1))
head-none a e = by_rest a.line a.rest e
  where
    by_word : (line : ℕ) (o : Option (List ℕ)) → found_at line head_spelling (as_none o) ≡ (found_at line (λ _. codes "none\n") (with_unit o) >>= λ w. Ok (None, w.1))
    by_word line None = refl
    by_word line (Some r) = refl

    by_rest : (line : ℕ) (rest : List ℕ) → first_byte rest ≡ Some 110 → head_at (record { line = line; rest = rest }) ≡ (word_at (codes "none\n") (record { line = line; rest = rest }) >>= λ w. Ok (None, w.1))
    by_rest line [] e = absurd cc
    by_rest line (c ∷ cs) e =
        let h : c ≡ 110 = cc in
        subst (λ (d : ℕ). head_at (record { line = line; rest = d ∷ cs }) ≡ (word_at (codes "none\n") (record { line = line; rest = d ∷ cs }) >>= λ w. Ok (None, w.1))) (sym h)
        (by_word line (after_word (codes "one\n") cs))

head-scale : (a : At) → first_of a ≢ Some 110 → head_at a ≡ (u64_at Space a >>= λ k. Ok (Some k.0, k.1))
head-scale a other = by_rest a.line a.rest other
  where
    by_number : (line : ℕ) (o : Option (ℕ × List ℕ)) → found_at line head_spelling (as_scale o) ≡ (found_at line (number_spelling (end_of Space)) o >>= λ k. Ok (Some k.0, k.1))
    by_number line None = refl
    by_number line (Some p) = refl

    by_rest : (line : ℕ) (rest : List ℕ) → first_byte rest ≢ Some 110 → head_at (record { line = line; rest = rest }) ≡ (u64_at Space (record { line = line; rest = rest }) >>= λ k. Ok (Some k.0, k.1))
    by_rest line [] other = refl
    by_rest line (c ∷ cs) other = by_letter (eqb c 110) (eqb-true c 110)
      where
        by_letter : (t : Bool) → (t ≡ true → c ≡ 110) → found_at line head_spelling (cond t (as_none (after_word (codes "one\n") cs)) (as_scale (scale_from (c ∷ cs))))
            ≡ (found_at line (number_spelling (end_of Space)) (scale_from (c ∷ cs)) >>= λ k. Ok (Some k.0, k.1))
        by_letter true h = absurd (other (ap (λ (d : ℕ). first_byte (d ∷ cs)) (h refl)))
        by_letter false h = by_number line (scale_from (c ∷ cs))

pub none_found : (a b : At) → first_of a ≡ Some 110 → word_at (codes "none\n") a ≡ Ok (tt, b) → head_at a ≡ Ok (None, b)
none_found a b e h = rw (head-none a e, h) refl

pub none_stops : (a : At) (s : Stop) (broken : Bool) → first_of a ≡ Some 110 → Stops s broken (word_at (codes "none\n") a) → Stops s broken (head_at a)
none_stops a (Text f) broken e h = rw (head-none a e, h) refl
none_stops a Source broken e h = h

pub scale_found : (a b : At) (k : ℕ) → first_of a ≢ Some 110 → u64_at Space a ≡ Ok (k, b) → head_at a ≡ Ok (Some k, b)
scale_found a b k other h = rw (head-scale a other, h) refl

pub scale_stops : (a : At) (s : Stop) (broken : Bool) → first_of a ≢ Some 110 → Stops s broken (u64_at Space a) → Stops s broken (head_at a)
scale_stops a (Text f) broken other h = rw (head-scale a other, h) refl
scale_stops a Source broken other h = h
