-- Fractions in lowest terms, and bounds, are read as they are spelled.
use Rattle.std.proofs.Common.{◌≡◌, ◌⊎◌, ℕ, zero, suc, ◌+◌, ◌-◌, ◌%◌, ◌^◌, ◌<◌, ◌≤◌, Bool, true, false, cond, eqb, not, ◌&&◌, List, [], ◌∷◌, ◌++◌, Option, Some, None, Ok, refl, sym, ap, subst, ◌∙◌, append_assoc, arith, inl, inr, lit<, lit≤}
use Rattle.std.specs.Prelude.{ℤ, pos, negsuc, FitsSigned, unsigned_abs, codes, nat_lt}
use Rattle.std.specs.Option.{ForSome}
use Rattle.std.specs.Int.{w128, ◌∣◌}
use Rattle.std.proofs.lemmas.Int.{ints}
use Rattle.std.proofs.lemmas.Bool.{eqb-true, eq-eqb}
use Rattle.std.proofs.lemmas.Bool.Decides.{nat_tests}
use Rattle.std.proofs.lemmas.Nat.Gcd.{le_of_dvd, dvd_of_mod-eq-zero, mod-eq-zero_of_dvd}
use Rattle.std.proofs.Math.Nat.{eq-zero_of_zero-dvd}
use Rattle.integers.specs.Divisors.{IsCoprime}
use Rattle.exact_num.specs.Fraction.{Fraction, IsShort}
use Rattle.cert_text.specs.Lines.{first_line, line_feeds}
use Rattle.cert_text.specs.declared.pieces.Ends.{Ends}
use Rattle.cert_text.specs.declared.pieces.Ends.TheVariants.{Space, Line}
use Rattle.cert_text.specs.Reading.{At, ◌>>=◌, found_at, after_word, with_unit, number_from, number_spelling, int_from, int_spelling, counted, negated, below_zero, kept, end_of, i128_at}
use Rattle.cert_text.proofs.Laws.{Reads, ok_is, bind_reads, done_reads, reworded}
use Rattle.cert_text.proofs.PieceLaws.{IsPiece, IsEnd, value_of, some_pair, pair_is, after_word_is, after_word-within, piece_reads, number_piece, kept_piece}
use Rattle.cert_text.proofs.NumberLaws.{i128_reads, word_then}
use Rattle.tight_texts.specs.Texts.{IsFraction, bound_text, bound_line}
use Rattle.tight_texts.specs.Reading.{as_word, or_else, as_some, bound_spelling, bound_from, bound_at, is_short, num_at, none_divides, is_lowest, den_at, fraction_at}

order : (d m : ℕ) → (d < m) ⊎ (m ≤ d)
order d m = grind arith

-- ---- lowest terms

none_is : (a b k : ℕ) → none_divides a b k ≡ true → (d : ℕ) → 2 ≤ d → d ≤ k + 1 → d ∣ a → d ∣ b → ⊥
none_is a b zero e d two le p q = absurd (omega arith)
none_is a b (suc k) e d two le p q = by_test (eqb (a % suc (suc k)) 0) (eqb (b % suc (suc k)) 0)
    (λ h. eq-eqb (a % suc (suc k)) 0 (subst (λ (m : ℕ). a % m ≡ 0) h (mod-eq-zero_of_dvd d p)))
    (λ h. eq-eqb (b % suc (suc k)) 0 (subst (λ (m : ℕ). b % m ≡ 0) h (mod-eq-zero_of_dvd d q)))
    e (λ h l. none_is a b k h d two l p q)
  where
    below : (d ≡ suc (suc k) → ⊥) → d ≤ k + 1
    below n = elim (order d (suc (suc k))) [ inl lt ↦ omega arith | inr ge ↦ absurd (n (omega arith)) ]

    by_test : (t u : Bool) → (d ≡ suc (suc k) → t ≡ true) → (d ≡ suc (suc k) → u ≡ true) → (not (t && u) && none_divides a b k) ≡ true
        → (none_divides a b k ≡ true → d ≤ k + 1 → ⊥) → ⊥
    by_test true true f g e2 later = absurd cc
    by_test false u f g e2 later = later e2 (below (λ h. let x = f h in cc))
    by_test true false f g e2 later = later e2 (below (λ h. let x = g h in cc))

none_again : (a b k : ℕ) → IsCoprime a b → none_divides a b k ≡ true
none_again a b zero h = refl
none_again a b (suc k) h = by_test (eqb (a % suc (suc k)) 0) (eqb (b % suc (suc k)) 0) (eqb-true (a % suc (suc k)) 0) (eqb-true (b % suc (suc k)) 0) (none_again a b k h)
  where
    by_test : (t u : Bool) → (t ≡ true → a % suc (suc k) ≡ 0) → (u ≡ true → b % suc (suc k) ≡ 0) → none_divides a b k ≡ true → (not (t && u) && none_divides a b k) ≡ true
    by_test true true f g i = absurd (let e = h (suc (suc k)) (dvd_of_mod-eq-zero (suc (suc k)) (f refl)) (dvd_of_mod-eq-zero (suc (suc k)) (g refl)) in omega arith)
    by_test false u f g i = i
    by_test true false f g i = i

-- a divisor of a number above 0 isn't 0
above_zero : (d b : ℕ) → 0 < b → d ∣ b → d < 1 → ⊥
above_zero d b p q lt = let e : d ≡ 0 = omega arith in let z : b ≡ 0 = eq-zero_of_zero-dvd (subst (λ (m : ℕ). m ∣ b) e q) in omega arith

coprime : (a b : ℕ) → 0 < b → none_divides a b b ≡ true → IsCoprime a b
coprime a b p e d q r = elim (order d 2) [
  | inl small ↦ elim (order d 1) [ inl z ↦ absurd (above_zero d b p r z) | inr one ↦ omega arith ]
  | inr two ↦ let le = le_of_dvd p r in absurd (none_is a b b e d two (omega arith) q r)
]

lt_is : (n m : ℕ) → nat_lt n m ≡ true → n < m
lt_is n m h = grind (arith, nat_tests)

lt_again : (n m : ℕ) → n < m → nat_lt n m ≡ true
lt_again n m h = grind (arith, nat_tests)

pub lowest_is : (num : ℤ) (den : ℕ) → is_lowest num den ≡ true → (0 < den) × IsCoprime (unsigned_abs num) den
lowest_is num den e = by_test (nat_lt 0 den) (lt_is 0 den) e
  where
    by_test : (t : Bool) → (t ≡ true → 0 < den) → (t && none_divides (unsigned_abs num) den den) ≡ true → (0 < den) × IsCoprime (unsigned_abs num) den
    by_test true f e2 = (f refl, coprime (unsigned_abs num) den (f refl) e2)
    by_test false f e2 = absurd cc

pub lowest_again : (num : ℤ) (den : ℕ) → 0 < den → IsCoprime (unsigned_abs num) den → is_lowest num den ≡ true
lowest_again num den p h = by_test (nat_lt 0 den) (lt_again 0 den p) (none_again (unsigned_abs num) den den h)
  where
    by_test : (t : Bool) → t ≡ true → none_divides (unsigned_abs num) den den ≡ true → (t && none_divides (unsigned_abs num) den den) ≡ true
    by_test true f g = g
    by_test false f g = absurd cc

one_lowest : (num : ℤ) → is_lowest num 1 ≡ true
one_lowest num = lowest_again num 1 (lit< tt) (λ d p q. elim (order d 1) [ inl z ↦ absurd (above_zero d 1 (lit< tt) q z) | inr one ↦ let le = le_of_dvd (lit< tt) q in omega arith ])

-- ---- numbers with a sign

counted-within : (o p : Option (ℕ × List ℕ)) → value_of o ≡ value_of p → value_of (counted o) ≡ value_of (counted p)
counted-within None None e = refl
counted-within None (Some p) e = absurd cc
counted-within (Some o) None e = absurd cc
counted-within (Some o) (Some p) e = let h : o.0 ≡ p.0 = cc in ap (λ (n : ℕ). value_of (counted (some_pair n []))) h

negated-within : (o p : Option (ℕ × List ℕ)) → value_of o ≡ value_of p → value_of (negated o) ≡ value_of (negated p)
negated-within None None e = refl
negated-within None (Some p) e = absurd cc
negated-within (Some o) None e = absurd cc
negated-within (Some o) (Some p) e = let h : o.0 ≡ p.0 = cc in ap (λ (n : ℕ). value_of (below_zero n o.1)) h ∙ same_value p.0 o.1 p.1
  where
    same_value : (n : ℕ) (r s : List ℕ) → value_of (below_zero n r) ≡ value_of (below_zero n s)
    same_value zero r s = refl
    same_value (suc n) r s = refl

int_within : (end : ℕ → ℕ) → IsEnd end → (b : List ℕ) → value_of (int_from (2 ^ 127 - 1) end b) ≡ value_of (int_from (2 ^ 127 - 1) end (first_line b))
int_within end i [] = refl
int_within end i (c ∷ cs) = by_sign (eqb c 45) (eqb c 10) (eqb-true c 45) (eqb-true c 10) ((number_piece (2 ^ 127 - 1) end i (lit≤ tt) (lit< tt)).within (c ∷ cs))
  where
    by_sign : (t m : Bool) → (t ≡ true → c ≡ 45) → (m ≡ true → c ≡ 10)
        → value_of (number_from (2 ^ 127 - 1) end (c ∷ cs)) ≡ value_of (number_from (2 ^ 127 - 1) end (c ∷ cond m [] (first_line cs)))
        → value_of (cond t (negated (number_from (2 ^ 127 - 1 + 1) end cs)) (counted (number_from (2 ^ 127 - 1) end (c ∷ cs)))) ≡ value_of
        (cond t (negated (number_from (2 ^ 127 - 1 + 1) end (cond m [] (first_line cs)))) (counted (number_from (2 ^ 127 - 1) end (c ∷ cond m [] (first_line cs)))))
    by_sign true true h k g = absurd (let e = h refl in let f = k refl in omega arith)
    by_sign true false h k g = negated-within (number_from (2 ^ 127 - 1 + 1) end cs) (number_from (2 ^ 127 - 1 + 1) end (first_line cs)) ((number_piece (2 ^ 127 - 1 + 1) end i (lit≤ tt) (lit< tt)).within cs)
    by_sign false m h k g = counted-within (number_from (2 ^ 127 - 1) end (c ∷ cs)) (number_from (2 ^ 127 - 1) end (c ∷ cond m [] (first_line cs))) g

found_back : (spell : ℤ → List ℕ) (o : Option (ℤ × List ℕ)) (x : ℤ) (b : At) → found_at 0 spell o ≡ Ok (x, b) → o ≡ some_pair x b.rest
found_back spell None x b e = absurd cc
found_back spell (Some p) x b e =
    let same = ok_is (p.0, record { line = 0 + line_feeds (spell p.0); rest = p.1 }) (x, b) e in
    let one = ap (λ (q : ℤ × At). q.0) same in
    let two = ap (λ (q : ℤ × At). q.1.rest) same in
    ap (λ (y : ℤ). some_pair y p.1) one ∙ ap (λ (s : List ℕ). some_pair x s) two

-- a signed number of 128 bits
int_piece : (e : Ends) → IsEnd (end_of e) → IsPiece ℤ (FitsSigned w128) (int_spelling (end_of e)) (int_from (2 ^ 127 - 1) (end_of e))
int_piece e i =
    let reads : Reads ℤ (FitsSigned w128) (int_spelling (end_of e)) (i128_at e) = i128_reads e in
    let s : ℤ → List ℕ = int_spelling (end_of e) in
    record {
      takes = λ b z r f.
          let h = reads.takes (record { line = 0; rest = b }) z (record { line = 0 + line_feeds (s z); rest = r }) (ap (λ (o : Option (ℤ × List ℕ)). found_at 0 s o) f) in (h.is, h.parts);
      again = λ z r h.
          let b : At = record { line = 0 + line_feeds (s z); rest = r } in
          found_back s (int_from (2 ^ 127 - 1) (end_of e) (s z ++ r)) z b (reads.again (record { line = 0; rest = s z ++ r }) b z (record { is = h; parts = refl; line = refl }));
      within = int_within (end_of e) i;
      some = reads.some;
    }

-- ---- fractions

space : IsEnd (end_of Space)
space = record { ends = λ k. inl refl }

pub line_end : IsEnd (end_of Line)
line_end = record { ends = λ k. inr refl }

pub space_end : IsEnd (end_of Space)
space_end = space

pub fits : (z : ℤ) → IsShort z → FitsSigned w128 z
fits (pos n) h = omega (arith, ints)
fits (negsuc n) h = omega (arith, ints)

num_reads : Reads ℤ IsShort (int_spelling (end_of Space)) num_at
num_reads = reworded ℤ (λ z. FitsSigned w128 z × (is_short z ≡ true)) IsShort (int_spelling (end_of Space)) (int_spelling (end_of Space)) num_at
    (piece_reads ℤ (λ z. FitsSigned w128 z × (is_short z ≡ true)) (int_spelling (end_of Space)) (λ b. kept is_short (int_from (2 ^ 127 - 1) (end_of Space) b))
    (kept_piece ℤ (FitsSigned w128) (int_spelling (end_of Space)) (int_from (2 ^ 127 - 1) (end_of Space)) is_short (pos 0) (int_piece Space space) (fits (pos 0) (lit< tt)) (lt_again 0 (2 ^ 127) (lit< tt))))
    (λ z h. lt_is (unsigned_abs z) (2 ^ 127) h.1) (λ z h. (fits z h, lt_again (unsigned_abs z) (2 ^ 127) h)) (λ z h. refl)

-- a denominator for a numerator
abbrev IsDen : ℤ → ℕ → Type 0
IsDen num d = (d < 2 ^ 127) × (0 < d) × IsCoprime (unsigned_abs num) d

den_reads : (e : Ends) → IsEnd (end_of e) → (num : ℤ) → Reads ℕ (IsDen num) (number_spelling (end_of e)) (den_at e num)
den_reads e i num =
    let s : ℕ → List ℕ = number_spelling (end_of e) in
    reworded ℕ (λ d. (d ≤ 2 ^ 127 - 1) × (is_lowest num d ≡ true)) (IsDen num) s s (den_at e num)
    (piece_reads ℕ (λ d. (d ≤ 2 ^ 127 - 1) × (is_lowest num d ≡ true)) s (λ b. kept (is_lowest num) (number_from (2 ^ 127 - 1) (end_of e) b))
    (kept_piece ℕ (λ d. d ≤ 2 ^ 127 - 1) s (number_from (2 ^ 127 - 1) (end_of e)) (is_lowest num) 1 (number_piece (2 ^ 127 - 1) (end_of e) i (lit≤ tt) (lit< tt)) (lit≤ tt) (one_lowest num)))
    (λ d h. let l = lowest_is num d h.1 in (omega arith, l.0, l.1)) (λ d h. (omega arith, lowest_again num d h.1 h.2)) (λ d h. refl)

abbrev pub fraction_spelling : Ends → Fraction → List ℕ
fraction_spelling e x = int_spelling (end_of Space) x.num ++ (number_spelling (end_of e) x.den ++ [])

pub fraction_reads : (e : Ends) → IsEnd (end_of e) → Reads Fraction IsFraction (fraction_spelling e) (fraction_at e)
unfolding fraction_at
fraction_reads e i =
    let s : ℕ → List ℕ = number_spelling (end_of e) in
    let den : (n : ℤ) → Reads Fraction (λ z. IsDen n z.den × (z ≡ record { num = n; den = z.den })) (λ z. s z.den ++ []) (λ a. den_at e n a >>= λ d. Ok (record { num = n; den = d.0 }, d.1)) =
    λ n. bind_reads ℕ Fraction (IsDen n) s (den_at e n) (λ d z. z ≡ record { num = n; den = d }) (λ _ _. []) (λ d a. Ok (record { num = n; den = d }, a)) (λ z. z.den) (den_reads e i n)
    (λ d h. done_reads Fraction (record { num = n; den = d })) (λ d z h. ap (λ (y : Fraction). y.den) h) in
    reworded Fraction (λ z. IsShort z.num × (IsDen z.num z.den × (z ≡ record { num = z.num; den = z.den }))) IsFraction (fraction_spelling e) (fraction_spelling e) (fraction_at e)
    (bind_reads ℤ Fraction IsShort (int_spelling (end_of Space)) num_at (λ n z. IsDen n z.den × (z ≡ record { num = n; den = z.den })) (λ n z. s z.den ++ [])
    (λ n a. den_at e n a >>= λ d. Ok (record { num = n; den = d.0 }, d.1)) (λ z. z.num) num_reads (λ n h. den n) (λ n z h. ap (λ (y : Fraction). y.num) h.1))
    (λ z h. record { range = record { num = h.0; den = h.1.0.0; positive = h.1.0.1 }; lowest = h.1.0.2 })
    (λ z h. (h.range.num, ((h.range.den, h.range.positive, h.lowest), refl)))
    (λ z h. refl)

-- ---- a bound

bound_is : (b : List ℕ) (x : Option ℤ) (r : List ℕ) → bound_from b ≡ some_pair x r → ForSome x (FitsSigned w128) × (b ≡ bound_spelling x ++ r)
bound_is b x r e = by_word (after_word (codes "none\n") b) refl (int_from (2 ^ 127 - 1) (end_of Line) b) refl e
  where
    by_word : (o : Option (List ℕ)) → after_word (codes "none\n") b ≡ o → (q : Option (ℤ × List ℕ)) → int_from (2 ^ 127 - 1) (end_of Line) b ≡ q
        → or_else (as_word None o) (as_some q) ≡ some_pair x r → ForSome x (FitsSigned w128) × (b ≡ bound_spelling x ++ r)
    by_word (Some t) f q g e2 =
        let p = pair_is None x t r e2 in
        subst (λ (y : Option ℤ). ForSome y (FitsSigned w128) × (b ≡ bound_spelling y ++ r)) p.0
        (λ y h. absurd cc, after_word_is (codes "none\n") b t f ∙ ap (λ (w : List ℕ). codes "none\n" ++ w) p.1)
    by_word None f None g e2 = absurd cc
    by_word None f (Some k) g e2 =
        let p = pair_is (Some k.0) x k.1 r e2 in
        let t = (int_piece Line line_end).takes b k.0 k.1 g in
        subst (λ (y : Option ℤ). ForSome y (FitsSigned w128) × (b ≡ bound_spelling y ++ r)) p.0
        (λ y h. let same : k.0 ≡ y = cc in subst (FitsSigned w128) same t.0, t.1 ∙ ap (λ (w : List ℕ). int_spelling (end_of Line) k.0 ++ w) p.1)

-- a number that is read is no word
plain_bound : (b : List ℕ) (k : ℤ) (r : List ℕ) → int_from (2 ^ 127 - 1) (end_of Line) b ≡ some_pair k r → bound_from b ≡ some_pair (Some k) r
plain_bound [] k r e = absurd cc
plain_bound (c ∷ cs) k r e = by_letter (eqb 110 c) (eqb-true 110 c)
  where
    by_letter : (t : Bool) → (t ≡ true → 110 ≡ c)
        → or_else (as_word None (cond t (after_word (codes "one\n") cs) None)) (as_some (int_from (2 ^ 127 - 1) (end_of Line) (c ∷ cs))) ≡ some_pair (Some k) r
    by_letter true h = absurd (let g : int_from (2 ^ 127 - 1) (end_of Line) (c ∷ cs) ≡ None = ap (λ (d : ℕ). int_from (2 ^ 127 - 1) (end_of Line) (d ∷ cs)) (sym (h refl)) in let f = e in cc)
    by_letter false h = ap as_some e

bound_again : (x : Option ℤ) (r : List ℕ) → ForSome x (FitsSigned w128) → bound_from (bound_spelling x ++ r) ≡ some_pair x r
bound_again None r h = refl
bound_again (Some k) r h = plain_bound (bound_spelling (Some k) ++ r) k r ((int_piece Line line_end).again k r (h k refl))

some-within : (o p : Option (ℤ × List ℕ)) → value_of o ≡ value_of p → value_of (as_some o) ≡ value_of (as_some p)
some-within None None e = refl
some-within None (Some p) e = absurd cc
some-within (Some o) None e = absurd cc
some-within (Some o) (Some p) e = let h : o.0 ≡ p.0 = cc in ap (λ (k : ℤ). value_of (as_some (some_pair k []))) h

bound_within : (b : List ℕ) → value_of (bound_from b) ≡ value_of (bound_from (first_line b))
bound_within b = by_both (after_word (codes "none\n") b) (after_word (codes "none\n") (first_line b)) (after_word-within (codes "none\n") b refl)
    (some-within (int_from (2 ^ 127 - 1) (end_of Line) b) (int_from (2 ^ 127 - 1) (end_of Line) (first_line b)) ((int_piece Line line_end).within b))
  where
    by_both : (p q : Option (List ℕ)) → value_of (with_unit p) ≡ value_of (with_unit q)
        → value_of (as_some (int_from (2 ^ 127 - 1) (end_of Line) b)) ≡ value_of (as_some (int_from (2 ^ 127 - 1) (end_of Line) (first_line b)))
        → value_of (or_else (as_word None p) (as_some (int_from (2 ^ 127 - 1) (end_of Line) b))) ≡ value_of (or_else (as_word None q) (as_some (int_from (2 ^ 127 - 1) (end_of Line) (first_line b))))
    by_both None None e g = g
    by_both (Some r) (Some q) e g = refl
    by_both None (Some q) e g = absurd cc
    by_both (Some r) None e g = absurd cc

pub bound_reads : Reads (Option ℤ) (λ x. ForSome x (FitsSigned w128)) bound_line bound_at
unfolding bound_at
bound_reads = reworded (Option ℤ) (λ x. ForSome x (FitsSigned w128)) (λ x. ForSome x (FitsSigned w128)) (λ x. codes "bound " ++ bound_spelling x) bound_line bound_at
    (word_then (codes "bound ") refl (piece_reads (Option ℤ) (λ x. ForSome x (FitsSigned w128)) bound_spelling bound_from (record {
      takes = bound_is;
      again = bound_again;
      within = bound_within;
      some = (None, λ y h. absurd cc);
    })))
    (λ x h. h) (λ x h. h) (λ x h. regroup (bound_text x))
  where
    regroup : (w : List ℕ) → codes "bound " ++ (w ++ 10 ∷ []) ≡ codes "bound" ++ (((32 ∷ w) ++ []) ++ 10 ∷ [])
    regroup w = simp append_assoc
