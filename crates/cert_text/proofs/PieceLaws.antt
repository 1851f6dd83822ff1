-- Pieces that stand within a line: words and numbers.
use Rattle.std.proofs.Common.{◌≡◌, ◌⊎◌, ℕ, zero, suc, ◌+◌, ◌-◌, ◌*◌, ◌/◌, ◌%◌, ◌^◌, ◌<◌, ◌≤◌, Bool, true, false, cond, eqb}
use Rattle.std.proofs.Common.{List, [], ◌∷◌, ◌++◌, Option, Some, None, Ok, Err, refl, sym, ap, subst, ◌∙◌, append_assoc, add-zero, arith, inl, inr}
use Rattle.std.proofs.lemmas.Bool.{eqb-true, eq-eqb, ne_eqb}
use Rattle.std.proofs.lemmas.Bool.Decides.{nat_tests}
use Rattle.std.proofs.lemmas.Fmt.{decimal_digit, decimal_step_wide, decimal_by_steps_wide}
use Rattle.std.specs.Char.{is_ascii_digit}
use Rattle.std.specs.Prelude.{ℤ, pos, negsuc}
use Rattle.std.specs.Fmt.{decimal}
use Rattle.cert_text.specs.Lines.{line_feeds, first_line}
use Rattle.cert_text.specs.Reading.{At, found_at, piece_at, after_word, with_unit, word_at, is_next_digit, digits_from, number_from}
use Rattle.cert_text.specs.Reading.{number_spelling, number_at, IsWithin, int_spelling, counted, below_zero, negated, int_from, int_at, kept}
use Rattle.cert_text.proofs.Laws.{Reads, ok_is}

abbrev pub value_of : {X : Type 0} → Option (X × List ℕ) → Option X
value_of None = None
value_of (Some p) = Some p.0

-- a reader whose value, and whether there is one, depends on the first line alone
pub record IsPiece (X : Type 0) (Is : X → Type 0) (spell : X → List ℕ) (read : List ℕ → Option (X × List ℕ)) : Type 0 where
  pub takes : (b : List ℕ) (x : X) (r : List ℕ) → read b ≡ Some (x, r) → Is x × (b ≡ spell x ++ r)
  pub again : (x : X) (r : List ℕ) → Is x → read (spell x ++ r) ≡ Some (x, r)
  pub within : (b : List ℕ) → value_of (read b) ≡ value_of (read (first_line b))
  pub some : (x : X) × Is x

abbrev some_list : List ℕ → Option (List ℕ)
some_list r = Some r

abbrev pub duo : {X : Type 0} → X → List ℕ → X × List ℕ
duo x r = (x, r)

abbrev some_value : {X : Type 0} → X → Option X
some_value x = Some x

abbrev some_int : ℤ → List ℕ → Option (ℤ × List ℕ)
some_int z r = Some (z, r)

abbrev pub some_pair : {X : Type 0} → X → List ℕ → Option (X × List ℕ)
some_pair x r = Some (x, r)

pair_same : {X : Type 0} (x y : X) (r s : List ℕ) → x ≡ y → r ≡ s → some_pair x r ≡ some_pair y s
pair_same x y r s e f = cc

pub pair_is : {X : Type 0} (x y : X) (r s : List ℕ) → some_pair x r ≡ some_pair y s → (x ≡ y) × (r ≡ s)
pair_is {X} x y r s e = let p : duo x r ≡ duo y s = cc in (ap (λ (q : X × List ℕ). q.0) p, ap (λ (q : X × List ℕ). q.1) p)

found_ok : {X : Type 0} (line : ℕ) (spell : X → List ℕ) (o : Option (X × List ℕ)) (x : X) (b : At) → found_at line spell o ≡ Ok (x, b) → (o ≡ Some (x, b.rest)) × (b.line ≡ line + line_feeds (spell x))
found_ok line spell None x b e = absurd cc
found_ok {X} line spell (Some p) x b e =
    let same = ok_is (p.0, record { line = line + line_feeds (spell p.0); rest = p.1 }) (x, b) e in
    let one = ap (λ (q : X × At). q.0) same in
    let two = ap (λ (q : X × At). q.1.rest) same in
    let three = ap (λ (q : X × At). q.1.line) same in
    (pair_same p.0 x p.1 b.rest one two, sym three ∙ ap (λ (y : X). line + line_feeds (spell y)) one)

found_err : {X : Type 0} (line : ℕ) (spell : X → List ℕ) (o : Option (X × List ℕ)) (n : ℕ) → found_at line spell o ≡ Err n → (o ≡ None) × (n ≡ line)
found_err line spell None n e = (refl, cc)
found_err line spell (Some p) n e = absurd cc

pub piece_reads : (X : Type 0) (Is : X → Type 0) (spell : X → List ℕ) (read : List ℕ → Option (X × List ℕ)) → IsPiece X Is spell read → Reads X Is spell (piece_at spell read)
piece_reads X Is spell read p = record {
  takes = λ a x b e.
      let f = found_ok a.line spell (read a.rest) x b e in
      let g = p.takes a.rest x b.rest f.0 in
      record { is = g.0; parts = g.1; line = f.1 };
  again = λ a b x h.
      let e : read a.rest ≡ Some (x, b.rest) = ap read h.parts ∙ p.again x b.rest h.is in
      rw e (rw (← h.line) refl);
  faults = λ a n e.
      let f = found_err a.line spell (read a.rest) n e in
      record {
        good = [];
        bad = a.rest;
        parts = refl;
        number = f.1 ∙ sym (add-zero a.line);
        begins = (p.some.0, spell p.some.0, p.some.1, refl);
        none = λ x tail other is line g.
            let v : value_of (read (spell x ++ tail)) ≡ Some x = ap value_of (p.again x tail is) in
            let w : value_of (read a.rest) ≡ None = ap value_of f.0 in
            let same : value_of (read other) ≡ value_of (read a.rest) = p.within other ∙ ap (λ (y : List ℕ). value_of (read y)) line ∙ sym (p.within a.rest) in
            let moved : value_of (read (spell x ++ tail)) ≡ value_of (read other) = ap (λ (y : List ℕ). value_of (read y)) g in
            absurd cc;
      };
  some = p.some;
}

-- ---- a word

-- a line feed stands at its end, if at all
abbrev pub one_line : List ℕ → Bool
one_line [] = true
one_line (c ∷ []) = true
one_line (c ∷ d ∷ cs) = cond (eqb c 10) false (one_line (d ∷ cs))

pub after_word_is : (w b r : List ℕ) → after_word w b ≡ Some r → b ≡ w ++ r
after_word_is [] b r e = cc
after_word_is (w ∷ ws) [] r e = absurd cc
after_word_is (w ∷ ws) (c ∷ cs) r e = by_same (eqb w c) (eqb-true w c) e (after_word_is ws cs r)
  where
    by_same : (t : Bool) → (t ≡ true → w ≡ c) → cond t (after_word ws cs) None ≡ Some r → (after_word ws cs ≡ Some r → cs ≡ ws ++ r) → c ∷ cs ≡ (w ∷ ws) ++ r
    by_same true h e2 g = let p = h refl in let q = g e2 in cc
    by_same false h e2 g = absurd cc

pub after_word-again : (w r : List ℕ) → after_word w (w ++ r) ≡ Some r
after_word-again [] r = refl
after_word-again (w ∷ ws) r = rw (eq-eqb w w refl) (after_word-again ws r)

pub after_word-within : (w b : List ℕ) → one_line w ≡ true → value_of (with_unit (after_word w b)) ≡ value_of (with_unit (after_word w (first_line b)))
after_word-within [] b o = refl
after_word-within (w ∷ ws) [] o = refl
after_word-within (w ∷ []) (c ∷ cs) o =
    elim (eqb w c) as (λ t. value_of (with_unit (cond t (Some cs) None)) ≡ value_of (with_unit (cond t (Some (cond (eqb c 10) [] (first_line cs))) None))) [ true ↦ refl | false ↦ refl ]
after_word-within (w ∷ v ∷ ws) (c ∷ cs) o = by_same (eqb w c) (eqb-true w c) (eqb w 10) (eqb c 10) (λ e. ap (λ (x : ℕ). eqb x 10) e) o (after_word-within (v ∷ ws) cs)
  where
    by_same : (t : Bool) → (t ≡ true → w ≡ c) → (m n : Bool) → (w ≡ c → m ≡ n) → cond m false (one_line (v ∷ ws)) ≡ true
        → (one_line (v ∷ ws) ≡ true → value_of (with_unit (after_word (v ∷ ws) cs)) ≡ value_of (with_unit (after_word (v ∷ ws) (first_line cs))))
        → value_of (with_unit (cond t (after_word (v ∷ ws) cs) None)) ≡ value_of (with_unit (cond t (after_word (v ∷ ws) (cond n [] (first_line cs))) None))
    by_same false h m n k o2 g = refl
    by_same true h true n k o2 g = absurd cc
    by_same true h false true k o2 g = absurd (let e = k (h refl) in cc)
    by_same true h false false k o2 g = g o2

abbrev pub Always : Unit {0} → Type 0
Always _ = Unit {0}

pub word_reads : (word : List ℕ) → one_line word ≡ true → Reads (Unit {0}) Always (λ _. word) (word_at word)
word_reads word o = piece_reads (Unit {0}) Always (λ _. word) (λ b. with_unit (after_word word b)) (record {
  takes = λ b x r e. (tt, after_word_is word b r (with_unit_is (after_word word b) x r e));
  again = λ x r h. rw (after_word-again word r) refl;
  within = λ b. after_word-within word b o;
  some = (tt, tt);
})
  where
    with_unit_is : (o : Option (List ℕ)) (x : Unit {0}) (r : List ℕ) → with_unit o ≡ Some (x, r) → o ≡ Some r
    with_unit_is None x r e = absurd cc
    with_unit_is (Some s) x r e = ap (λ (y : List ℕ). some_list y) (pair_is tt x s r e).1

-- ---- a number

pub record IsEnd (end : ℕ → ℕ) : Type 0 where
  pub ends : (n : ℕ) → (end n ≡ 32) ⊎ (end n ≡ 10)

-- what the test of a next digit tells
pub next_digit : (most n c : ℕ) → is_next_digit most n c ≡ true → (0 < n) × (48 ≤ c) × (c ≤ 57) × (n * 10 + (c - 48) ≤ most)
next_digit most n c e = grind (arith, nat_tests)

is_next : (most n c : ℕ) → 0 < n → 48 ≤ c → c ≤ 57 → n * 10 + (c - 48) ≤ most → is_next_digit most n c ≡ true
is_next most n c a b d e = grind (arith, nat_tests)

decimal_more : (n k : ℕ) → 0 < n → k < 10 → n * 10 + k < 10 ^ 64 → decimal (n * 10 + k) ≡ decimal n ++ (48 + k) ∷ []
decimal_more n k above lt small =
    let q : (n * 10 + k) / 10 ≡ n = omega arith in
    let m : (n * 10 + k) % 10 ≡ k = omega arith in
    decimal_step_wide (n * 10 + k) (omega arith) small ∙ rw (q, m) refl

-- the digits so far and what is read are the digits of the number
digits_take : (most : ℕ) (end : ℕ → ℕ) (n : ℕ) (b : List ℕ) (x : ℕ) (r : List ℕ) → most < 10 ^ 64 → n ≤ most → digits_from most end n b ≡ Some (x, r)
    → (x ≤ most) × (decimal n ++ b ≡ number_spelling end x ++ r)
digits_take most end n [] x r small le e = absurd cc
digits_take most end n (c ∷ cs) x r small le e =
    by_case (eqb c (end n)) (eqb-true c (end n)) (is_next_digit most n c) (next_digit most n c) e (λ h. digits_take most end (n * 10 + (c - 48)) cs x r small h)
  where
    by_case : (t : Bool) → (t ≡ true → c ≡ end n) → (u : Bool) → (u ≡ true → (0 < n) × (48 ≤ c) × (c ≤ 57) × (n * 10 + (c - 48) ≤ most))
        → cond t (Some (n, cs)) (cond u (digits_from most end (n * 10 + (c - 48)) cs) None) ≡ Some (x, r)
        → (n * 10 + (c - 48) ≤ most → digits_from most end (n * 10 + (c - 48)) cs ≡ Some (x, r) → (x ≤ most) × (decimal (n * 10 + (c - 48)) ++ cs ≡ number_spelling end x ++ r))
        → (x ≤ most) × (decimal n ++ c ∷ cs ≡ number_spelling end x ++ r)
    by_case true h u k e2 g =
        let p = pair_is n x cs r e2 in
        let whole : decimal n ++ c ∷ cs ≡ number_spelling end n ++ cs = ap (λ (d : ℕ). decimal n ++ d ∷ cs) (h refl) ∙ sym (append_assoc (decimal n) (end n ∷ []) cs) in
        let P : ℕ → List ℕ → Type 0 = λ y s. (y ≤ most) × (decimal n ++ c ∷ cs ≡ number_spelling end y ++ s) in
        subst (λ (y : ℕ). P y r) p.0 (subst (λ (s : List ℕ). P n s) p.1 (le, whole))
    by_case false h true k e2 g =
        let f = k refl in
        let i = g f.3 e2 in
        let digit : 48 + (c - 48) ≡ c = omega arith in
        let more : decimal (n * 10 + (c - 48)) ++ cs ≡ decimal n ++ c ∷ cs =
        ap (λ (d : List ℕ). d ++ cs) (decimal_more n (c - 48) f.0 (omega arith) (omega arith)) ∙ append_assoc (decimal n) ((48 + (c - 48)) ∷ []) cs ∙ ap (λ (d : ℕ). decimal n ++ d ∷ cs) digit in
        (i.0, sym more ∙ i.1)
    by_case false h false k e2 g = absurd cc

number_take : (most : ℕ) (end : ℕ → ℕ) (b : List ℕ) (x : ℕ) (r : List ℕ) → most < 10 ^ 64 → 9 ≤ most → number_from most end b ≡ Some (x, r) → (x ≤ most) × (b ≡ number_spelling end x ++ r)
number_take most end [] x r small nine e = absurd cc
number_take most end (c ∷ cs) x r small nine e = by_case (is_ascii_digit c) (digit_tells c) e
  where
    digit_tells : (c : ℕ) → is_ascii_digit c ≡ true → (48 ≤ c) × (c ≤ 57)
    digit_tells c h = grind (arith, nat_tests)

    by_case : (t : Bool) → (t ≡ true → (48 ≤ c) × (c ≤ 57)) → cond t (digits_from most end (c - 48) cs) None ≡ Some (x, r) → (x ≤ most) × (c ∷ cs ≡ number_spelling end x ++ r)
    by_case true h e2 =
        let f = h refl in
        let i = digits_take most end (c - 48) cs x r small (omega arith) e2 in
        let digit : 48 + (c - 48) ≡ c = omega arith in
        let first : decimal (c - 48) ++ cs ≡ c ∷ cs = ap (λ (d : List ℕ). d ++ cs) (decimal_digit (c - 48) (omega arith)) ∙ ap (λ (d : ℕ). d ∷ cs) digit in
        (i.0, sym first ∙ i.1)
    by_case false h e2 = absurd cc

-- reading the digits of n comes to n
digits_again : (most : ℕ) (end : ℕ → ℕ) → IsEnd end → most < 10 ^ 64 → (n : ℕ) → n < 10 ^ 64 → n ≤ most → (b : List ℕ) → number_from most end (decimal n ++ b) ≡ digits_from most end n b
digits_again most end ends small = decimal_by_steps_wide (λ n ds. n ≤ most → (b : List ℕ) → number_from most end (ds ++ b) ≡ digits_from most end n b) one more
  where
    is_digit : (k : ℕ) → k < 10 → is_ascii_digit (48 + k) ≡ true
    is_digit k lt = grind (arith, nat_tests)

    one : (n : ℕ) → n < 10 → n ≤ most → (b : List ℕ) → number_from most end (((48 + n) ∷ []) ++ b) ≡ digits_from most end n b
    one n lt le b = let k : (48 + n) - 48 ≡ n = omega arith in rw (is_digit n lt, k) refl

    no_end : (n k : ℕ) → k < 10 → (end n ≡ 32) ⊎ (end n ≡ 10) → eqb (48 + k) (end n) ≡ false
    no_end n k lt e = elim e [ inl h ↦ ne_eqb (48 + k) (end n) (λ g. omega arith) | inr h ↦ ne_eqb (48 + k) (end n) (λ g. omega arith) ]

    more : (n : ℕ) (ds : List ℕ) → 10 ≤ n → (n / 10 ≤ most → (b : List ℕ) → number_from most end (ds ++ b) ≡ digits_from most end (n / 10) b)
        → n ≤ most → (b : List ℕ) → number_from most end ((ds ++ ((48 + n % 10) ∷ [])) ++ b) ≡ digits_from most end n b
    more n ds ten h le b =
        let lt : n % 10 < 10 = omega arith in
        let next : is_next_digit most (n / 10) (48 + n % 10) ≡ true = is_next most (n / 10) (48 + n % 10) (omega arith) (omega arith) (omega arith) (omega arith) in
        let k : (n / 10) * 10 + ((48 + n % 10) - 48) ≡ n = omega arith in
        ap (number_from most end) (append_assoc ds ((48 + n % 10) ∷ []) b) ∙ h (omega arith) ((48 + n % 10) ∷ b) ∙ rw (no_end (n / 10) (n % 10) lt (ends.ends (n / 10)), next, k) refl

digits_within : (most : ℕ) (end : ℕ → ℕ) (n : ℕ) (b : List ℕ) → value_of (digits_from most end n b) ≡ value_of (digits_from most end n (first_line b))
digits_within most end n [] = refl
digits_within most end n (c ∷ cs) = by_case (eqb c (end n)) (eqb c 10) (eqb-true c 10) (is_next_digit most n c) (next_digit most n c) (digits_within most end (n * 10 + (c - 48)) cs)
  where
    by_case : (t m : Bool) → (m ≡ true → c ≡ 10) → (u : Bool) → (u ≡ true → (0 < n) × (48 ≤ c) × (c ≤ 57) × (n * 10 + (c - 48) ≤ most))
        → value_of (digits_from most end (n * 10 + (c - 48)) cs) ≡ value_of (digits_from most end (n * 10 + (c - 48)) (first_line cs))
        → value_of (cond t (Some (n, cs)) (cond u (digits_from most end (n * 10 + (c - 48)) cs) None)) ≡ value_of
        (cond t (Some (n, cond m [] (first_line cs))) (cond u (digits_from most end (n * 10 + (c - 48)) (cond m [] (first_line cs))) None))
    by_case true m h u k g = refl
    by_case false m h false k g = refl
    by_case false true h true k g = absurd (let e = h refl in let f = k refl in omega arith)
    by_case false false h true k g = g

number_within : (most : ℕ) (end : ℕ → ℕ) (b : List ℕ) → value_of (number_from most end b) ≡ value_of (number_from most end (first_line b))
number_within most end [] = refl
number_within most end (c ∷ cs) = by_case (is_ascii_digit c) (digit_tells c) (eqb c 10) (eqb-true c 10) (digits_within most end (c - 48) cs)
  where
    digit_tells : (c : ℕ) → is_ascii_digit c ≡ true → (48 ≤ c) × (c ≤ 57)
    digit_tells c h = grind (arith, nat_tests)

    by_case : (t : Bool) → (t ≡ true → (48 ≤ c) × (c ≤ 57)) → (m : Bool) → (m ≡ true → c ≡ 10) → value_of (digits_from most end (c - 48) cs) ≡ value_of (digits_from most end (c - 48) (first_line cs))
        → value_of (cond t (digits_from most end (c - 48) cs) None) ≡ value_of (cond t (digits_from most end (c - 48) (cond m [] (first_line cs))) None)
    by_case false h m k g = refl
    by_case true h true k g = absurd (let e = k refl in let f = h refl in omega arith)
    by_case true h false k g = g

end_here : (most : ℕ) (end : ℕ → ℕ) (n : ℕ) (r : List ℕ) → digits_from most end n (end n ∷ r) ≡ Some (n, r)
end_here most end n r = rw (eq-eqb (end n) (end n) refl) refl

pub number_piece : (most : ℕ) (end : ℕ → ℕ) → IsEnd end → 9 ≤ most → most < 10 ^ 64 → IsPiece ℕ (λ n. n ≤ most) (number_spelling end) (number_from most end)
number_piece most end ends nine small = record {
  takes = λ b x r e. number_take most end b x r small nine e;
  again = λ n r le. ap (number_from most end) (append_assoc (decimal n) (end n ∷ []) r) ∙ digits_again most end ends small n (omega arith) le (end n ∷ r) ∙ end_here most end n r;
  within = λ b. number_within most end b;
  some = (0, omega arith);
}

pub number_reads : (most : ℕ) (end : ℕ → ℕ) → IsEnd end → 9 ≤ most → most < 10 ^ 64 → Reads ℕ (λ n. n ≤ most) (number_spelling end) (number_at most end)
number_reads most end ends nine small = piece_reads ℕ (λ n. n ≤ most) (number_spelling end) (number_from most end) (number_piece most end ends nine small)

-- ---- a number that may be negative

counted_is : (o : Option (ℕ × List ℕ)) (z : ℤ) (r : List ℕ) → counted o ≡ some_int z r → (n : ℕ) × (o ≡ some_pair n r) × (pos n ≡ z)
counted_is None z r e = absurd cc
counted_is (Some p) z r e = let h = pair_is (pos p.0) z p.1 r e in (p.0, ap (λ (s : List ℕ). some_pair p.0 s) h.1, h.0)

negated_is : (o : Option (ℕ × List ℕ)) (z : ℤ) (r : List ℕ) → negated o ≡ some_int z r → (n : ℕ) × (o ≡ some_pair (suc n) r) × (negsuc n ≡ z)
negated_is None z r e = absurd cc
negated_is (Some p) z r e = by_zero p.0 p.1 e
  where
    by_zero : (n : ℕ) (s : List ℕ) → below_zero n s ≡ some_int z r → (m : ℕ) × (some_pair n s ≡ some_pair (suc m) r) × (negsuc m ≡ z)
    by_zero zero s e2 = absurd cc
    by_zero (suc n) s e2 = let h = pair_is (negsuc n) z s r e2 in (n, ap (λ (t : List ℕ). some_pair (suc n) t) h.1, h.0)

int_take : (most : ℕ) (end : ℕ → ℕ) (b : List ℕ) (z : ℤ) (r : List ℕ) → most + 1 < 10 ^ 64 → 9 ≤ most → int_from most end b ≡ some_int z r → IsWithin most z × (b ≡ int_spelling end z ++ r)
int_take most end [] z r small nine e = absurd cc
int_take most end (c ∷ cs) z r small nine e = by_sign (eqb c 45) (eqb-true c 45) e
  where
    by_sign : (t : Bool) → (t ≡ true → c ≡ 45)
        → cond t (negated (number_from (most + 1) end cs)) (counted (number_from most end (c ∷ cs))) ≡ some_int z r → IsWithin most z × (c ∷ cs ≡ int_spelling end z ++ r)
    by_sign true h e2 =
        let n = negated_is (number_from (most + 1) end cs) z r e2 in
        let t = number_take (most + 1) end cs (suc n.0) r small (omega arith) n.1 in
        subst (λ (y : ℤ). IsWithin most y × (c ∷ cs ≡ int_spelling end y ++ r)) n.2 (omega (arith, t.0), ap (λ (d : ℕ). d ∷ cs) (h refl) ∙ ap (λ (d : List ℕ). 45 ∷ d) t.1)
    by_sign false h e2 =
        let n = counted_is (number_from most end (c ∷ cs)) z r e2 in
        let t = number_take most end (c ∷ cs) n.0 r (omega arith) nine n.1 in
        subst (λ (y : ℤ). IsWithin most y × (c ∷ cs ≡ int_spelling end y ++ r)) n.2 (t.0, t.1)

number_again : (most : ℕ) (end : ℕ → ℕ) → IsEnd end → most < 10 ^ 64 → (n : ℕ) (r : List ℕ) → n ≤ most → number_from most end (number_spelling end n ++ r) ≡ some_pair n r
number_again most end ends small n r le = ap (number_from most end) (append_assoc (decimal n) (end n ∷ []) r) ∙ digits_again most end ends small n (omega arith) le (end n ∷ r) ∙ end_here most end n r

-- a number that is read does not begin with a sign
plain_int : (most : ℕ) (end : ℕ → ℕ) (b : List ℕ) (n : ℕ) (r : List ℕ) → number_from most end b ≡ some_pair n r → int_from most end b ≡ some_int (pos n) r
plain_int most end [] n r e = absurd cc
plain_int most end (c ∷ cs) n r e = by_sign (eqb c 45) (eqb-true c 45)
  where
    by_sign : (t : Bool) → (t ≡ true → c ≡ 45) → cond t (negated (number_from (most + 1) end cs)) (counted (number_from most end (c ∷ cs))) ≡ some_int (pos n) r
    by_sign true h = absurd (let g : number_from most end (c ∷ cs) ≡ None = ap (λ (d : ℕ). number_from most end (d ∷ cs)) (h refl) in let f = e in cc)
    by_sign false h = ap counted e

int_again : (most : ℕ) (end : ℕ → ℕ) → IsEnd end → most + 1 < 10 ^ 64 → (z : ℤ) (r : List ℕ) → IsWithin most z → int_from most end (int_spelling end z ++ r) ≡ some_int z r
int_again most end ends small (pos n) r le = plain_int most end (number_spelling end n ++ r) n r (number_again most end ends (omega arith) n r le)
int_again most end ends small (negsuc n) r le = ap negated (number_again (most + 1) end ends small (suc n) r (omega arith))

counted-within : (o p : Option (ℕ × List ℕ)) → value_of o ≡ value_of p → value_of (counted o) ≡ value_of (counted p)
counted-within None None e = refl
counted-within None (Some p) e = absurd cc
counted-within (Some o) None e = absurd cc
counted-within (Some o) (Some p) e = let h : o.0 ≡ p.0 = cc in ap (λ (n : ℕ). some_value (pos n)) h

negated-within : (o p : Option (ℕ × List ℕ)) → value_of o ≡ value_of p → value_of (negated o) ≡ value_of (negated p)
negated-within None None e = refl
negated-within None (Some p) e = absurd cc
negated-within (Some o) None e = absurd cc
negated-within (Some o) (Some p) e = let h : o.0 ≡ p.0 = cc in ap (λ (n : ℕ). value_of (below_zero n o.1)) h ∙ same_value p.0 o.1 p.1
  where
    same_value : (n : ℕ) (r s : List ℕ) → value_of (below_zero n r) ≡ value_of (below_zero n s)
    same_value zero r s = refl
    same_value (suc n) r s = refl

int_within : (most : ℕ) (end : ℕ → ℕ) (b : List ℕ) → value_of (int_from most end b) ≡ value_of (int_from most end (first_line b))
int_within most end [] = refl
int_within most end (c ∷ cs) = by_sign (eqb c 45) (eqb c 10) (eqb-true c 45) (eqb-true c 10) (number_within most end (c ∷ cs))
  where
    by_sign : (t m : Bool) → (t ≡ true → c ≡ 45) → (m ≡ true → c ≡ 10) → value_of (number_from most end (c ∷ cs)) ≡ value_of (number_from most end (c ∷ cond m [] (first_line cs)))
        → value_of (cond t (negated (number_from (most + 1) end cs)) (counted (number_from most end (c ∷ cs)))) ≡ value_of
        (cond t (negated (number_from (most + 1) end (cond m [] (first_line cs)))) (counted (number_from most end (c ∷ cond m [] (first_line cs)))))
    by_sign true true h k g = absurd (let e = h refl in let f = k refl in omega arith)
    by_sign true false h k g = negated-within (number_from (most + 1) end cs) (number_from (most + 1) end (first_line cs)) (number_within (most + 1) end cs)
    by_sign false m h k g = counted-within (number_from most end (c ∷ cs)) (number_from most end (c ∷ cond m [] (first_line cs))) g

pub int_reads : (most : ℕ) (end : ℕ → ℕ) → IsEnd end → 9 ≤ most → most + 1 < 10 ^ 64 → Reads ℤ (IsWithin most) (int_spelling end) (int_at most end)
int_reads most end ends nine small = piece_reads ℤ (IsWithin most) (int_spelling end) (int_from most end) (record {
  takes = λ b z r e. int_take most end b z r small nine e;
  again = λ z r h. int_again most end ends small z r h;
  within = λ b. int_within most end b;
  some = (pos 0, omega arith);
})

-- ---- what passes a test

pub kept_piece : (X : Type 0) (Is : X → Type 0) (spell : X → List ℕ) (read : List ℕ → Option (X × List ℕ)) (ok : X → Bool) (x : X) → IsPiece X Is spell read → Is x → ok x ≡ true
    → IsPiece X (λ y. Is y × (ok y ≡ true)) spell (λ b. kept ok (read b))
kept_piece X Is spell read ok x p is e = record {
  takes = λ b y r f. let k = kept_is (read b) y r f in let t = p.takes b y r k.0 in ((t.0, k.1), t.1);
  again = λ y r h. ap (kept ok) (p.again y r h.0) ∙ rw h.1 refl;
  within = λ b. same_kept (read b) (read (first_line b)) (p.within b);
  some = (x, (is, e));
}
  where
    kept_is : (o : Option (X × List ℕ)) (y : X) (r : List ℕ) → kept ok o ≡ some_pair y r → (o ≡ some_pair y r) × (ok y ≡ true)
    kept_is None y r f = absurd cc
    kept_is (Some q) y r f = by_test (ok q.0) refl f
      where
        by_test : (t : Bool) → ok q.0 ≡ t → cond t (Some q) None ≡ some_pair y r → (some_pair q.0 q.1 ≡ some_pair y r) × (ok y ≡ true)
        by_test true h f2 = let s = pair_is q.0 y q.1 r f2 in (f2, ap ok (sym s.0) ∙ h)
        by_test false h f2 = absurd cc

    same_kept : (o q : Option (X × List ℕ)) → value_of o ≡ value_of q → value_of (kept ok o) ≡ value_of (kept ok q)
    same_kept None None f = refl
    same_kept None (Some q) f = absurd cc
    same_kept (Some o) None f = absurd cc
    same_kept (Some o) (Some q) f = let h : o.0 ≡ q.0 = cc in by_test (ok o.0) (ok q.0) (ap ok h) h
      where
        by_test : (t u : Bool) → t ≡ u → o.0 ≡ q.0 → value_of (cond t (Some o) None) ≡ value_of (cond u (Some q) None)
        by_test true true f2 h2 = ap (λ (y : X). some_value y) h2
        by_test false false f2 h2 = refl
        by_test true false f2 h2 = absurd cc
        by_test false true f2 h2 = absurd cc
