-- The loops of the readers, one byte at a time.
use Rattle.std.proofs.Common.{◌≡◌, ℕ, ◌+◌, ◌-◌, ◌%◌, ◌^◌, ◌<◌, ◌≤◌, Bool, true, false, cond, eqb, not, List, []}
use Rattle.std.proofs.Common.{◌∷◌, length, drop, get_or, Option, Some, None, Ok, Err, refl, sym, ap, subst, ◌∙◌, add-zero, zero-add, add-one, arith, drop-cons}
use Rattle.std.proofs.lemmas.Bool.{eqb-true, eqb-false, eq-eqb, ne_eqb}
use Rattle.std.proofs.Math.ListN.{drop_of_length-le}
use Rattle.std.specs.Option.{option_eq}
use Rattle.cert_text.specs.Lines.{line_feeds}
use Rattle.std.proofs.lemmas.Fmt.{decimal_by_steps_wide}
use Rattle.std.specs.Fmt.{decimal}
use Rattle.cert_text.proofs.LineLemmas.{line_feeds-append}
use Rattle.cert_text.specs.Reading.{digits_at, digits_from, number_spelling, At, after_word, word_at, first_byte, first_of, behind_byte, behind}

-- after i bytes of the word the text goes on at a
pub record StepsBehind (word : List ℕ) (start : At) (i : ℕ) (a : At) : Type 0 where
  pub rest : after_word (drop i word) a.rest ≡ after_word word start.rest
  pub line : a.line + line_feeds (drop i word) ≡ start.line + line_feeds word

pub follows-init : (word : List ℕ) (start : At) → StepsBehind word start 0 start
follows-init word start = record { rest = refl; line = refl }

-- the test of the code: the next byte differs
abbrev pub differs : Option ℕ → ℕ → Bool
differs o w = not (option_eq eqb o (Some w))

one_byte : (w : ℕ) (ws : List ℕ) (line : ℕ) (rest : List ℕ) → differs (first_byte rest) w ≡ false
    → (after_word ws (behind_byte line rest).rest ≡ after_word (w ∷ ws) rest) × ((behind_byte line rest).line + line_feeds ws ≡ line + line_feeds (w ∷ ws))
one_byte w ws line [] e = absurd cc
one_byte w ws line (c ∷ cs) e = by_same (eqb c w) (eqb-true c w) e
  where
    feeds : (b : Bool) → cond b (line + 1) line + line_feeds ws ≡ line + (cond b 1 0 + line_feeds ws)
    feeds true = omega arith
    feeds false = omega arith

    by_same : (t : Bool) → (t ≡ true → c ≡ w) → not t ≡ false
        → (after_word ws cs ≡ cond (eqb w c) (after_word ws cs) None) × (cond (eqb c 10) (line + 1) line + line_feeds ws ≡ line + (cond (eqb w 10) 1 0 + line_feeds ws))
    by_same true h f = let e2 = h refl in
        (rw (eq-eqb w c (sym e2)) refl, subst (λ (v : ℕ). cond (eqb c 10) (line + 1) line + line_feeds ws ≡ line + (cond (eqb v 10) 1 0 + line_feeds ws)) e2 (feeds (eqb c 10)))
    by_same false h f = absurd cc

other_byte : (w : ℕ) (ws rest : List ℕ) → differs (first_byte rest) w ≡ true → after_word (w ∷ ws) rest ≡ None
other_byte w ws [] e = refl
other_byte w ws (c ∷ cs) e = by_same (eqb c w) (eqb-false c w) e
  where
    by_same : (t : Bool) → (t ≡ false → c ≡ w → ⊥) → not t ≡ true → cond (eqb w c) (after_word ws cs) None ≡ None
    by_same true h f = absurd cc
    by_same false h f = rw (ne_eqb w c (λ e2. h refl (sym e2))) refl

pub follows-step : (word : List ℕ) (start : At) (i : ℕ) (a : At) → i < length word → differs (first_of a) (get_or word i 0) ≡ false → StepsBehind word start i a → StepsBehind word start (i + 1) (behind a)
follows-step word start i a lt e h =
    let split : drop i word ≡ get_or word i 0 ∷ drop (i + 1) word = rw (add-one, drop-cons word i 0) refl in
    let o = one_byte (get_or word i 0) (drop (i + 1) word) a.line a.rest e in
    record {
      rest = o.0 ∙ ap (λ (w : List ℕ). after_word w a.rest) (sym split) ∙ h.rest;
      line = o.1 ∙ ap (λ (w : List ℕ). a.line + line_feeds w) (sym split) ∙ h.line;
    }

pub follows-end : (word : List ℕ) (start : At) (i : ℕ) (a : At) → length word ≤ i → StepsBehind word start i a → word_at word start ≡ Ok (tt, a)
follows-end word start i a le h =
    let nothing : drop i word ≡ [] = drop_of_length-le word le in
    let found : after_word word start.rest ≡ Some a.rest = sym h.rest ∙ ap (λ (w : List ℕ). after_word w a.rest) nothing in
    let line : start.line + line_feeds word ≡ a.line = sym h.line ∙ ap (λ (w : List ℕ). a.line + line_feeds w) nothing ∙ add-zero a.line in
    rw found (rw line refl)

pub follows-fault : (word : List ℕ) (start : At) (i : ℕ) (a : At) → i < length word → differs (first_of a) (get_or word i 0) ≡ true → StepsBehind word start i a → word_at word start ≡ Err start.line
follows-fault word start i a lt e h =
    let split : drop i word ≡ get_or word i 0 ∷ drop (i + 1) word = rw (add-one, drop-cons word i 0) refl in
    let none : after_word word start.rest ≡ None = sym h.rest ∙ ap (λ (w : List ℕ). after_word w a.rest) split ∙ other_byte (get_or word i 0) (drop (i + 1) word) a.rest e in
    rw none refl

-- ---- a number

pub first_is : (a : At) (c : ℕ) → first_of a ≡ Some c → (a.rest ≡ c ∷ (behind a).rest) × ((behind a).line ≡ cond (eqb c 10) (a.line + 1) a.line)
first_is a c e = by_rest a.line a.rest e
  where
    by_rest : (line : ℕ) (rest : List ℕ) → first_byte rest ≡ Some c → (rest ≡ c ∷ (behind_byte line rest).rest) × ((behind_byte line rest).line ≡ cond (eqb c 10) (line + 1) line)
    by_rest line [] e = absurd cc
    by_rest line (d ∷ ds) e = let h : d ≡ c = cc in (ap (λ (x : ℕ). x ∷ ds) h, ap (λ (x : ℕ). cond (eqb x 10) (line + 1) line) h)

-- the digits so far make n, and those before made m
pub record Counts (most : ℕ) (end : ℕ → ℕ) (m : ℕ) (start : At) (n : ℕ) (a : At) : Type 0 where
  pub rest : digits_from most end n a.rest ≡ digits_from most end m start.rest
  pub line : a.line ≡ start.line
  pub small : n ≤ most

pub line_feeds-decimal : (n : ℕ) → n < 10 ^ 64 → line_feeds (decimal n) ≡ 0
line_feeds-decimal = decimal_by_steps_wide (λ n ds. line_feeds ds ≡ 0) (λ n lt. one n lt)
    (λ n ds ten h. line_feeds-append ds ((48 + n % 10) ∷ []) ∙ rw (h) (ap (λ (k : ℕ). 0 + k) (one (n % 10) (omega arith))))
  where
    one : (n : ℕ) → n < 10 → line_feeds ((48 + n) ∷ []) ≡ 0
    one n lt = rw (ne_eqb (48 + n) 10 (λ e. omega arith)) refl

one_more : (line : ℕ) (b : Bool) → line + cond b 1 0 ≡ cond b (line + 1) line
one_more line true = refl
one_more line false = add-zero line

pub counts-end : (most : ℕ) (end : ℕ → ℕ) (m : ℕ) (start : At) (n : ℕ) (a : At) (c : ℕ) → most < 10 ^ 64 → first_of a ≡ Some c → c ≡ end n
    → Counts most end m start n a → digits_at most end m start ≡ Ok (n, behind a)
counts-end most end m start n a c small e same h =
    let f = first_is a c e in
    let found : digits_from most end m start.rest ≡ Some (n, (behind a).rest) = sym h.rest ∙ ap (digits_from most end n) f.0 ∙ rw (eq-eqb c (end n) same) refl in
    let feeds : line_feeds (number_spelling end n) ≡ cond (eqb c 10) 1 0 = line_feeds-append (decimal n) (end n ∷ [])
    ∙ rw (line_feeds-decimal n (omega (arith, h.small)), ← same) (zero-add (cond (eqb c 10) 1 0 + 0) ∙ add-zero (cond (eqb c 10) 1 0)) in
    let line : start.line + line_feeds (number_spelling end n) ≡ (behind a).line = ap (λ (k : ℕ). start.line + k) feeds
    ∙ ap (λ (k : ℕ). k + cond (eqb c 10) 1 0) (sym h.line) ∙ one_more a.line (eqb c 10) ∙ sym f.1 in
    rw found (rw line refl)
