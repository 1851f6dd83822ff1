-- Readers that take a front of the bytes before them, and read in the first of these what they read in the whole.
use Rattle.std.proofs.Common.{◌≡◌, ℕ, ◌+◌, ◌-◌, ◌^◌, ◌≤◌, Bool, true, false, cond, eqb, List, [], ◌∷◌, ◌++◌, length, Option, None, Some, Result, Ok, Err, refl}
use Rattle.std.proofs.Common.{sym, ap, ◌∙◌, append_assoc, arith, length-append}
use Rattle.std.specs.Prelude.{ℤ, FitsSigned}
use Rattle.std.specs.Int.{w64, w128}
use Rattle.std.specs.Fmt.{decimal, signed_decimal}
use Rattle.cert_text.specs.declared.pieces.Ends.{Ends}
use Rattle.cert_text.specs.declared.pieces.Ends.TheVariants.{Line}
use Rattle.cert_text.specs.Lines.{line_feeds}
use Rattle.cert_text.specs.Reading.{At, ◌>>=◌, word_at, found_at, kept, number_from, number_spelling, int_spelling, same_at, end_of, u32_at, u64_at, i64_at, i128_at}
use Rattle.cert_text.proofs.LineLemmas.{line_feeds-append}
use Rattle.cert_text.proofs.Laws.{Reads, done, ok_is, bind_ok}
use Rattle.cert_text.proofs.PieceLaws.{one_line, Always, word_reads}
use Rattle.cert_text.proofs.NumberLaws.{below, u32_reads, u64_reads, i64_reads, i128_reads}
use Rattle.cert_text.proofs.WindowLaws.{Window, at, further, window_done, window_more, window_bind}
use Rattle.cert_text.proofs.Windows.{word_window, u32_window, u64_window, i64_window, i128_window}

-- a place behind a front of at least so many bytes
pub record IsBehind (least : ℕ) (a b : At) : Type 0 where
  pub front : List ℕ
  pub parts : a.rest ≡ front ++ b.rest
  pub line : b.line ≡ a.line + line_feeds front
  pub long : least ≤ length front

-- a reader that takes a front of at least so many bytes, and reads in so many what it reads in the whole
pub record Piece {X : Type 0} (least most : ℕ) (read : At → Result (X × At) ℕ) : Type 0 where
  pub window : Window most read
  pub leaves : (a b : At) (x : X) → read a ≡ Ok (x, b) → IsBehind least a b

pub any : {X : Type 0} {least most : ℕ} {read : At → Result (X × At) ℕ} → Piece least most read → Piece 0 most read
any p = record {
  window = p.window;
  leaves = λ a b x e. let q = p.leaves a b x e in record { front = q.front; parts = q.parts; line = q.line; long = omega arith };
}

pub piece_reads : (X : Type 0) (Is : X → Type 0) (spell : X → List ℕ) (read : At → Result (X × At) ℕ) → Reads X Is spell read → (least most : ℕ) → ((x : X) → Is x → least ≤ length (spell x))
    → Window most read → Piece least most read
piece_reads X Is spell read reads least most long w = record {
  window = w;
  leaves = λ a b x e. let t = reads.takes a x b e in record { front = spell x; parts = t.parts; line = t.line; long = long x t.is };
}

pub piece_done : {X : Type 0} (x : X) → Piece 0 0 (λ a. done (x, a))
piece_done {X} x = record {
  window = window_done x;
  leaves = λ a b y e.
      let same = ok_is (x, a) (y, b) e in
      record { front = []; parts = ap (λ (p : X × At). p.1.rest) same; line = omega (arith, ap (λ (p : X × At). p.1.line) same); long = omega arith };
}

pub piece_more : {X : Type 0} {least : ℕ} {read : At → Result (X × At) ℕ} (k m : ℕ) → k ≤ m → Piece least k read → Piece least m read
piece_more k m le p = record { window = window_more k m le p.window; leaves = p.leaves }

pub piece_bind : {X Y : Type 0} {least : ℕ} (k m : ℕ) (r : At → Result (X × At) ℕ) (f : X → At → Result (Y × At) ℕ) → Piece least k r →
    ((x : X) → Piece 0 m (f x)) → Piece least (k + m) (λ a. r a >>= λ p. f p.0 p.1)
piece_bind {X} {Y} {least} k m r f w ws = record {
  window = window_bind k m r f w.window (λ x. (ws x).window);
  leaves = λ a b y e.
      let p = bind_ok (r a) (λ q. f q.0 q.1) (y, b) e in
      let first = w.leaves a p.0.1 p.0.0 p.1 in
      let second = (ws p.0.0).leaves p.0.1 b y p.2 in
      record {
        front = first.front ++ second.front;
        parts = first.parts ∙ ap (λ (t : List ℕ). first.front ++ t) second.parts ∙ sym (append_assoc first.front second.front b.rest);
        line = omega (arith, first.line, second.line, line_feeds-append first.front second.front);
        long = omega (arith, first.long, length-append first.front second.front);
      };
}

pub word_piece : (word : List ℕ) → one_line word ≡ true → 1 ≤ length word → Piece 1 (length word) (word_at word)
word_piece word o some = piece_reads (Unit {0}) Always (λ _. word) (word_at word) (word_reads word o) 1 (length word) (λ x i. some) (word_window word o)

-- a word before another reader
pub after_word_piece : {Y : Type 0} (word : List ℕ) (m : ℕ) (f : At → Result (Y × At) ℕ) → one_line word ≡ true → 1 ≤ length word → Piece 0 m f →
    Piece 1 (length word + m) (λ a. word_at word a >>= λ w. f w.1)
after_word_piece word m f o some p = piece_bind (length word) m (word_at word) (λ _ a. f a) (word_piece word o some) (λ _. p)

-- a value made of what was read
pub with_piece : {X Y : Type 0} {least : ℕ} (k : ℕ) (r : At → Result (X × At) ℕ) (f : X → Y) → Piece least k r → Piece least (k + 0) (λ a. r a >>= λ x. Ok (f x.0, x.1))
with_piece k r f p = piece_bind k 0 r (λ x a. Ok (f x, a)) p (λ x. piece_done (f x))

pub cond_piece : {X : Type 0} (b : Bool) (k : ℕ) (r s : At → Result (X × At) ℕ) → Piece 0 k r → Piece 0 k s → Piece 0 k (λ a. cond b (r a) (s a))
cond_piece true k r s v w = v
cond_piece false k r s v w = w

-- ---- numbers

-- the byte that ends a number is one
ended_long : (digits : List ℕ) (end : ℕ) → 1 ≤ length (digits ++ end ∷ [])
ended_long digits end = omega (arith, length-append digits (end ∷ []))

pub u32_piece : (e : Ends) → Piece 1 11 (u32_at e)
u32_piece e = piece_reads ℕ (below 32) (number_spelling (end_of e)) (u32_at e) (u32_reads e) 1 11 (λ n h. ended_long (decimal n) (end_of e n)) (u32_window e)

pub u64_piece : (e : Ends) → Piece 1 21 (u64_at e)
u64_piece e = piece_reads ℕ (below 64) (number_spelling (end_of e)) (u64_at e) (u64_reads e) 1 21 (λ n h. ended_long (decimal n) (end_of e n)) (u64_window e)

pub i64_piece : (e : Ends) → Piece 1 21 (i64_at e)
i64_piece e = piece_reads ℤ (FitsSigned w64) (int_spelling (end_of e)) (i64_at e) (i64_reads e) 1 21 (λ z h. ended_long (signed_decimal z) _) (i64_window e)

pub i128_piece : (e : Ends) → Piece 1 41 (i128_at e)
i128_piece e = piece_reads ℤ (FitsSigned w128) (int_spelling (end_of e)) (i128_at e) (i128_reads e) 1 41 (λ z h. ended_long (signed_decimal z) _) (i128_window e)

-- ---- a number that is known

-- the number is this one, or the line is faulty
abbrev checked : ℕ → ℕ → Result (ℕ × At) ℕ → Result (ℕ × At) ℕ
checked n line (Ok p) = cond (eqb p.0 n) (Ok p) (Err line)
checked n line (Err e) = Err line

same_is : (n : ℕ) (a : At) → same_at (2 ^ 64 - 1) (end_of Line) n a ≡ checked n a.line (u64_at Line a)
same_is n a = by_found (number_from (2 ^ 64 - 1) (end_of Line) a.rest)
  where
    by_test : (p : ℕ × List ℕ) (b : Bool) → found_at a.line (number_spelling (end_of Line)) (cond b (Some p) None) ≡ cond b (found_at a.line (number_spelling (end_of Line)) (Some p)) (Err a.line)
    by_test p true = refl
    by_test p false = refl

    by_found : (r : Option (ℕ × List ℕ)) → found_at a.line (number_spelling (end_of Line)) (kept (λ m. eqb m n) r) ≡ checked n a.line (found_at a.line (number_spelling (end_of Line)) r)
    by_found None = refl
    by_found (Some p) = by_test p (eqb p.0 n)

checked_further : (n line : ℕ) (more : List ℕ) (r : Result (ℕ × At) ℕ) → checked n line (further more r) ≡ further more (checked n line r)
checked_further n line more (Err e) = refl
checked_further n line more (Ok p) = by_test (eqb p.0 n)
  where
    by_test : (b : Bool) → cond b (further more (Ok p)) (Err line) ≡ further more (cond b (Ok p) (Err line))
    by_test true = refl
    by_test false = refl

checked_ok : (n line : ℕ) (r : Result (ℕ × At) ℕ) (q : ℕ × At) → checked n line r ≡ Ok q → r ≡ Ok q
checked_ok n line (Err e) q f = absurd cc
checked_ok n line (Ok p) q f = by_test (eqb p.0 n) f
  where
    by_test : (b : Bool) → cond b (done p) (Err line) ≡ Ok q → done p ≡ Ok q
    by_test true g = g
    by_test false g = absurd cc

pub same_piece : (n : ℕ) → Piece 1 21 (same_at (2 ^ 64 - 1) (end_of Line) n)
same_piece n = record {
  window = record {
    sees = λ line seen more long.
        same_is n (at line (seen ++ more))
        ∙ ap (checked n line) ((u64_piece Line).window.sees line seen more long)
        ∙ checked_further n line more (u64_at Line (at line seen))
        ∙ ap (further more) (sym (same_is n (at line seen)));
    takes = λ a b x e. (u64_piece Line).window.takes a b x (checked_ok n a.line (u64_at Line a) (x, b) (sym (same_is n a) ∙ e));
  };
  leaves = λ a b x e. (u64_piece Line).leaves a b x (checked_ok n a.line (u64_at Line a) (x, b) (sym (same_is n a) ∙ e));
}
