-- Numbers of the types, words before them, and numbers side by side, each read as it is spelled.
use Rattle.std.proofs.Common.{◌≡◌, ◌⊎◌, ℕ, suc, ◌-◌, ◌^◌, ◌<◌, ◌≤◌, Bool, true, false, cond, eqb, List, [], ◌∷◌, ◌++◌, length, Result, refl, sym, ap, ◌∙◌, append_assoc, arith, inl, inr, lit<, lit≤}
use Rattle.std.specs.Prelude.{ℤ, pos, negsuc, FitsSigned}
use Rattle.std.specs.Int.{w64, w128}
use Rattle.std.proofs.lemmas.Int.{ints}
use Rattle.std.specs.List.{flat_map}
use Rattle.std.proofs.lemmas.Bool.{eq-eqb, ne_eqb}
use Rattle.cert_text.specs.declared.pieces.Ends.{Ends}
use Rattle.cert_text.specs.declared.pieces.Ends.TheVariants.{Space, Line, LineIfZero}
use Rattle.cert_text.specs.Reading.{At, ◌>>=◌, word_at, number_spelling, int_spelling, IsWithin, same_at, each_spelling, end_of, ends_before, u32_at, u64_at, i64_at, i128_at, kept, number_from}
use Rattle.cert_text.proofs.Laws.{Reads, bind_reads, reworded}
use Rattle.cert_text.proofs.PieceLaws.{piece_reads, one_line, Always, word_reads, IsEnd, number_reads, int_reads, kept_piece, number_piece}

abbrev pick : Bool → ℕ
pick b = cond b 10 32

is_end : (e : Ends) → IsEnd (end_of e)
is_end Space = record { ends = λ n. inl refl }
is_end Line = record { ends = λ n. inr refl }
is_end LineIfZero = record { ends = λ n. either (eqb n 0) }
  where
    either : (b : Bool) → (pick b ≡ 32) ⊎ (pick b ≡ 10)
    either true = inr refl
    either false = inl refl

-- a number of so many bits
abbrev pub below : ℕ → ℕ → Type 0
below k n = n < 2 ^ k

fits64 : (z : ℤ) → IsWithin (2 ^ 63 - 1) z → FitsSigned w64 z
fits64 (pos n) h = omega (arith, ints)
fits64 (negsuc n) h = omega (arith, ints)

within64 : (z : ℤ) → FitsSigned w64 z → IsWithin (2 ^ 63 - 1) z
within64 (pos n) h = omega (arith, ints)
within64 (negsuc n) h = omega (arith, ints)

fits128 : (z : ℤ) → IsWithin (2 ^ 127 - 1) z → FitsSigned w128 z
fits128 (pos n) h = omega (arith, ints)
fits128 (negsuc n) h = omega (arith, ints)

within128 : (z : ℤ) → FitsSigned w128 z → IsWithin (2 ^ 127 - 1) z
within128 (pos n) h = omega (arith, ints)
within128 (negsuc n) h = omega (arith, ints)

pub u32_reads : (e : Ends) → Reads ℕ (below 32) (number_spelling (end_of e)) (u32_at e)
u32_reads e = reworded ℕ (λ n. n ≤ 2 ^ 32 - 1) (below 32) (number_spelling (end_of e)) (number_spelling (end_of e)) (u32_at e)
    (number_reads (2 ^ 32 - 1) (end_of e) (is_end e) (lit≤ tt) (lit< tt)) (λ n h. omega arith) (λ n h. omega arith) (λ n h. refl)

pub u64_reads : (e : Ends) → Reads ℕ (below 64) (number_spelling (end_of e)) (u64_at e)
u64_reads e = reworded ℕ (λ n. n ≤ 2 ^ 64 - 1) (below 64) (number_spelling (end_of e)) (number_spelling (end_of e)) (u64_at e)
    (number_reads (2 ^ 64 - 1) (end_of e) (is_end e) (lit≤ tt) (lit< tt)) (λ n h. omega arith) (λ n h. omega arith) (λ n h. refl)

pub i64_reads : (e : Ends) → Reads ℤ (FitsSigned w64) (int_spelling (end_of e)) (i64_at e)
i64_reads e = reworded ℤ (IsWithin (2 ^ 63 - 1)) (FitsSigned w64) (int_spelling (end_of e)) (int_spelling (end_of e)) (i64_at e)
    (int_reads (2 ^ 63 - 1) (end_of e) (is_end e) (lit≤ tt) (lit< tt)) fits64 within64 (λ z h. refl)

pub i128_reads : (e : Ends) → Reads ℤ (FitsSigned w128) (int_spelling (end_of e)) (i128_at e)
i128_reads e = reworded ℤ (IsWithin (2 ^ 127 - 1)) (FitsSigned w128) (int_spelling (end_of e)) (int_spelling (end_of e)) (i128_at e)
    (int_reads (2 ^ 127 - 1) (end_of e) (is_end e) (lit≤ tt) (lit< tt)) fits128 within128 (λ z h. refl)

pub same_reads : (n : ℕ) → below 64 n → Reads ℕ (λ m. below 64 m × (eqb m n ≡ true)) (number_spelling (end_of Line)) (same_at (2 ^ 64 - 1) (end_of Line) n)
same_reads n lt = reworded ℕ (λ m. (m ≤ 2 ^ 64 - 1) × (eqb m n ≡ true)) (λ m. below 64 m × (eqb m n ≡ true)) (number_spelling (end_of Line))
    (number_spelling (end_of Line)) (same_at (2 ^ 64 - 1) (end_of Line) n)
    (piece_reads ℕ (λ m. (m ≤ 2 ^ 64 - 1) × (eqb m n ≡ true)) (number_spelling (end_of Line)) (λ b. kept (λ m. eqb m n) (number_from (2 ^ 64 - 1) (end_of Line) b))
    (kept_piece ℕ (λ m. m ≤ 2 ^ 64 - 1) (number_spelling (end_of Line)) (number_from (2 ^ 64 - 1) (end_of Line)) (λ m. eqb m n) n
    (number_piece (2 ^ 64 - 1) (end_of Line) (is_end Line) (lit≤ tt) (lit< tt)) (omega arith) (eq-eqb n n refl)))
    (λ m h. (omega arith, h.1)) (λ m h. (omega arith, h.1)) (λ m h. refl)

-- a word, and a reader behind it
pub word_then : {Z : Type 0} {J : Z → Type 0} {t : Z → List ℕ} {q : At → Result (Z × At) ℕ} (word : List ℕ) → one_line word ≡ true → Reads Z J t q
    → Reads Z J (λ z. word ++ t z) (λ a. word_at word a >>= λ w. q w.1)
word_then {Z} {J} {t} {q} word o reads =
    reworded Z (λ z. Always tt × J z) J (λ z. word ++ t z) (λ z. word ++ t z) (λ a. word_at word a >>= λ w. q w.1)
    (bind_reads (Unit {0}) Z Always (λ _. word) (word_at word) (λ _ z. J z) (λ _ z. t z) (λ _ a. q a) (λ _. tt) (word_reads word o) (λ x i. reads) (λ x z h. refl))
    (λ z h. h.1) (λ z h. (tt, h)) (λ z h. refl)

-- ---- items side by side in a line

-- the byte behind a number that k others follow
abbrev pub stop : ℕ → ℕ
stop k = end_of (ends_before k) 0

pub stop_is : (k n : ℕ) → end_of (ends_before k) n ≡ stop k
stop_is k n = by_zero (eqb k 0)
  where
    by_zero : (b : Bool) → end_of (cond b Line Space) n ≡ end_of (cond b Line Space) 0
    by_zero true = refl
    by_zero false = refl

stop_more : (k : ℕ) → stop (suc k) ≡ 32
stop_more k = let e : eqb (suc k) 0 ≡ false = ne_eqb (suc k) 0 (λ h. omega arith) in rw e refl

-- a count ends as a number that its items follow
pub count_is : (n : ℕ) → end_of LineIfZero n ≡ stop n
count_is n = by_zero (eqb n 0)
  where
    by_zero : (b : Bool) → cond b 10 32 ≡ end_of (cond b Line Space) 0
    by_zero true = refl
    by_zero false = refl

-- each item behind a space, and the line's end
pub list_line : {X : Type 0} (f : X → List ℕ) (s : ℕ → X → List ℕ) → ((k : ℕ) (x : X) → s k x ≡ f x ++ stop k ∷ []) → (xs : List X)
    → stop (length xs) ∷ each_spelling s xs ≡ flat_map (λ x. 32 ∷ f x) xs ++ 10 ∷ []
list_line f s same [] = refl
list_line f s same (x ∷ xs) =
    let e : s (length xs) x ++ each_spelling s xs ≡ f x ++ (stop (length xs) ∷ each_spelling s xs) =
    ap (λ (w : List ℕ). w ++ each_spelling s xs) (same (length xs) x) ∙ append_assoc (f x) (stop (length xs) ∷ []) (each_spelling s xs) in
    let g : f x ++ (stop (length xs) ∷ each_spelling s xs) ≡ f x ++ (flat_map (λ x. 32 ∷ f x) xs ++ 10 ∷ []) = ap (λ (w : List ℕ). f x ++ w) (list_line f s same xs) in
    ap (λ (d : ℕ). d ∷ (s (length xs) x ++ each_spelling s xs)) (stop_more (length xs)) ∙ ap (λ (w : List ℕ). 32 ∷ w) (e ∙ g ∙ sym (append_assoc (f x) (flat_map (λ x. 32 ∷ f x) xs) (10 ∷ [])))

-- items each on a line of its own
pub each_spelling-same : {X : Type 0} (f : X → List ℕ) (xs : List X) → each_spelling (λ _ x. f x) xs ≡ flat_map f xs
each_spelling-same f [] = refl
each_spelling-same f (x ∷ xs) = ap (λ (w : List ℕ). f x ++ w) (each_spelling-same f xs)
