-- Reading a text from left to right: what is read and where the reading then stands, or the line of the fault.
use Rattle.std.specs.Prelude.{◌≡◌, ℕ, zero, suc, ◌+◌, ◌-◌, ◌*◌, ◌^◌, Bool, IsTrue, ◌&&◌, List, [], ◌∷◌, ◌++◌}
use Rattle.std.specs.Prelude.{length, Option, Some, None, Result, Ok, Err, ◌==◌, nat_lt, nat_le, ℤ, pos, negsuc, unsigned_abs, ◌≤◌, if◌then◌else◌}
use Rattle.std.specs.Char.{is_ascii_digit}
use Rattle.std.specs.Fmt.{decimal, signed_decimal}
use Rattle.cert_text.specs.Lines.{line_feeds}
use Rattle.cert_text.specs.declared.pieces.Ends.{Ends}
use Rattle.cert_text.specs.declared.pieces.Ends.TheVariants.{Space, Line, LineIfZero}
use Rattle.cert_text.specs.declared.fault.Stop.{Stop}
use Rattle.cert_text.specs.declared.fault.Stop.TheVariants.{Text, Source}

-- the number of the line in which the next byte stands, and the bytes to come
pub record At : Type 0 where
  pub line : ℕ
  pub rest : List ℕ

-- one step after another, up to the first fault
infixl 10 ◌>>=◌
abbrev pub ◌>>=◌ : {A B : Type 0} → Result A ℕ → (A → Result B ℕ) → Result B ℕ
(Ok x) >>= f = f x
(Err e) >>= f = Err e

-- what was found in a line, and where the reading then stands
abbrev pub found_at : {X : Type 0} → ℕ → (X → List ℕ) → Option (X × List ℕ) → Result (X × At) ℕ
found_at line spell None = Err line
found_at line spell (Some p) = Ok (p.0, record { line = line + line_feeds (spell p.0); rest = p.1 })

-- a piece within a line: read from the bytes to come, or a fault of this line
abbrev pub piece_at : {X : Type 0} → (X → List ℕ) → (List ℕ → Option (X × List ℕ)) → At → Result (X × At) ℕ
piece_at spell read a = found_at a.line spell (read a.rest)

-- ---- all of the bytes

-- nothing stands behind what was read
abbrev pub ended : {X : Type 0} → X → ℕ → List ℕ → Result X ℕ
ended x line [] = Ok x
ended x line (c ∷ cs) = Err line

-- before the first byte
abbrev pub start : List ℕ → At
start bytes = record { line = 1; rest = bytes }

-- what is read, with nothing behind it
abbrev pub finished : {X : Type 0} → (At → Result (X × At) ℕ) → At → Result X ℕ
finished read a = read a >>= λ p. ended p.0 p.1.line p.1.rest

-- what all of the bytes are
abbrev pub whole : {X : Type 0} → (At → Result (X × At) ℕ) → List ℕ → Result X ℕ
whole read bytes = finished read (start bytes)

-- ---- words

-- the bytes behind a word, where the text begins with it
abbrev pub after_word : List ℕ → List ℕ → Option (List ℕ)
after_word [] bytes = Some bytes
after_word (w ∷ ws) [] = None
after_word (w ∷ ws) (c ∷ cs) = if w == c then after_word ws cs else None

-- a word has no value
abbrev pub with_unit : Option (List ℕ) → Option (Unit {0} × List ℕ)
with_unit None = None
with_unit (Some rest) = Some (tt, rest)

-- this word
abbrev pub word_at : List ℕ → At → Result (Unit {0} × At) ℕ
word_at word = piece_at (λ _. word) (λ bytes. with_unit (after_word word bytes))

-- ---- numbers, each with the byte behind it

-- the byte may follow the digits of n: it is a digit, n isn't 0, and the number stays within the most
abbrev pub is_next_digit : ℕ → ℕ → ℕ → Bool
is_next_digit most n c = nat_lt 0 n && is_ascii_digit c && nat_le (n * 10 + (c - 48)) most

-- digits behind those of n, up to the byte that ends the number, which may depend on the number
abbrev pub digits_from : ℕ → (ℕ → ℕ) → ℕ → List ℕ → Option (ℕ × List ℕ)
digits_from most end n [] = None
digits_from most end n (c ∷ cs) = if c == end n then Some (n, cs) else if is_next_digit most n c then digits_from most end (n * 10 + (c - 48)) cs else None

-- a number at the front of the bytes
abbrev pub number_from : ℕ → (ℕ → ℕ) → List ℕ → Option (ℕ × List ℕ)
number_from most end [] = None
number_from most end (c ∷ cs) = if is_ascii_digit c then digits_from most end (c - 48) cs else None

-- a number and the byte that ends it
abbrev pub number_spelling : (ℕ → ℕ) → ℕ → List ℕ
number_spelling end n = decimal n ++ end n ∷ []

-- a number up to a most
abbrev pub number_at : ℕ → (ℕ → ℕ) → At → Result (ℕ × At) ℕ
number_at most end = piece_at (number_spelling end) (number_from most end)

-- the same, where the digits of n were read before
abbrev pub digits_at : ℕ → (ℕ → ℕ) → ℕ → At → Result (ℕ × At) ℕ
digits_at most end n = piece_at (number_spelling end) (digits_from most end n)

-- what passes a test
abbrev pub kept : {X : Type 0} → (X → Bool) → Option (X × List ℕ) → Option (X × List ℕ)
kept ok None = None
kept ok (Some p) = if ok p.0 then Some p else None

-- this very number
abbrev pub same_at : ℕ → (ℕ → ℕ) → ℕ → At → Result (ℕ × At) ℕ
same_at most end n = piece_at (number_spelling end) (λ b. kept (λ m. m == n) (number_from most end b))

-- ---- numbers that may be negative

-- from one below the negated most up to the most
abbrev pub IsWithin : ℕ → ℤ → Type 0
IsWithin most (pos n) = n ≤ most
IsWithin most (negsuc n) = n ≤ most

-- a number with its sign, and the byte that ends it
abbrev pub int_spelling : (ℕ → ℕ) → ℤ → List ℕ
int_spelling end z = signed_decimal z ++ end (unsigned_abs z) ∷ []

-- what stands without a sign
abbrev pub counted : Option (ℕ × List ℕ) → Option (ℤ × List ℕ)
counted None = None
counted (Some p) = Some (pos p.0, p.1)

-- there is no negative zero
abbrev pub below_zero : ℕ → List ℕ → Option (ℤ × List ℕ)
below_zero zero r = None
below_zero (suc n) r = Some (negsuc n, r)

-- what stands behind a minus sign
abbrev pub negated : Option (ℕ × List ℕ) → Option (ℤ × List ℕ)
negated None = None
negated (Some p) = below_zero p.0 p.1

-- a number that may be negative, at the front of the bytes
abbrev pub int_from : ℕ → (ℕ → ℕ) → List ℕ → Option (ℤ × List ℕ)
int_from most end [] = None
int_from most end (c ∷ cs) = if c == 45 then negated (number_from (most + 1) end cs) else counted (number_from most end (c ∷ cs))

-- a number of a magnitude up to a most, or one more below zero
abbrev pub int_at : ℕ → (ℕ → ℕ) → At → Result (ℤ × At) ℕ
int_at most end = piece_at (int_spelling end) (int_from most end)

-- ---- how a number ends

-- the byte behind a number
abbrev pub end_of : Ends → ℕ → ℕ
end_of Space n = 32
end_of Line n = 10
end_of LineIfZero n = if n == 0 then 10 else 32

-- a line goes on where more numbers follow
abbrev pub ends_before : ℕ → Ends
ends_before k = if k == 0 then Line else Space

-- a number of 32 bits
abbrev pub u32_at : Ends → At → Result (ℕ × At) ℕ
u32_at ends = number_at (2 ^ 32 - 1) (end_of ends)

-- a number of 64 bits
abbrev pub u64_at : Ends → At → Result (ℕ × At) ℕ
u64_at ends = number_at (2 ^ 64 - 1) (end_of ends)

-- a signed number of 64 bits
abbrev pub i64_at : Ends → At → Result (ℤ × At) ℕ
i64_at ends = int_at (2 ^ 63 - 1) (end_of ends)

-- a signed number of 128 bits
abbrev pub i128_at : Ends → At → Result (ℤ × At) ℕ
i128_at ends = int_at (2 ^ 127 - 1) (end_of ends)

-- ---- a count of items, each read knowing how many follow it

-- the items' texts, one behind another
abbrev pub each_spelling : {X : Type 0} → (ℕ → X → List ℕ) → List X → List ℕ
each_spelling s [] = []
each_spelling s (x ∷ xs) = s (length xs) x ++ each_spelling s xs

-- n items
unfoldable pub each_at : {X : Type 0} → (ℕ → At → Result (X × At) ℕ) → ℕ → At → Result (List X × At) ℕ
each_at r zero a = Ok ([], a)
each_at r (suc n) a = do
  x ← r n a
  xs ← each_at r n x.1
  Ok (x.0 ∷ xs.0, xs.1)

-- ---- one byte

-- the first of the bytes, where there is one
abbrev pub first_byte : List ℕ → Option ℕ
first_byte [] = None
first_byte (c ∷ cs) = Some c

-- the next byte
abbrev pub first_of : At → Option ℕ
first_of a = first_byte a.rest

-- behind one byte of a line
abbrev pub behind_byte : ℕ → List ℕ → At
behind_byte line [] = record { line = line; rest = [] }
behind_byte line (c ∷ cs) = record { line = (if c == 10 then line + 1 else line); rest = cs }

-- behind the next byte
abbrev pub behind : At → At
behind a = behind_byte a.line a.rest

-- ---- what the code gives

-- a reader stopped: at the fault that the reading function gives, or since its source is broken
abbrev pub Stops : {Y : Type 0} → Stop → Bool → Result Y ℕ → Type 0
Stops (Text f) broken read = read ≡ Err f.line
Stops Source broken read = IsTrue broken

-- what a reader of the code gave, and where it left its source: what the reading function gives, unless its source is broken
abbrev pub Gives : {X Y : Type 0} → (X → Y) → Result X Stop → At → Bool → Result (Y × At) ℕ → Type 0
Gives view (Ok x) b broken read = read ≡ Ok (view x, b)
Gives view (Err e) b broken read = Stops e broken read
