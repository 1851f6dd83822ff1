-- The lines can be read back from their text: a text has only one list of lines.
use Rattle.std.proofs.Common.{All, ◌≡◌, ℕ, zero, suc, ◌+◌, ◌-◌, ◌*◌, ◌/◌, ◌%◌, ◌^◌, ◌<◌, ◌≤◌, true, false, ◌==◌, if◌then◌else◌, List, [], ◌∷◌, ◌++◌}
use Rattle.std.proofs.Common.{get_or, length, drop, ℤ, pos, negsuc, neg_ℤ, append_assoc, length-append, arith, refl, sym, ap, ◌∙◌}
use Rattle.std.specs.List.{flat_map}
use Rattle.std.specs.Char.{is_ascii_digit}
use Rattle.std.specs.Fmt.{decimal, signed_decimal}
use Rattle.std.proofs.lemmas.Bool.Decides.{nat_tests}
use Rattle.std.proofs.lemmas.Fmt.{decimal_by_steps_wide}
use Rattle.std.proofs.lemmas.List.Elements.{All-nil, All-cons, All-head, All-tail, All-weaker}
use Rattle.row_model.specs.Catalogue.{Kind, at_least, equal}
use Rattle.box_space.specs.declared.coordinates.Form.TheVariants.{P, Q, Pq}
use Rattle.program_text.specs.Names.{letter_of}
use Rattle.program_text.specs.Lines.{row_head}
use Rattle.program_text.specs.declared.names.Name.{Name}
use Rattle.program_text.specs.declared.names.Symbol.{Symbol}
use Rattle.program_text.specs.declared.names.Symbol.TheVariants as symbols
use Rattle.printed_program.specs.ProgramLines.{NamedTerm, ProgramLine, of_form, least, ends, row, product, finish, name_text, named_term_text, line_text, lines_text}
use Rattle.printed_program.specs.ProgramLines.{IsShortName, IsShortNumber, IsShortTerm, IsShort}

-- what was read goes into what reads on
abbrev with_read : {A X : Type 0} → A × List ℕ → (A → List ℕ → X) → X
with_read p f = f p.0 p.1

-- ---- numbers

-- digits behind those of a number
abbrev read_digits : ℕ → List ℕ → ℕ × List ℕ
read_digits n [] = (n, [])
read_digits n (c ∷ cs) = if is_ascii_digit c then read_digits (n * 10 + (c - 48)) cs else (n, c ∷ cs)

-- what follows a number is no digit
abbrev IsStop : List ℕ → Type 0
IsStop b = is_ascii_digit (get_or b 0 0) ≡ false

digits-read : (n : ℕ) → n < 10 ^ 64 → (b : List ℕ) → read_digits 0 (decimal n ++ b) ≡ read_digits n b
digits-read = decimal_by_steps_wide (λ n ds. (b : List ℕ) → read_digits 0 (ds ++ b) ≡ read_digits n b) one more
  where
    is_digit : (k : ℕ) → k < 10 → is_ascii_digit (48 + k) ≡ true
    is_digit k lt = grind (arith, nat_tests)

    one : (n : ℕ) → n < 10 → (b : List ℕ) → read_digits 0 (((48 + n) ∷ []) ++ b) ≡ read_digits n b
    one n lt b = let k : 0 * 10 + ((48 + n) - 48) ≡ n = omega arith in rw (is_digit n lt, k) refl

    more : (n : ℕ) (ds : List ℕ) → 10 ≤ n → ((b : List ℕ) → read_digits 0 (ds ++ b) ≡ read_digits (n / 10) b)
        → (b : List ℕ) → read_digits 0 ((ds ++ ((48 + n % 10) ∷ [])) ++ b) ≡ read_digits n b
    more n ds ten h b =
        let k : (n / 10) * 10 + ((48 + n % 10) - 48) ≡ n = omega arith in
        ap (read_digits 0) (append_assoc ds ((48 + n % 10) ∷ []) b) ∙ h ((48 + n % 10) ∷ b) ∙ rw (is_digit (n % 10) (omega arith), k) refl

digits-end : (n : ℕ) (b : List ℕ) → IsStop b → read_digits n b ≡ (n, b)
digits-end n [] stop = refl
digits-end n (c ∷ cs) stop = rw stop refl

number-back : (n : ℕ) (b : List ℕ) → n < 10 ^ 64 → IsStop b → read_digits 0 (decimal n ++ b) ≡ (n, b)
number-back n b small stop = digits-read n small b ∙ digits-end n b stop

-- a number does not begin with a sign
no-sign : (n : ℕ) → n < 10 ^ 64 → (b : List ℕ) → (get_or (decimal n ++ b) 0 0 == 45) ≡ false
no-sign = decimal_by_steps_wide (λ n ds. (b : List ℕ) → (get_or (ds ++ b) 0 0 == 45) ≡ false) (λ n lt b. other n)
    (λ n ds ten h b. ap (λ (w : List ℕ). get_or w 0 0 == 45) (append_assoc ds ((48 + n % 10) ∷ []) b) ∙ h ((48 + n % 10) ∷ b))
  where
    other : (n : ℕ) → (48 + n == 45) ≡ false
    other n = grind (arith, nat_tests)

abbrev positive : ℕ × List ℕ → ℤ × List ℕ
positive p = (pos p.0, p.1)

abbrev negative : ℕ × List ℕ → ℤ × List ℕ
negative p = (neg_ℤ (pos p.0), p.1)

abbrev read_int : List ℕ → ℤ × List ℕ
read_int b = if get_or b 0 0 == 45 then negative (read_digits 0 (drop 1 b)) else positive (read_digits 0 b)

int-back : (z : ℤ) (b : List ℕ) → IsShortNumber z → IsStop b → read_int (signed_decimal z ++ b) ≡ (z, b)
int-back (pos n) b small stop = rw (no-sign n small b) (ap positive (number-back n b small stop))
int-back (negsuc n) b small stop = ap negative (number-back (suc n) b small stop)

-- ---- names

abbrev symbol_of : ℕ → Symbol
symbol_of c =
    if c == 120 then symbols.Feed
    else (if c == 121 then symbols.Out
    else (if c == 122 then symbols.Direct
    else (if c == 119 then symbols.Path
    else (if c == 81 then symbols.Proportion
    else (if c == 112 then symbols.Quality else symbols.Mixed)))))

symbol-back : (s : Symbol) → symbol_of (letter_of s) ≡ s
symbol-back symbols.Feed = refl
symbol-back symbols.Out = refl
symbol-back symbols.Direct = refl
symbol-back symbols.Path = refl
symbol-back symbols.Proportion = refl
symbol-back symbols.Quality = refl
symbol-back symbols.Mixed = refl

abbrev name_from : ℕ → ℕ × List ℕ → Name × List ℕ
name_from c p = (record { symbol = symbol_of c; number = p.0 }, p.1)

abbrev read_name : List ℕ → Name × List ℕ
read_name b = name_from (get_or b 0 0) (read_digits 0 (drop 1 b))

name-back : (name : Name) (b : List ℕ) → IsShortName name → IsStop b → read_name (name_text name ++ b) ≡ (name, b)
name-back name b small stop =
    ap (name_from (letter_of name.symbol)) (number-back name.number b small stop)
    ∙ ap (λ (s : Symbol). (record { symbol = s; number = name.number }, b)) (symbol-back name.symbol)

-- ---- terms

abbrev one_more : Name → ℤ → List NamedTerm × List ℕ → List NamedTerm × List ℕ
one_more name coef p = (record { name = name; coef = coef } ∷ p.0, p.1)

-- so many terms at the most
abbrev read_terms : ℕ → List ℕ → List NamedTerm × List ℕ
read_terms zero b = ([], b)
read_terms (suc k) b =
    if get_or b 0 0 == 32 then with_read (read_name (drop 1 b)) (λ name c. with_read (read_int (drop 1 c)) (λ coef d. one_more name coef (read_terms k d)))
    else ([], b)

-- what stands behind terms
abbrev ended : List NamedTerm → List ℕ → List ℕ
ended ts b = flat_map named_term_text ts ++ (10 ∷ b)

terms-stop : (ts : List NamedTerm) (b : List ℕ) → IsStop (ended ts b)
terms-stop [] b = refl
terms-stop (t ∷ ts) b = refl

term-whole : (t : NamedTerm) (ts : List NamedTerm) (b : List ℕ) → ended (t ∷ ts) b ≡ 32 ∷ (name_text t.name ++ (32 ∷ (signed_decimal t.coef ++ ended ts b)))
term-whole t ts b =
    append_assoc (named_term_text t) (flat_map named_term_text ts) (10 ∷ b)
    ∙ ap (λ (w : List ℕ). 32 ∷ w) (append_assoc (name_text t.name) (32 ∷ (signed_decimal t.coef ++ [])) (ended ts b)
    ∙ ap (λ (w : List ℕ). name_text t.name ++ (32 ∷ w)) (append_assoc (signed_decimal t.coef) [] (ended ts b)))

terms-back : (k : ℕ) (ts : List NamedTerm) (b : List ℕ) → length ts ≤ k → All IsShortTerm ts → read_terms k (ended ts b) ≡ (ts, 10 ∷ b)
terms-back zero [] b few short = refl
terms-back zero (t ∷ ts) b few short = absurd (omega arith)
terms-back (suc k) [] b few short = refl
terms-back (suc k) (t ∷ ts) b few short =
    let s = All-head IsShortTerm t ts short in
    ap (read_terms (suc k)) (term-whole t ts b)
    ∙ ap (λ (p : Name × List ℕ). with_read p (λ name c. with_read (read_int (drop 1 c)) (λ coef d. one_more name coef (read_terms k d))))
    (name-back t.name (32 ∷ (signed_decimal t.coef ++ ended ts b)) s.0 refl)
    ∙ ap (λ (p : ℤ × List ℕ). with_read p (λ coef d. one_more t.name coef (read_terms k d))) (int-back t.coef (ended ts b) s.1 (terms-stop ts b))
    ∙ ap (one_more t.name t.coef) (terms-back k ts b (omega arith) (All-tail IsShortTerm t ts short))

terms-long : (ts : List NamedTerm) (b : List ℕ) → length ts ≤ length (ended ts b)
terms-long [] b = omega arith
terms-long (t ∷ ts) b =
    omega (
      arith,
      ap length (term-whole t ts b),
      length-append (name_text t.name) (32 ∷ (signed_decimal t.coef ++ ended ts b)),
      length-append (signed_decimal t.coef) (ended ts b),
      terms-long ts b,
    )

-- ---- lines

abbrev read_form : List ℕ → ProgramLine × List ℕ
read_form b =
    if get_or b 0 0 == 113 then (of_form Q, drop 2 b)
    else (if get_or b 1 0 == 113 then (of_form Pq, drop 3 b) else (of_form P, drop 2 b))

abbrev least_of : List NamedTerm × List ℕ → ProgramLine × List ℕ
least_of p = (least p.0, drop 1 p.1)

abbrev ends_high : Name → ℤ → ℤ × List ℕ → ProgramLine × List ℕ
ends_high name low p = (ends name low p.0, drop 1 p.1)

abbrev ends_low : Name → ℤ × List ℕ → ProgramLine × List ℕ
ends_low name p = ends_high name p.0 (read_int (drop 1 p.1))

abbrev ends_of : Name × List ℕ → ProgramLine × List ℕ
ends_of p = ends_low p.0 (read_int (drop 1 p.1))

abbrev kind_of : ℕ → Kind
kind_of c = if c == 103 then at_least else equal

abbrev row_end : ℕ → Kind → ℤ → List NamedTerm × List ℕ → ProgramLine × List ℕ
row_end id kind constant p = (row id kind constant p.0, drop 1 p.1)

abbrev row_constant : ℕ → ℕ → Kind → ℤ × List ℕ → ProgramLine × List ℕ
row_constant k id kind p = row_end id kind p.0 (read_terms k p.1)

abbrev row_of : ℕ → ℕ × List ℕ → ProgramLine × List ℕ
row_of k p = row_constant k p.0 (kind_of (get_or p.1 1 0)) (read_int (drop 4 p.1))

abbrev product_scale : Name → Name → Name → ℕ × List ℕ → ProgramLine × List ℕ
product_scale name factor flow p = (product name factor flow p.0, drop 1 p.1)

abbrev product_flow : Name → Name → Name × List ℕ → ProgramLine × List ℕ
product_flow name factor p = product_scale name factor p.0 (read_digits 0 (drop 1 p.1))

abbrev product_factor : Name → Name × List ℕ → ProgramLine × List ℕ
product_factor name p = product_flow name p.0 (read_name (drop 1 p.1))

abbrev product_of : Name × List ℕ → ProgramLine × List ℕ
product_of p = product_factor p.0 (read_name (drop 1 p.1))

-- by the first byte and the fourth; so many terms at the most
abbrev read_line : ℕ → List ℕ → ProgramLine × List ℕ
read_line k b =
    if get_or b 0 0 == 109 then least_of (read_terms k (drop 3 b))
    else (if get_or b 0 0 == 114 then row_of k (read_digits 0 (drop 4 b))
    else (if get_or b 0 0 == 112 then (if get_or b 3 0 == 103 then read_form (drop 8 b) else product_of (read_name (drop 5 b)))
    else (if get_or b 3 0 == 115 then ends_of (read_name (drop 5 b)) else (finish, drop 4 b))))

-- how many terms a line has
abbrev terms_in : ProgramLine → ℕ
terms_in (least terms) = length terms
terms_in (row id kind constant terms) = length terms
terms_in line = 0

ends-whole : (name : Name) (low high : ℤ) (b : List ℕ) → line_text (ends name low high) ++ b
    ≡ 101 ∷ 110 ∷ 100 ∷ 115 ∷ 32 ∷ (name_text name ++ (32 ∷ (signed_decimal low ++ (32 ∷ (signed_decimal high ++ (10 ∷ b))))))
ends-whole name low high b =
    ap (λ (w : List ℕ). 101 ∷ 110 ∷ 100 ∷ 115 ∷ 32 ∷ w)
    (append_assoc (name_text name) (32 ∷ (signed_decimal low ++ (32 ∷ (signed_decimal high ++ (10 ∷ []))))) b
    ∙ ap (λ (w : List ℕ). name_text name ++ (32 ∷ w)) (append_assoc (signed_decimal low) (32 ∷ (signed_decimal high ++ (10 ∷ []))) b
    ∙ ap (λ (w : List ℕ). signed_decimal low ++ (32 ∷ w)) (append_assoc (signed_decimal high) (10 ∷ []) b)))

product-whole : (name factor flow : Name) (scale : ℕ) (b : List ℕ) → line_text (product name factor flow scale) ++ b
    ≡ 112 ∷ 114 ∷ 111 ∷ 100 ∷ 32 ∷ (name_text name ++ (32 ∷ (name_text factor ++ (32 ∷ (name_text flow ++ (32 ∷ (decimal scale ++ (10 ∷ b))))))))
product-whole name factor flow scale b =
    ap (λ (w : List ℕ). 112 ∷ 114 ∷ 111 ∷ 100 ∷ 32 ∷ w)
    (append_assoc (name_text name) (32 ∷ (name_text factor ++ (32 ∷ (name_text flow ++ (32 ∷ (decimal scale ++ (10 ∷ []))))))) b
    ∙ ap (λ (w : List ℕ). name_text name ++ (32 ∷ w)) (append_assoc (name_text factor) (32 ∷ (name_text flow ++ (32 ∷ (decimal scale ++ (10 ∷ []))))) b
    ∙ ap (λ (w : List ℕ). name_text factor ++ (32 ∷ w)) (append_assoc (name_text flow) (32 ∷ (decimal scale ++ (10 ∷ []))) b
    ∙ ap (λ (w : List ℕ). name_text flow ++ (32 ∷ w)) (append_assoc (decimal scale) (10 ∷ []) b))))

least-whole : (ts : List NamedTerm) (b : List ℕ) → line_text (least ts) ++ b ≡ 109 ∷ 105 ∷ 110 ∷ ended ts b
least-whole ts b = ap (λ (w : List ℕ). 109 ∷ 105 ∷ 110 ∷ w) (append_assoc (flat_map named_term_text ts) (10 ∷ []) b)

-- the three letters of a kind, with a space on both sides
abbrev kind_onto : Kind → List ℕ → List ℕ
kind_onto at_least b = 32 ∷ 103 ∷ 101 ∷ 32 ∷ b
kind_onto equal b = 32 ∷ 101 ∷ 113 ∷ 32 ∷ b

row-whole : (id : ℕ) (kind : Kind) (constant : ℤ) (ts : List NamedTerm) (b : List ℕ)
    → line_text (row id kind constant ts) ++ b ≡ 114 ∷ 111 ∷ 119 ∷ 32 ∷ (decimal id ++ kind_onto kind (signed_decimal constant ++ ended ts b))
row-whole id kind constant ts b = parts kind
  where
    inner : (w : List ℕ) → ((signed_decimal constant ++ []) ++ w) ++ b ≡ signed_decimal constant ++ (w ++ b)
    inner w = append_assoc (signed_decimal constant ++ []) w b ∙ append_assoc (signed_decimal constant) [] (w ++ b)

    parts : (kind : Kind) → line_text (row id kind constant ts) ++ b ≡ 114 ∷ 111 ∷ 119 ∷ 32 ∷ (decimal id ++ kind_onto kind (signed_decimal constant ++ ended ts b))
    parts at_least =
        ap (λ (w : List ℕ). 114 ∷ 111 ∷ 119 ∷ 32 ∷ (w ++ b)) (append_assoc (decimal id) (32 ∷ 103 ∷ 101 ∷ 32 ∷ (signed_decimal constant ++ [])) (flat_map named_term_text ts ++ (10 ∷ [])))
        ∙ ap (λ (w : List ℕ). 114 ∷ 111 ∷ 119 ∷ 32 ∷ w) (append_assoc (decimal id) (32 ∷ 103 ∷ 101 ∷ 32 ∷ ((signed_decimal constant ++ []) ++ (flat_map named_term_text ts ++ (10 ∷ [])))) b)
        ∙ ap (λ (w : List ℕ). 114 ∷ 111 ∷ 119 ∷ 32 ∷ (decimal id ++ (32 ∷ 103 ∷ 101 ∷ 32 ∷ w)))
        (inner (flat_map named_term_text ts ++ (10 ∷ [])) ∙ ap (λ (w : List ℕ). signed_decimal constant ++ w) (append_assoc (flat_map named_term_text ts) (10 ∷ []) b))
    parts equal =
        ap (λ (w : List ℕ). 114 ∷ 111 ∷ 119 ∷ 32 ∷ (w ++ b)) (append_assoc (decimal id) (32 ∷ 101 ∷ 113 ∷ 32 ∷ (signed_decimal constant ++ [])) (flat_map named_term_text ts ++ (10 ∷ [])))
        ∙ ap (λ (w : List ℕ). 114 ∷ 111 ∷ 119 ∷ 32 ∷ w) (append_assoc (decimal id) (32 ∷ 101 ∷ 113 ∷ 32 ∷ ((signed_decimal constant ++ []) ++ (flat_map named_term_text ts ++ (10 ∷ [])))) b)
        ∙ ap (λ (w : List ℕ). 114 ∷ 111 ∷ 119 ∷ 32 ∷ (decimal id ++ (32 ∷ 101 ∷ 113 ∷ 32 ∷ w)))
        (inner (flat_map named_term_text ts ++ (10 ∷ [])) ∙ ap (λ (w : List ℕ). signed_decimal constant ++ w) (append_assoc (flat_map named_term_text ts) (10 ∷ []) b))

row-back : (k id : ℕ) (kind : Kind) (constant : ℤ) (ts : List NamedTerm) (b : List ℕ) → length ts ≤ k → IsShort (row id kind constant ts)
    → row_of k (read_digits 0 (decimal id ++ kind_onto kind (signed_decimal constant ++ ended ts b))) ≡ (row id kind constant ts, b)
row-back k id kind constant ts b few short = by_kind kind
  where
    rest : (kind : Kind) → row_constant k id kind (read_int (signed_decimal constant ++ ended ts b)) ≡ (row id kind constant ts, b)
    rest kind =
        ap (row_constant k id kind) (int-back constant (ended ts b) short.1 (terms-stop ts b))
        ∙ ap (row_end id kind constant) (terms-back k ts b few short.2)

    by_kind : (kind : Kind) → row_of k (read_digits 0 (decimal id ++ kind_onto kind (signed_decimal constant ++ ended ts b))) ≡ (row id kind constant ts, b)
    by_kind at_least = ap (row_of k) (number-back id (kind_onto at_least (signed_decimal constant ++ ended ts b)) short.0 refl) ∙ rest at_least
    by_kind equal = ap (row_of k) (number-back id (kind_onto equal (signed_decimal constant ++ ended ts b)) short.0 refl) ∙ rest equal

line-back : (k : ℕ) (line : ProgramLine) (b : List ℕ) → terms_in line ≤ k → IsShort line → read_line k (line_text line ++ b) ≡ (line, b)
line-back k (of_form P) b few short = refl
line-back k (of_form Q) b few short = refl
line-back k (of_form Pq) b few short = refl
line-back k (least ts) b few short = ap (read_line k) (least-whole ts b) ∙ ap least_of (terms-back k ts b few short)
line-back k (ends name low high) b few short =
    ap (read_line k) (ends-whole name low high b)
    ∙ ap ends_of (name-back name (32 ∷ (signed_decimal low ++ (32 ∷ (signed_decimal high ++ (10 ∷ b))))) short.0 refl)
    ∙ ap (ends_low name) (int-back low (32 ∷ (signed_decimal high ++ (10 ∷ b))) short.1 refl)
    ∙ ap (ends_high name low) (int-back high (10 ∷ b) short.2 refl)
line-back k (row id kind constant ts) b few short = ap (read_line k) (row-whole id kind constant ts b) ∙ row-back k id kind constant ts b few short
line-back k (product name factor flow scale) b few short =
    ap (read_line k) (product-whole name factor flow scale b)
    ∙ ap product_of (name-back name (32 ∷ (name_text factor ++ (32 ∷ (name_text flow ++ (32 ∷ (decimal scale ++ (10 ∷ b))))))) short.0 refl)
    ∙ ap (product_factor name) (name-back factor (32 ∷ (name_text flow ++ (32 ∷ (decimal scale ++ (10 ∷ b))))) short.1 refl)
    ∙ ap (product_flow name factor) (name-back flow (32 ∷ (decimal scale ++ (10 ∷ b))) short.2 refl)
    ∙ ap (product_scale name factor flow) (number-back scale (10 ∷ b) short.3 refl)
line-back k finish b few short = refl

-- ---- texts

abbrev line_then : (List ℕ → List ProgramLine) → ProgramLine × List ℕ → List ProgramLine
line_then f p = p.0 ∷ f p.1

-- so many lines at the most, each with so many terms at the most
abbrev read_lines : ℕ → ℕ → List ℕ → List ProgramLine
read_lines k zero b = []
read_lines k (suc m) [] = []
read_lines k (suc m) (c ∷ cs) = line_then (read_lines k m) (read_line k (c ∷ cs))

more-line : (k m : ℕ) (line : ProgramLine) (b : List ℕ) → read_lines k (suc m) (line_text line ++ b) ≡ line_then (read_lines k m) (read_line k (line_text line ++ b))
more-line k m (of_form P) b = refl
more-line k m (of_form Q) b = refl
more-line k m (of_form Pq) b = refl
more-line k m (least ts) b = refl
more-line k m (ends name low high) b = refl
more-line k m (row id kind constant ts) b = refl
more-line k m (product name factor flow scale) b = refl
more-line k m finish b = refl

-- a line has a byte, and a byte for each of its terms
line-long : (line : ProgramLine) (b : List ℕ) → (suc (length b) ≤ length (line_text line ++ b)) × (terms_in line ≤ length (line_text line ++ b))
line-long line b = (omega (arith, length-append (line_text line) b, some line), omega (arith, length-append (line_text line) b, own line))
  where
    some : (line : ProgramLine) → 1 ≤ length (line_text line)
    some (of_form P) = omega arith
    some (of_form Q) = omega arith
    some (of_form Pq) = omega arith
    some (least ts) = omega arith
    some (ends name low high) = omega arith
    some (row id kind constant ts) = omega arith
    some (product name factor flow scale) = omega arith
    some finish = omega arith

    own : (line : ProgramLine) → terms_in line ≤ length (line_text line)
    own (of_form form) = omega arith
    own (least ts) = let long = terms-long ts [] in omega (arith, long)
    own (ends name low high) = omega arith
    own (row id kind constant ts) = omega (arith, terms-long ts [], length-append (row_head id kind constant) (ended ts []))
    own (product name factor flow scale) = omega arith
    own finish = omega arith

lines-back : (k m : ℕ) (lines : List ProgramLine) → length lines ≤ m → All (λ line. terms_in line ≤ k) lines → All IsShort lines → read_lines k m (lines_text lines) ≡ lines
lines-back k zero [] few terms short = refl
lines-back k zero (line ∷ lines) few terms short = absurd (omega arith)
lines-back k (suc m) [] few terms short = refl
lines-back k (suc m) (line ∷ lines) few terms short =
    more-line k m line (lines_text lines)
    ∙ ap (line_then (read_lines k m)) (line-back k line (lines_text lines) (All-head (λ (l : ProgramLine). terms_in l ≤ k) line lines terms) (All-head IsShort line lines short))
    ∙ ap (λ (ls : List ProgramLine). line ∷ ls)
    (lines-back k m lines (omega arith) (All-tail (λ (l : ProgramLine). terms_in l ≤ k) line lines terms) (All-tail IsShort line lines short))

-- all lines of a text are no more, and have no more terms, than the text has bytes
all-long : (lines : List ProgramLine) → (length lines ≤ length (lines_text lines)) × All (λ line. terms_in line ≤ length (lines_text lines)) lines
all-long [] = (omega arith, All-nil (λ (line : ProgramLine). terms_in line ≤ 0))
all-long (line ∷ lines) =
    let rest = all-long lines in
    let long = line-long line (lines_text lines) in
    let bytes = length (lines_text (line ∷ lines)) in (
      omega (arith, rest.0, long.0),
      All-cons (λ (l : ProgramLine). terms_in l ≤ bytes) line lines long.1
          (All-weaker (λ (l : ProgramLine). terms_in l ≤ length (lines_text lines)) (λ (l : ProgramLine). terms_in l ≤ bytes) (λ l le. omega (arith, le, long.0)) lines rest.1),
    )

reads-back : (lines : List ProgramLine) (text : List ℕ) → All IsShort lines → text ≡ lines_text lines → read_lines (length text) (length text) text ≡ lines
reads-back lines text short e =
    ap (λ (w : List ℕ). read_lines (length w) (length w) w) e
    ∙ lines-back (length (lines_text lines)) (length (lines_text lines)) lines (all-long lines).0 (all-long lines).1 short

-- a text has only one list of lines
pub one-text : (a b : List ProgramLine) (text : List ℕ) → All IsShort a → All IsShort b → text ≡ lines_text a → text ≡ lines_text b → a ≡ b
one-text a b text short_a short_b e f = sym (reads-back a text short_a e) ∙ reads-back b text short_b f
