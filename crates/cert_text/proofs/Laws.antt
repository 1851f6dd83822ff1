-- What it means that a reading function reads a format, and how readers are put together.
use Rattle.std.proofs.Common.{◌≡◌, ◌≢◌, ◌⊎◌, ℕ, zero, suc, ◌+◌, List, [], ◌∷◌, ◌++◌, length, Result, Ok, Err, refl, sym, ap, subst, ◌∙◌, append_assoc, add_assoc, add-zero, arith, inl, inr}
use Rattle.std.proofs.lemmas.List.{append-nil, nil_from_length}
use Rattle.std.specs.List.{AllByRecursion}
use Rattle.cert_text.specs.Lines.{line_feeds, first_line, first_lines, BeginsText, IsFaultyLine}
use Rattle.cert_text.specs.Reading.{At, ◌>>=◌, ended, start, whole, each_spelling, each_at}
use Rattle.cert_text.proofs.LineLemmas.{line_feeds-append, first_lines-past, first_lines-front, first_line-again}

-- what is read stands at the front, in its one spelling
pub record Takes (X : Type 0) (Is : X → Type 0) (spell : X → List ℕ) (a : At) (x : X) (b : At) : Type 0 where
  pub is : Is x
  pub parts : a.rest ≡ spell x ++ b.rest
  pub line : b.line ≡ a.line + line_feeds (spell x)

-- The line of the fault: a good part begins a spelling, and nothing that goes on with the first line of the bad part does.
pub record Faults (X : Type 0) (Is : X → Type 0) (spell : X → List ℕ) (a : At) (n : ℕ) : Type 0 where
  pub good : List ℕ
  pub bad : List ℕ
  pub parts : a.rest ≡ good ++ bad
  pub number : n ≡ a.line + line_feeds good
  pub begins : BeginsText X Is spell good
  pub none : (x : X) (tail other : List ℕ) → Is x → first_line other ≡ first_line bad → spell x ++ tail ≡ good ++ other → ⊥

pub record Reads (X : Type 0) (Is : X → Type 0) (spell : X → List ℕ) (read : At → Result (X × At) ℕ) : Type 0 where
  pub takes : (a : At) (x : X) (b : At) → read a ≡ Ok (x, b) → Takes X Is spell a x b
  pub again : (a b : At) (x : X) → Takes X Is spell a x b → read a ≡ Ok (x, b)
  pub faults : (a : At) (n : ℕ) → read a ≡ Err n → Faults X Is spell a n
  pub some : (x : X) × Is x

abbrev pub done : {A : Type 0} → A → Result A ℕ
done x = Ok x

pub ok_is : {A : Type 0} (x y : A) → done x ≡ done y → x ≡ y
ok_is x y e = cc

-- the value of a step that did not fail
pub bind_ok : {A B : Type 0} (r : Result A ℕ) (f : A → Result B ℕ) (y : B) → (r >>= f) ≡ Ok y → (x : A) × (r ≡ Ok x) × (f x ≡ Ok y)
bind_ok (Ok x) f y e = (x, refl, e)
bind_ok (Err d) f y e = absurd cc

-- which step failed
pub bind_err : {A B : Type 0} (r : Result A ℕ) (f : A → Result B ℕ) (n : ℕ) → (r >>= f) ≡ Err n → (r ≡ Err n) ⊎ ((x : A) × (r ≡ Ok x) × (f x ≡ Err n))
bind_err (Ok x) f n e = inr (x, refl, e)
bind_err (Err d) f n e = inl cc

-- steps may be put together either way
pub bind_assoc : {A B C : Type 0} (r : Result A ℕ) (f : A → Result B ℕ) (g : B → Result C ℕ) → ((r >>= f) >>= g) ≡ (r >>= λ x. f x >>= g)
bind_assoc (Ok x) f g = refl
bind_assoc (Err n) f g = refl

ended_ok : {X : Type 0} (x : X) (line : ℕ) (rest : List ℕ) (y : X) → ended x line rest ≡ Ok y → (x ≡ y) × (rest ≡ [])
ended_ok x line [] y e = (ok_is x y e, refl)
ended_ok x line (c ∷ cs) y e = absurd cc

ended_err : {X : Type 0} (x : X) (line : ℕ) (rest : List ℕ) (n : ℕ) → ended x line rest ≡ Err n → (n ≡ line) × (rest ≢ [])
ended_err x line [] n e = absurd cc
ended_err x line (c ∷ cs) n e = (cc, λ h. cc)

no_first_line : (bs : List ℕ) → first_line bs ≡ [] → bs ≡ []
no_first_line [] e = refl
no_first_line (c ∷ cs) e = absurd cc

-- no spelling begins another
pub one_spelling : (X : Type 0) (Is : X → Type 0) (spell : X → List ℕ) (read : At → Result (X × At) ℕ) (reads : Reads X Is spell read) (x y : X) (s t : List ℕ)
    → Is x → Is y → spell x ++ s ≡ spell y ++ t → (x ≡ y) × (s ≡ t)
one_spelling X Is spell read reads x y s t ix iy e =
    let a : At = record { line = 0; rest = spell x ++ s } in
    let left : read a ≡ Ok (x, record { line = 0 + line_feeds (spell x); rest = s }) = reads.again a _ x (record { is = ix; parts = refl; line = refl }) in
    let right : read a ≡ Ok (y, record { line = 0 + line_feeds (spell y); rest = t }) = reads.again a _ y (record { is = iy; parts = e; line = refl }) in
    let same : (x, record { line = 0 + line_feeds (spell x); rest = s }) ≡ (y, record { line = 0 + line_feeds (spell y); rest = t }) = ok_is _ _ (sym left ∙ right) in
    (ap (λ (p : X × At). p.0) same, ap (λ (p : X × At). p.1.rest) same)

-- ---- readers one after another. The second's format may depend on what the first read; `front` finds that in the whole.

then_takes : (X Z : Type 0) (I : X → Type 0) (s : X → List ℕ) (K : X → Z → Type 0) (t : X → Z → List ℕ) (front : Z → X) (a : At) (x : X) (b : At) (z : Z) (c : At)
    → front z ≡ x → Takes X I s a x b → Takes Z (K x) (t x) b z c → Takes Z (λ z. I (front z) × K (front z) z) (λ z. s (front z) ++ t (front z) z) a z c
then_takes X Z I s K t front a x b z c e f g = record {
  is = subst (λ (y : X). I y × K y z) (sym e) (f.is, g.is);
  parts = subst (λ (y : X). a.rest ≡ (s y ++ t y z) ++ c.rest) (sym e) (f.parts ∙ ap (λ (w : List ℕ). s x ++ w) g.parts ∙ sym (append_assoc (s x) (t x z) c.rest));
  line = subst (λ (y : X). c.line ≡ a.line + line_feeds (s y ++ t y z)) (sym e) (omega (arith, f.line, g.line, line_feeds-append (s x) (t x z)));
}

first_faults : (X Z : Type 0) (I : X → Type 0) (s : X → List ℕ) (K : X → Z → Type 0) (t : X → Z → List ℕ) (front : Z → X) (a : At) (n : ℕ)
    → ((x : X) → I x → (z : Z) × K x z) → ((x : X) (z : Z) → K x z → front z ≡ x)
    → Faults X I s a n → Faults Z (λ z. I (front z) × K (front z) z) (λ z. s (front z) ++ t (front z) z) a n
first_faults X Z I s K t front a n goes_on fixes f =
    let x = f.begins.0 in
    let more = f.begins.1 in
    let z = goes_on x f.begins.2 in
    let e : front z.0 ≡ x = fixes x z.0 z.1 in
    record {
      good = f.good;
      bad = f.bad;
      parts = f.parts;
      number = f.number;
      begins = (
        z.0,
        more ++ t x z.0,
        subst (λ (y : X). I y × K y z.0) (sym e) (f.begins.2, z.1),
        subst (λ (y : X). s y ++ t y z.0 ≡ f.good ++ (more ++ t x z.0)) (sym e) (ap (λ (w : List ℕ). w ++ t x z.0) f.begins.3 ∙ append_assoc f.good more (t x z.0)),
      );
      none = λ z tail other h same e. f.none (front z) (t (front z) z ++ tail) other h.0 same (sym (append_assoc (s (front z)) (t (front z) z) tail) ∙ e);
    }

second_faults : (X Z : Type 0) (I : X → Type 0) (s : X → List ℕ) (r : At → Result (X × At) ℕ) (K : X → Z → Type 0) (t : X → Z → List ℕ) (front : Z → X) (a b : At) (x : X) (n : ℕ)
    → Reads X I s r → ((x : X) (z : Z) → K x z → front z ≡ x)
    → Takes X I s a x b → Faults Z (K x) (t x) b n → Faults Z (λ z. I (front z) × K (front z) z) (λ z. s (front z) ++ t (front z) z) a n
second_faults X Z I s r K t front a b x n reads fixes f g =
    let z = g.begins.0 in
    let more = g.begins.1 in
    let e : front z ≡ x = fixes x z g.begins.2 in
    record {
      good = s x ++ g.good;
      bad = g.bad;
      parts = f.parts ∙ ap (λ (w : List ℕ). s x ++ w) g.parts ∙ sym (append_assoc (s x) g.good g.bad);
      number = omega (arith, f.line, g.number, line_feeds-append (s x) g.good);
      begins = (
        z,
        more,
        subst (λ (y : X). I y × K y z) (sym e) (f.is, g.begins.2),
        subst (λ (y : X). s y ++ t y z ≡ (s x ++ g.good) ++ more) (sym e) (ap (λ (w : List ℕ). s x ++ w) g.begins.3 ∙ sym (append_assoc (s x) g.good more)),
      );
      none = λ z tail other h same e.
          let u = one_spelling X I s r reads (front z) x (t (front z) z ++ tail) (g.good ++ other) h.0 f.is
          (sym (append_assoc (s (front z)) (t (front z) z) tail) ∙ e ∙ append_assoc (s x) g.good other) in
          g.none z tail other (subst (λ (y : X). K y z) u.0 h.1) same (subst (λ (y : X). t y z ++ tail ≡ g.good ++ other) u.0 u.1);
    }

pub bind_reads : (X Z : Type 0) (I : X → Type 0) (s : X → List ℕ) (r : At → Result (X × At) ℕ)
    (K : X → Z → Type 0) (t : X → Z → List ℕ) (q : X → At → Result (Z × At) ℕ) (front : Z → X)
    → Reads X I s r
    → ((x : X) → I x → Reads Z (K x) (t x) (q x))
    → ((x : X) (z : Z) → K x z → front z ≡ x)
    → Reads Z (λ z. I (front z) × K (front z) z) (λ z. s (front z) ++ t (front z) z) (λ a. r a >>= λ p. q p.0 p.1)
bind_reads X Z I s r K t q front one two fixes = record {
  takes = λ a z c e.
      let m = bind_ok (r a) (λ p. q p.0 p.1) (z, c) e in
      let f = one.takes a m.0.0 m.0.1 m.1 in
      then_takes X Z I s K t front a m.0.0 m.0.1 z c (fixes m.0.0 z ((two m.0.0 f.is).takes m.0.1 z c m.2).is) f ((two m.0.0 f.is).takes m.0.1 z c m.2);
  again = λ a c z h.
      let x = front z in
      let b : At = record { line = a.line + line_feeds (s x); rest = t x z ++ c.rest } in
      let f : r a ≡ Ok (x, b) = one.again a b x (record { is = h.is.0; parts = h.parts ∙ append_assoc (s x) (t x z) c.rest; line = refl }) in
      let g : q x b ≡ Ok (z, c) =
      (two x h.is.0).again b c z
      (record { is = h.is.1; parts = refl; line = h.line ∙ ap (λ n. a.line + n) (line_feeds-append (s x) (t x z)) ∙ sym (add_assoc a.line (line_feeds (s x)) (line_feeds (t x z))) }) in
      rw f g;
  faults = λ a n e. elim (bind_err (r a) (λ p. q p.0 p.1) n e) [
    | inl m ↦ first_faults X Z I s K t front a n (λ x i. (two x i).some) fixes (one.faults a n m)
    | inr m ↦ let f = one.takes a m.0.0 m.0.1 m.1 in second_faults X Z I s r K t front a m.0.1 m.0.0 n one fixes f ((two m.0.0 f.is).faults m.0.1 n m.2)
  ];
  some = let x = one.some in let z = (two x.0 x.1).some in (z.0, subst (λ (y : X). I y × K y z.0) (sym (fixes x.0 z.0 z.1)) (x.1, z.1));
}

abbrev at_of : ℕ → List ℕ → At
at_of line rest = record { line = line; rest = rest }

at_same : (a b : At) → a.line ≡ b.line → a.rest ≡ b.rest → a ≡ b
at_same a b e f = ap (λ (n : ℕ). at_of n a.rest) e ∙ ap (λ (r : List ℕ). at_of b.line r) f

-- the end of a chain: nothing more is read
pub done_reads : (X : Type 0) (x : X) → Reads X (λ z. z ≡ x) (λ _. []) (λ a. Ok (x, a))
done_reads X x = record {
  takes = λ a z b e. let same = ok_is (x, a) (z, b) e in
      record { is = sym (ap (λ (p : X × At). p.0) same); parts = ap (λ (p : X × At). p.1.rest) same; line = sym (ap (λ (p : X × At). p.1.line) same) ∙ sym (add-zero a.line) };
  again = λ a b z h. let at : a ≡ b = at_same a b (omega (arith, h.line)) h.parts in let is = h.is in cc;
  faults = λ a n e. absurd cc;
  some = (x, refl);
}

-- the same format in other words
pub reworded : (X : Type 0) (I J : X → Type 0) (s t : X → List ℕ) (r : At → Result (X × At) ℕ)
    → Reads X I s r → ((x : X) → I x → J x) → ((x : X) → J x → I x) → ((x : X) → J x → s x ≡ t x) → Reads X J t r
reworded X I J s t r reads to from same = record {
  takes = λ a x b e. let h = reads.takes a x b e in
      record {
        is = to x h.is;
        parts = subst (λ (w : List ℕ). a.rest ≡ w ++ b.rest) (same x (to x h.is)) h.parts;
        line =
            subst (λ (w : List ℕ). b.line ≡ a.line + line_feeds w) (same x (to x h.is)) h.line;
      };
  again = λ a b x h. reads.again a b x
      (record {
        is = from x h.is;
        parts = subst (λ (w : List ℕ). a.rest ≡ w ++ b.rest) (sym (same x h.is)) h.parts;
        line =
            subst (λ (w : List ℕ). b.line ≡ a.line + line_feeds w) (sym (same x h.is)) h.line;
      });
  faults = λ a n e. let f = reads.faults a n e in record {
    good = f.good;
    bad = f.bad;
    parts = f.parts;
    number = f.number;
    begins = (f.begins.0, f.begins.1, to f.begins.0 f.begins.2, sym (same f.begins.0 (to f.begins.0 f.begins.2)) ∙ f.begins.3);
    none = λ x tail other h line e. f.none x tail other (from x h) line (ap (λ (w : List ℕ). w ++ tail) (same x h) ∙ e);
  };
  some = (reads.some.0, to reads.some.0 reads.some.1);
}

-- the same reading in other words
pub reads_as : (X : Type 0) (I : X → Type 0) (s : X → List ℕ) (r q : At → Result (X × At) ℕ) → Reads X I s r → ((a : At) → q a ≡ r a) → Reads X I s q
reads_as X I s r q reads same = record {
  takes = λ a x b e. reads.takes a x b (sym (same a) ∙ e);
  again = λ a b x h. same a ∙ reads.again a b x h;
  faults = λ a n e. reads.faults a n (sym (same a) ∙ e);
  some = reads.some;
}

-- ---- a count of items

head_or : {X : Type 0} → X → List X → X
head_or d [] = d
head_or d (x ∷ xs) = x

tail_of : {X : Type 0} → List X → List X
tail_of [] = []
tail_of (x ∷ xs) = xs

abbrev pub AreItems : {X : Type 0} → (X → Type 0) → ℕ → List X → Type 0
AreItems Is n xs = (length xs ≡ n) × AllByRecursion Is xs

pub each_reads : (X : Type 0) (I : X → Type 0) (s : ℕ → X → List ℕ) (r : ℕ → At → Result (X × At) ℕ) → ((k : ℕ) → Reads X I (s k) (r k)) → (n : ℕ)
    → Reads (List X) (AreItems I n) (each_spelling s) (each_at r n)
unfolding each_at head_or tail_of
each_reads X I s r one zero = reworded (List X) (λ z. z ≡ []) (AreItems I 0) (λ _. []) (each_spelling s) (λ a. Ok ([], a)) (done_reads (List X) [])
    (λ xs e. subst (AreItems I 0) (sym e) (refl, tt)) (λ xs h. nil_from_length xs h.0) (λ xs h. sym (ap (each_spelling s) (nil_from_length xs h.0)))
each_reads X I s r one (suc n) =
    let d = (one n).some.0 in
    let rest = each_reads X I s r one n in
    let K : X → List X → Type 0 = λ x z. AreItems I n (tail_of z) × (z ≡ x ∷ tail_of z) in
    let t : X → List X → List ℕ = λ x z. each_spelling s (tail_of z) ++ [] in
    reworded (List X) (λ z. I (head_or d z) × K (head_or d z) z) (AreItems I (suc n)) (λ z. s n (head_or d z) ++ t (head_or d z) z) (each_spelling s) _
    (bind_reads X (List X) I (s n) (r n) K t (λ x a. each_at r n a >>= λ xs. Ok (x ∷ xs.0, xs.1)) (head_or d) (one n)
    (λ x i. bind_reads (List X) (List X) (AreItems I n) (each_spelling s) (each_at r n) (λ xs z. z ≡ x ∷ xs) (λ _ _. [])
    (λ xs a. Ok (x ∷ xs, a)) tail_of rest (λ xs h. done_reads (List X) (x ∷ xs)) (λ xs z e. ap tail_of e))
    (λ x z h. ap (head_or d) h.1))
    to from same
  where
    to : (z : List X) → I (head_or (one n).some.0 z) × (AreItems I n (tail_of z) × (z ≡ head_or (one n).some.0 z ∷ tail_of z)) → AreItems I (suc n) z
    to [] h = absurd (let e = h.1.1 in cc)
    to (x ∷ xs) h = (ap suc h.1.0.0, (h.0, h.1.0.1))

    from : (z : List X) → AreItems I (suc n) z → I (head_or (one n).some.0 z) × (AreItems I n (tail_of z) × (z ≡ head_or (one n).some.0 z ∷ tail_of z))
    from [] h = absurd (let e = h.0 in omega arith)
    from (x ∷ xs) h = (h.1.0, ((omega arith, h.1.1), refl))

    same : (z : List X) → AreItems I (suc n) z → s n (head_or (one n).some.0 z) ++ (each_spelling s (tail_of z) ++ []) ≡ each_spelling s z
    same [] h = absurd (let e = h.0 in omega arith)
    same (x ∷ xs) h = let e : length xs ≡ n = omega arith in rw (append-nil, e) refl

-- ---- the whole text

faulty_line : (X : Type 0) (Is : X → Type 0) (spell : X → List ℕ) (bytes good bad : List ℕ) (n : ℕ)
    → bytes ≡ good ++ bad → n ≡ suc (line_feeds good) → BeginsText X Is spell good
    → ((x : X) (other : List ℕ) → Is x → first_line other ≡ first_line bad → spell x ≡ good ++ other → ⊥)
    → IsFaultyLine X Is spell bytes n
faulty_line X Is spell bytes good bad n parts number begins none =
    let feeds : line_feeds bytes ≡ line_feeds good + line_feeds bad = ap line_feeds parts ∙ line_feeds-append good bad in
    record {
      before = λ k lt.
          let m = first_lines-front k good bad (omega arith) in (
            begins.0,
            m.0 ++ begins.1,
            begins.2,
            begins.3 ∙ ap (λ (w : List ℕ). w ++ begins.1) m.1
                ∙ append_assoc (first_lines k (good ++ bad)) m.0 begins.1 ∙ ap (λ (w : List ℕ). first_lines k w ++ (m.0 ++ begins.1)) (sym parts),
          );
      here = λ le b.
          let lines : first_lines n bytes ≡ good ++ first_line bad = ap (λ (k : ℕ). first_lines k bytes) number ∙ ap (first_lines (suc (line_feeds good))) parts ∙ first_lines-past good bad in
          none b.0 (first_line bad ++ b.1) b.2 (first_line-again bad b.1 (omega arith)) (b.3 ∙ ap (λ (w : List ℕ). w ++ b.1) lines ∙ append_assoc good (first_line bad) b.1);
      at_the_rest = λ lt. (omega arith, λ t. none t.0 bad t.1 refl (sym t.2 ∙ parts));
    }

pub whole_found : (X : Type 0) (Is : X → Type 0) (spell : X → List ℕ) (read : At → Result (X × At) ℕ) (reads : Reads X Is spell read) (bytes : List ℕ) (x : X)
    → whole read bytes ≡ Ok x → Is x × (bytes ≡ spell x)
whole_found X Is spell read reads bytes x e =
    let m = bind_ok (read (start bytes)) (λ p. ended p.0 p.1.line p.1.rest) x e in
    let f = reads.takes (start bytes) m.0.0 m.0.1 m.1 in
    let g = ended_ok m.0.0 m.0.1.line m.0.1.rest x m.2 in
    subst (λ (y : X). Is y × (bytes ≡ spell y)) g.0 (f.is, f.parts ∙ ap (λ (w : List ℕ). spell m.0.0 ++ w) g.1 ∙ append-nil (spell m.0.0))

pub whole_again : (X : Type 0) (Is : X → Type 0) (spell : X → List ℕ) (read : At → Result (X × At) ℕ) (reads : Reads X Is spell read) (bytes : List ℕ) (x : X)
    → Is x → bytes ≡ spell x → whole read bytes ≡ Ok x
whole_again X Is spell read reads bytes x is e =
    let f : read (start bytes) ≡ Ok (x, record { line = 1 + line_feeds (spell x); rest = [] }) =
    reads.again (start bytes) (record { line = 1 + line_feeds (spell x); rest = [] }) x (record { is = is; parts = e ∙ sym (append-nil (spell x)); line = refl }) in
    rw f refl

pub whole_fault : (X : Type 0) (Is : X → Type 0) (spell : X → List ℕ) (read : At → Result (X × At) ℕ) (reads : Reads X Is spell read) (bytes : List ℕ) (n : ℕ)
    → whole read bytes ≡ Err n → IsFaultyLine X Is spell bytes n
whole_fault X Is spell read reads bytes n e =
    elim (bind_err (read (start bytes)) (λ p. ended p.0 p.1.line p.1.rest) n e) [
      | inl m ↦
          let f = reads.faults (start bytes) n m in
          faulty_line X Is spell bytes f.good f.bad n f.parts (omega (arith, f.number)) f.begins (λ x other is same e. f.none x [] other is same (append-nil (spell x) ∙ e))
      | inr m ↦
          let f = reads.takes (start bytes) m.0.0 m.0.1 m.1 in
          let g = ended_err m.0.0 m.0.1.line m.0.1.rest n m.2 in
          faulty_line X Is spell bytes (spell m.0.0) m.0.1.rest n f.parts (omega (arith, f.line, g.0)) (m.0.0, [], f.is, sym (append-nil (spell m.0.0)))
          (λ x other is same e. g.1 (no_first_line m.0.1.rest (sym same ∙ ap first_line (sym (one_spelling X Is spell read reads x m.0.0 [] other is f.is (append-nil (spell x) ∙ e)).1))))
    ]
