-- A reader that sees only the first bytes of a text reads in them what it reads in the whole, if no spelling is longer.
use Rattle.std.proofs.Common.{◌≡◌, ℕ, ◌+◌, ◌<◌, ◌≤◌, Bool, true, false, cond, eqb, List, [], ◌∷◌, ◌++◌, length, Result, Ok, Err, refl, sym, ap, subst, ◌∙◌, append_assoc, arith, length-append}
use Rattle.std.proofs.lemmas.List.{append-nil}
use Rattle.cert_text.specs.Lines.{line_feeds, first_line}
use Rattle.cert_text.specs.Reading.{At, ◌>>=◌}
use Rattle.cert_text.proofs.LineLemmas.{line_feeds-append}
use Rattle.cert_text.proofs.Laws.{Faults, Reads, done, ok_is, bind_ok}

-- where these bytes come from this line on
abbrev pub at : ℕ → List ℕ → At
at line rest = record { line = line; rest = rest }

-- the same outcome, where more bytes stand behind what was left
abbrev pub further : {X : Type 0} → List ℕ → Result (X × At) ℕ → Result (X × At) ℕ
further more (Ok p) = Ok (p.0, record { line = p.1.line; rest = p.1.rest ++ more })
further more (Err n) = Err n

-- ---- fronts of a list

-- a front no longer than another begins it
front_of : (p s q t : List ℕ) → p ++ s ≡ q ++ t → length p ≤ length q → (d : List ℕ) × (q ≡ p ++ d)
front_of [] s q t e le = (q, refl)
front_of (x ∷ p) s [] t e le = absurd (omega arith)
front_of (x ∷ p) s (y ∷ q) t e le =
    let tails : p ++ s ≡ q ++ t = cc in
    let heads : x ≡ y = cc in
    let r = front_of p s q t tails (omega arith) in
    let f = r.1 in
    (r.0, cc)

-- a front of more lines goes on behind one of fewer
longer : (p s q t : List ℕ) → p ++ s ≡ q ++ t → line_feeds p < line_feeds q → (d : List ℕ) × (q ≡ p ++ d) × (s ≡ d ++ t)
longer [] s q t e lt = (q, refl, e)
longer (x ∷ p) s [] t e lt = absurd (omega arith)
longer (x ∷ p) s (y ∷ q) t e lt =
    let tails : p ++ s ≡ q ++ t = cc in
    let heads : x ≡ y = cc in
    let feeds : line_feeds (y ∷ p) < line_feeds (y ∷ q) = subst (λ (z : ℕ). line_feeds (z ∷ p) < line_feeds (y ∷ q)) heads lt in
    let r = longer p s q t tails (omega (arith, feeds)) in
    let f = r.1 in
    (r.0, cc, r.2)

cons_same : (c : ℕ) (xs ys : List ℕ) → xs ≡ ys → c ∷ xs ≡ c ∷ ys
cons_same c xs ys e = ap (λ (z : List ℕ). c ∷ z) e

-- a whole line hides what is behind it
line_hides : (d t : List ℕ) → 0 < line_feeds d → first_line (d ++ t) ≡ first_line d
line_hides [] t lt = absurd (omega arith)
line_hides (c ∷ cs) t lt = cons_same c _ _ (by_end (eqb c 10) lt (line_hides cs t))
  where
    by_end : (b : Bool) → 0 < cond b 1 0 + line_feeds cs → (0 < line_feeds cs → first_line (cs ++ t) ≡ first_line cs)
        → cond b [] (first_line (cs ++ t)) ≡ cond b [] (first_line cs)
    by_end true lt2 h = refl
    by_end false lt2 h = h (omega arith)

-- ---- the line of a fault

-- a fault is at no line before one that a spelling reaches
not_before : (X : Type 0) (Is : X → Type 0) (spell : X → List ℕ) (a : At) (n : ℕ) → (f : Faults X Is spell a n) → (x : X) (good t u : List ℕ)
    → Is x → spell x ≡ good ++ t → a.rest ≡ good ++ u → line_feeds f.good < line_feeds good → ⊥
not_before X Is spell a n f x good t u is spelled parts lt =
    let r = longer f.good f.bad good u (sym f.parts ∙ parts) lt in
    let feeds : 0 < line_feeds r.0 = omega (arith, line_feeds-append f.good r.0, ap line_feeds r.1) in
    let line : first_line (r.0 ++ t) ≡ first_line f.bad = line_hides r.0 t feeds ∙ sym (ap first_line r.2 ∙ line_hides r.0 u feeds) in
    f.none x [] (r.0 ++ t) is line (append-nil (spell x) ∙ spelled ∙ ap (λ (w : List ℕ). w ++ t) r.1 ∙ append_assoc f.good r.0 t)

same_line : (X : Type 0) (Is : X → Type 0) (spell : X → List ℕ) (k : ℕ) → ((x : X) → Is x → length (spell x) ≤ k) → (line : ℕ) (seen more : List ℕ) (n m : ℕ)
    → k ≤ length seen → Faults X Is spell (at line seen) n → Faults X Is spell (at line (seen ++ more)) m → n ≡ m
same_line X Is spell k short line seen more n m long f g =
    let x = g.begins.0 in
    let within : length g.good ≤ length seen = omega (arith, short x g.begins.2, ap length g.begins.3, length-append g.good g.begins.1) in
    let u = front_of g.good g.bad seen more (sym g.parts) within in
    let behind : seen ++ more ≡ f.good ++ (f.bad ++ more) = ap (λ (w : List ℕ). w ++ more) f.parts ∙ append_assoc f.good f.bad more in
    let above : line_feeds f.good < line_feeds g.good → ⊥ = λ lt. not_before X Is spell (at line seen) n f x g.good g.begins.1 u.0 g.begins.2 g.begins.3 u.1 lt in
    let below : line_feeds g.good < line_feeds f.good → ⊥ = λ lt. not_before X Is spell (at line (seen ++ more)) m g f.begins.0 f.good f.begins.1 (f.bad ++ more) f.begins.2 f.begins.3 behind lt in
    neither (line_feeds f.good) (line_feeds g.good) f.number g.number above below
  where
    neither : (i j : ℕ) → n ≡ line + i → m ≡ line + j → (i < j → ⊥) → (j < i → ⊥) → n ≡ m
    neither i j e d no_less no_more = omega arith

-- ---- what is read

pub window : (X : Type 0) (Is : X → Type 0) (spell : X → List ℕ) (read : At → Result (X × At) ℕ) → Reads X Is spell read → (k : ℕ) → ((x : X) → Is x → length (spell x) ≤ k)
    → (line : ℕ) (seen more : List ℕ) → k ≤ length seen → read (at line (seen ++ more)) ≡ further more (read (at line seen))
window X Is spell read reads k short line seen more long = by_outcome (read (at line seen)) refl
  where
    by_other : (n : ℕ) → read (at line seen) ≡ Err n → (r : Result (X × At) ℕ) → read (at line (seen ++ more)) ≡ r → r ≡ Err n
    by_other n e (Ok p) f =
        let t = reads.takes (at line (seen ++ more)) p.0 p.1 f in
        let u = front_of (spell p.0) p.1.rest seen more (sym t.parts) (omega (arith, short p.0 t.is)) in
        let again : read (at line seen) ≡ Ok (p.0, at (line + line_feeds (spell p.0)) u.0) =
        reads.again (at line seen) (at (line + line_feeds (spell p.0)) u.0) p.0 (record { is = t.is; parts = u.1; line = refl }) in
        absurd cc
    by_other n e (Err m) f =
        let same : n ≡ m = same_line X Is spell k short line seen more n m long (reads.faults (at line seen) n e) (reads.faults (at line (seen ++ more)) m f) in
        ap (λ (j : ℕ). Err j) (sym same)

    by_outcome : (r : Result (X × At) ℕ) → read (at line seen) ≡ r → read (at line (seen ++ more)) ≡ further more r
    by_outcome (Ok p) e =
        let t = reads.takes (at line seen) p.0 p.1 e in
        reads.again (at line (seen ++ more)) (at p.1.line (p.1.rest ++ more)) p.0
        (record { is = t.is; parts = ap (λ (w : List ℕ). w ++ more) t.parts ∙ append_assoc (spell p.0) p.1.rest more; line = t.line })
    by_outcome (Err n) e = by_other n e (read (at line (seen ++ more))) refl

-- ---- readers one after another

-- a reader that reads in the first k bytes what it reads in the whole, and takes no more than these
pub record Window {X : Type 0} (k : ℕ) (read : At → Result (X × At) ℕ) : Type 0 where
  pub sees : (line : ℕ) (seen more : List ℕ) → k ≤ length seen → read (at line (seen ++ more)) ≡ further more (read (at line seen))
  pub takes : (a b : At) (x : X) → read a ≡ Ok (x, b) → length a.rest ≤ length b.rest + k

pub window_reads : (X : Type 0) (Is : X → Type 0) (spell : X → List ℕ) (read : At → Result (X × At) ℕ) → Reads X Is spell read → (k : ℕ) → ((x : X) → Is x → length (spell x) ≤ k) → Window k read
window_reads X Is spell read reads k short = record {
  sees = window X Is spell read reads k short;
  takes = λ a b x e.
      let t = reads.takes a x b e in
      omega (arith, short x t.is, ap length t.parts, length-append (spell x) b.rest);
}

-- what is known without reading
pub window_done : {X : Type 0} (x : X) → Window 0 (λ a. done (x, a))
window_done {X} x = record {
  sees = λ line seen more le. refl;
  takes = λ a b y e.
      let same : length a.rest ≡ length b.rest = ap (λ (p : X × At). length p.1.rest) (ok_is (x, a) (y, b) e) in
      omega (arith, same);
}

-- more bytes do no harm
pub window_more : {X : Type 0} {read : At → Result (X × At) ℕ} (k m : ℕ) → k ≤ m → Window k read → Window m read
window_more k m le w = record {
  sees = λ line seen more long. w.sees line seen more (omega arith);
  takes = λ a b x e. omega (arith, w.takes a b x e);
}

bind_sees : {X Y : Type 0} (m : ℕ) (f : X → At → Result (Y × At) ℕ) → ((x : X) → Window m (f x)) → (more : List ℕ) (part whole : Result (X × At) ℕ)
    → ((x : X) (b : At) → part ≡ Ok (x, b) → m ≤ length b.rest) → whole ≡ further more part → (whole >>= λ p. f p.0 p.1) ≡ further more (part >>= λ p. f p.0 p.1)
bind_sees {X} {Y} m f ws more (Ok p) whole long e =
    ap (λ (w : Result (X × At) ℕ). w >>= λ q. f q.0 q.1) e ∙ (ws p.0).sees p.1.line p.1.rest more (long p.0 p.1 refl)
bind_sees {X} {Y} m f ws more (Err n) whole long e = ap (λ (w : Result (X × At) ℕ). w >>= λ q. f q.0 q.1) e

pub window_bind : {X Y : Type 0} (k m : ℕ) (r : At → Result (X × At) ℕ) (f : X → At → Result (Y × At) ℕ) → Window k r → ((x : X) → Window m (f x)) → Window (k + m) (λ a. r a >>= λ p. f p.0 p.1)
window_bind k m r f w ws = record {
  sees = λ line seen more long. bind_sees m f ws more (r (at line seen)) (r (at line (seen ++ more)))
      (λ x b e. let taken : length seen ≤ length b.rest + k = w.takes (at line seen) b x e in omega (arith, taken))
      (w.sees line seen more (omega arith));
  takes = λ a b y e.
      let p = bind_ok (r a) (λ q. f q.0 q.1) (y, b) e in
      omega (arith, w.takes a p.0.1 p.0.0 p.1, (ws p.0.0).takes p.0.1 b y p.2);
}
