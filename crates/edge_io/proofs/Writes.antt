-- One piece written after another.
use Rattle.std.proofs.Common.{◌≡◌, ℕ, ◌+◌, ◌<◌, ◌≤◌, List, ◌∷◌, ◌++◌, length, take, drop, get_or, add-one, drop-cons, Option, Some, None, Result, Ok, Err, refl, sym, ap, subst, ◌∙◌, append_assoc}
use Rattle.std.specs.List.{flat_map}
use Rattle.std.proofs.Math.Seq.{take-add}
use Rattle.std.proofs.lemmas.List.{take-append-drop}
use Rattle.std.proofs.lemmas.List.Concat.{flat_map-append}
use Rattle.edge_io.specs.Counts.{Grows}
use Rattle.edge_io.specs.Writing.{behind, Wrote, TookFront}

-- one piece behind another
pub behind-append : (t : Option (List ℕ)) (a b : List ℕ) → behind (behind t a) b ≡ behind t (a ++ b)
behind-append None a b = refl
behind-append (Some t) a b = ap Some (append_assoc t a b)

-- one piece behind another, by what was taken in between
pub behind-then : (t m : Option (List ℕ)) (a b : List ℕ) → m ≡ behind t a → behind m b ≡ behind t (a ++ b)
behind-then t m a b e = ap (λ (w : Option (List ℕ)). behind w b) e ∙ behind-append t a b

-- a fault in the first piece
pub front-first : (old : Option (List ℕ)) (a b : List ℕ) (new : Option (List ℕ)) → TookFront old a new → TookFront old (a ++ b) new
front-first old a b new h = record { front = h.front; rest = h.rest ++ b; parts = ap (λ (w : List ℕ). w ++ b) h.parts ∙ append_assoc h.front h.rest b; added = h.added }

-- a fault in what comes behind a piece
pub front-behind : (old : Option (List ℕ)) (a : List ℕ) (mid : Option (List ℕ)) (b : List ℕ) (new : Option (List ℕ)) → mid ≡ behind old a → TookFront mid b new → TookFront old (a ++ b) new
front-behind old a mid b new e h =
    record { front = a ++ h.front; rest = h.rest; parts = ap (λ (w : List ℕ). a ++ w) h.parts ∙ sym (append_assoc a h.front h.rest); added = h.added ∙ behind-then old mid a h.front e }

-- a piece, and whatever comes of what is behind it
pub wrote-behind : {X E : Type 0} (r : Result X E) (old : Option (List ℕ)) (a : List ℕ) (mid : Option (List ℕ)) (b : List ℕ) (new : Option (List ℕ))
    → mid ≡ behind old a → Wrote r mid b new → Wrote r old (a ++ b) new
wrote-behind (Ok x) old a mid b new e h = h ∙ behind-then old mid a b e
wrote-behind (Err x) old a mid b new e h = front-behind old a mid b new e h

-- the same text in other words
pub wrote-same : {X E : Type 0} (r : Result X E) (old : Option (List ℕ)) (s t : List ℕ) (new : Option (List ℕ)) → s ≡ t → Wrote r old s new → Wrote r old t new
wrote-same r old s t new e h = subst (λ (w : List ℕ). Wrote r old w new) e h

-- a piece of a list of pieces, with those before it and behind it
pub pieces_at : {X : Type 0} (f : X → List ℕ) (xs : List X) (i : ℕ) (d : X) → i < length xs → flat_map f xs ≡ flat_map f (take i xs) ++ (f (get_or xs i d) ++ flat_map f (drop (i + 1) xs))
pieces_at {X} f xs i d lt =
    let later : drop i xs ≡ get_or xs i d ∷ drop (i + 1) xs = rw (add-one, drop-cons xs i d) refl in
    ap (flat_map f) (sym (take-append-drop i xs)) ∙ flat_map-append f (take i xs) (drop i xs) ∙ ap (λ (w : List X). flat_map f (take i xs) ++ flat_map f w) later

-- a fault in a piece of a list of pieces
pub front-list : {X : Type 0} (f : X → List ℕ) (xs : List X) (i : ℕ) (d : X) (old mid new : Option (List ℕ)) → i < length xs
    → mid ≡ behind old (flat_map f (take i xs)) → TookFront mid (f (get_or xs i d)) new → TookFront old (flat_map f xs) new
front-list f xs i d old mid new lt e h =
    subst (λ (w : List ℕ). TookFront old w new) (sym (pieces_at f xs i d lt))
    (front-behind old (flat_map f (take i xs)) mid (f (get_or xs i d) ++ flat_map f (drop (i + 1) xs)) new e (front-first mid (f (get_or xs i d)) (flat_map f (drop (i + 1) xs)) new h))

-- a fault in a piece, behind those that were taken
pub front-at : (old : Option (List ℕ)) (text done piece rest : List ℕ) (mid new : Option (List ℕ)) → text ≡ done ++ (piece ++ rest)
    → mid ≡ behind old done → TookFront mid piece new → TookFront old text new
front-at old text done piece rest mid new parts e h =
    subst (λ (w : List ℕ). TookFront old w new) (sym parts)
    (front-behind old done mid (piece ++ rest) new e (front-first mid piece rest new h))

-- ---- a fault in the second, third or fourth piece of a text

pub front-second : (old : Option (List ℕ)) (a : List ℕ) (m1 : Option (List ℕ)) (b c : List ℕ) (new : Option (List ℕ)) → m1 ≡ behind old a → TookFront m1 b new → TookFront old (a ++ (b ++ c)) new
front-second old a m1 b c new e1 h = front-behind old a m1 (b ++ c) new e1 (front-first m1 b c new h)

pub front-third : (old : Option (List ℕ)) (a : List ℕ) (m1 : Option (List ℕ)) (b : List ℕ) (m2 : Option (List ℕ)) (c d : List ℕ)
    (new : Option (List ℕ)) → m1 ≡ behind old a → m2 ≡ behind m1 b → TookFront m2 c new → TookFront old (a ++ (b ++ (c ++ d))) new
front-third old a m1 b m2 c d new e1 e2 h = front-behind old a m1 (b ++ (c ++ d)) new e1 (front-second m1 b m2 c d new e2 h)

pub front-fourth : (old : Option (List ℕ)) (a : List ℕ) (m1 : Option (List ℕ)) (b : List ℕ) (m2 : Option (List ℕ)) (c : List ℕ) (m3 : Option (List ℕ))
    (d e : List ℕ) (new : Option (List ℕ)) → m1 ≡ behind old a → m2 ≡ behind m1 b → m3 ≡ behind m2 c → TookFront m3 d new → TookFront old (a ++ (b ++ (c ++ (d ++ e)))) new
front-fourth old a m1 b m2 c m3 d e new e1 e2 e3 h = front-behind old a m1 (b ++ (c ++ (d ++ e))) new e1 (front-third m1 b m2 c m3 d e new e2 e3 h)

-- ---- a text of three, four or five pieces

pub wrote-three : {X E : Type 0} (r : Result X E) (old : Option (List ℕ)) (a : List ℕ) (m1 : Option (List ℕ)) (b : List ℕ) (m2 : Option (List ℕ))
    (c : List ℕ) (new : Option (List ℕ)) → m1 ≡ behind old a → m2 ≡ behind m1 b → Wrote r m2 c new → Wrote r old (a ++ (b ++ c)) new
wrote-three r old a m1 b m2 c new e1 e2 h = wrote-behind r old a m1 (b ++ c) new e1 (wrote-behind r m1 b m2 c new e2 h)

pub wrote-four : {X E : Type 0} (r : Result X E) (old : Option (List ℕ)) (a : List ℕ) (m1 : Option (List ℕ)) (b : List ℕ) (m2 : Option (List ℕ))
    (c : List ℕ) (m3 : Option (List ℕ)) (d : List ℕ) (new : Option (List ℕ)) → m1 ≡ behind old a → m2 ≡ behind m1 b → m3 ≡ behind m2 c → Wrote r m3 d new → Wrote r old (a ++ (b ++ (c ++ d))) new
wrote-four r old a m1 b m2 c m3 d new e1 e2 e3 h = wrote-behind r old a m1 (b ++ (c ++ d)) new e1 (wrote-three r m1 b m2 c m3 d new e2 e3 h)

pub wrote-five : {X E : Type 0} (r : Result X E) (old : Option (List ℕ)) (a : List ℕ) (m1 : Option (List ℕ)) (b : List ℕ) (m2 : Option (List ℕ))
    (c : List ℕ) (m3 : Option (List ℕ)) (d : List ℕ) (m4 : Option (List ℕ)) (e : List ℕ) (new : Option (List ℕ)) → m1 ≡ behind old a
    → m2 ≡ behind m1 b → m3 ≡ behind m2 c → m4 ≡ behind m3 d → Wrote r m4 e new → Wrote r old (a ++ (b ++ (c ++ (d ++ e)))) new
wrote-five r old a m1 b m2 c m3 d m4 e new e1 e2 e3 e4 h = wrote-behind r old a m1 (b ++ (c ++ (d ++ e))) new e1 (wrote-four r m1 b m2 c m3 d m4 e new e2 e3 e4 h)

-- ---- a piece written in several calls

-- the first n bytes, and then m of those behind them
pub behind-take : (t m : Option (List ℕ)) (bytes : List ℕ) (i n : ℕ) → m ≡ behind t (take i bytes) → behind m (take n (drop i bytes)) ≡ behind t (take (i + n) bytes)
behind-take t m bytes i n e = behind-then t m (take i bytes) (take n (drop i bytes)) e ∙ ap (behind t) (sym (take-add i n bytes))

-- the first n bytes are a front
pub front-take : (t m : Option (List ℕ)) (bytes : List ℕ) (i : ℕ) → m ≡ behind t (take i bytes) → TookFront t bytes m
front-take t m bytes i e = record { front = take i bytes; rest = drop i bytes; parts = sym (take-append-drop i bytes); added = e }

-- the first n bytes of a piece were taken, and the count of faults did not fall
pub record Sent (old : Option (List ℕ)) (faults : ℕ) (bytes : List ℕ) (n : ℕ) (new : Option (List ℕ)) (now : ℕ) : Type 0 where
  pub part : n ≤ length bytes
  pub added : new ≡ behind old (take n bytes)
  pub grows : Grows faults now
