-- A reader that holds 128 bytes, or all that is left, reads its next item in these bytes as in the whole.
use Rattle.std.proofs.Common.{◌≡◌, ◌⊎◌, ℕ, suc, Bool, true, false, cond, eqb, ◌+◌, ◌-◌, ◌<◌, ◌≤◌, IsTrue, List, [], ◌∷◌, ◌++◌, length, drop, Result, Ok, Err}
use Rattle.std.proofs.Common.{refl, sym, ap, subst, ◌∙◌, arith, length-append, inl, inr}
use Rattle.std.proofs.lemmas.Bool.{eqb-true}
use Rattle.std.proofs.lemmas.List.{append-nil}
use Rattle.std.proofs.Math.Seq.{drop-append_seam}
use Rattle.cert_text.specs.Lines.{line_feeds}
use Rattle.cert_text.specs.Reading.{At}
use Rattle.cert_text.proofs.WindowLaws.{further}
use Rattle.cert_items.specs.declared.items.State.{State}
use Rattle.cert_items.specs.Items.{Field, next_at}
use Rattle.cert_stream.specs.Streams.{Reader, at_of, MayFollow}
use Rattle.cert_items.proofs.Pieces.{IsBehind}
use Rattle.cert_items.proofs.ItemPieces.{next_piece}
use Rattle.cert_stream.proofs.FirstBytes.{no-feed-first}

-- the bytes that are held, and nothing behind them
abbrev pub alone : Reader → At
alone r = record { line = r.line; rest = r.held }

-- what is read of an item
abbrev ItemRead : Type 0
ItemRead = Result ((Field × State) × At) ℕ

-- as much is held as an item takes at most, or all that is left
abbrev pub IsFull : Reader → Type 0
IsFull r = (128 ≤ length r.held) ⊎ IsTrue r.ended

nothing-behind : (q : ItemRead) → further [] q ≡ q
nothing-behind (Ok p) = ap (λ (rest : List ℕ). ok p.0 p.1.line rest) (append-nil p.1.rest)
  where
    ok : Field × State → ℕ → List ℕ → ItemRead
    ok x line rest = Ok (x, record { line = line; rest = rest })
nothing-behind (Err n) = refl

sees : (r : Reader) → IsFull r → (more : List ℕ) → MayFollow r more → next_at r.state (at_of r more) ≡ further more (next_at r.state (alone r))
sees r (inl long) more f = (next_piece r.state).window.sees r.line r.held more long
sees r (inr ended) more f = subst (λ (m : List ℕ). next_at r.state (at_of r m) ≡ further m (next_at r.state (alone r))) (sym (f ended)) at_nil
  where
    at_nil : next_at r.state (at_of r []) ≡ further [] (next_at r.state (alone r))
    at_nil = ap (λ (h : List ℕ). next_at r.state (record { line = r.line; rest = h })) (append-nil r.held) ∙ sym (nothing-behind (next_at r.state (alone r)))

-- what stands behind a front, by its length
rest-kept : (front rest all : List ℕ) → all ≡ front ++ rest → drop (length all - length rest) all ≡ rest
rest-kept front rest all e =
    let count : length all - length rest ≡ length front = omega (arith, ap length e, length-append front rest) in
    ap (λ (n : ℕ). drop n all) count ∙ ap (drop (length front)) e ∙ drop-append_seam front rest

-- an item takes a front of the bytes, of one byte at least
pub item-front : (r : Reader) (x : Field × State) (b : At) → next_at r.state (alone r) ≡ Ok (x, b) → IsBehind 1 (alone r) b
item-front r x b e = (next_piece r.state).leaves (alone r) b x e

-- no text has more lines than bytes
line_feeds-le : (bs : List ℕ) → line_feeds bs ≤ length bs
line_feeds-le [] = omega arith
line_feeds-le (c ∷ cs) = by_end (eqb c 10) (line_feeds-le cs)
  where
    by_end : (b : Bool) → line_feeds cs ≤ length cs → cond b 1 0 + line_feeds cs ≤ suc (length cs)
    by_end true h = omega (arith, h)
    by_end false h = omega (arith, h)

-- an item has a byte beside its line feeds
fewer-feeds : (r : Reader) (x : Field × State) (b : At) (front : List ℕ) → next_at r.state (alone r) ≡ Ok (x, b) → r.held ≡ front ++ b.rest → 1 ≤ length front → line_feeds front < length front
fewer-feeds r x b [] e parts long = absurd (omega arith)
fewer-feeds r x b (c ∷ cs) e parts long = by_end (eqb c 10) refl
  where
    by_end : (t : Bool) → eqb c 10 ≡ t → cond t 1 0 + line_feeds cs < suc (length cs)
    by_end true same = absurd (no-feed-first r.state r.line (cs ++ b.rest) x b (ap (λ (h : List ℕ). next_at r.state (record { line = r.line; rest = h })) (sym (parts ∙ ap (λ (d : ℕ). d ∷ cs ++ b.rest) (eqb-true c 10 same))) ∙ e))
    by_end false other = omega (arith, line_feeds-le cs)

-- fewer bytes are left, and fewer lines than bytes are behind
pub item-lines : (r : Reader) (x : Field × State) (b : At) → next_at r.state (alone r) ≡ Ok (x, b) → (length b.rest < length r.held) × (b.line + length b.rest < r.line + length r.held)
item-lines r x b e =
    let front = item-front r x b e in
    let long : length r.held ≡ length front.front + length b.rest = ap length front.parts ∙ length-append front.front b.rest in
    (omega (arith, long, front.long), omega (arith, long, front.line, fewer-feeds r x b front.front e front.parts front.long))

pub step-gives : (r s : Reader) (i : Field) (b : At) → IsFull r → next_at r.state (alone r) ≡ Ok ((i, s.state), b) → s.line ≡ b.line → s.held ≡ drop (length r.held - length b.rest) r.held
    → (more : List ℕ) → MayFollow r more → next_at r.state (at_of r more) ≡ Ok ((i, s.state), at_of s more)
step-gives r s i b full e line held more f =
    let front = item-front r (i, s.state) b e in
    let kept : s.held ≡ b.rest = held ∙ rest-kept front.front b.rest r.held front.parts in
    sees r full more f ∙ ap (further more) e ∙ same (sym line) (ap (λ (h : List ℕ). h ++ more) (sym kept))
  where
    ok : ℕ → List ℕ → ItemRead
    ok k x = Ok ((i, s.state), record { line = k; rest = x })

    same : {k l : ℕ} {x y : List ℕ} → k ≡ l → x ≡ y → ok k x ≡ ok l y
    same p q = cc

-- what is kept is what the reading left
pub step-kept : (r : Reader) (x : Field × State) (b : At) (held : List ℕ) → next_at r.state (alone r) ≡ Ok (x, b) → held ≡ drop (length r.held - length b.rest) r.held → held ≡ b.rest
step-kept r x b held e h = let front = item-front r x b e in h ∙ rest-kept front.front b.rest r.held front.parts

pub step-faults : (r : Reader) (n : ℕ) → IsFull r → next_at r.state (alone r) ≡ Err n → (more : List ℕ) → MayFollow r more → next_at r.state (at_of r more) ≡ Err n
step-faults r n full e more f = sees r full more f ∙ ap (further more) e
