-- An item is read in three steps: bytes are taken, the item is read in them, and behind the last one the file is taken to its end.
use Rattle.std.proofs.Common.{◌≡◌, ◌≢◌, ℕ, ◌+◌, ◌<◌, IsTrue, false, List, [], ◌∷◌, ◌++◌, length, Option, None, Some, Result, Ok, Err, refl, sym, ap}
use Rattle.std.proofs.Common.{subst, ◌∙◌, append_assoc, length-append, arith, inl, inr}
use Rattle.std.proofs.lemmas.Bool.{false≢true}
use Rattle.std.proofs.lemmas.List.{nil_from_length}
use Rattle.shelf_calls.specs.Opened.{ahead, IsUsedUp}
use Rattle.cert_text.specs.declared.fault.TextFault.{TextFault}
use Rattle.cert_text.specs.Reading.{At}
use Rattle.cert_stream.specs.declared.fault.ItemFault.{ItemFault}
use Rattle.cert_stream.specs.declared.fault.ItemFault.TheVariants.{Text}
use Rattle.cert_items.specs.declared.items.Item as declared
use Rattle.cert_items.specs.declared.items.Item.TheVariants as items
use Rattle.cert_items.specs.declared.items.State.{State}
use Rattle.cert_items.specs.declared.items.State.TheVariants as states
use Rattle.cert_items.specs.Items.{Field, shown_item, next_at}
use Rattle.cert_stream.specs.Rooms.{IsHandedOut}
use Rattle.cert_stream.specs.Streams.{Reader, at_of, MayFollow, IsAtEnd, ReaderTook, Filled, GivesItem, GivesFault, HasBehind}
use Rattle.cert_items.proofs.Lasts.{end-last, last-end}
use Rattle.cert_stream.proofs.Calls.{took-then, may-follow, filled-at}

-- ---- a piece

-- a piece that was handed out of what is left of nothing
used-on : (rest now : Option (List ℕ)) → rest ≡ ahead [] now → IsUsedUp rest → IsUsedUp now
used-on rest None e h = λ x f. absurd cc
used-on rest (Some z) e h = λ x f. let same : z ≡ x = cc in sym same ∙ h z e

pub filled-piece : (r s : Reader) (rest now : Option (List ℕ)) (n : ℕ) → r.ended ≡ false → IsHandedOut r.held rest s.held now n → s.left + n ≡ r.left → (IsTrue s.ended → n ≡ 0)
    → s.state ≡ r.state → s.line ≡ r.line → Filled r rest s now
filled-piece r s rest now n going h left ended state line = record {
  took = record {
    taken = h.piece;
    parts = h.parts;
    within = omega (arith, left, h.long);
    used_up = λ e.
        let none : h.piece ≡ [] = nil_from_length h.piece (h.long ∙ ended e) in
        used-on rest now (h.parts ∙ ap (λ (p : List ℕ). ahead p now) none) (h.some (ended e));
    over = λ e. absurd (not-both e going);
  };
  held = h.behind;
  state = state;
  line = line;
}
  where
    not-both : IsTrue r.ended → r.ended ≡ false → ⊥
    not-both e f = false≢true (sym f ∙ e)

-- ---- the steps of a call

-- the reader read this item in the bytes that it holds
pub record Stepped (m n : Reader) (item : Field) : Type 0 where
  pub reads : (more : List ℕ) → MayFollow m more → next_at m.state (at_of m more) ≡ Ok ((item, n.state), at_of n more)
  pub some : length n.held < length m.held
  pub left : n.left ≡ m.left
  pub ended : n.ended ≡ m.ended

stepped-ends : (item : declared.Item) {m n : Reader} → Stepped m n (shown_item item) → item ≡ items.End → n.state ≡ states.Ended
stepped-ends item {m} {n} s e = end-last m.state (at_of m []) item n.state (at_of n []) (s.reads [] (λ _. refl)) e

stepped-last : (item : declared.Item) {m n : Reader} → Stepped m n (shown_item item) → n.state ≡ states.Ended → item ≡ items.End
stepped-last item {m} {n} s e = last-end m.state (at_of m []) item n.state (at_of n []) (s.reads [] (λ _. refl)) e

abbrev took-step : {r m n : Reader} {rest now : Option (List ℕ)} → ReaderTook r rest m now → n.left ≡ m.left → n.ended ≡ m.ended → ReaderTook r rest n now
took-step {r} {m} {n} {rest} {now} h left ended = record {
  taken = h.taken;
  parts = h.parts;
  within = omega (arith, left, h.within);
  used_up = λ e. h.used_up (subst (λ b. IsTrue b) ended e);
  over = λ e. let p = h.over e in (p.0, subst (λ b. IsTrue b) (sym ended) p.1);
}

-- what is read with the bytes that were taken before
taken-too : {r m : Reader} {rest now : Option (List ℕ)} (h : Filled r rest m now) (more : List ℕ) → next_at r.state (at_of r (h.took.taken ++ more)) ≡ next_at m.state (at_of m more)
taken-too {r} {m} h more = ap (λ (s : State). next_at s (at_of r (h.took.taken ++ more))) (sym h.state) ∙ ap (next_at m.state) (sym (filled-at h more))

pub gives-item : (item : declared.Item) {r m n : Reader} {rest now : Option (List ℕ)} → Filled r rest m now → Stepped m n (shown_item item) → n.state ≢ states.Ended → GivesItem r rest n now item
gives-item item {r} {m} {n} {rest} {now} h s going = record {
  took = took-step h.took s.left s.ended;
  reads = λ more f. taken-too h more ∙ s.reads more (λ e. f (subst (λ b. IsTrue b) (sym s.ended) e));
  some = omega (arith, s.some, ap length h.held, length-append r.held h.took.taken);
  ends = stepped-ends item s;
  last = λ e. absurd (going e);
  whole = λ e. absurd (going e);
}

pub gives-last : (item : declared.Item) {r m n s : Reader} {rest now later : Option (List ℕ)} → Filled r rest m now → Stepped m n (shown_item item) →
    Filled n now s later → IsAtEnd s → GivesItem r rest s later item
gives-last item {r} {m} {n} {s} {rest} {now} {later} h step close end = record {
  took = took-then (took-step h.took step.left step.ended) close.took;
  reads = λ more f.
      let next : List ℕ = close.took.taken ++ more in
      let follows : MayFollow n next = may-follow more close.took f in
      ap (λ (t : List ℕ). next_at r.state (at_of r t)) (append_assoc h.took.taken close.took.taken more)
      ∙ taken-too h next
      ∙ step.reads next (λ e. follows (subst (λ b. IsTrue b) (sym step.ended) e))
      ∙ same (sym close.state) (sym (filled-at close more));
  some = omega (arith, step.some, ap length h.held, length-append r.held h.took.taken, ap length close.held, length-append n.held close.took.taken, length-append h.took.taken close.took.taken);
  ends = λ e. close.state ∙ stepped-ends item step e;
  last = λ e. stepped-last item step (sym close.state ∙ e);
  whole = λ e. end;
}
  where
    ok : State → At → Result ((Field × State) × At) ℕ
    ok t a = Ok ((shown_item item, t), a)

    same : {t u : State} {a b : At} → t ≡ u → a ≡ b → ok t a ≡ ok u b
    same p q = cc

pub gives-fault : (f : TextFault) {r m s : Reader} {rest now later : Option (List ℕ)} → r.state ≢ states.Ended → Filled r rest m now
    → ((more : List ℕ) → MayFollow m more → next_at m.state (at_of m more) ≡ Err f.line) → ReaderTook m now s later → IsTrue s.ended → GivesFault r rest s later f
gives-fault f {r} {m} {s} {rest} {now} {later} going h fault took ended = record {
  going = going;
  took = took-then h.took took;
  at_the_end = ended;
  is = inl (taken-too h took.taken ∙ fault took.taken (λ e. (took.over e).0));
}

pub gives-behind : (f : TextFault) (item : Field) {r m n s : Reader} {rest now later : Option (List ℕ)} → r.state ≢ states.Ended → Filled r rest m now → Stepped m n item → n.state ≡ states.Ended
    → HasBehind n now s later f → GivesFault r rest s later f
gives-behind f item {r} {m} {n} {s} {rest} {now} {later} going h step over b = record {
  going = going;
  took = took-then (took-step h.took step.left step.ended) b.took;
  at_the_end = b.at_the_end;
  is = inr (record {
    item = item;
    first = b.first;
    behind = b.behind;
    reads = taken-too h b.took.taken ∙ step.reads b.took.taken (λ e. (b.took.over (subst (λ t. IsTrue t) (sym step.ended) e)).0) ∙ same over (sym b.line) b.are;
  });
}
  where
    ok : State → ℕ → List ℕ → Result ((Field × State) × At) ℕ
    ok t line rest = Ok ((item, t), record { line = line; rest = rest })

    same : {t u : State} {i j : ℕ} {x y : List ℕ} → t ≡ u → i ≡ j → x ≡ y → ok t i x ≡ ok u j y
    same p q w = cc

a-first : (xs : List ℕ) → length xs ≢ 0 → (c : ℕ) × (cs : List ℕ) × (xs ≡ c ∷ cs)
a-first [] ne = absurd (ne refl)
a-first (c ∷ cs) ne = (c, cs, refl)

pub close-behind : (f : TextFault) {n p s : Reader} {now later last : Option (List ℕ)} → Filled n now p later → length p.held ≢ 0 → f.line ≡ p.line →
    ReaderTook p later s last → IsTrue s.ended → HasBehind n now s last f
close-behind f {n} {p} {s} {now} {later} {last} h some line took ended =
    let q = a-first p.held some in
    record {
      took = took-then h.took took;
      at_the_end = ended;
      line = line ∙ h.line;
      first = q.0;
      behind = q.1 ++ took.taken;
      are = sym (append_assoc n.held h.took.taken took.taken) ∙ ap (λ (x : List ℕ). x ++ took.taken) (sym h.held ∙ q.2);
    }

-- ---- the rest that is let go

-- what a reader takes does not depend on what it holds
pub let-go : (r : Reader) (held : List ℕ) {s : Reader} {rest now : Option (List ℕ)} →
    ReaderTook (record { state = r.state; line = r.line; held = held; left = r.left; ended = r.ended }) rest s now → ReaderTook r rest s now
let-go r held h = record { taken = h.taken; parts = h.parts; within = h.within; used_up = h.used_up; over = h.over }

-- ---- faults

pub same-text : (T : Type 0) (x f : TextFault) → ◌≡◌ {A = Result T ItemFault} (Err (Text x)) (Err (Text f)) → x ≡ f
same-text T x f e = cc
