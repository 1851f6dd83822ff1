-- Calls that follow on one another, put together.
use Rattle.std.proofs.Common.{◌≡◌, ◌≢◌, ℕ, ◌-◌, ◌^◌, ◌<◌, ◌≤◌, ◌⊎◌, IsTrue, List, [], ◌∷◌, ◌++◌, length, Option, None, Some, Result, Ok, Err, refl, sym, ap, subst, ◌∙◌, append_assoc, length-append, arith, inl, inr}
use Rattle.std.proofs.lemmas.List.{append-nil}
use Rattle.edge_io.specs.Counts.{Grows, RoseBy}
use Rattle.shelf_calls.specs.Opened.{ahead, IsUsedUp}
use Rattle.cert_text.specs.Reading.{At}
use Rattle.cert_stream.specs.declared.fault.ItemFault.{ItemFault}
use Rattle.cert_stream.specs.declared.fault.ItemFault.TheVariants.{Read}
use Rattle.cert_items.specs.declared.items.Item as declared
use Rattle.cert_items.specs.declared.items.State.{State}
use Rattle.cert_items.specs.declared.items.State.TheVariants as states
use Rattle.cert_items.specs.Items.{Field, shown_item, Gave}
use Rattle.cert_stream.specs.Streams.{Reader, at_of, MayFollow, IsAtEnd, ReaderTook, Filled, IsMore, TookMore, GivesItem, Ran, Finished}

-- ---- what is taken

pub ahead-nil : (o : Option (List ℕ)) → o ≡ ahead [] o
ahead-nil None = refl
ahead-nil (Some z) = refl

pub ahead-ahead : (xs ys : List ℕ) (o : Option (List ℕ)) → ahead xs (ahead ys o) ≡ ahead (xs ++ ys) o
ahead-ahead xs ys None = refl
ahead-ahead xs ys (Some z) = ap (λ (b : List ℕ). Some b) (sym (append_assoc xs ys z))

-- what is told is what was taken, and a rest
pub told : (bytes taken : List ℕ) (now : Option (List ℕ)) → Some bytes ≡ ahead taken now → (z : List ℕ) × (now ≡ Some z) × (bytes ≡ taken ++ z)
told bytes taken None e = absurd cc
told bytes taken (Some z) e = (z, refl, cc)

abbrev pub took-none : (r : Reader) (rest : Option (List ℕ)) → (IsTrue r.ended → IsUsedUp rest) → ReaderTook r rest r rest
took-none r rest h = record { taken = []; parts = ahead-nil rest; within = omega arith; used_up = h; over = λ e. (refl, e) }

abbrev pub took-then : {r s t : Reader} {rest now later : Option (List ℕ)} → ReaderTook r rest s now → ReaderTook s now t later → ReaderTook r rest t later
took-then {r} {s} {t} {rest} {now} {later} h k = record {
  taken = h.taken ++ k.taken;
  parts = h.parts ∙ ap (ahead h.taken) k.parts ∙ ahead-ahead h.taken k.taken later;
  within = omega (arith, h.within, k.within, length-append h.taken k.taken);
  used_up = k.used_up;
  over = λ e.
      let p = h.over e in
      let q = k.over p.1 in
      (ap (λ (x : List ℕ). x ++ k.taken) p.0 ∙ q.0, q.1);
}

-- what may follow what the later call took may follow with it
pub may-follow : {s t : Reader} {now later : Option (List ℕ)} (more : List ℕ) (k : ReaderTook s now t later) → MayFollow t more → MayFollow s (k.taken ++ more)
may-follow more k f = λ e. let p = k.over e in ap (λ (x : List ℕ). x ++ more) p.0 ∙ f p.1

abbrev pub filled-none : (r : Reader) (rest : Option (List ℕ)) → (IsTrue r.ended → IsUsedUp rest) → Filled r rest r rest
filled-none r rest h = record { took = took-none r rest h; held = sym (append-nil r.held); state = refl; line = refl }

abbrev pub filled-then : {r s t : Reader} {rest now later : Option (List ℕ)} → Filled r rest s now → Filled s now t later → Filled r rest t later
filled-then {r} h k = record {
  took = took-then h.took k.took;
  held = k.held ∙ ap (λ (x : List ℕ). x ++ k.took.taken) h.held ∙ append_assoc r.held h.took.taken k.took.taken;
  state = k.state ∙ h.state;
  line = k.line ∙ h.line;
}

-- what the reader has before it, with the bytes that were taken
pub filled-at : {r s : Reader} {rest now : Option (List ℕ)} (h : Filled r rest s now) (more : List ℕ) → at_of s more ≡ at_of r (h.took.taken ++ more)
filled-at {r} {s} h more = same h.line (ap (λ (x : List ℕ). x ++ more) h.held ∙ append_assoc r.held h.took.taken more)
  where
    place : ℕ → List ℕ → At
    place line rest = record { line = line; rest = rest }

    same : {i j : ℕ} {x y : List ℕ} → i ≡ j → x ≡ y → place i x ≡ place j y
    same e f = cc

-- ---- counts

pub rose-then : (i j k a b c : ℕ) → j ≤ i → k ≤ j → RoseBy (i - j) a b → RoseBy (j - k) b c → Grows b c → RoseBy (i - k) a c
rose-then i j k a b c le lf (inl e) (inl f) g = inl (omega arith)
rose-then i j k a b c le lf (inr e) f g =
    let within : c < 2 ^ 64 = g.within (omega arith) in
    inr (omega (arith, g.grown, within))
rose-then i j k a b c le lf (inl e) (inr f) g = inr f

pub took-more-then : (i j a b c : ℕ) → j ≤ i → RoseBy (i - j) a b → TookMore j b c → Grows b c → TookMore i a c
took-more-then i j a b c le (inl e) (inl f) g = inl (omega arith)
took-more-then i j a b c le (inr e) f g =
    let within : c < 2 ^ 64 = g.within (omega arith) in
    inr (omega (arith, g.grown, within))
took-more-then i j a b c le (inl e) (inr f) g = inr f

pub more-then : {r s : Reader} {rest now : Option (List ℕ)} → ReaderTook r rest s now → IsMore s.left now → IsMore r.left rest
more-then {r} {s} {rest} {now} h m = λ x e.
    let t = told x h.taken now (sym e ∙ h.parts) in
    let longer : s.left < length t.0 = m t.0 t.1 in
    omega (arith, h.within, longer, ap length t.2, length-append h.taken t.0)

-- a call that did not fail left the count of faults of its shelf as it was
pub told-quiet : {X : Type 0} {x : X} {before after : ℕ} → (◌≡◌ {A = Result X ItemFault} (Ok x) (Err Read)) ⊎ (after ≡ before) → after ≡ before
told-quiet (inl e) = absurd cc
told-quiet (inr e) = e

-- and so did one that failed for another reason
pub fault-quiet : {X : Type 0} {fault : ItemFault} {before after : ℕ} → (◌≡◌ {A = Result X ItemFault} (Err fault) (Err Read)) ⊎ (after ≡ before) → (fault ≡ Read) ⊎ (after ≡ before)
fault-quiet (inl e) = inl cc
fault-quiet (inr e) = inr e

-- ---- what is read

pub gave-append : (s : State) (a : At) (is : List Field) (t : State) (b : At) (js : List Field) (u : State) (c : At) → Gave s a is t b → Gave t b js u c → Gave s a (is ++ js) u c
gave-append s a [] t b js u c h k = subst (λ (x : State). Gave x a js u c) (sym h.0) (subst (λ (y : At). Gave t y js u c) (sym h.1) k)
gave-append s a (i ∷ is) t b js u c h k = (h.0, h.1, h.2, h.3, gave-append h.0 h.1 is t b js u c h.4 k)

pub ran-none : (r : Reader) (rest : Option (List ℕ)) → (IsTrue r.ended → IsUsedUp rest) → Ran r rest r rest []
ran-none r rest h = record { took = took-none r rest h; reads = λ more f. (refl, refl); some = omega arith }

pub ran-then : {r s t : Reader} {rest now later : Option (List ℕ)} (is js : List Field) → Ran r rest s now is → Ran s now t later js → Ran r rest t later (is ++ js)
ran-then {r} {s} {t} is js h k = record {
  took = took-then h.took k.took;
  reads = λ more f.
      let next : List ℕ = k.took.taken ++ more in
      subst (λ (x : List ℕ). Gave r.state (at_of r x) (is ++ js) t.state (at_of t more)) (sym (append_assoc h.took.taken k.took.taken more))
      (gave-append r.state (at_of r (h.took.taken ++ next)) is s.state (at_of s next) js t.state (at_of t more)
      (h.reads next (may-follow more k.took f)) (k.reads more f));
  some = omega (arith, h.some, k.some, length-append is js, length-append h.took.taken k.took.taken);
}

pub ran-one : {r s : Reader} {rest now : Option (List ℕ)} (item : declared.Item) → r.state ≢ states.Ended → GivesItem r rest s now item → Ran r rest s now (shown_item item ∷ [])
ran-one {r} {s} item going g = record {
  took = g.took;
  reads = λ more f. (s.state, at_of s more, going, g.reads more f, (refl, refl));
  some = omega (arith, g.some);
}

pub ran-next : {r s t : Reader} {rest now later : Option (List ℕ)} (is : List Field) (item : declared.Item) → Ran r rest s now is →
    s.state ≢ states.Ended → GivesItem s now t later item → Ran r rest t later (is ++ shown_item item ∷ [])
ran-next is item h going g = ran-then is (shown_item item ∷ []) h (ran-one item going g)

-- ---- reading on

-- Calls gave some items. Where the last has come, the file is at its end, or it had come before.
pub record RanOn (r : Reader) (rest : Option (List ℕ)) (s : Reader) (now : Option (List ℕ)) : Type 0 where
  pub items : List Field
  pub ran : Ran r rest s now items
  pub whole : s.state ≡ states.Ended → (r.state ≡ states.Ended → IsAtEnd r) → IsAtEnd s

pub ran_on-none : (r : Reader) (rest : Option (List ℕ)) → (IsTrue r.ended → IsUsedUp rest) → RanOn r rest r rest
ran_on-none r rest h = record { items = []; ran = ran-none r rest h; whole = λ e f. f e }

pub ran_on-next : {r s t : Reader} {rest now later : Option (List ℕ)} (item : declared.Item) → RanOn r rest s now → s.state ≢ states.Ended → GivesItem s now t later item → RanOn r rest t later
ran_on-next item h going g = record {
  items = h.items ++ shown_item item ∷ [];
  ran = ran-next h.items item h.ran going g;
  whole = λ e f. g.whole e;
}

pub finished : {r s : Reader} {rest now : Option (List ℕ)} → RanOn r rest s now → s.state ≡ states.Ended → Finished r rest s now
finished h e = record { items = h.items; ran = h.ran; state = e; whole = h.whole e }
