-- What calls of a reader from the start of a file say of the file.
use Rattle.std.proofs.Common.{◌≡◌, ◌⊎◌, ℕ, ◌-◌, IsTrue, List, [], ◌∷◌, ◌++◌, length, Option, Some, Err, refl, sym, ap, subst, ◌∙◌, arith, inl, inr}
use Rattle.std.proofs.lemmas.List.{append-nil}
use Rattle.edge_io.specs.Counts.{RoseBy}
use Rattle.cert_text.specs.declared.fault.TextFault.{TextFault}
use Rattle.cert_text.specs.Lines.{IsFaultyLine}
use Rattle.cert_text.specs.Reading.{At, start}
use Rattle.cert_format.specs.Cert.{Cert, IsCert}
use Rattle.cert_format.specs.Text.{text_of}
use Rattle.cert_items.specs.declared.items.State.TheVariants as states
use Rattle.cert_items.specs.Items.{Field, items_of, next_at, Gave}
use Rattle.cert_stream.specs.Streams.{Reader, fresh, at_of, IsAtEnd, ReaderTook, GivesFault, StandsBehind, Ran, IsRest, IsTextOf, IsFaultyAt, IsPaid}
use Rattle.cert_stream.proofs.Calls.{told, took-then, gave-append}
use Rattle.cert_items.proofs.ItemLaws.{gave-end, gave-prefix, gave-fault, gave-behind}

-- where nothing is left, what was taken is the rest
pub all-taken : {r s : Reader} {rest now : Option (List ℕ)} (h : ReaderTook r rest s now) → IsTrue s.ended → IsRest rest h.taken
all-taken {r} {s} {rest} {now} h ended = λ x e.
    let t = told x h.taken now (sym e ∙ h.parts) in
    let none : t.0 ≡ [] = h.used_up ended t.0 t.1 in
    t.2 ∙ ap (λ (z : List ℕ). h.taken ++ z) none ∙ append-nil h.taken

pub run-ends : (most : ℕ) (rest : Option (List ℕ)) (s : Reader) (now : Option (List ℕ)) (is : List Field) (ran : Ran (fresh most) rest s now is) →
    s.state ≡ states.Ended → IsAtEnd s → IsTextOf most rest ran.took.taken is
run-ends most rest s now is ran over whole =
    let bytes : List ℕ = ran.took.taken in
    let read : Gave states.Begin (start (bytes ++ [])) is s.state (at_of s []) = ran.reads [] (λ _. refl) in
    let all : Gave states.Begin (start bytes) is states.Ended (at_of s []) =
    subst (λ t. Gave states.Begin (start bytes) is t (at_of s [])) over (subst (λ (b : List ℕ). Gave states.Begin (start b) is s.state (at_of s [])) (append-nil bytes) read) in
    let m = gave-end bytes is (at_of s []) all (ap (λ (b : List ℕ). b ++ []) whole.held) in
    record {
      are = all-taken ran.took whole.ended;
      short = omega (arith, ran.took.within);
      cert = m.0;
      is = m.1;
      text = m.2;
      items_are = m.3;
    }

pub run-begins : (most : ℕ) (s : Reader) (now : Option (List ℕ)) (is : List Field) (c : Cert) → IsCert c →
    Ran (fresh most) (Some (text_of c)) s now is → (more : List Field) × (items_of c ≡ is ++ more)
run-begins most s now is c ok ran =
    let t = told (text_of c) ran.took.taken now ran.took.parts in
    gave-prefix (ran.took.taken ++ t.0) is s.state (at_of s t.0) c (ran.reads t.0 (λ e. ran.took.used_up e t.0 t.1)) ok (sym t.2)

pub run-fails : (most : ℕ) (rest : Option (List ℕ)) (s : Reader) (now : Option (List ℕ)) (is : List Field) (t : Reader) (later : Option (List ℕ)) (fault : TextFault)
    (ran : Ran (fresh most) rest s now is) (found : GivesFault s now t later fault) → IsFaultyAt most rest (ran.took.taken ++ found.took.taken) fault.line
run-fails most rest s now is t later fault ran found = record {
  are = all-taken both found.at_the_end;
  short = omega (arith, both.within);
  faulty = by_kind found.is;
}
  where
    both : ReaderTook (fresh most) rest t later
    both = took-then ran.took found.took

    bytes : List ℕ
    bytes = ran.took.taken ++ found.took.taken

    read : Gave states.Begin (start bytes) is s.state (at_of s found.took.taken)
    read = ran.reads found.took.taken (λ e. (found.took.over e).0)

    by_kind : (next_at s.state (at_of s found.took.taken) ≡ Err fault.line) ⊎ StandsBehind s found.took.taken fault.line → IsFaultyLine Cert IsCert text_of bytes fault.line
    by_kind (inl e) = gave-fault bytes is s.state (at_of s found.took.taken) fault.line read found.going e
    by_kind (inr b) =
        let last : At = record { line = fault.line; rest = b.first ∷ b.behind } in
        gave-behind bytes (is ++ b.item ∷ []) last b.first
        (gave-append states.Begin (start bytes) is s.state (at_of s found.took.taken) (b.item ∷ []) states.Ended last read (states.Ended, last, found.going, b.reads, (refl, refl)))
        refl

pub run-paid : (most : ℕ) (rest : Option (List ℕ)) (s : Reader) (now : Option (List ℕ)) (is : List Field) (before after : ℕ) →
    Ran (fresh most) rest s now is → RoseBy (most - s.left) before after → IsPaid (length is) before after
run-paid most rest s now is before after ran (inl e) = inl (omega (arith, ran.some, ran.took.within))
run-paid most rest s now is before after ran (inr e) = inr e
