-- Whole ranges of a file, by calls that take a part.
use Rattle.std.proofs.Common.{◌≡◌, inl, inr, ⊎_elim, ℕ, ◌+◌, ◌-◌, ◌≤◌, min, Bool, List, ◌++◌, length, take, drop, Option, Some, None, IfSome, option_map, refl, sym, ◌∙◌, ap, subst, arith, length-take, length-drop, length-append}
use Rattle.std.proofs.Math.Seq.{take-add}
use Rattle.std.proofs.lemmas.List.{take-append-drop, take-append-le, drop-drop, drop_at, take_at, append_assoc, append-nil, take_all, drop_all, length-take-le}
use Rattle.std.proofs.lemmas.Bool.{cases_lt}
use borrow.Rule.Slice.PartMut.{put_mid}
use Rattle.disk_calls.specs.Disks.{DiskTold, written, Torn, Elapses, GoesOn, LeavesBy, LeavesNothingNew}
use Rattle.disk_calls.proofs.Moments.{same_disk-then, goes_on-then, nothing_new-then}

-- ---- one call after another

elapses-after : (old mid new : DiskTold) → Elapses old mid → Elapses mid new → Elapses old new
elapses-after old mid new first second = record {
  later = omega (arith, first.later, second.later);
  nothing_else = λ t c le left. ⊎_elim (λ past. ⊎_elim (λ before. inl before) (λ since. inr (second.keeps old.moment c first.later since)) (first.nothing_else t c le past))
      (λ now. inr (new.since_before old.moment mid.moment c first.later now))
      (second.nothing_else t c (omega (arith, le, first.later)) left);
  keeps = λ t c le left. second.keeps t c (omega (arith, le, first.later)) (first.keeps t c le left);
  nothing_earlier = λ t c left. ⊎_elim (λ past. ⊎_elim (λ early. inl early) (λ since. inr (since.0, second.keeps old.moment c first.later since.1)) (first.nothing_earlier t c past))
      (λ now. inr (omega (arith, first.later, now.0), new.since_before old.moment mid.moment c first.later now.1))
      (second.nothing_earlier t c left);
  keeps_past = λ t c left. second.keeps_past t c (first.keeps_past t c left);
}

pub goes_on-after : (old mid new : DiskTold) → GoesOn old mid → GoesOn mid new → GoesOn old new
goes_on-after old mid new first second = record {
  time = elapses-after old mid new first.time second.time;
  same_disk = same_disk-then old mid new first.same_disk second.same_disk;
}

-- ---- a range read in several calls

-- the front of a range that reads have filled, and what they keep
pub record Filled (old now : DiskTold) (named named_now : Bool) (at done : ℕ) (room into : List ℕ) : Type 0 where
  pub part : done ≤ length into
  pub whole : length into ≡ length room
  pub bytes : IfSome old.reads (λ file. take done into ≡ take done (drop at file))
  pub same : now.reads ≡ old.reads
  pub same_name : named_now ≡ named
  pub crash : LeavesNothingNew old now
  pub goes_on : GoesOn old now

-- a front, and the bytes that one read more puts behind it
gives-file : (file : List ℕ) (at d n : ℕ) (front piece : List ℕ) → length front ≡ d → front ≡ take d (drop at file) → take n piece ≡ take n (drop (at + d) file)
    → take (d + n) (front ++ piece) ≡ take (d + n) (drop at file)
gives-file file at d n front piece is first next =
    take-add d n (front ++ piece)
    ∙ ap (λ (w : List ℕ). w ++ take n (drop d (front ++ piece))) (take_at front piece d is)
    ∙ ap (λ (w : List ℕ). front ++ take n w) (drop_at front piece d is)
    ∙ ap (λ (w : List ℕ). front ++ w) next
    ∙ ap (λ (w : List ℕ). front ++ take n w) (sym (drop-drop d at file))
    ∙ ap (λ (w : List ℕ). w ++ take n (drop d (drop at file))) first
    ∙ sym (take-add d n (drop at file))

pub gives-more : (reads mid : Option (List ℕ)) (at d n : ℕ) (into piece : List ℕ) → mid ≡ reads → d ≤ length into
    → IfSome reads (λ file. take d into ≡ take d (drop at file)) → IfSome mid (λ file. take n piece ≡ take n (drop (at + d) file))
    → IfSome reads (λ file. take (d + n) (take d into ++ piece) ≡ take (d + n) (drop at file))
gives-more None mid at d n into piece same le first next = tt
gives-more (Some file) mid at d n into piece same le first next =
    gives-file file at d n (take d into) piece (length-take-le d into le) first (subst (λ (o : Option (List ℕ)). IfSome o (λ file. take n piece ≡ take n (drop (at + d) file))) same next)

-- one read more
pub filled-more : (old mid new : DiskTold) (named named_mid named_new : Bool) (at d n : ℕ) (room into piece : List ℕ)
    → Filled old mid named named_mid at d room into → length piece ≡ length into - d → n ≤ length piece
    → IfSome mid.reads (λ file. take n piece ≡ take n (drop (at + d) file)) → new.reads ≡ mid.reads → named_new ≡ named_mid
    → LeavesNothingNew mid new → GoesOn mid new → Filled old new named named_new at (d + n) room (put_mid d (length into - d) into piece)
filled-more old mid new named named_mid named_new at d n room into piece so_far fits part next same same_name quiet goes = record {
  part = omega (arith, part, fits, so_far.part, long);
  whole = long ∙ so_far.whole;
  bytes = subst (λ (w : List ℕ). IfSome old.reads (λ file. take (d + n) w ≡ take (d + n) (drop at file))) (sym is) (gives-more old.reads mid.reads at d n into piece so_far.same so_far.part so_far.bytes next);
  same = same ∙ so_far.same;
  same_name = same_name ∙ so_far.same_name;
  crash = nothing_new-then old mid new so_far.crash so_far.goes_on goes quiet;
  goes_on = goes_on-then old mid new so_far.goes_on goes quiet;
}
  where
    is : put_mid d (length into - d) into piece ≡ take d into ++ piece
    is =
        ap (λ (w : List ℕ). take d into ++ (piece ++ w)) (drop_all (length into - d) (drop d into) (omega (arith, length-drop d into)))
        ∙ ap (λ (w : List ℕ). take d into ++ w) (append-nil piece)

    long : length (put_mid d (length into - d) into piece) ≡ length into
    long = ap length is ∙ omega (arith, length-append (take d into) piece, length-take-le d into so_far.part, fits, so_far.part)

-- a read that was broken off
pub filled-same : (old mid new : DiskTold) (named named_mid named_new : Bool) (at d : ℕ) (room into piece : List ℕ)
    → Filled old mid named named_mid at d room into → length piece ≡ length into - d → new.reads ≡ mid.reads → named_new ≡ named_mid
    → LeavesNothingNew mid new → GoesOn mid new → Filled old new named named_new at d room (put_mid d (length into - d) into piece)
filled-same old mid new named named_mid named_new at d room into piece so_far fits same same_name quiet goes =
    subst (λ (k : ℕ). Filled old new named named_new at k room (put_mid d (length into - d) into piece)) still
    (filled-more old mid new named named_mid named_new at d 0 room into piece so_far fits (omega arith) (none mid.reads) same same_name quiet goes)
  where
    still : d + 0 ≡ d
    still = omega arith

    none : (reads : Option (List ℕ)) → IfSome reads (λ file. take 0 piece ≡ take 0 (drop (at + d) file))
    none None = tt
    none (Some file) = refl

-- ---- a range written in several calls

-- two writes, one behind the other, are one
pub torn-then : (at n d : ℕ) (a b c : List ℕ) → d ≤ n → Torn at n a b → Torn (at + d) (n - d) b c → Torn at n a c
torn-then at n d a b c le first second = record {
  before =
      front c m (min (at + d) (length b)) (omega (arith, first.no_shorter, second.no_shorter)) (omega (arith, first.no_shorter, second.no_shorter, length-take (min (at + d) (length b)) c))
      ∙ ap (take m) second.before
      ∙ sym (front b m (at + d) (omega arith) (omega (arith, first.no_shorter, length-take (at + d) b)))
      ∙ first.before;
  after = ap (λ (k : ℕ). drop k c) behind ∙ second.after ∙ ap (λ (k : ℕ). drop k b) (sym behind) ∙ first.after;
  no_shorter = omega (arith, first.no_shorter, second.no_shorter);
  no_longer = omega (arith, first.no_longer, second.no_longer, le);
}
  where
    m : ℕ
    m = min at (length a)

    behind : at + n ≡ at + d + (n - d)
    behind = omega (arith, le)

    front : (l : List ℕ) (k j : ℕ) → k ≤ j → k ≤ length (take j l) → take k l ≡ take k (take j l)
    front l k j below within = ap (take k) (sym (take-append-drop j l)) ∙ take-append-le k (take j l) (drop j l) within

-- a step and then another step, which together are the first
pub leaves_by-more : (step next : List ℕ → List ℕ → Type 0) (old mid new : DiskTold) → ((i j c : List ℕ) → step i j → next j c → step i c)
    → LeavesBy step old mid → GoesOn old mid → LeavesBy next mid new → GoesOn mid new → LeavesBy step old new
leaves_by-more step next old mid new join by first more second c left =
    ⊎_elim (λ past. by c past) (λ now. later now) (second.time.nothing_else old.moment c first.time.later left)
  where
    later : new.left_since mid.moment c → (i : List ℕ) × old.may_leave i × step i c
    later now =
        let from = more c now in
        let start = by from.0 (mid.counts_now old.moment from.0 first.time.later from.1) in
        (start.0, start.1, join start.0 from.0 c start.2 from.2)

-- the front of a piece that writes have put there, and what they keep
pub record Put (old now : DiskTold) (named named_now : Bool) (at done : ℕ) (bytes : List ℕ) : Type 0 where
  pub part : done ≤ length bytes
  pub written_so : now.reads ≡ option_map (λ file. written file at (take done bytes)) old.reads
  pub same_name : named_now ≡ named
  pub crash : LeavesBy (Torn at (length bytes)) old now
  pub goes_on : GoesOn old now

-- ---- two writes, one behind the other

written-front : (file : List ℕ) (at : ℕ) (a : List ℕ) → take (at + length a) (written file at a) ≡ take at file ++ a
written-front file at a = elim (cases_lt (length file) at) [
  | inl past ↦
      ap (λ (w : List ℕ). take (at + length a) (take at file ++ a ++ w)) (drop_all (at + length a) file (omega (arith, past)))
      ∙ ap (take (at + length a)) (append-nil (take at file ++ a))
      ∙ take_all (at + length a) (take at file ++ a) (omega (arith, past, length-append (take at file) a, length-take at file))
  | inr within ↦ take_at (take at file ++ a) (drop (at + length a) file) (at + length a) (omega (arith, length-append (take at file) a, length-take-le at file within))
]

written-behind_it : (file : List ℕ) (at : ℕ) (a : List ℕ) (n : ℕ) → drop (at + length a + n) (written file at a) ≡ drop (at + length a + n) file
written-behind_it file at a n = elim (cases_lt (length file) at) [
  | inl past ↦
      drop_all (at + length a + n) (written file at a) (omega (arith, past, length-append (take at file ++ a) (drop (at + length a) file), length-append (take at file) a, length-take at file, length-drop (at + length a) file))
      ∙ sym (drop_all (at + length a + n) file (omega (arith, past)))
  | inr within ↦
      sym (drop-drop n (at + length a) (written file at a))
      ∙ ap (drop n) (drop_at (take at file ++ a) (drop (at + length a) file) (at + length a) (omega (arith, length-append (take at file) a, length-take-le at file within)))
      ∙ drop-drop n (at + length a) file
]

written-more : (file : List ℕ) (at : ℕ) (a b : List ℕ) → written (written file at a) (at + length a) b ≡ written file at (a ++ b)
written-more file at a b =
    let further : at + length a + length b ≡ at + length (a ++ b) = omega (arith, length-append a b) in
    ap (λ (w : List ℕ). w ++ b ++ drop (at + length a + length b) (written file at a)) (written-front file at a)
    ∙ ap (λ (w : List ℕ). (take at file ++ a) ++ b ++ w) (written-behind_it file at a (length b) ∙ ap (λ (k : ℕ). drop k file) further)
    ∙ ap (λ (w : List ℕ). w ++ drop (at + length (a ++ b)) file) (append_assoc (take at file) a b)

-- what one write more makes of what the others made
reads-more : (reads mid : Option (List ℕ)) (at d n : ℕ) (bytes : List ℕ) → d ≤ length bytes → mid ≡ option_map (λ file. written file at (take d bytes)) reads
    → option_map (λ file. written file (at + d) (take n (drop d bytes))) mid ≡ option_map (λ file. written file at (take (d + n) bytes)) reads
reads-more None mid at d n bytes part is = ap (option_map (λ f. written f (at + d) (take n (drop d bytes)))) is
reads-more (Some file) mid at d n bytes part is =
    ap (option_map (λ f. written f (at + d) (take n (drop d bytes)))) is
    ∙ ap (λ (k : ℕ). Some (written (written file at (take d bytes)) (at + k) (take n (drop d bytes)))) (sym (length-take-le d bytes part))
    ∙ ap Some (written-more file at (take d bytes) (take n (drop d bytes)) ∙ ap (written file at) (sym (take-add d n bytes)))

-- what is left of a piece, as a call is handed it
abbrev pub left : ℕ → List ℕ → List ℕ
left d bytes = take (length bytes - d) (drop d bytes)

left-is : (d : ℕ) (bytes : List ℕ) → left d bytes ≡ drop d bytes
left-is d bytes = take_all (length bytes - d) (drop d bytes) (omega (arith, length-drop d bytes))

left-length : (d : ℕ) (bytes : List ℕ) → length (left d bytes) ≡ length bytes - d
left-length d bytes = ap length (left-is d bytes) ∙ length-drop d bytes

-- what a crash leaves where one write more is on its way
pub put-crash : (old mid new : DiskTold) (named named_mid : Bool) (at d : ℕ) (bytes : List ℕ) → Put old mid named named_mid at d bytes
    → LeavesBy (Torn (at + d) (length (left d bytes))) mid new → GoesOn mid new → LeavesBy (Torn at (length bytes)) old new
put-crash old mid new named named_mid at d bytes put torn goes =
    leaves_by-more (Torn at (length bytes)) (Torn (at + d) (length bytes - d)) old mid new (λ i j c first second. torn-then at (length bytes) d i j c put.part first second)
    put.crash put.goes_on (subst (λ (k : ℕ). LeavesBy (Torn (at + d) k) mid new) (left-length d bytes) torn) goes

-- one write more
pub put-more : (old mid new : DiskTold) (named named_mid named_new : Bool) (at d n : ℕ) (bytes : List ℕ) → Put old mid named named_mid at d bytes
    → n ≤ length (left d bytes) → new.reads ≡ option_map (λ file. written file (at + d) (take n (left d bytes))) mid.reads → named_new ≡ named_mid
    → LeavesBy (Torn (at + d) (length (left d bytes))) mid new → GoesOn mid new → Put old new named named_new at (d + n) bytes
put-more old mid new named named_mid named_new at d n bytes put part wrote same_name torn goes = record {
  part = omega (arith, part, put.part, left-length d bytes);
  written_so = wrote ∙ ap (λ (w : List ℕ). option_map (λ file. written file (at + d) (take n w)) mid.reads) (left-is d bytes) ∙ reads-more old.reads mid.reads at d n bytes put.part put.written_so;
  same_name = same_name ∙ put.same_name;
  crash = put-crash old mid new named named_mid at d bytes put torn goes;
  goes_on = goes_on-after old mid new put.goes_on goes;
}

-- a write that was broken off
pub put-same : (old mid new : DiskTold) (named named_mid named_new : Bool) (at d : ℕ) (bytes : List ℕ) → Put old mid named named_mid at d bytes
    → new.reads ≡ mid.reads → named_new ≡ named_mid → LeavesBy (Torn (at + d) (length (left d bytes))) mid new → GoesOn mid new → Put old new named named_new at d bytes
put-same old mid new named named_mid named_new at d bytes put same same_name torn goes = record {
  part = put.part;
  written_so = same ∙ put.written_so;
  same_name = same_name ∙ put.same_name;
  crash = put-crash old mid new named named_mid at d bytes put torn goes;
  goes_on = goes_on-after old mid new put.goes_on goes;
}
