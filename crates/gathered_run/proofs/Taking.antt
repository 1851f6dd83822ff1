-- What was taken, step after step.
use Rattle.std.proofs.Common.{◌≡◌, ◌≢◌, ℕ, List, [], ◌∷◌, ◌++◌, map, refl, sym, ap, subst, ◌∙◌, arith}
use Rattle.std.proofs.lemmas.List.{append-nil, map-append, append_assoc}
use Rattle.disk_calls.specs.Disks.{DiskTold, LeavesOnly}
use Rattle.pool_model.specs.Network.{Net}
use Rattle.row_model.specs.Entries.{Entry, Searched, start, AreInOrder, IsEntryInOrder}
use Rattle.box_tree.specs.EntryFaults as entries
use Rattle.journal_format.specs.Records.{Place, IsKeptAt}
use Rattle.node_journal.specs.Journals.{IsBeforeOrAfter}
use Rattle.node_journal.specs.Settled.{IsOnDisk}
use Rattle.recorded_run.specs.Recorded.{IsRecorded}
use Rattle.recorded_run.proofs.Recording.{in_order-more, recorded-more}
use Rattle.work_units.specs.Units.{Answer}
use Rattle.work_units.specs.Desks.{Desk, Kept, desk_of}
use Rattle.work_units.specs.Judging.{IsJudged, after_delivery, rank}
use Rattle.work_units.specs.declared.answer.Judged.{Judged}
use Rattle.work_units.specs.declared.answer.Judged.TheVariants.{Stranger, Repeated, Wrong, Refused, Fits}
use Rattle.gathered_run.specs.Files.{Item, an_answer, no_answers}
use Rattle.gathered_run.specs.Events.{judged, faulty, item_of, line_of, gains, desk_after, AreJudged}
use Rattle.gathered_run.specs.Steps.{GrowsTo, AreTaken}
use Rattle.gathered_run.specs.declared.gathering.Gathering.{Gathering}
use Rattle.gathered_run.proofs.Delivered.{desk-append, judged-append, gains-behind}
use Rattle.gathered_run.proofs.Growth.{grows-still, grows-one, grows-then}

-- nothing so far
pub taken-none : (n : Net) (g : Gathering) (d : DiskTold) → AreTaken n [] g g d d
taken-none n g d = record {
  events = [];
  of_items = refl;
  lines = sym (append-nil g.lines.items);
  judged = tt;
  desk = refl;
  recorded = λ text first is. subst (λ (l : List Entry). GrowsTo n text first l d d g) (sym (append-nil first))
      record { grows = grows-still n text first g.journal.next (desk_of g.desk).searched d is; held = is };
}

-- one after another
pub taken-then : (n : Net) (items more : List Item) (was mid now : Gathering) (old between new : DiskTold) → AreTaken n items was mid old between → AreTaken n more mid now between new
    → AreTaken n (items ++ more) was now old new
taken-then n items more was mid now old between new a b = record {
  events = a.events ++ b.events;
  of_items = map-append item_of a.events b.events ∙ ap (λ (l : List Item). l ++ map item_of b.events) a.of_items ∙ ap (λ (l : List Item). items ++ l) b.of_items;
  lines = b.lines ∙ ap (λ l. l ++ map line_of b.events) a.lines ∙ append_assoc was.lines.items (map line_of a.events) (map line_of b.events)
      ∙ ap (λ l. was.lines.items ++ l) (sym (map-append line_of a.events b.events));
  judged = judged-append n (desk_of was.desk) a.events b.events a.judged (subst (λ (d : Desk). AreJudged n d b.events) a.desk b.judged);
  desk = b.desk ∙ ap (λ (d : Desk). desk_after d b.events) a.desk ∙ sym (desk-append (desk_of was.desk) a.events b.events);
  recorded = λ text first is.
      let g = a.recorded text first is in
      let h = b.recorded text (first ++ gains a.events) g.held in
      subst (λ (l : List Entry). GrowsTo n text first l old new now) (gains-behind first a.events b.events) record {
        grows = grows-then n text first (first ++ gains a.events) ((first ++ gains a.events) ++ gains b.events) mid.journal.next (desk_of mid.desk).searched old between new
            g.held g.grows h.grows;
        held = h.held;
      };
}

-- ---- one answer

-- nothing is kept of it
abbrev IsOther : Judged → Type 0
IsOther how = (list : List Entry) (a : Answer) → list ++ gains (judged a how ∷ []) ≡ list

other-gains : (how : Judged) → how ≢ Fits → IsOther how
other-gains Stranger other list a = append-nil list
other-gains Repeated other list a = append-nil list
other-gains Wrong other list a = append-nil list
other-gains (Refused f) other list a = append-nil list
other-gains Fits other list a = absurd (other refl)

other-desk : (how : Judged) (d : Desk) (a : Answer) → how ≢ Fits → d ≡ after_delivery d a how
other-desk Stranger d a other = refl
other-desk Repeated d a other = refl
other-desk Wrong d a other = refl
other-desk (Refused f) d a other = refl
other-desk Fits d a other = absurd (other refl)

-- an answer that doesn't fit changes nothing
pub taken-other : (n : Net) (a : Answer) (how : Judged) (was now : Gathering) (d : DiskTold) → how ≢ Fits → IsJudged n (desk_of was.desk) a how
    → now.journal ≡ was.journal → now.desk ≡ was.desk → now.lines.items ≡ was.lines.items ++ line_of (judged a how) ∷ []
    → AreTaken n (an_answer a ∷ []) was now d d
taken-other n a how was now d other judges journal desk lines = record {
  events = judged a how ∷ [];
  of_items = refl;
  lines = lines;
  judged = (judges, tt);
  desk = ap desk_of desk ∙ other-desk how (desk_of was.desk) a other;
  recorded = λ text first is. subst (λ (l : List Entry). GrowsTo n text first l d d now) (sym (other-gains how other first a)) record {
    grows = grows-still n text first was.journal.next (desk_of was.desk).searched d is;
    held = subst (λ (k : Kept). IsRecorded n text first now.journal.next (desk_of k).searched d) (sym desk)
        (subst (λ j. IsRecorded n text first j (desk_of was.desk).searched d) (ap (λ j. j.next) (sym journal)) is);
  };
}

-- what recording an entry promises: where the disk held a list, it holds that with the entry behind it
abbrev pub IsPut : Entry → (place next : Place) → (old new : DiskTold) → Type 0
IsPut e place next old new = (text file : List ℕ) (list : List Entry) → IsOnDisk file old → IsKeptAt place text list file
    → (after : List ℕ) × IsOnDisk after new × IsKeptAt next text (list ++ e ∷ []) after

abbrev pub IsPutting : Entry → Place → (old new : DiskTold) → Type 0
IsPutting e place old new = (text file : List ℕ) (list : List Entry) → IsOnDisk file old → IsKeptAt place text list file → LeavesOnly old new (IsBeforeOrAfter text list e)

-- the entry of an answer that fits is in order behind the list that the tree is made of
pub fits-in_order : (n : Net) (text : List ℕ) (first : List Entry) (a : Answer) (place : Place) (d : Desk) (t : DiskTold) → IsJudged n d a Fits → IsRecorded n text first place d.searched t
    → AreInOrder n (first ++ a.entry ∷ [])
fits-in_order n text first a place d t fits is = in_order-more n start first a.entry is.in_order (subst (λ (s : Searched). IsEntryInOrder n s a.entry) is.made fits.1)

-- an answer that fits is recorded and taken
pub taken-fits : (n : Net) (a : Answer) (was now : Gathering) (old new : DiskTold) → IsJudged n (desk_of was.desk) a Fits
    → desk_of now.desk ≡ after_delivery (desk_of was.desk) a Fits → now.lines.items ≡ was.lines.items ++ line_of (judged a Fits) ∷ []
    → IsPut a.entry was.journal.next now.journal.next old new → IsPutting a.entry was.journal.next old new → AreTaken n (an_answer a ∷ []) was now old new
taken-fits n a was now old new fits desk lines put putting = record {
  events = judged a Fits ∷ [];
  of_items = refl;
  lines = lines;
  judged = (fits, tt);
  desk = desk;
  recorded = λ text first is.
      let s = (desk_of was.desk).searched in
      let at = put text is.file first is.on_disk is.kept in
      let are = fits-in_order n text first a was.journal.next (desk_of was.desk) old fits is in
      record {
        grows = grows-one n text first a.entry was.journal.next s old new is are (putting text is.file first is.on_disk is.kept);
        held = recorded-more n text first a.entry now.journal.next s (desk_of now.desk).searched at.0 new is.in_order is.made fits.1 (ap (λ (d : Desk). d.searched) desk) at.1 at.2;
      };
}

-- ---- an answer is judged in one way

abbrev pub IsOneJudgement : Type 0
IsOneJudgement = (n : Net) (d : Desk) (a : Answer) (j k : Judged) → IsJudged n d a j → IsJudged n d a k → rank j ≡ rank k

head-same : (x y : ℕ) (xs ys : List ℕ) → x ∷ xs ≡ y ∷ ys → x ≡ y
head-same x y xs ys e = cc

fits-ranked : (k : Judged) → rank Fits ≡ rank k → k ≡ Fits
fits-ranked Stranger e = absurd (omega (arith, head-same 5 1 [] [] e))
fits-ranked Repeated e = absurd (omega (arith, head-same 5 2 [] [] e))
fits-ranked Wrong e = absurd (omega (arith, head-same 5 3 [] [] e))
fits-ranked (Refused f) e = absurd (omega (arith, head-same 5 4 [] (entries.rank f) e))
fits-ranked Fits e = refl

-- what fits is judged so again
pub fits-again : (n : Net) (d : Desk) (a : Answer) (k : Judged) → IsOneJudgement → IsJudged n d a Fits → IsJudged n d a k → k ≡ Fits
fits-again n d a k one fits again = fits-ranked k (one n d a Fits k fits again)

-- ---- a file that spells no answers

pub taken-faulty : (n : Net) (file line : ℕ) (was now : Gathering) (d : DiskTold) → now.journal ≡ was.journal → now.desk ≡ was.desk
    → now.lines.items ≡ was.lines.items ++ line_of (faulty file line) ∷ [] → AreTaken n (no_answers file line ∷ []) was now d d
taken-faulty n file line was now d journal desk lines = record {
  events = faulty file line ∷ [];
  of_items = refl;
  lines = lines;
  judged = tt;
  desk = ap desk_of desk;
  recorded = λ text first is. subst (λ (l : List Entry). GrowsTo n text first l d d now) (sym (append-nil first)) record {
    grows = grows-still n text first was.journal.next (desk_of was.desk).searched d is;
    held = subst (λ (k : Kept). IsRecorded n text first now.journal.next (desk_of k).searched d) (sym desk)
        (subst (λ j. IsRecorded n text first j (desk_of was.desk).searched d) (ap (λ j. j.next) (sym journal)) is);
  };
}
