-- How far it came where it failed.
use Rattle.std.proofs.Common.{◌≡◌, inl, inr, List, [], ◌∷◌, ◌++◌, map, refl, sym, ap, subst, ◌∙◌}
use Rattle.std.proofs.lemmas.List.{append-nil, map-append, append_assoc}
use Rattle.disk_calls.specs.Disks.{DiskTold}
use Rattle.pool_model.specs.Network.{Net}
use Rattle.row_model.specs.Entries.{Entry}
use Rattle.journal_format.specs.Records.{Place}
use Rattle.journal_format.specs.declared.fault.JournalFault.TheVariants.{Memory}
use Rattle.recorded_run.specs.declared.fault.RunFault.{RunFault}
use Rattle.recorded_run.specs.declared.fault.RunFault.TheVariants.{Journal}
use Rattle.recorded_run.proofs.Recording.{recorded-stands, kept-stands}
use Rattle.work_units.specs.Units.{Answer}
use Rattle.work_units.specs.Desks.{Desk, desk_of}
use Rattle.work_units.specs.Judging.{IsJudged}
use Rattle.work_units.specs.declared.answer.Judged.TheVariants.{Fits}
use Rattle.gathered_run.specs.Files.{Item, an_answer}
use Rattle.gathered_run.specs.Events.{Event, item_of, gains, desk_after, AreJudged}
use Rattle.gathered_run.specs.Gatherings.{HasOneMore, IsReached}
use Rattle.gathered_run.specs.Steps.{AreTaken, AreStopped}
use Rattle.gathered_run.specs.declared.gathering.Gathering.{Gathering}
use Rattle.gathered_run.proofs.Delivered.{desk-append, judged-append, gains-behind}
use Rattle.gathered_run.proofs.Growth.{grows-still, grows-one, grows-then}
use Rattle.gathered_run.proofs.Taking.{IsPut, IsPutting, fits-in_order}

-- ---- how far

-- nothing was taken
pub reached-none : (n : Net) (d : Desk) (items : List Item) (first : List Entry) → IsReached n d items first first
reached-none n d items first = record { events = []; rest = items; of_items = refl; judged = tt; grown = inl (sym (append-nil first)) }

-- what is brought behind it changes nothing
pub reached-more : (n : Net) (d : Desk) (items more : List Item) (first last : List Entry) → IsReached n d items first last → IsReached n d (items ++ more) first last
reached-more n d items more first last is = record {
  events = is.events;
  rest = is.rest ++ more;
  of_items = ap (λ (l : List Item). l ++ more) is.of_items ∙ append_assoc (map item_of is.events) is.rest more;
  judged = is.judged;
  grown = elim is.grown [
    | inl e ↦ inl e
    | inr one ↦ inr (further one)
  ];
}
  where
    further : HasOneMore n (desk_after d is.events) is.rest (first ++ gains is.events) last → HasOneMore n (desk_after d is.events) (is.rest ++ more) (first ++ gains is.events) last
    further one = record { answer = one.answer; behind = one.behind ++ more; next = ap (λ (l : List Item). l ++ more) one.next; fits = one.fits; more = one.more }

-- further, from where others were taken
pub reached-then : (n : Net) (d : Desk) (items more : List Item) (events : List Event) (first last : List Entry) → map item_of events ≡ items → AreJudged n d events
    → IsReached n (desk_after d events) more (first ++ gains events) last → IsReached n d (items ++ more) first last
reached-then n d items more events first last of judges is = record {
  events = events ++ is.events;
  rest = is.rest;
  of_items = ap (λ (l : List Item). l ++ more) (sym of) ∙ ap (λ (l : List Item). map item_of events ++ l) is.of_items
      ∙ sym (append_assoc (map item_of events) (map item_of is.events) is.rest) ∙ ap (λ (l : List Item). l ++ is.rest) (sym (map-append item_of events is.events));
  judged = judged-append n d events is.events judges is.judged;
  grown = elim is.grown [
    | inl e ↦ inl (e ∙ gains-behind first events is.events)
    | inr one ↦ inr (further one)
  ];
}
  where
    further : HasOneMore n (desk_after (desk_after d events) is.events) is.rest ((first ++ gains events) ++ gains is.events) last
        → HasOneMore n (desk_after d (events ++ is.events)) is.rest (first ++ gains (events ++ is.events)) last
    further one = record {
      answer = one.answer;
      behind = one.behind;
      next = one.next;
      fits = subst (λ (e : Desk). IsJudged n e one.answer Fits) (sym (desk-append d events is.events)) one.fits;
      more = one.more ∙ ap (λ (l : List Entry). l ++ one.answer.entry ∷ []) (gains-behind first events is.events);
    }

-- ---- where it failed

-- before anything was done
pub stopped-none : (n : Net) (items : List Item) (g : Gathering) (d : DiskTold) (fault : RunFault) → AreStopped n items g d d fault
stopped-none n items g d fault = λ text first is. record {
  last = first;
  grows = grows-still n text first g.journal.next (desk_of g.desk).searched d is;
  reached = reached-none n (desk_of g.desk) items first;
  stands = λ memory. recorded-stands n text first g.journal.next (desk_of g.desk).searched d is;
}

-- what is brought behind it changes nothing
pub stopped-more : (n : Net) (items more : List Item) (g : Gathering) (old new : DiskTold) (fault : RunFault) → AreStopped n items g old new fault → AreStopped n (items ++ more) g old new fault
stopped-more n items more g old new fault stopped = λ text first is.
    let at = stopped text first is in
    record { last = at.last; grows = at.grows; reached = reached-more n (desk_of g.desk) items more first at.last at.reached; stands = at.stands }

-- once others were taken
pub stopped-then : (n : Net) (items more : List Item) (was mid : Gathering) (old between new : DiskTold) (fault : RunFault) → AreTaken n items was mid old between
    → AreStopped n more mid between new fault → AreStopped n (items ++ more) was old new fault
stopped-then n items more was mid old between new fault a stopped = λ text first is.
    let g = a.recorded text first is in
    let at = stopped text (first ++ gains a.events) g.held in
    record {
      last = at.last;
      grows = grows-then n text first (first ++ gains a.events) at.last mid.journal.next (desk_of mid.desk).searched old between new g.held g.grows at.grows;
      reached = reached-then n (desk_of was.desk) items more a.events first at.last a.of_items a.judged
          (subst (λ (d : Desk). IsReached n d more (first ++ gains a.events) at.last) a.desk at.reached);
      stands = at.stands;
    }

-- once those before it were taken, of what goes on behind it
pub stopped-among : (n : Net) (all items one rest : List Item) (was mid : Gathering) (old between new : DiskTold) (fault : RunFault) → all ≡ items ++ (one ++ rest)
    → AreTaken n items was mid old between → AreStopped n one mid between new fault → AreStopped n all was old new fault
stopped-among n all items one rest was mid old between new fault is taken stopped =
    subst (λ (l : List Item). AreStopped n l was old new fault) (append_assoc items one rest ∙ sym is)
    (stopped-more n (items ++ one) rest was old new fault (stopped-then n items one was mid old between new fault taken stopped))

-- while the entry of an answer that fits was recorded, or behind it
pub stopped-fits : (n : Net) (a : Answer) (g : Gathering) (next : Place) (old new : DiskTold) (fault : RunFault) → IsJudged n (desk_of g.desk) a Fits
    → (fault ≡ Journal Memory → IsPut a.entry g.journal.next next old new) → IsPutting a.entry g.journal.next old new → AreStopped n (an_answer a ∷ []) g old new fault
stopped-fits n a g next old new fault fits put putting = λ text first is.
    let s = (desk_of g.desk).searched in
    let are = fits-in_order n text first a g.journal.next (desk_of g.desk) old fits is in
    record {
      last = first ++ a.entry ∷ [];
      grows = grows-one n text first a.entry g.journal.next s old new is are (putting text is.file first is.on_disk is.kept);
      reached = record {
        events = [];
        rest = an_answer a ∷ [];
        of_items = refl;
        judged = tt;
        grown = inr (record {
          answer = a;
          behind = [];
          next = refl;
          fits = fits;
          more = ap (λ (l : List Entry). l ++ a.entry ∷ []) (sym (append-nil first));
        });
      };
      stands = λ memory.
          let at = put memory text is.file first is.on_disk is.kept in
          kept-stands n text (first ++ a.entry ∷ []) next at.0 new are at.1 at.2;
    }
