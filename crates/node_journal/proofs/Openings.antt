-- What a file is when a journal has been opened on it.
use Rattle.std.proofs.Common.{◌≡◌, ℕ, max, ◌-◌, ◌^◌, ◌<◌, ◌≤◌, ◌⊎◌, inl, inr, List, [], ◌∷◌, ◌++◌, length, map, take, drop, Option, None, refl, sym, ap, subst, ◌∙◌}
use Rattle.std.proofs.Common.{append_assoc, arith, length-append, length-drop}
use Rattle.std.proofs.lemmas.List.{append-nil, take-append-drop, take_at, drop_at, take_all}
use Rattle.row_model.specs.Entries.{Entry}
use Rattle.disk_calls.specs.Disks.{DiskTold, written}
use Rattle.disk_calls.proofs.Calling.{written-behind}
use Rattle.journal_format.specs.Fields.{field}
use Rattle.journal_format.specs.Histories.{History, unturned, born_in, goes_on_in, history_bytes}
use Rattle.journal_format.specs.Files.{header, text_bytes, newborn, IsRecordable, IsShut, IsClosed, IsUnborn, HoldsHistory, IsKept}
use Rattle.journal_format.specs.Faults.{IsFree, Has}
use Rattle.journal_format.specs.Records.{Place, IsKeptAt, IsHeaded, IsHistoryAt, IsBadBehind}
use Rattle.node_journal.specs.Settled.{IsOnDisk}
use Rattle.node_journal.specs.Journals.{IsOpenedAs}
use Rattle.node_journal.specs.Found.{IsFoundFrom}
use Rattle.node_journal.specs.declared.found.Found.{Found}
use Rattle.box_tree.specs.Views.{shown_entry}
use Rattle.journal_format.specs.declared.version.Version.{Version}
use Rattle.journal_format.specs.declared.version.Version.TheVariants.{Two}
use Rattle.journal_format.specs.declared.fault.JournalFault.{JournalFault}
use Rattle.journal_format.proofs.Numbers.{length-field}
use Rattle.journal_format.proofs.Heads.{length-header}
use Rattle.journal_format.proofs.HistoryLaws.{one_reading, ends-closed, each-recordable, history_at-least, bad_behind-least}
use Rattle.journal_format.proofs.OwnFiles.{shut-closed}

-- ---- the last gate

shut_cons : (l : List ℕ) → 1 ≤ length l → IsClosed l → IsShut l
shut_cons [] le closed = absurd (omega arith)
shut_cons (gate ∷ l) le closed = closed

cons_shut : (l : List ℕ) → IsShut l → 1 ≤ length l
cons_shut [] shut = absurd shut
cons_shut (gate ∷ l) shut = omega arith

-- a closed gate within the file is there
pub shut_there : (gate : ℕ) (file : List ℕ) → gate < length file → IsClosed (drop gate file) → IsShut (drop gate file)
shut_there gate file lt closed = shut_cons (drop gate file) (omega (arith, length-drop gate file)) closed

-- a closed gate that is written at the end
pub shut_written : (gate : ℕ) (file : List ℕ) → gate ≡ length file → (take gate (written file gate (0 ∷ [])) ≡ take gate file) × IsShut (drop gate (written file gate (0 ∷ [])))
shut_written gate file is =
    let behind = written-behind gate file (0 ∷ []) is in (
      ap (take gate) behind ∙ take_at file (0 ∷ []) gate (sym is) ∙ sym (take_all gate file (omega arith)),
      subst IsShut (sym (ap (drop gate) behind ∙ drop_at file (0 ∷ []) gate (sym is))) (omega arith),
    )

-- ---- birth

pub newborn_kept : (text whole : List ℕ) (next : Place) → whole ≡ newborn text → next ≡ record { gate = length whole - 1; version = Two } → IsKeptAt next text [] (newborn text)
newborn_kept text whole next is place = record {
  history = unturned Two [];
  entries = refl;
  rest = 0 ∷ [];
  shut = omega arith;
  holds = record { parts = refl; each = tt };
  place = ap (λ (p : Place). p.gate) place ∙ omega (arith, ap length is, length-append (header 1 Two text) (0 ∷ []), ap length (append-nil (header 1 Two text)));
  version = ap (λ (p : Place). p.version) place;
}

pub born_opened : (text whole : List ℕ) (largest : ℕ) (file : List ℕ) (list : List Entry) (turn : Option ℕ) (next : Place) (d : DiskTold) → whole ≡ newborn text → IsUnborn file
    → IsOnDisk (newborn text) d → list ≡ [] → turn ≡ None → next ≡ record { gate = length whole - 1; version = Two } → IsOpenedAs text largest file list turn next d
born_opened text whole largest file list turn next d is unborn on_disk none unturned_yet place = record {
  history = unturned Two [];
  of_file = inl (unborn, refl);
  entries = sym none;
  turned = sym unturned_yet;
  allowed = tt;
  now = newborn text;
  on_disk = on_disk;
  kept = subst (λ (l : List Entry). IsKeptAt next text l (newborn text)) (sym none) (newborn_kept text whole next is place);
}

-- ---- recovery

module _ (v : Version) (text : List ℕ) (start largest : ℕ) (file : List ℕ) (headed : IsHeaded v text start file) where
  -- the header, the records and what is behind them
  parts_of : (h : History) (gate : ℕ) → born_in h ≡ v → IsHistoryAt largest start file h gate → file ≡ header 1 (born_in h) text ++ (history_bytes h ++ drop gate file)
  parts_of h gate born recs =
      headed.parts ∙ ap (λ (l : List ℕ). header 1 v text ++ l) recs.parts ∙ ap (λ (w : Version). header 1 w text ++ (history_bytes h ++ drop gate file)) (sym born)

  holds_of : (h : History) (gate : ℕ) → born_in h ≡ v → IsHistoryAt largest start file h gate → HoldsHistory text h (drop gate file) file
  holds_of h gate born recs = record { parts = parts_of h gate born recs; each = each-recordable largest h recs.allowed }

  place_of : (h : History) (gate : ℕ) → born_in h ≡ v → IsHistoryAt largest start file h gate → length (header 1 (born_in h) text ++ history_bytes h) ≡ gate
  place_of h gate born recs =
      omega (arith, length-append (header 1 (born_in h) text) (history_bytes h), recs.place, headed.place, length-header 1 (born_in h) text, length-header 1 v text)

  pub recovered : (found : Found) (now : List ℕ) (next : Place) (d : DiskTold) → IsFoundFrom v largest start file found → IsClosed (drop found.spot.at file)
      → IsOnDisk now d → take found.spot.at now ≡ take found.spot.at file → IsShut (drop found.spot.at now) → next ≡ record { gate = found.spot.at; version = found.spot.version }
      → IsOpenedAs text largest file (map shown_entry found.entries.items) found.turn_at next d
  recovered found now next d read closed on_disk same shut place =
      let h = read.history in
      let gate = found.spot.at in
      let long = place_of h gate read.began read.records_at in
      let front : take gate file ≡ header 1 (born_in h) text ++ history_bytes h =
      ap (take gate) (parts_of h gate read.began read.records_at ∙ sym (append_assoc (header 1 (born_in h) text) (history_bytes h) (drop gate file)))
      ∙ take_at (header 1 (born_in h) text ++ history_bytes h) (drop gate file) gate long in
      record {
        history = h;
        of_file = inr (drop gate file, closed, holds_of h gate read.began read.records_at);
        entries = read.entries;
        turned = read.turned;
        allowed = read.records_at.allowed;
        now = now;
        on_disk = on_disk;
        kept = record {
          history = h;
          entries = read.entries;
          rest = drop gate now;
          shut = shut;
          holds = record {
            parts = sym (take-append-drop gate now) ∙ ap (λ (l : List ℕ). l ++ drop gate now) (same ∙ front) ∙ append_assoc (header 1 (born_in h) text) (history_bytes h) (drop gate now);
            each = each-recordable largest h read.records_at.allowed;
          };
          place = ap (λ (p : Place). p.gate) place ∙ sym long;
          version = ap (λ (p : Place). p.version) place ∙ sym read.version;
        };
      }

  -- a bad record behind good ones
  bad_has : (fault : JournalFault) → IsBadBehind v largest start file fault → Has text largest file fault
  bad_has fault b = subst (Has text largest file) (sym b.is) (record {
    history = b.history;
    rest = drop b.after file;
    holds = holds_of b.history b.after b.born b.records_at;
    allowed = b.records_at.allowed;
    count = refl;
    bad = b.bad;
  })

  -- where the file has its first closed gate, that is the one that is found
  pub gate_there : (list : List Entry) (found : Found) → IsKept text list file → IsFoundFrom v largest start file found → IsClosed (drop found.spot.at file) → found.spot.at < length file
  gate_there list found kept read closed =
      let h = read.history in
      let gate = found.spot.at in
      let rest = one_reading IsRecordable (λ w e good. good) text file kept.history h kept.rest (drop gate file) kept.holds.parts (parts_of h gate read.began read.records_at)
      kept.holds.each (each-recordable largest h read.records_at.allowed) (ends-closed IsRecordable (goes_on_in kept.history) kept.rest (shut-closed kept.rest kept.shut))
      (ends-closed IsRecordable (goes_on_in h) (drop gate file) closed) in
      let some = cons_shut (drop gate file) (subst IsShut rest.1 kept.shut) in
      omega (arith, length-drop gate file)

-- a journal whose largest payload is 0 holds what one of 1 does
pub found-least : (v : Version) (largest start : ℕ) (file : List ℕ) (found : Found) → IsFoundFrom v (max largest 1) start file found → IsFoundFrom v largest start file found
found-least v largest start file found is = record {
  history = is.history;
  began = is.began;
  entries = is.entries;
  turned = is.turned;
  version = is.version;
  count = is.count;
  records_at = history_at-least largest start file is.history found.spot.at is.records_at;
}

pub refused-least : (v : Version) (text : List ℕ) (start largest : ℕ) (file : List ℕ) → IsHeaded v text start file → (fault : JournalFault)
    → IsFree fault ⊎ IsBadBehind v (max largest 1) start file fault → IsFree fault ⊎ Has text largest file fault
refused-least v text start largest file headed fault (inl free) = inl free
refused-least v text start largest file headed fault (inr bad) = inr (bad_has v text start largest file headed fault (bad_behind-least v largest start file fault bad))

-- ---- heads

-- what stands behind the version of a newborn file, before its closed gate
pub tail_is : (text whole : List ℕ) → whole ≡ newborn text → take (length whole - 1 - 9) (drop 9 whole) ≡ text_bytes text
tail_is text whole is =
    ap (λ (l : List ℕ). take (length l - 1 - 9) (drop 9 l)) is
    ∙ take_at (text_bytes text) (0 ∷ []) (length (newborn text) - 1 - 9) (omega (arith, length-append (text_bytes text) (0 ∷ [])))

-- a born file, by what a newborn one begins with
pub headed_is : (v : Version) (text whole file : List ℕ) → whole ≡ newborn text → file ≡ header 1 v text ++ drop (length (header 1 v text)) file → IsHeaded v text (length whole - 1) file
headed_is v text whole file is parts =
    let place : length whole - 1 ≡ length (header 1 v text) = omega (arith, ap length is, length-append (header 1 Two text) (0 ∷ []), length-header 1 v text, length-header 1 Two text) in
    record { place = place; parts = subst (λ (n : ℕ). file ≡ header 1 v text ++ drop n file) (sym place) parts }

-- a fault that does not depend on the largest payload
pub any_largest : (text file : List ℕ) (largest : ℕ) (fault : JournalFault) → IsFree fault ⊎ ((n : ℕ) → Has text n file fault) → IsFree fault ⊎ Has text largest file fault
any_largest text file largest fault (inl free) = inl free
any_largest text file largest fault (inr has) = inr (has largest)

pub newborn_short : (text : List ℕ) → length text ≤ 2 ^ 20 → length (newborn text) ≤ 2 ^ 21
newborn_short text small = omega (arith, length-append (text_bytes text) (0 ∷ []), length-append (field 4 (length text)) text, length-field 4 (length text))
