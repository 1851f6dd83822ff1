-- The records of a file are read in one way, and one may stand behind them.
use Rattle.std.proofs.Common.{◌≡◌, ℕ, ◌+◌, max, List, [], ◌∷◌, ◌++◌, length, get_or, drop, Some, refl, sym, ap, subst, ◌∙◌, append_assoc, arith, length-append}
use Rattle.std.specs.List.{AllByRecursion}
use Rattle.std.proofs.lemmas.List.{append_cancel_left, append-nil}
use Rattle.row_model.specs.Entries.{Entry}
use Rattle.journal_format.specs.Histories.{History, unturned, turned, record_bytes, records, turn_record, born_in, goes_on_in, history_bytes, entries_of, turn_at, record_count, EachEntry}
use Rattle.journal_format.specs.Files.{header, IsRecordable, IsClosed}
use Rattle.journal_format.specs.Faults.{IsAllowed, IsBad}
use Rattle.journal_format.specs.Records.{IsEntryAt, IsTurnAt, IsHistoryAt, IsBadBehind}
use Rattle.journal_format.specs.declared.fault.JournalFault.{JournalFault}
use Rattle.journal_format.specs.declared.version.Version.{Version}
use Rattle.journal_format.specs.declared.version.Version.TheVariants.{One, Two}
use Rattle.journal_format.proofs.Heads.{one_version}
use Rattle.journal_format.proofs.Lengths.{payload-long}
use Rattle.journal_format.proofs.RecordLaws.{HasNoEntry, one_list, closed_not_open, turn_no_entry, all-push, records-push}

-- ---- one reading

-- the records of a history end there: no entry's stands there, nor the Turn where one may
pub record Ends (Holds : Version → Entry → Type 0) (v : Version) (rest : List ℕ) : Type 0 where
  pub no_entry : HasNoEntry v (Holds v) rest
  pub no_turn : v ≡ One → (behind : List ℕ) → ¬ (rest ≡ turn_record ++ behind)

pub ends-closed : (Holds : Version → Entry → Type 0) (v : Version) (rest : List ℕ) → IsClosed rest → Ends Holds v rest
ends-closed Holds v rest closed = record {
  no_entry = λ e behind holds is. closed_not_open rest (drop 1 (record_bytes v e ++ behind)) closed is;
  no_turn = λ one behind is. closed_not_open rest (drop 1 (turn_record ++ behind)) closed is;
}

pub ends-bad : (largest : ℕ) (v : Version) (rest : List ℕ) → IsBad v largest rest → Ends (IsAllowed largest) v rest
ends-bad largest v rest bad = record { no_entry = bad.no_entry; no_turn = bad.no_turn }

module _ (Holds : Version → Entry → Type 0) (good : (v : Version) (e : Entry) → Holds v e → IsRecordable v e) where
  turn_ends : (v : Version) (rest : List ℕ) → HasNoEntry v (Holds v) (turn_record ++ rest)
  turn_ends v rest e behind holds is = turn_no_entry v e rest behind (good v e holds) is

  -- entries alone against entries and a Turn
  not_turned : (list before behind : List Entry) (x y : List ℕ) → AllByRecursion (Holds One) list → AllByRecursion (Holds One) before → Ends Holds One x
      → ¬ (records One list ++ x ≡ history_bytes (turned before behind) ++ y)
  not_turned list before behind x y a b ends is =
      let tail = records Two behind ++ y in
      let regrouped = append_assoc (records One before) (turn_record ++ records Two behind) y
      ∙ ap (λ (l : List ℕ). records One before ++ l) (append_assoc turn_record (records Two behind) y) in
      let same = one_list One (Holds One) (good One) list before x (turn_record ++ tail) a b ends.no_entry (turn_ends One tail) (is ∙ regrouped) in
      ends.no_turn refl tail same.1

  pub one_history : (h k : History) (x y : List ℕ) → born_in h ≡ born_in k → EachEntry Holds h → EachEntry Holds k → Ends Holds (goes_on_in h) x → Ends Holds (goes_on_in k) y
      → history_bytes h ++ x ≡ history_bytes k ++ y → (h ≡ k) × (x ≡ y)
  one_history (unturned v l) (unturned w m) x y born a b ex ey is =
      let each = subst (λ (u : Version). AllByRecursion (Holds u) m) (sym born) b in
      let ends = subst (λ (u : Version). Ends Holds u y) (sym born) ey in
      let same = one_list v (Holds v) (good v) l m x y a each ex.no_entry ends.no_entry (is ∙ ap (λ (u : Version). records u m ++ y) (sym born)) in
      (ap (unturned v) same.0 ∙ ap (λ (u : Version). unturned u m) born, same.1)
  one_history (unturned One l) (turned before behind) x y born a b ex ey is = absurd (not_turned l before behind x y a b.0 ex is)
  one_history (unturned Two l) (turned before behind) x y born a b ex ey is = absurd (cc)
  one_history (turned before behind) (unturned One m) x y born a b ex ey is = absurd (not_turned m before behind y x b a.0 ey (sym is))
  one_history (turned before behind) (unturned Two m) x y born a b ex ey is = absurd (cc)
  one_history (turned before behind) (turned early late) x y born a b ex ey is =
      let left = append_assoc (records One before) (turn_record ++ records Two behind) x
      ∙ ap (λ (l : List ℕ). records One before ++ l) (append_assoc turn_record (records Two behind) x) in
      let right = append_assoc (records One early) (turn_record ++ records Two late) y
      ∙ ap (λ (l : List ℕ). records One early ++ l) (append_assoc turn_record (records Two late) y) in
      let first = one_list One (Holds One) (good One) before early (turn_record ++ (records Two behind ++ x)) (turn_record ++ (records Two late ++ y)) a.0 b.0
      (turn_ends One (records Two behind ++ x)) (turn_ends One (records Two late ++ y)) (sym left ∙ is ∙ right) in
      let second = one_list Two (Holds Two) (good Two) behind late x y a.1 b.1 ex.no_entry ey.no_entry
      (append_cancel_left turn_record (records Two behind ++ x) (records Two late ++ y) first.1) in
      (ap (λ (l : List Entry). turned l behind) first.0 ∙ ap (turned early) second.0, second.1)

  -- the same of a whole file
  pub one_reading : (text file : List ℕ) (h k : History) (x y : List ℕ) → file ≡ header 1 (born_in h) text ++ (history_bytes h ++ x) → file ≡ header 1 (born_in k) text ++ (history_bytes k ++ y)
      → EachEntry Holds h → EachEntry Holds k → Ends Holds (goes_on_in h) x → Ends Holds (goes_on_in k) y → (h ≡ k) × (x ≡ y)
  one_reading text file h k x y is at a b ex ey =
      let born : born_in h ≡ born_in k = one_version (born_in h) (born_in k) (ap (λ (l : List ℕ). get_or l 8 0) (sym is ∙ at)) in
      let same = append_cancel_left (header 1 (born_in k) text) (history_bytes h ++ x) (history_bytes k ++ y)
      (ap (λ (v : Version). header 1 v text ++ (history_bytes h ++ x)) (sym born) ∙ sym is ∙ at) in
      one_history h k x y born a b ex ey same

-- ---- entries that are as they should be

pub all-weaker : {A : Type 0} (P Q : A → Type 0) (xs : List A) → ((x : A) → P x → Q x) → AllByRecursion P xs → AllByRecursion Q xs
all-weaker P Q [] f all = tt
all-weaker P Q (x ∷ xs) f all = (f x all.0, all-weaker P Q xs f all.1)

pub each-weaker : (P Q : Version → Entry → Type 0) (h : History) → ((v : Version) (e : Entry) → P v e → Q v e) → EachEntry P h → EachEntry Q h
each-weaker P Q (unturned v list) f each = all-weaker (P v) (Q v) list (f v) each
each-weaker P Q (turned before behind) f each = (all-weaker (P One) (Q One) before (f One) each.0, all-weaker (P Two) (Q Two) behind (f Two) each.1)

pub each-recordable : (largest : ℕ) (h : History) → EachEntry (IsAllowed largest) h → EachEntry IsRecordable h
each-recordable largest h each = each-weaker (IsAllowed largest) IsRecordable h (λ v e allowed. allowed.recordable) each

-- ---- one record more

-- a history, and one entry more
abbrev pub with_entry : History → Entry → History
with_entry (unturned v list) e = unturned v (list ++ e ∷ [])
with_entry (turned before behind) e = turned before (behind ++ e ∷ [])

pub entry-entries : (h : History) (e : Entry) → entries_of (with_entry h e) ≡ entries_of h ++ e ∷ []
entry-entries (unturned v list) e = refl
entry-entries (turned before behind) e = sym (append_assoc before behind (e ∷ []))

pub entry-bytes : (h : History) (e : Entry) → history_bytes (with_entry h e) ≡ history_bytes h ++ record_bytes (goes_on_in h) e
entry-bytes (unturned v list) e = records-push v list e
entry-bytes (turned before behind) e =
    ap (λ (l : List ℕ). records One before ++ (turn_record ++ l)) (records-push Two behind e)
    ∙ ap (λ (l : List ℕ). records One before ++ l) (sym (append_assoc turn_record (records Two behind) (record_bytes Two e)))
    ∙ sym (append_assoc (records One before) (turn_record ++ records Two behind) (record_bytes Two e))

pub entry-each : (Holds : Version → Entry → Type 0) (h : History) (e : Entry) → EachEntry Holds h → Holds (goes_on_in h) e → EachEntry Holds (with_entry h e)
entry-each Holds (unturned v list) e each here = all-push (Holds v) list e each here
entry-each Holds (turned before behind) e each here = (each.0, all-push (Holds Two) behind e each.1 here)

pub entry-version : (h : History) (e : Entry) → goes_on_in (with_entry h e) ≡ goes_on_in h
entry-version (unturned v list) e = refl
entry-version (turned before behind) e = refl

pub entry-born : (h : History) (e : Entry) → born_in (with_entry h e) ≡ born_in h
entry-born (unturned v list) e = refl
entry-born (turned before behind) e = refl

pub entry-turn : (h : History) (e : Entry) → turn_at (with_entry h e) ≡ turn_at h
entry-turn (unturned v list) e = refl
entry-turn (turned before behind) e = refl

pub entry-count : (h : History) (e : Entry) → record_count (with_entry h e) ≡ record_count h + 1
entry-count (unturned v list) e = omega (arith, length-append list (e ∷ []))
entry-count (turned before behind) e = omega (arith, length-append behind (e ∷ []))

-- a history that goes on in version 1 is one of entries in that version alone
pub unturned-one : (h : History) → goes_on_in h ≡ One → h ≡ unturned One (entries_of h)
unturned-one (unturned v list) one = ap (λ (w : Version). unturned w list) one
unturned-one (turned before behind) one = absurd (cc)

-- the Turn behind it
module _ (h : History) (one : goes_on_in h ≡ One) where
  pub turn-entries : entries_of (turned (entries_of h) []) ≡ entries_of h
  turn-entries = append-nil (entries_of h)

  pub turn-born : born_in h ≡ One
  turn-born = ap born_in (unturned-one h one)

  pub turn-bytes : history_bytes (turned (entries_of h) []) ≡ history_bytes h ++ turn_record
  turn-bytes =
      ap (λ (l : List ℕ). records One (entries_of h) ++ l) (append-nil turn_record)
      ∙ ap (λ (k : History). history_bytes k ++ turn_record) (sym (unturned-one h one))

  pub turn-each : (Holds : Version → Entry → Type 0) → EachEntry Holds h → EachEntry Holds (turned (entries_of h) [])
  turn-each Holds each = (subst (EachEntry Holds) (unturned-one h one) each, tt)

  pub turn-count : record_count (turned (entries_of h) []) ≡ record_count h + 1
  turn-count = omega (arith, ap record_count (unturned-one h one))

  pub turn-number : turn_at (turned (entries_of h) []) ≡ Some (record_count h)
  turn-number = ap (λ (k : History). Some (record_count k)) (sym (unturned-one h one))

-- ---- at a place of a file

pub history_at-none : (v : Version) (largest at : ℕ) (file : List ℕ) → IsHistoryAt largest at file (unturned v []) at
history_at-none v largest at file = record { parts = refl; allowed = tt; place = omega arith }

pub history_at-entry : (largest start at after : ℕ) (file : List ℕ) (h : History) (e : Entry) → IsHistoryAt largest start file h at → IsEntryAt (goes_on_in h) largest at file e after
    → IsHistoryAt largest start file (with_entry h e) after
history_at-entry largest start at after file h e so_far next = record {
  parts = so_far.parts ∙ ap (λ (l : List ℕ). history_bytes h ++ l) next.parts ∙ sym (append_assoc (history_bytes h) (record_bytes (goes_on_in h) e) (drop after file))
      ∙ ap (λ (l : List ℕ). l ++ drop after file) (sym (entry-bytes h e));
  allowed = entry-each (IsAllowed largest) h e so_far.allowed next.allowed;
  place = omega (arith, so_far.place, next.place, ap length (entry-bytes h e), length-append (history_bytes h) (record_bytes (goes_on_in h) e));
}

pub history_at-turn : (largest start at after : ℕ) (file : List ℕ) (h : History) → goes_on_in h ≡ One → IsHistoryAt largest start file h at → IsTurnAt at file after
    → IsHistoryAt largest start file (turned (entries_of h) []) after
history_at-turn largest start at after file h one so_far next = record {
  parts = so_far.parts ∙ ap (λ (l : List ℕ). history_bytes h ++ l) next.parts ∙ sym (append_assoc (history_bytes h) turn_record (drop after file))
      ∙ ap (λ (l : List ℕ). l ++ drop after file) (sym (turn-bytes h one));
  allowed = turn-each h one (IsAllowed largest) so_far.allowed;
  place = omega (arith, so_far.place, next.place, ap length (turn-bytes h one), length-append (history_bytes h) turn_record);
}

-- ---- the largest payload

-- that of a Turn is always allowed: a journal whose largest payload is 0 holds no entry that one of 1 does not
pub allowed-least : (v : Version) (largest : ℕ) (e : Entry) → IsAllowed (max largest 1) v e → IsAllowed largest v e
allowed-least v largest e allowed = record { recordable = allowed.recordable; short = omega (arith, allowed.short, payload-long v e) }

pub allowed-more : (v : Version) (largest : ℕ) (e : Entry) → IsAllowed largest v e → IsAllowed (max largest 1) v e
allowed-more v largest e allowed = record { recordable = allowed.recordable; short = omega (arith, allowed.short) }

pub history_at-least : (largest at : ℕ) (file : List ℕ) (h : History) (after : ℕ) → IsHistoryAt (max largest 1) at file h after → IsHistoryAt largest at file h after
history_at-least largest at file h after is = record {
  parts = is.parts;
  allowed = each-weaker (IsAllowed (max largest 1)) (IsAllowed largest) h (λ v e. allowed-least v largest e) is.allowed;
  place = is.place;
}

pub bad-least : (v : Version) (largest : ℕ) (rest : List ℕ) → IsBad v (max largest 1) rest → IsBad v largest rest
bad-least v largest rest bad = record {
  open_gate = bad.open_gate;
  no_entry = λ e behind allowed. bad.no_entry e behind (allowed-more v largest e allowed);
  no_turn = bad.no_turn;
}

pub bad_behind-least : (v : Version) (largest at : ℕ) (file : List ℕ) (fault : JournalFault) → IsBadBehind v (max largest 1) at file fault → IsBadBehind v largest at file fault
bad_behind-least v largest at file fault bad = record {
  history = bad.history;
  after = bad.after;
  born = bad.born;
  records_at = history_at-least largest at file bad.history bad.after bad.records_at;
  is = bad.is;
  bad = bad-least (goes_on_in bad.history) largest (drop bad.after file) bad.bad;
}
