-- What a crash leaves while a record is put behind the last gate.
use Rattle.std.proofs.Common.{◌≡◌, ◌≢◌, ℕ, zero, suc, ◌+◌, ◌≤◌, inl, inr, List, [], ◌∷◌, ◌++◌, length, take, drop, sym, ap, subst, ◌∙◌, append_assoc, arith, length-append}
use Rattle.std.proofs.lemmas.List.{take-append-drop, take_at, drop_at}
use Rattle.row_model.specs.Entries.{Entry}
use Rattle.disk_calls.specs.Disks.{written, Torn}
use Rattle.disk_calls.proofs.Calling.{torn_byte, torn-front}
use Rattle.journal_format.specs.Fields.{field}
use Rattle.journal_format.specs.Payload.{payload, turn_payload}
use Rattle.journal_format.specs.Histories.{History, turned, framed, record_bytes, born_in, goes_on_in, history_bytes, entries_of, EachEntry}
use Rattle.journal_format.specs.Files.{header, behind_gate, IsRecordable, IsShut, IsKept}
use Rattle.journal_format.specs.Records.{Place, IsKeptAt}
use Rattle.journal_format.specs.declared.version.Version.{Version}
use Rattle.journal_format.specs.declared.version.Version.TheVariants.{One, Two}
use Rattle.node_journal.specs.Journals.{IsBeforeOrAfter, IsShutBehind, IsPutBehind}
use Rattle.journal_format.proofs.RecordLaws.{length-framed, length-behind_gate}
use Rattle.journal_format.proofs.HistoryLaws.{with_entry, entry-entries, entry-bytes, entry-each, entry-born, entry-version, turn-entries, turn-bytes, turn-born, turn-each}

-- ---- a gate

-- the parts of a file, at its last gate
pub record Parted (gate : ℕ) (front file : List ℕ) : Type 0 where
  pub byte : ℕ
  pub rest : List ℕ
  pub closed : byte ≢ 1
  pub parts : file ≡ front ++ byte ∷ rest
  pub place : length front ≡ gate

pub parted : (gate : ℕ) (front file : List ℕ) → gate ≡ length front → IsShutBehind front file → Parted gate front file
parted gate front file place at = by at.rest at.shut at.parts
  where
    by : (rest : List ℕ) → IsShut rest → file ≡ front ++ rest → Parted gate front file
    by [] shut is = absurd shut
    by (byte ∷ rest) shut is = record { byte = byte; rest = rest; closed = shut; parts = is; place = sym place }

-- the record in the place of the gate
moved : (front bytes payload rest : List ℕ) → bytes ≡ behind_gate payload → front ++ 1 ∷ (bytes ++ rest) ≡ (front ++ framed payload) ++ 0 ∷ rest
moved front bytes payload rest are =
    let n = length payload in
    let record_is : 1 ∷ (bytes ++ rest) ≡ framed payload ++ 0 ∷ rest =
    ap (λ (l : List ℕ). 1 ∷ (l ++ rest)) are ∙ ap (λ (l : List ℕ). 1 ∷ l) (append_assoc (field 4 n ++ payload) (0 ∷ []) rest) in
    ap (λ (l : List ℕ). front ++ l) record_is ∙ sym (append_assoc front (framed payload) (0 ∷ rest))

module _ (gate : ℕ) (front file : List ℕ) (p : Parted gate front file) where
  pub long : gate + 1 ≤ length file
  long = omega (arith, ap length p.parts, length-append front (p.byte ∷ p.rest), p.place)

  -- the file up to its last gate, and with it
  up_to : take (gate + 1) file ≡ front ++ p.byte ∷ []
  up_to =
      ap (take (gate + 1)) (p.parts ∙ sym (append_assoc front (p.byte ∷ []) p.rest))
      ∙ take_at (front ++ p.byte ∷ []) p.rest (gate + 1) (omega (arith, p.place, length-append front (p.byte ∷ [])))

  -- a write behind the gate leaves what stands before it
  pub torn_record : (n : ℕ) (c : List ℕ) → Torn (gate + 1) n file c → IsShutBehind front c
  torn_record n c torn = record {
    rest = p.byte ∷ drop (gate + 1) c;
    shut = p.closed;
    parts = sym (take-append-drop (gate + 1) c) ∙ ap (λ (l : List ℕ). l ++ drop (gate + 1) c) (torn-front (gate + 1) n file c torn long ∙ up_to)
        ∙ append_assoc front (p.byte ∷ []) (drop (gate + 1) c);
  }

  -- what stands behind bytes that are written behind the gate
  abbrev pub rest_behind : List ℕ → List ℕ
  rest_behind bytes = drop (gate + 1 + length bytes) file

  -- the file with bytes behind the gate
  pub staged : (bytes : List ℕ) → written file (gate + 1) bytes ≡ front ++ p.byte ∷ (bytes ++ rest_behind bytes)
  staged bytes =
      append_assoc (take (gate + 1) file) bytes (rest_behind bytes)
      ∙ ap (λ (l : List ℕ). l ++ (bytes ++ rest_behind bytes)) up_to
      ∙ append_assoc front (p.byte ∷ []) (bytes ++ rest_behind bytes)

  pub staged_long : (bytes : List ℕ) → gate + 1 ≤ length (written file (gate + 1) bytes)
  staged_long bytes = omega (arith, ap length (staged bytes), length-append front (p.byte ∷ (bytes ++ rest_behind bytes)), p.place)

  front_stays : (bytes : List ℕ) → take gate (written file (gate + 1) bytes) ≡ front
  front_stays bytes = ap (take gate) (staged bytes) ∙ take_at front (p.byte ∷ (bytes ++ rest_behind bytes)) gate p.place

  back_stays : (bytes : List ℕ) → drop (gate + 1) (written file (gate + 1) bytes) ≡ bytes ++ rest_behind bytes
  back_stays bytes =
      ap (drop (gate + 1)) (staged bytes ∙ sym (append_assoc front (p.byte ∷ []) (bytes ++ rest_behind bytes)))
      ∙ drop_at (front ++ p.byte ∷ []) (bytes ++ rest_behind bytes) (gate + 1) (omega (arith, p.place, length-append front (p.byte ∷ [])))

  module _ (payload bytes : List ℕ) (are : bytes ≡ behind_gate payload) where
    -- the file with any byte as its gate, and a record behind it
    any_gate : (gate_byte : ℕ) (rest c : List ℕ) → c ≡ front ++ gate_byte ∷ (bytes ++ rest) → IsPutBehind front payload c
    any_gate zero rest c is = inl (record { rest = 0 ∷ (bytes ++ rest); shut = omega arith; parts = is })
    any_gate (suc zero) rest c is = inr (record { rest = 0 ∷ rest; shut = omega arith; parts = is ∙ moved front bytes payload rest are })
    any_gate (suc (suc b)) rest c is = inl (record { rest = suc (suc b) ∷ (bytes ++ rest); shut = omega arith; parts = is })

    -- a write of the gate leaves what stands before it, with the record or without
    pub torn_gate : (c : List ℕ) → Torn gate 1 (written file (gate + 1) bytes) c → IsPutBehind front payload c
    torn_gate c torn =
        let parts = torn_byte gate (written file (gate + 1) bytes) c (staged_long bytes) torn in
        any_gate parts.0 (rest_behind bytes) c
        (
        parts.1
        ∙ ap (λ (l : List ℕ). l ++ parts.0 ∷ drop (gate + 1) (written file (gate + 1) bytes)) (front_stays bytes)
        ∙ ap (λ (l : List ℕ). front ++ parts.0 ∷ l) (back_stays bytes)
        )

    -- the file with the gate open
    pub opened_gate : IsShutBehind (front ++ framed payload) (written (written file (gate + 1) bytes) gate (1 ∷ []))
    opened_gate = record {
      rest = 0 ∷ rest_behind bytes;
      shut = omega arith;
      parts = ap (λ (l : List ℕ). l ++ (1 ∷ []) ++ drop (gate + 1) (written file (gate + 1) bytes)) (front_stays bytes)
          ∙ ap (λ (l : List ℕ). front ++ (1 ∷ []) ++ l) (back_stays bytes)
          ∙ append_assoc front (1 ∷ []) (bytes ++ rest_behind bytes)
          ∙ moved front bytes payload (rest_behind bytes) are;
    }

    pub opened_place : gate + length bytes ≡ length (front ++ framed payload)
    opened_place = omega (arith, p.place, length-append front (framed payload), length-framed payload, ap length are, length-behind_gate payload)

-- ---- a history

-- all up to the last gate
abbrev pub front_of : List ℕ → History → List ℕ
front_of text h = header 1 (born_in h) text ++ history_bytes h

-- a file of a history
pub shut_kept : (text : List ℕ) (h : History) (list : List Entry) (file : List ℕ) → EachEntry IsRecordable h → entries_of h ≡ list → IsShutBehind (front_of text h) file → IsKept text list file
shut_kept text h list file each entries at = record {
  history = h;
  entries = entries;
  rest = at.rest;
  shut = at.shut;
  holds = record { parts = at.parts ∙ append_assoc (header 1 (born_in h) text) (history_bytes h) at.rest; each = each };
}

pub shut_kept_at : (text : List ℕ) (h : History) (list : List Entry) (next : Place) (file : List ℕ) → EachEntry IsRecordable h → entries_of h ≡ list → IsShutBehind (front_of text h) file
    → next.gate ≡ length (front_of text h) → next.version ≡ goes_on_in h → IsKeptAt next text list file
shut_kept_at text h list next file each entries at gate version = record {
  history = h;
  entries = entries;
  rest = at.rest;
  shut = at.shut;
  holds = record { parts = at.parts ∙ append_assoc (header 1 (born_in h) text) (history_bytes h) at.rest; each = each };
  place = gate;
  version = version;
}

-- one record more
front_more : (text : List ℕ) (h k : History) (payload : List ℕ) → born_in k ≡ born_in h → history_bytes k ≡ history_bytes h ++ framed payload
    → front_of text h ++ framed payload ≡ front_of text k
front_more text h k payload born bytes =
    append_assoc (header 1 (born_in h) text) (history_bytes h) (framed payload)
    ∙ ap (λ (l : List ℕ). header 1 (born_in h) text ++ l) (sym bytes)
    ∙ ap (λ (v : Version). header 1 v text ++ history_bytes k) (sym born)

module _ (next : Place) (text : List ℕ) (list : List Entry) (file : List ℕ) (kept : IsKeptAt next text list file) where
  -- all up to its last gate
  abbrev pub front_there : List ℕ
  front_there = front_of text kept.history

  pub shut_there : IsShutBehind front_there file
  shut_there = record {
    rest = kept.rest;
    shut = kept.shut;
    parts = kept.holds.parts ∙ sym (append_assoc (header 1 (born_in kept.history) text) (history_bytes kept.history) kept.rest);
  }

  -- ---- an entry more
  module _ (e : Entry) (good : IsRecordable Two e) (two : next.version ≡ Two) where
    more : History
    more = with_entry kept.history e

    goes_on : Two ≡ goes_on_in kept.history
    goes_on = sym two ∙ kept.version

    more-each : EachEntry IsRecordable more
    unfolding more
    more-each = entry-each IsRecordable kept.history e kept.holds.each (subst (λ (v : Version). IsRecordable v e) goes_on good)

    more-entries : entries_of more ≡ list ++ e ∷ []
    unfolding more
    more-entries = entry-entries kept.history e ∙ ap (λ (l : List Entry). l ++ e ∷ []) kept.entries

    more-front : front_there ++ framed (payload Two e) ≡ front_of text more
    unfolding more
    more-front = front_more text kept.history more (payload Two e) (entry-born kept.history e)
        (entry-bytes kept.history e ∙ ap (λ (v : Version). history_bytes kept.history ++ record_bytes v e) (sym goes_on))

    more-version : goes_on_in more ≡ Two
    unfolding more
    more-version = entry-version kept.history e ∙ sym goes_on

    pub put_entry : (c : List ℕ) → IsPutBehind front_there (payload Two e) c → IsBeforeOrAfter text list e c
    put_entry c (inl at) = inl (shut_kept text kept.history list c kept.holds.each kept.entries at)
    put_entry c (inr at) = inr (shut_kept text more (list ++ e ∷ []) c more-each more-entries (subst (λ (l : List ℕ). IsShutBehind l c) more-front at))

    pub kept_entry : (place : Place) (now : List ℕ) → place.gate ≡ length (front_there ++ framed (payload Two e)) → place.version ≡ Two
        → IsShutBehind (front_there ++ framed (payload Two e)) now → IsKeptAt place text (list ++ e ∷ []) now
    kept_entry place now gate version at =
        shut_kept_at text more (list ++ e ∷ []) place now more-each more-entries (subst (λ (l : List ℕ). IsShutBehind l now) more-front at)
        (gate ∙ ap length more-front) (version ∙ sym more-version)

  -- ---- the Turn
  module _ (one : next.version ≡ One) where
    is_one : goes_on_in kept.history ≡ One
    is_one = sym kept.version ∙ one

    later : History
    later = turned (entries_of kept.history) []

    later-each : EachEntry IsRecordable later
    unfolding later
    later-each = turn-each kept.history is_one IsRecordable kept.holds.each

    later-entries : entries_of later ≡ list
    unfolding later
    later-entries = turn-entries kept.history is_one ∙ kept.entries

    later-front : front_there ++ framed turn_payload ≡ front_of text later
    unfolding later
    later-front = front_more text kept.history later turn_payload (sym (turn-born kept.history is_one)) (turn-bytes kept.history is_one)

    pub put_turn : (c : List ℕ) → IsPutBehind front_there turn_payload c → IsKept text list c
    put_turn c (inl at) = shut_kept text kept.history list c kept.holds.each kept.entries at
    put_turn c (inr at) = shut_kept text later list c later-each later-entries (subst (λ (l : List ℕ). IsShutBehind l c) later-front at)

    pub kept_turn : (place : Place) (now : List ℕ) → place.gate ≡ length (front_there ++ framed turn_payload) → place.version ≡ Two
        → IsShutBehind (front_there ++ framed turn_payload) now → IsKeptAt place text list now
    unfolding later
    kept_turn place now gate version at =
        shut_kept_at text later list place now later-each later-entries (subst (λ (l : List ℕ). IsShutBehind l now) later-front at)
        (gate ∙ ap length later-front) version
