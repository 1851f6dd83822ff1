-- The record that a payload spells, at its place, and what was found with it.
use Rattle.std.proofs.Common.{◌≡◌, ℕ, ◌+◌, ◌≤◌, List, [], ◌∷◌, ◌++◌, length, map, take, drop, Some, None, refl, sym, ap, subst, ◌∙◌}
use Rattle.journal_format.specs.Histories.{unturned, turned, entries_of}
use Rattle.journal_format.specs.Records.{Opens, IsEntryAt, IsTurnAt, IsHistoryAt}
use Rattle.journal_format.specs.declared.version.Version.TheVariants.{One, Two}
use Rattle.journal_format.proofs.HistoryLaws.{with_entry, entry-entries, entry-version, entry-born, entry-turn, entry-count, turn-entries, turn-born, turn-count, turn-number}
use Rattle.journal_format.proofs.HistoryLaws.{history_at-none, history_at-entry, history_at-turn}
use Rattle.box_tree.specs.declared.entry.Entry.{Entry}
use Rattle.node_journal.specs.declared.found.Found.{Found}
use Rattle.node_journal.specs.declared.found.Spot.{Spot}
use Rattle.journal_format.specs.declared.opening.RecordHead.TheVariants.{Payload}
use Rattle.journal_format.specs.declared.version.Version.{Version}
use Rattle.journal_format.proofs.RecordLaws.{opened_some, opened_turn}
use Rattle.node_journal.specs.Found.{Spells, IsRecordAt, IsFoundFrom}
use Rattle.node_journal.specs.declared.found.Record.{Record}
use Rattle.node_journal.specs.declared.found.Record.TheVariants as records
use Rattle.box_tree.specs.Views.{shown_entry}

pub spelled-at : (v : Version) (largest at size : ℕ) (file : List ℕ) → Opens (drop at file) (Payload size) → (r : Record) → at + 5 + size ≤ length file → size ≤ largest
    → Spells v (take size (drop (at + 5) file)) r → IsRecordAt v largest at file r (at + 5 + size)
spelled-at v largest at size file opens (records.Entry e) within small read = opened_some v largest at size file opens (shown_entry e) within small read
spelled-at v largest at size file opens records.Turn within small read = (read.0, opened_turn v largest at size file opens within read.1)

-- nothing was read yet
pub found-none : (born : Version) (largest start : ℕ) (file : List ℕ) (f : Found) → f.entries.items ≡ [] → f.turn_at ≡ None → f.spot ≡ record { at = start; version = born; number = 0 }
    → IsFoundFrom born largest start file f
found-none born largest start file f items turn spot = record {
  history = unturned born [];
  began = refl;
  entries = sym (ap (map shown_entry) items);
  turned = sym turn;
  version = ap (λ (s : Spot). s.version) (sym spot);
  count = ap (λ (s : Spot). s.number) (sym spot);
  records_at = subst (λ (a : ℕ). IsHistoryAt largest start file (unturned born []) a) (ap (λ (s : Spot). s.at) (sym spot)) (history_at-none born largest start file);
}

module _ (born : Version) (largest start : ℕ) (file : List ℕ) (f g : Found) (after : ℕ) (is : IsFoundFrom born largest start file f) where
  -- an entry more
  pub found-entry : (e : Entry) → IsEntryAt f.spot.version largest f.spot.at file (shown_entry e) after → map shown_entry g.entries.items ≡ map shown_entry f.entries.items ++ shown_entry e ∷ []
      → g.turn_at ≡ f.turn_at → g.spot ≡ record { at = after; version = f.spot.version; number = f.spot.number + 1 } → IsFoundFrom born largest start file g
  found-entry e next items turn spot =
      let h = is.history in
      let x = shown_entry e in
      let there = subst (λ (v : Version). IsEntryAt v largest f.spot.at file x after) (sym is.version) next in
      record {
        history = with_entry h x;
        began = entry-born h x ∙ is.began;
        entries = entry-entries h x ∙ ap (λ l. l ++ x ∷ []) is.entries ∙ sym items;
        turned = entry-turn h x ∙ is.turned ∙ sym turn;
        version = entry-version h x ∙ is.version ∙ ap (λ (s : Spot). s.version) (sym spot);
        count = entry-count h x ∙ ap (λ (k : ℕ). k + 1) is.count ∙ ap (λ (s : Spot). s.number) (sym spot);
        records_at = subst (λ (a : ℕ). IsHistoryAt largest start file (with_entry h x) a) (ap (λ (s : Spot). s.at) (sym spot))
            (history_at-entry largest start f.spot.at after file h x is.records_at there);
      }

  -- the Turn
  pub found-turn : f.spot.version ≡ One → IsTurnAt f.spot.at file after → map shown_entry g.entries.items ≡ map shown_entry f.entries.items → g.turn_at ≡ Some f.spot.number
      → g.spot ≡ record { at = after; version = Two; number = f.spot.number + 1 } → IsFoundFrom born largest start file g
  found-turn one next items turn spot =
      let h = is.history in
      let first = is.version ∙ one in
      record {
        history = turned (entries_of h) [];
        began = sym (turn-born h first) ∙ is.began;
        entries = turn-entries h first ∙ is.entries ∙ sym items;
        turned = turn-number h first ∙ ap (λ (k : ℕ). Some k) is.count ∙ sym turn;
        version = ap (λ (s : Spot). s.version) (sym spot);
        count = turn-count h first ∙ ap (λ (k : ℕ). k + 1) is.count ∙ ap (λ (s : Spot). s.number) (sym spot);
        records_at = subst (λ (a : ℕ). IsHistoryAt largest start file (turned (entries_of h) []) a) (ap (λ (s : Spot). s.at) (sym spot))
            (history_at-turn largest start f.spot.at after file h first is.records_at next);
      }
