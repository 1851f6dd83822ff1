use Rattle.std.proofs.Common.{◌≡◌, [], ◌∷◌, ◌++◌, ◌+◌, ◌<◌, ◌≤◌, length, drop, map, refl, ap, subst, ◌∙◌, rules, arith}
use Rattle.std.proofs.lemmas.List.{map_push}
use Rattle.std.proofs.lemmas.Option.{MatchOption-at_some}
use Rattle.box_tree.specs.Views.{shown_entry}
use Rattle.journal_format.specs.Files.{IsClosed}
use Rattle.node_journal.specs.Found.{IsRecordAt}
use Rattle.node_journal.specs.declared.found.Found.{Found}
use Rattle.node_journal.specs.declared.found.Record.{Record}
use Rattle.node_journal.specs.declared.found.Spot.{Spot}
use Rattle.node_journal.proofs.Runs.{quiet-start, quiet-then}
use Rattle.node_journal.proofs.Spelled.{found-none, found-entry, found-turn}
use Rattle.node_journal.proofs.records.read_records.Goals as goal
use Rattle.node_journal.proofs.records.read_records.Goals.{in-Entry+in_ok-push-in-Entry, in-Turn}

pub loop-entries-init : goal.loop-entries-init
loop-entries-init g c = record {
  read = λ file is size. found-none c.args.born (length c.args.room.now) c.args.start file _ c.new-entries.ensures.items refl refl;
  same = refl;
  reached = c.requires.within;
  few = omega arith;
  room = refl;
  quiet = quiet-start (g.D.Disk.told c.args.disk.now);
  same_disk = search rules;
}

pub loop-entries-preserved : goal.loop-entries-preserved
loop-entries-preserved g c =
    let before = c.loop-entries.invariant in
    let reached = c.in_ok-record.ensures.reached in
    let old = c.loop-entries.spot in
    let after = c.in-Some.after in
    let was : Found = record { entries = c.loop-entries.entries; turn_at = c.loop-entries.turn_at; spot = old } in
    let now : Found = record {
      entries = c.match-record.entries;
      turn_at = c.match-record.turn_at;
      spot = record { at = after; version = c.match-record.spot.version; number = c.match-record.spot.number + 1 };
    } in
    let number : c.match-record.spot.number ≡ old.number = elim c.match-record.branch [
      | in-Entry+in_ok-push-in-Entry w ↦ ap (λ (s : Spot). s.number) w.spot-is
      | in-Turn w ↦ ap (λ (s : Spot). s.number) w.spot-is
    ] in
    record {
      read = λ file is size.
          let found = MatchOption-at_some (IsClosed (drop old.at file))
          (λ x. IsRecordAt old.version (length c.loop-entries.room) old.at file x.0 x.1)
          (c.in-Some.record, after) c.in-Some.is (c.in_ok-record.ensures.read file (before.same ∙ is) size) in
          let here = subst (λ n. IsRecordAt old.version n old.at file c.in-Some.record after) before.room found in
          let far = before.read file is size in
          elim c.match-record.branch [
            | in-Entry+in_ok-push-in-Entry w ↦
                let there = subst (λ (r : Record). IsRecordAt old.version (length c.args.room.now) old.at file r after) w.in-Entry.is here in
                let items : map shown_entry c.match-record.entries.items ≡ map shown_entry c.loop-entries.entries.items ++ shown_entry w.in-Entry.entry ∷ [] =
                ap (λ v. map shown_entry v.items) w.entries-is ∙ ap (map shown_entry) w.in_ok-push-in-Entry.ensures.items
                ∙ map_push _ c.loop-entries.entries.items w.in-Entry.entry in
                found-entry c.args.born (length c.args.room.now) c.args.start file was now after far w.in-Entry.entry there items w.turn_at-is
                (ap (λ (s : Spot). record { at = after; version = s.version; number = s.number + 1 }) w.spot-is)
            | in-Turn w ↦
                let there = subst (λ (r : Record). IsRecordAt old.version (length c.args.room.now) old.at file r after) w.in-Turn.is here in
                found-turn c.args.born (length c.args.room.now) c.args.start file was now after far there.0 there.1
                (ap (λ v. map shown_entry v.items) w.entries-is) w.turn_at-is
                (ap (λ (s : Spot). record { at = after; version = s.version; number = s.number + 1 }) w.spot-is)
          ];
      same = c.in_ok-record.ensures.same ∙ before.same;
      reached = search rules;
      few = let further : (old.at < after) × (after ≤ c.args.end) = search rules in omega (arith, number, before.few, further.0);
      room = search rules;
      quiet = quiet-then (g.D.Disk.told c.args.disk.now)
          (g.D.Disk.told c.loop-entries.disk) (g.D.Disk.told c.next_record.new.disk) before.quiet c.next_record.ensures.quiet;
      same_disk = search rules;
    }
