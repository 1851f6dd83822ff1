use Rattle.std.proofs.Common.{◌≡◌, ◌||◌, string_bytes}
use Rattle.std.specs.List.{list_all}
use Rattle.serde_json.specs.View.{members_view}
use Rattle.json_walk.specs.Walk.{is_among, texts, names_in}
use Rattle.json_walk.proofs.walk.has_only.Given as goal

-- the names that are left decide as all of them do
abbrev pub invariant-loop-name : goal.invariant-loop-name
invariant-loop-name l =
    list_all (λ k. is_among (texts l.needed) (string_bytes k) || is_among (texts l.others) (string_bytes k)) l.name-iterator
    ≡ list_all (λ k. is_among (texts l.needed) k || is_among (texts l.others) k) (names_in (members_view l.map.entries))
