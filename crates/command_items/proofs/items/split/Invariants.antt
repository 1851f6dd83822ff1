use Rattle.std.proofs.Common.{◌≡◌, ◌++◌, drop, map, string_bytes}
use Rattle.std.specs.Prelude.{option_map}
use Rattle.command_items.specs.Items.{items_of, items_after}
use Rattle.command_items.specs.Views.{shown_items}
use Rattle.command_items.proofs.items.split.Given as goal

abbrev pub invariant-loop-word : goal.invariant-loop-word
invariant-loop-word l = items_of (map string_bytes l.words)
    ≡ option_map (λ gs. shown_items l.items.items ++ gs) (items_after (option_map (λ s. s.now) l.waiting) (map string_bytes (drop l.word-index l.words)))
