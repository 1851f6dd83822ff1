-- A command that is told of its positionals, of those that may stand several times, and then of its options.
use Rattle.std.proofs.Common.{◌≡◌, ◌∙◌, ◌++◌, ap, sym, map}
use Rattle.std.specs.Prelude.{fold}
use Rattle.std.proofs.lemmas.List.Sums.{fold-append}
use Rattle.clap.specs.Words.{App, new_app, new_rule, with_rule}
use Rattle.command_items.specs.Lines.{Line, line_app, long_rule, many_rules}

pub told_in_turn : (l : Line) (named placed extended whole : App) → named ≡ new_app l.command → placed ≡ fold with_rule named (map new_rule l.places)
    → extended ≡ fold with_rule placed (many_rules l.many) → whole ≡ fold with_rule extended (map long_rule l.options) → whole ≡ line_app l
told_in_turn l named placed extended whole is places many options =
    options
    ∙ ap (λ a. fold with_rule a (map long_rule l.options)) (many ∙ ap (λ a. fold with_rule a (many_rules l.many)) (places ∙ ap (λ a. fold with_rule a (map new_rule l.places)) is))
    ∙ sym (fold-append with_rule (fold with_rule (new_app l.command) (map new_rule l.places)) (many_rules l.many) (map long_rule l.options))
    ∙ sym (fold-append with_rule (new_app l.command) (map new_rule l.places) (many_rules l.many ++ map long_rule l.options))
