use Rattle.std.proofs.Common.{◌≡◌, ◌∙◌, sym, false, true≢false, map, string_bytes, rules}
use Rattle.command_items.specs.Views.{has_form}
use Rattle.cli_words.proofs.Answering.{only_answer}
use Rattle.cli_words.proofs.Meanings.{asks_form}
use Rattle.cli_words.proofs.reading.read_words.Goals as goal

pub returns-in-Ok-true-clause-only : goal.returns-in-Ok-true-clause-only
returns-in-Ok-true-clause-only c = only_answer (map string_bytes c.args.words.now) c.read_formed.result c.read_formed.ensures

pub returns-in-Ok-false-clause-usage : goal.returns-in-Ok-false-clause-usage
returns-in-Ok-false-clause-usage c =
    let words = map string_bytes c.args.words.now in
    let none : has_form words ≡ false = search rules in
    λ e asked a. true≢false (sym (asks_form words asked a) ∙ none)
