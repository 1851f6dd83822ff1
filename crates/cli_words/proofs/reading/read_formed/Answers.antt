use Rattle.std.proofs.Common.{map, string_bytes}
use Rattle.command_items.proofs.Entering.{met_by, some_by}
use Rattle.cli_words.specs.Views.{shown_request}
use Rattle.cli_words.proofs.Answering.{answers_same}
use Rattle.cli_words.proofs.Meanings.{asks_means, means_asks}
use Rattle.cli_words.proofs.reading.read_formed.Goals as goal

pub unwrap-requires : goal.unwrap-requires
unwrap-requires c = some_by (map string_bytes c.args.words.now) c.in-Ok.matches c.entered.result c.requires c.in-Ok.ensures.rows c.entered.ensures

pub returns : goal.returns
returns c =
    let m = met_by (map string_bytes c.args.words.now) c.in-Ok.matches c.entered.result c.unwrap.result c.requires c.in-Ok.ensures.rows c.entered.ensures c.unwrap.ensures in
    answers_same shown_request _ _ c.read_command.result (means_asks _ _ _ m) (asks_means _ _ _ m) c.read_command.ensures
