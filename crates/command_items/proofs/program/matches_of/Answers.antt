use Rattle.std.proofs.Common.{rules, ◌≡◌, ◌∙◌, ap, map, string_bytes}
use Rattle.std.proofs.lemmas.Result.{IfErr-weaker, IfOk-weaker}
use Rattle.clap.specs.Words.{app_of, is_simple, subcommand_of, takes}
use Rattle.command_items.specs.Lines.{program_app}
use Rattle.command_items.proofs.Tables.{form_takes, program_simple}
use Rattle.command_items.proofs.program.matches_of.Goals as goal

pub returns-clause-rows : goal.returns-clause-rows
returns-clause-rows c =
    let parse = c.try_get_matches_from in
    let is : app_of c.in_ok-program.program ≡ program_app = search rules in
    IfOk-weaker parse.result _ _ (λ m h. (h (ap is_simple is ∙ program_simple)).1 ∙ ap (λ a. subcommand_of a (map string_bytes c.args.words.now)) is) parse.ensures.matches

pub returns-clause-memory : goal.returns-clause-memory
returns-clause-memory c =
    let parse = c.try_get_matches_from in
    let is : app_of c.in_ok-program.program ≡ program_app = search rules in
    λ form. IfErr-weaker parse.result _ _ (λ e h. h (ap (λ a. takes a (map string_bytes c.args.words.now)) is ∙ form_takes (map string_bytes c.args.words.now) form)) parse.ensures.passes
