use Rattle.std.proofs.lemmas.Result.{IfOk-weaker}
use Rattle.clap.specs.Words.{app_of}
use Rattle.command_items.specs.Views.{line}
use Rattle.command_items.proofs.Arguments.{told_in_turn}
use Rattle.command_items.proofs.program.line_command.Goals as goal

pub returns-clause-app : goal.returns-clause-app
returns-clause-app c =
    let l = line c.args.name.now c.args.places.now c.args.many c.args.options.now in
    let told = told_in_turn l (app_of c.new.result) (app_of c.in_ok-placed.placed) (app_of c.in_ok-command.command) in
    IfOk-weaker c.with_options.result _ _ (λ r options. told (app_of r) c.new.ensures.app c.in_ok-placed.ensures.app c.in_ok-command.ensures.app options) c.with_options.ensures.app
