use Rattle.std.proofs.Common.{refl}
use Rattle.pool_model.specs.Network.{net_of}
use Rattle.printed_lines.specs.Trial.{trial_text}
use Rattle.run_status.specs.declared.status.Status.TheVariants.{Done}
use Rattle.pool_cli.proofs.trial.try_network.Goals as goal

pub returns-in-Err-write_trial-clause-took : goal.returns-in-Err-write_trial-clause-took
returns-in-Err-write_trial-clause-took g c =
    (trial_text (net_of c.args.network.now) c.in-Ok.trial, (Done, record { trial = c.in-Ok.trial; tried = c.in-Ok.ensures.tried; spelled = refl }), c.in-Err-write_trial.ensures.wrote)
