use Rattle.pool_model.specs.Plain.{is_plain_arc}
use Rattle.network_parts.specs.Views.{shown_arc}
use Rattle.blend_network.proofs.Ratios.{all_shown}
use Rattle.blend_network.proofs.network.carriage.are_plain.Goals as goal

pub returns : goal.returns
returns c = all_shown is_plain_arc shown_arc c.args.arcs.now c.is_each_plain.result c.is_each_plain.ensures
