use Rattle.std.proofs.Common.{refl, ◌∙◌}
use Rattle.network_checks.proofs.NameTables.{position-names}
use Rattle.network_checks.proofs.names.find_name.Goals as goal

pub returns : goal.returns
returns c = c.get_index_of.ensures.index ∙ position-names c.args.name.now _ c.args.names.now.keys (λ k. refl)
