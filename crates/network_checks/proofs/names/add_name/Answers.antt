use Rattle.std.proofs.Common.{refl}
use Rattle.network_checks.proofs.NameTables.{adds_name}
use Rattle.network_checks.proofs.names.add_name.Goals as goal

pub returns : goal.returns
returns c = adds_name c.args.name _ c.args.names.now.keys c.insert.new.self.keys _ (λ k. refl) c.in_ok-fresh.ensures.added c.in_ok-fresh.ensures.keys
