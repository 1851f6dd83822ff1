use Rattle.std.proofs.Common.{length, sym, ◌∙◌, ap, arith}
use Rattle.network_checks.specs.Names.{names_in}
use Rattle.network_parts.proofs.Lookups.{number_of_some}
use Rattle.network_checks.proofs.arcs.find_node.Goals as goal

pub overflow_cast-n : goal.overflow_cast-n
overflow_cast-n c =
    let found = number_of_some c.args.name.now (names_in c.args.names.now) c.in_ok-n.n (sym c.find_name.ensures ∙ c.in_ok-n.was) in
    omega (arith, found.within, ap length c.requires.names, c.requires.count)
