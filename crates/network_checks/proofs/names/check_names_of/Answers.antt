use Rattle.std.proofs.Common.{[], below_more, rules, subst}
use Rattle.network_parts.specs.Faults.{IsName}
use Rattle.network_parts.proofs.Mapped.{holds_at}
use Rattle.network_checks.proofs.names.check_names_of.Goals as goal

pub loop-n-preserved : goal.loop-n-preserved
loop-n-preserved g c =
    let good : IsName c.name.result.now = search rules in
    below_more _ _ c.loop-n.invariant
    (holds_at IsName g.T.Named.name_of c.args.rows.now c.loop-n.n c.index-rows-n.result [] c.loop-n-test.true c.index-rows-n.is (subst IsName c.name.ensures good))
