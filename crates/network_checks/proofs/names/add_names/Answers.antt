use Rattle.std.proofs.Common.{◌≡◌, ◌<◌, ◌≤◌, map, length, get_or, [], below_more, sym, ◌∙◌, arith}
use Rattle.std.proofs.lemmas.List.{length-map}
use Rattle.network_parts.proofs.Mapped.{read-map}
use Rattle.network_checks.proofs.NameTables.{added_more, fresh_more}
use Rattle.network_checks.specs.Names.{names_in}
use Rattle.network_checks.proofs.names.add_names.Goals as goal

pub loop-n-preserved : goal.loop-n-preserved
loop-n-preserved g c =
    let names = map g.T.Named.name_of c.args.rows.now in
    let here : c.loop-n.n < length (map g.T.Named.name_of c.args.rows.now) = omega (arith, length-map c.args.rows.now g.T.Named.name_of) in
    let at : get_or (map g.T.Named.name_of c.args.rows.now) c.loop-n.n [] ≡ c.name.result.now
    = read-map g.T.Named.name_of c.args.rows.now c.loop-n.n c.index-rows-n.result [] here c.index-rows-n.is ∙ sym c.name.ensures in
    let adds = rw c.if-not-branch.false at c.in_ok-add_name.ensures in
    record {
      added = added_more (names_in c.args.names.now) (names_in c.loop-n.names) (names_in c.add_name.new.names) names c.loop-n.n c.name.result.now c.loop-n.invariant.added here at adds.1;
      fresh = below_more _ _ c.loop-n.invariant.fresh (fresh_more (names_in c.args.names.now) (names_in c.loop-n.names) names c.loop-n.n c.name.result.now c.loop-n.invariant.added at adds.0);
    }

pub returns-clause-fresh : goal.returns-clause-fresh
returns-clause-fresh g c =
    let past : length (map g.T.Named.name_of c.args.rows.now) ≤ c.loop-n.n = omega (arith, length-map c.args.rows.now g.T.Named.name_of) in
    λ n repeat. c.loop-n.invariant.fresh n (omega (arith, repeat.0)) repeat
