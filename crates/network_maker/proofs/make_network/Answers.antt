use Rattle.std.proofs.Common.{sym, ap, subst, ◌∙◌}
use Rattle.pool_model.specs.Rows.{Rows, IsRectangular}
use Rattle.pool_model.specs.Naming.{network_of}
use Rattle.network_parts.specs.FirstFault.{IsFirstFault}
use Rattle.blend_network.specs.Canonical.{canonical_rows}
use Rattle.network_maker.specs.Generated.{generated}
use Rattle.network_maker.proofs.Faultless.{rectangular, faultless, no_fault, same_network}
use Rattle.network_maker.proofs.make_network.Goals as goal

pub build_network-requires : goal.build_network-requires
build_network-requires c = subst IsRectangular (sym c.in_ok-rows.ensures) (rectangular c.args.seed)

pub unreachable-requires : goal.unreachable-requires
unreachable-requires c =
    no_fault (canonical_rows (generated c.args.seed)) c.in-Err.fault (faultless c.args.seed) c.in_default.not-Memory
    (subst (λ (r : Rows). IsFirstFault r c.in-Err.fault) c.in_ok-rows.ensures c.in-Err.ensures.fault)

pub returns-in-Ok : goal.returns-in-Ok
returns-in-Ok c = record { network = c.in-Ok.ensures.network ∙ ap network_of c.in_ok-rows.ensures ∙ same_network c.args.seed }
