use Rattle.std.proofs.Common.{map, string_bytes, ap}
use Rattle.network_parts.specs.Parts.{rows_of}
use Rattle.network_parts.specs.declared.fault.Kind.TheVariants.{Quality}
use Rattle.network_parts.specs.declared.fault.NetFault.TheVariants.{DuplicateName}
use Rattle.network_checks.proofs.Refusals.{handed, fresh_names, twice_first, twice_next, before_quality}
use Rattle.network_checks.proofs.checks.check_qualities.Goals as goal

pub returns-in_err-add_names-clause-fault : goal.returns-in_err-add_names-clause-fault
returns-in_err-add_names-clause-fault c =
    let r = rows_of c.args.parts.now in
    let empty = ap (map (λ k. k.now)) c.new-names.ensures.empty in
    let d = c.requires.distinct in
    handed r c.from_residual.result c.in_err-add_names.field-0.0 c.from_residual.ensures.1
    (twice_first r Quality _ _ _ empty (ap (map string_bytes) c.deref.ensures.value) c.requires.clear (before_quality r DuplicateName d.sources d.pools d.products) c.in_err-add_names.ensures.first)

pub returns-clause-clear : goal.returns-clause-clear
returns-clause-clear c =
    let r = rows_of c.args.parts.now in
    let empty = ap (map (λ k. k.now)) c.new-names.ensures.empty in
    let d = c.requires.distinct in
    twice_next r c.requires.clear d.sources d.pools d.products (fresh_names r Quality _ _ empty (ap (map string_bytes) c.deref.ensures.value) c.in_ok-add_names.ensures.fresh)
