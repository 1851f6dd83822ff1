use Rattle.std.proofs.Common.{map, ap}
use Rattle.network_parts.specs.Parts.{rows_of}
use Rattle.network_parts.specs.declared.fault.Kind.TheVariants.{Source, Pool, Product}
use Rattle.network_parts.specs.declared.fault.NetFault.TheVariants.{DuplicateName}
use Rattle.network_checks.proofs.Refusals.{handed, names_of_sources, names_of_pools, names_of_products, fresh_names, added_to, twice_first, before_source, before_pool, before_product}
use Rattle.network_checks.proofs.checks.node_table.Goals as goal

pub returns-in_err-add_names-clause-fault : goal.returns-in_err-add_names-clause-fault
returns-in_err-add_names-clause-fault c =
    let r = rows_of c.args.parts.now in
    let empty = ap (map (λ k. k.now)) c.new-names.ensures.empty in
    handed r c.from_residual.result c.in_err-add_names.field-0.0 c.from_residual.ensures.1
    (twice_first r Source _ _ _ empty (names_of_sources _ _ c.deref.ensures.value) c.requires.clear (before_source r DuplicateName) c.in_err-add_names.ensures.first)

pub returns-in_err-add_names-2-clause-fault : goal.returns-in_err-add_names-2-clause-fault
returns-in_err-add_names-2-clause-fault c =
    let r = rows_of c.args.parts.now in
    let empty = ap (map (λ k. k.now)) c.new-names.ensures.empty in
    let sources = names_of_sources _ _ c.deref.ensures.value in
    let one = added_to _ _ _ _ _ c.in_ok-add_names.ensures.added empty sources in
    let s = fresh_names r Source _ _ empty sources c.in_ok-add_names.ensures.fresh in
    handed r c.from_residual-in_err-add_names-2.result c.in_err-add_names-2.field-0.0 c.from_residual-in_err-add_names-2.ensures.1
    (twice_first r Pool _ _ _ one (names_of_pools _ _ c.deref-2.ensures.value) c.requires.clear (before_pool r DuplicateName s) c.in_err-add_names-2.ensures.first)

pub returns-in_err-add_names-3-clause-fault : goal.returns-in_err-add_names-3-clause-fault
returns-in_err-add_names-3-clause-fault c =
    let r = rows_of c.args.parts.now in
    let empty = ap (map (λ k. k.now)) c.new-names.ensures.empty in
    let sources = names_of_sources _ _ c.deref.ensures.value in
    let pools = names_of_pools _ _ c.deref-2.ensures.value in
    let one = added_to _ _ _ _ _ c.in_ok-add_names.ensures.added empty sources in
    let two = added_to _ _ _ _ _ c.in_ok-add_names-2.ensures.added one pools in
    let s = fresh_names r Source _ _ empty sources c.in_ok-add_names.ensures.fresh in
    let p = fresh_names r Pool _ _ one pools c.in_ok-add_names-2.ensures.fresh in
    handed r c.from_residual-in_err-add_names-3.result c.in_err-add_names-3.field-0.0 c.from_residual-in_err-add_names-3.ensures.1
    (twice_first r Product _ _ _ two (names_of_products _ _ c.deref-3.ensures.value) c.requires.clear (before_product r DuplicateName s p) c.in_err-add_names-3.ensures.first)

pub returns-clause-names : goal.returns-clause-names
returns-clause-names c =
    let empty = ap (map (λ k. k.now)) c.new-names.ensures.empty in
    let one = added_to _ _ _ _ _ c.in_ok-add_names.ensures.added empty (names_of_sources _ _ c.deref.ensures.value) in
    let two = added_to _ _ _ _ _ c.in_ok-add_names-2.ensures.added one (names_of_pools _ _ c.deref-2.ensures.value) in
    added_to _ _ _ _ _ c.in_ok-add_names-3.ensures.added two (names_of_products _ _ c.deref-3.ensures.value)

pub returns-clause-distinct : goal.returns-clause-distinct
returns-clause-distinct c =
    let r = rows_of c.args.parts.now in
    let empty = ap (map (λ k. k.now)) c.new-names.ensures.empty in
    let sources = names_of_sources _ _ c.deref.ensures.value in
    let pools = names_of_pools _ _ c.deref-2.ensures.value in
    let products = names_of_products _ _ c.deref-3.ensures.value in
    let one = added_to _ _ _ _ _ c.in_ok-add_names.ensures.added empty sources in
    let two = added_to _ _ _ _ _ c.in_ok-add_names-2.ensures.added one pools in
    record {
      sources = fresh_names r Source _ _ empty sources c.in_ok-add_names.ensures.fresh;
      pools = fresh_names r Pool _ _ one pools c.in_ok-add_names-2.ensures.fresh;
      products = fresh_names r Product _ _ two products c.in_ok-add_names-3.ensures.fresh;
    }
