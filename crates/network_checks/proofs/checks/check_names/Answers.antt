use Rattle.std.proofs.Common.{string_bytes, ap, map}
use Rattle.network_parts.specs.Parts.{rows_of}
use Rattle.network_parts.specs.declared.fault.Kind.TheVariants.{Source, Pool, Product, Quality}
use Rattle.network_parts.specs.declared.fault.NetFault.TheVariants.{BadName}
use Rattle.network_checks.proofs.Refusals.{handed, names_of_sources, names_of_pools, names_of_products, good_names, bad_first, bad_next, before_source, before_pool, before_product, before_quality}
use Rattle.network_checks.proofs.checks.check_names.Goals as goal

pub returns-in_err-check_names_of-clause-fault : goal.returns-in_err-check_names_of-clause-fault
returns-in_err-check_names_of-clause-fault c =
    let r = rows_of c.args.parts.now in
    handed r c.from_residual.result c.in_err-check_names_of.field-0.0 c.from_residual.ensures.1
    (bad_first r Source _ _ (names_of_sources _ _ c.deref.ensures.value) c.requires.clear (before_source r BadName) c.in_err-check_names_of.ensures.first)

pub returns-in_err-check_names_of-2-clause-fault : goal.returns-in_err-check_names_of-2-clause-fault
returns-in_err-check_names_of-2-clause-fault c =
    let r = rows_of c.args.parts.now in
    let sources = good_names (λ s. string_bytes s.name) _ r Source (names_of_sources _ _ c.deref.ensures.value) c.in_ok-check_names_of.ensures.named in
    handed r c.from_residual-in_err-check_names_of-2.result c.in_err-check_names_of-2.field-0.0 c.from_residual-in_err-check_names_of-2.ensures.1
    (bad_first r Pool _ _ (names_of_pools _ _ c.deref-2.ensures.value) c.requires.clear (before_pool r BadName sources) c.in_err-check_names_of-2.ensures.first)

pub returns-in_err-check_names_of-3-clause-fault : goal.returns-in_err-check_names_of-3-clause-fault
returns-in_err-check_names_of-3-clause-fault c =
    let r = rows_of c.args.parts.now in
    let sources = good_names (λ s. string_bytes s.name) _ r Source (names_of_sources _ _ c.deref.ensures.value) c.in_ok-check_names_of.ensures.named in
    let pools = good_names (λ p. string_bytes p.name) _ r Pool (names_of_pools _ _ c.deref-2.ensures.value) c.in_ok-check_names_of-2.ensures.named in
    handed r c.from_residual-in_err-check_names_of-3.result c.in_err-check_names_of-3.field-0.0 c.from_residual-in_err-check_names_of-3.ensures.1
    (bad_first r Product _ _ (names_of_products _ _ c.deref-3.ensures.value) c.requires.clear (before_product r BadName sources pools) c.in_err-check_names_of-3.ensures.first)

pub returns-in_err-check_names_of-4-clause-fault : goal.returns-in_err-check_names_of-4-clause-fault
returns-in_err-check_names_of-4-clause-fault c =
    let r = rows_of c.args.parts.now in
    let sources = good_names (λ s. string_bytes s.name) _ r Source (names_of_sources _ _ c.deref.ensures.value) c.in_ok-check_names_of.ensures.named in
    let pools = good_names (λ p. string_bytes p.name) _ r Pool (names_of_pools _ _ c.deref-2.ensures.value) c.in_ok-check_names_of-2.ensures.named in
    let products = good_names (λ p. string_bytes p.name) _ r Product (names_of_products _ _ c.deref-3.ensures.value) c.in_ok-check_names_of-3.ensures.named in
    handed r c.from_residual-in_err-check_names_of-4.result c.in_err-check_names_of-4.field-0.0 c.from_residual-in_err-check_names_of-4.ensures.1
    (bad_first r Quality _ _ (ap (map string_bytes) c.deref-4.ensures.value) c.requires.clear (before_quality r BadName sources pools products) c.in_err-check_names_of-4.ensures.first)

pub returns-clause-clear : goal.returns-clause-clear
returns-clause-clear c =
    let r = rows_of c.args.parts.now in
    let sources = good_names (λ s. string_bytes s.name) _ r Source (names_of_sources _ _ c.deref.ensures.value) c.in_ok-check_names_of.ensures.named in
    let pools = good_names (λ p. string_bytes p.name) _ r Pool (names_of_pools _ _ c.deref-2.ensures.value) c.in_ok-check_names_of-2.ensures.named in
    let products = good_names (λ p. string_bytes p.name) _ r Product (names_of_products _ _ c.deref-3.ensures.value) c.in_ok-check_names_of-3.ensures.named in
    let qualities = good_names string_bytes _ r Quality (ap (map string_bytes) c.deref-4.ensures.value) c.in_ok-check_names_of-4.ensures.named in
    bad_next r c.requires.clear sources pools products qualities
