use Rattle.std.proofs.Common.{map, List, subst, refl}
use Rattle.network_parts.specs.Parts.{rows_of, source_row, pool_row, product_row, arc_row}
use Rattle.network_parts.specs.Faults.{IsSourceInRange, IsPoolInRange, IsProductInRange, IsArcInRange, IsOrderly, IsPoolOutAt, IsProductOutAt, IsArcOutAt, IsDisorderlyAt, no_source_row, no_pool_row, no_product_row, no_arc_row}
use Rattle.faults.specs.First.{IsFirstOf}
use Rattle.network_parts.specs.declared.parts.PoolRow.{PoolRow}
use Rattle.network_parts.specs.declared.parts.ProductRow.{ProductRow}
use Rattle.network_parts.specs.declared.parts.ArcRow.{ArcRow}
use Rattle.network_parts.specs.declared.fault.Kind.TheVariants.{Pool, Product, Arc}
use Rattle.network_parts.specs.declared.fault.NetFault.TheVariants.{OutOfRange, LeastAboveMost, Memory}
use Rattle.network_checks.proofs.Order.{numbered_first, numbered_next, least_above_most}
use Rattle.network_checks.proofs.Refusals.{handed, all_good, out_first, out_next, before_pool, before_product, before_arc}
use Rattle.network_checks.proofs.checks.check_numbers.Goals as goal

pub returns-in_err-check_pools-clause-fault : goal.returns-in_err-check_pools-clause-fault
returns-in_err-check_pools-clause-fault c =
    let r = rows_of c.args.parts.now in
    let f = c.in_err-check_pools.field-0.0 in
    let sources = all_good IsSourceInRange source_row no_source_row _ _ c.deref.ensures.value c.in_ok-check_sources.ensures.good in
    handed r c.from_residual-in_err-check_pools.result f c.from_residual-in_err-check_pools.ensures.1
    (out_first r Pool f c.requires.clear (before_pool r OutOfRange (λ n bad. bad.1 (sources n bad.0)))
    (subst (λ (xs : List PoolRow). IsFirstOf (OutOfRange Pool) (IsPoolOutAt (map pool_row xs)) f) c.deref-2.ensures.value c.in_err-check_pools.ensures.first))

pub returns-in_err-check_products-clause-fault : goal.returns-in_err-check_products-clause-fault
returns-in_err-check_products-clause-fault c =
    let r = rows_of c.args.parts.now in
    let f = c.in_err-check_products.field-0.0 in
    let sources = all_good IsSourceInRange source_row no_source_row _ _ c.deref.ensures.value c.in_ok-check_sources.ensures.good in
    let pools = all_good IsPoolInRange pool_row no_pool_row _ _ c.deref-2.ensures.value c.in_ok-check_pools.ensures.good in
    handed r c.from_residual-in_err-check_products.result f c.from_residual-in_err-check_products.ensures.1
    (out_first r Product f c.requires.clear (before_product r OutOfRange (λ n bad. bad.1 (sources n bad.0)) (λ n bad. bad.1 (pools n bad.0)))
    (subst (λ (xs : List ProductRow). IsFirstOf (OutOfRange Product) (IsProductOutAt (map product_row xs)) f) c.deref-3.ensures.value c.in_err-check_products.ensures.first))

pub returns-in_err-check_carriage-clause-fault : goal.returns-in_err-check_carriage-clause-fault
returns-in_err-check_carriage-clause-fault c =
    let r = rows_of c.args.parts.now in
    let f = c.in_err-check_carriage.field-0.0 in
    let sources = all_good IsSourceInRange source_row no_source_row _ _ c.deref.ensures.value c.in_ok-check_sources.ensures.good in
    let pools = all_good IsPoolInRange pool_row no_pool_row _ _ c.deref-2.ensures.value c.in_ok-check_pools.ensures.good in
    let products = all_good IsProductInRange product_row no_product_row _ _ c.deref-3.ensures.value c.in_ok-check_products.ensures.good in
    handed r c.from_residual-in_err-check_carriage.result f c.from_residual-in_err-check_carriage.ensures.1
    (out_first r Arc f c.requires.clear
    (before_arc r OutOfRange (λ n bad. bad.1 (sources n bad.0)) (λ n bad. bad.1 (pools n bad.0)) (λ n bad. bad.1 (products n bad.0)) (λ n bad. bad))
    (subst (λ (xs : List ArcRow). IsFirstOf (OutOfRange Arc) (IsArcOutAt (map arc_row xs)) f) c.deref-4.ensures.value c.in_err-check_carriage.ensures.first))

pub returns-in_err-check_limits-clause-fault : goal.returns-in_err-check_limits-clause-fault
returns-in_err-check_limits-clause-fault c =
    let r = rows_of c.args.parts.now in
    let f = c.in_err-check_limits.field-0.0 in
    let sources = all_good IsSourceInRange source_row no_source_row _ _ c.deref.ensures.value c.in_ok-check_sources.ensures.good in
    let pools = all_good IsPoolInRange pool_row no_pool_row _ _ c.deref-2.ensures.value c.in_ok-check_pools.ensures.good in
    let products = all_good IsProductInRange product_row no_product_row _ _ c.deref-3.ensures.value c.in_ok-check_products.ensures.good in
    let arcs = all_good IsArcInRange arc_row no_arc_row _ _ c.deref-4.ensures.value c.in_ok-check_carriage.ensures.good in
    let clear = out_next r c.requires.clear (λ n bad. bad.1 (sources n bad.0)) (λ n bad. bad.1 (pools n bad.0)) (λ n bad. bad.1 (products n bad.0)) (λ n bad. bad.1 (arcs n bad.0)) in
    handed r c.from_residual-in_err-check_limits.result f c.from_residual-in_err-check_limits.ensures.1
    (numbered_first LeastAboveMost least_above_most r (IsDisorderlyAt (map product_row c.args.parts.now.products.items)) f clear (λ n h. h) (λ n h. h)
    (subst (λ (xs : List ProductRow). IsFirstOf LeastAboveMost (IsDisorderlyAt (map product_row xs)) f) c.deref-5.ensures.value c.in_err-check_limits.ensures.first))

pub returns-clause-ranges : goal.returns-clause-ranges
returns-clause-ranges c = record {
  sources = all_good IsSourceInRange source_row no_source_row _ _ c.deref.ensures.value c.in_ok-check_sources.ensures.good;
  pools = all_good IsPoolInRange pool_row no_pool_row _ _ c.deref-2.ensures.value c.in_ok-check_pools.ensures.good;
  products = all_good IsProductInRange product_row no_product_row _ _ c.deref-3.ensures.value c.in_ok-check_products.ensures.good;
  arcs = all_good IsArcInRange arc_row no_arc_row _ _ c.deref-4.ensures.value c.in_ok-check_carriage.ensures.good;
  orderly = all_good IsOrderly product_row no_product_row _ _ c.deref-5.ensures.value c.in_ok-check_limits.ensures.good;
}

pub returns-clause-clear : goal.returns-clause-clear
returns-clause-clear c =
    let r = rows_of c.args.parts.now in
    let sources = all_good IsSourceInRange source_row no_source_row _ _ c.deref.ensures.value c.in_ok-check_sources.ensures.good in
    let pools = all_good IsPoolInRange pool_row no_pool_row _ _ c.deref-2.ensures.value c.in_ok-check_pools.ensures.good in
    let products = all_good IsProductInRange product_row no_product_row _ _ c.deref-3.ensures.value c.in_ok-check_products.ensures.good in
    let arcs = all_good IsArcInRange arc_row no_arc_row _ _ c.deref-4.ensures.value c.in_ok-check_carriage.ensures.good in
    let orderly = all_good IsOrderly product_row no_product_row _ _ c.deref-5.ensures.value c.in_ok-check_limits.ensures.good in
    let clear = out_next r c.requires.clear (λ n bad. bad.1 (sources n bad.0)) (λ n bad. bad.1 (pools n bad.0)) (λ n bad. bad.1 (products n bad.0)) (λ n bad. bad.1 (arcs n bad.0)) in
    numbered_next LeastAboveMost least_above_most r Memory clear (λ n bad. bad.1 (orderly n bad.0)) refl
