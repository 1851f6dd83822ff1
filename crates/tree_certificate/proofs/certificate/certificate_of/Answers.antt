use Rattle.std.proofs.Common.{length, map, option_map, sym, subst, ◌∙◌}
use Rattle.std.proofs.lemmas.List.{length-map}
use Rattle.pool_model.specs.Network.{net_of}
use Rattle.pool_model.proofs.Sizes.{reach-most}
use Rattle.plan_core.specs.Views.{shown_plan}
use Rattle.box_space.specs.Views.{shown_proof, shown_split}
use Rattle.box_tree.specs.Kept.{searched_of}
use Rattle.cert_format.specs.Cert.{IsShaped}
use Rattle.cert_format.specs.Valid.{IsValid}
use Rattle.cert_format.specs.Views.{shown_claim, shown_node_proof}
use Rattle.row_book.proofs.RowCount.{few-rows}
use Rattle.cert_lengths.proofs.ValidTexts.{short_enough}
use Rattle.tree_certificate.proofs.Found.{found_cert, found_shaped, found_valid, held_bound, tree_low}
use Rattle.tree_certificate.proofs.certificate.certificate_of.Goals as goal

pub claim_of-requires-clause-written : goal.claim_of-requires-clause-written
claim_of-requires-clause-written c = λ x e. c.requires.kept.searched.written x (sym (c.plan_of.ensures ∙ c.into_parts-parts.ensures.plan) ∙ e)

pub claim_of-requires-clause-obeys : goal.claim_of-requires-clause-obeys
claim_of-requires-clause-obeys c = λ x e. c.requires.kept.searched.obeys x (sym (c.plan_of.ensures ∙ c.into_parts-parts.ensures.plan) ∙ e)

pub claim_of-requires-clause-holds : goal.claim_of-requires-clause-holds
claim_of-requires-clause-holds c =
    held_bound (net_of c.args.net.now) c.bound-bound.result (c.bound-bound.ensures.costs (net_of c.args.net.now) c.counts-shape.ensures.limited c.requires)

pub claim_of-requires-clause-low : goal.claim_of-requires-clause-low
claim_of-requires-clause-low c =
    let n = net_of c.args.net.now in
    tree_low n (searched_of c.args.tree.kept).tree c.bound-bound.result
    (reach-most n c.counts-shape.ensures.limited) (c.bound-bound.ensures.bound n c.requires)

pub cert_law-requires : goal.cert_law-requires
cert_law-requires c =
    let n = net_of c.args.net.now in
    let k = c.args.tree.kept in
    let held = map (option_map shown_proof) c.into_parts-parts.result.proofs.items in
    let found = found_cert n k c.counts-shape.result (shown_claim c.claim_of.result) (option_map shown_plan c.plan_of.result) c.bound-bound.result
    (map shown_split c.into_parts-parts.result.splits.items)
    (map shown_node_proof c.in_ok-node_proofs.field-0.items) held (length c.into_parts-parts.result.proofs.items) c.counts-shape.ensures.counts
    c.claim_of.ensures (c.plan_of.ensures ∙ c.into_parts-parts.ensures.plan)
    (c.bound-bound.ensures.bound n c.requires) c.into_parts-parts.ensures.splits c.in_ok-node_proofs.ensures (sym (length-map c.into_parts-parts.result.proofs.items (option_map shown_proof)))
    c.into_parts-parts.ensures.proofs c.requires.kept.proved in
    subst IsShaped (sym found) (found_shaped n (searched_of k) (few-rows n c.counts-shape.ensures.limited c.counts-shape.ensures.paths) c.requires.kept.searched)

pub returns-clause-found : goal.returns-clause-found
returns-clause-found c =
    let n = net_of c.args.net.now in
    let k = c.args.tree.kept in
    let held = map (option_map shown_proof) c.into_parts-parts.result.proofs.items in
    found_cert n k c.counts-shape.result (shown_claim c.claim_of.result) (option_map shown_plan c.plan_of.result) c.bound-bound.result (map shown_split c.into_parts-parts.result.splits.items)
    (map shown_node_proof c.in_ok-node_proofs.field-0.items) held (length c.into_parts-parts.result.proofs.items) c.counts-shape.ensures.counts
    c.claim_of.ensures (c.plan_of.ensures ∙ c.into_parts-parts.ensures.plan)
    (c.bound-bound.ensures.bound n c.requires) c.into_parts-parts.ensures.splits c.in_ok-node_proofs.ensures (sym (length-map c.into_parts-parts.result.proofs.items (option_map shown_proof)))
    c.into_parts-parts.ensures.proofs c.requires.kept.proved

pub returns-clause-valid : goal.returns-clause-valid
returns-clause-valid c =
    let n = net_of c.args.net.now in
    let k = c.args.tree.kept in
    let held = map (option_map shown_proof) c.into_parts-parts.result.proofs.items in
    let found = found_cert n k c.counts-shape.result (shown_claim c.claim_of.result) (option_map shown_plan c.plan_of.result) c.bound-bound.result
    (map shown_split c.into_parts-parts.result.splits.items)
    (map shown_node_proof c.in_ok-node_proofs.field-0.items) held (length c.into_parts-parts.result.proofs.items) c.counts-shape.ensures.counts
    c.claim_of.ensures (c.plan_of.ensures ∙ c.into_parts-parts.ensures.plan)
    (c.bound-bound.ensures.bound n c.requires) c.into_parts-parts.ensures.splits c.in_ok-node_proofs.ensures (sym (length-map c.into_parts-parts.result.proofs.items (option_map shown_proof)))
    c.into_parts-parts.ensures.proofs c.requires.kept.proved in
    subst (IsValid n) (sym found) (found_valid n (searched_of k) c.counts-shape.ensures.limited c.requires.kept.searched)

pub returns-clause-short : goal.returns-clause-short
returns-clause-short c = λ few. short_enough (net_of c.args.net.now) _ c.counts-shape.ensures.limited c.cert_law.ensures (returns-clause-valid c) few
