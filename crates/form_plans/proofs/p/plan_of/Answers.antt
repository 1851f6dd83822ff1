use Rattle.std.proofs.Common.{◌≡◌, ◌/◌, inl, inr, refl}
use Rattle.std.proofs.lemmas.Bool.{false≢true}
use Rattle.pool_model.specs.Network.{net_of}
use Rattle.plan_core.specs.Views.{shown_plan}
use Rattle.plan_core.specs.declared.plan.WrittenPlan.{WrittenPlan}
use Rattle.form_plans.specs.Made.{IsMade}
use Rattle.form_plans.specs.Taken.{HasPlanOfP, IsFaultOfP, IsQualPlan}
use Rattle.form_plans.specs.declared.fault.FormFault.{FormFault}
use Rattle.form_plans.specs.declared.fault.FormFault.TheVariants.{Memory}
use Rattle.form_plans.proofs.FlowBases.{above, base-fine, base-too_fine, directs-fine, outs-fine, positive}
use Rattle.form_plans.proofs.Outcomes.{ok-more, ok-any, err-more, memory-of_p}
use Rattle.form_plans.proofs.QualPlans.{flow_lists, held-point, made-keeps, parts-fine, parts_too_fine-seen, parts_too_fine-shown, point-flows, point-held, too_fine-seen, too_fine-shown, whole-parts}
use Rattle.form_plans.proofs.p.plan_of.Goals as goal

pub returns-then-not-is_qual_point-clause-fault : goal.returns-then-not-is_qual_point-clause-fault
returns-then-not-is_qual_point-clause-fault c =
    λ held. false≢true (c.if-not-is_qual_point.ensures.point.1 (held-point (net_of c.args.net.now) c.args.point.now c.qual_slices-lists.result c.qual_slices-lists.ensures held))

pub flow_divisor-divisor-requires : goal.flow_divisor-divisor-requires
flow_divisor-divisor-requires c = (c.if-not-is_qual_point.ensures.point.0 refl).shape.bases.base

pub is_fine-requires : goal.is_fine-requires
is_fine-requires c =
    let n = net_of c.args.net.now in
    let s = c.qual_slices-lists.result in
    positive n s.flows c.flow_divisor-divisor.result (flow_lists n s (c.if-not-is_qual_point.ensures.point.0 refl)) c.flow_divisor-divisor.ensures

pub returns-then-not-is_fine-clause-fault : goal.returns-then-not-is_fine-clause-fault
returns-then-not-is_fine-clause-fault c =
    let n = net_of c.args.net.now in
    let q = c.args.point.now in
    let s = c.qual_slices-lists.result in
    let g = c.flow_divisor-divisor.result in
    let p = c.if-not-is_qual_point.ensures.point.0 refl in (
      point-held n q s c.qual_slices-lists.ensures p,
      inl (too_fine-shown n q s c.qual_slices-lists.ensures (base-too_fine n s.flows g (flow_lists n s p) c.flow_divisor-divisor.ensures (above (s.flows.base / g) c.if-not-is_fine.ensures.1))),
    )

pub part_base-requires-clause-flows : goal.part_base-requires-clause-flows
part_base-requires-clause-flows c = point-flows (net_of c.args.net.now) c.qual_slices-lists.result c.if-not-is_qual_point.ensures.limited (c.if-not-is_qual_point.ensures.point.0 refl)

pub part_base-requires-clause-carries : goal.part_base-requires-clause-carries
part_base-requires-clause-carries c = (c.if-not-is_qual_point.ensures.point.0 refl).point.carries

pub returns-in_default-clause-fault : goal.returns-in_default-clause-fault
returns-in_default-clause-fault c =
    let n = net_of c.args.net.now in
    let q = c.args.point.now in
    let s = c.qual_slices-lists.result in
    let p = c.if-not-is_qual_point.ensures.point.0 refl in (
      point-held n q s c.qual_slices-lists.ensures p,
      inr (parts_too_fine-shown n q s c.qual_slices-lists.ensures c.in_default.ensures.too_fine),
    )

pub weights-requires-clause-flows : goal.weights-requires-clause-flows
weights-requires-clause-flows c = point-flows (net_of c.args.net.now) c.qual_slices-lists.result c.if-not-is_qual_point.ensures.limited (c.if-not-is_qual_point.ensures.point.0 refl)

pub weights-requires-clause-carries : goal.weights-requires-clause-carries
weights-requires-clause-carries c = (c.if-not-is_qual_point.ensures.point.0 refl).point.carries

pub weights-requires-clause-whole : goal.weights-requires-clause-whole
weights-requires-clause-whole c = whole-parts (net_of c.args.net.now) c.qual_slices-lists.result c.in-Some.base c.in-Some.ensures.least

pub made-requires-clause-positive : goal.made-requires-clause-positive
made-requires-clause-positive c =
    let n = net_of c.args.net.now in
    let s = c.qual_slices-lists.result in
    positive n s.flows c.flow_divisor-divisor.result (flow_lists n s (c.if-not-is_qual_point.ensures.point.0 refl)) c.flow_divisor-divisor.ensures

pub made-requires-clause-base : goal.made-requires-clause-base
made-requires-clause-base c = c.if-not-is_fine.ensures.0 refl

pub made-requires-clause-outs : goal.made-requires-clause-outs
made-requires-clause-outs c =
    let n = net_of c.args.net.now in
    let s = c.qual_slices-lists.result in
    let p = c.if-not-is_qual_point.ensures.point.0 refl in
    outs-fine n s.flows c.flow_divisor-divisor.result (flow_lists n s p) c.flow_divisor-divisor.ensures c.if-not-is_qual_point.ensures.limited p.point.carries (c.if-not-is_fine.ensures.0 refl)

pub made-requires-clause-directs : goal.made-requires-clause-directs
made-requires-clause-directs c =
    let n = net_of c.args.net.now in
    let s = c.qual_slices-lists.result in
    let p = c.if-not-is_qual_point.ensures.point.0 refl in
    directs-fine n s.flows c.flow_divisor-divisor.result (flow_lists n s p) c.flow_divisor-divisor.ensures c.if-not-is_qual_point.ensures.limited p.point.carries (c.if-not-is_fine.ensures.0 refl)

pub returns-clause-plan : goal.returns-clause-plan
returns-clause-plan c =
    let n = net_of c.args.net.now in
    let q = c.args.point.now in
    let s = c.qual_slices-lists.result in
    let g = c.flow_divisor-divisor.result in
    let base = c.in-Some.base in
    let weights = c.in_ok-parts.parts.items in
    let p = c.if-not-is_qual_point.ensures.point.0 refl in
    ok-more c.made.result (λ (w : WrittenPlan). IsMade s.flows g base weights (shown_plan w)) (λ (w : WrittenPlan). IsQualPlan n q (shown_plan w))
    (λ w made. made-keeps n q s g base weights (shown_plan w) c.if-not-is_qual_point.ensures.limited c.qual_slices-lists.ensures p
    c.flow_divisor-divisor.ensures c.in-Some.ensures.least c.in_ok-parts.ensures made
    (c.if-not-is_fine.ensures.0 refl) c.in-Some.ensures.small)
    c.made.ensures.made

pub returns-clause-has_plan : goal.returns-clause-has_plan
returns-clause-has_plan c =
    let n = net_of c.args.net.now in
    let q = c.args.point.now in
    let s = c.qual_slices-lists.result in
    let g = c.flow_divisor-divisor.result in
    let p = c.if-not-is_qual_point.ensures.point.0 refl in
    ok-any c.made.result (HasPlanOfP n q) (
      point-held n q s c.qual_slices-lists.ensures p,
      λ fine. base-fine n s.flows g (flow_lists n s p) c.flow_divisor-divisor.ensures (c.if-not-is_fine.ensures.0 refl) (too_fine-seen n q s c.qual_slices-lists.ensures fine),
      λ fine. parts-fine n s c.in-Some.base c.in-Some.ensures.least c.in-Some.ensures.small (parts_too_fine-seen n q s c.qual_slices-lists.ensures fine),
    )

pub returns-clause-fault : goal.returns-clause-fault
returns-clause-fault c =
    let n = net_of c.args.net.now in
    let q = c.args.point.now in
    err-more c.made.result (λ (f : FormFault). f ≡ Memory) (IsFaultOfP n q) (λ f e. memory-of_p n q f e) c.made.ensures.memory
