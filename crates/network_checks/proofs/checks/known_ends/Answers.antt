use Rattle.network_parts.specs.Parts.{rows_of}
use Rattle.network_checks.proofs.Refusals.{handed}
use Rattle.network_checks.proofs.ArcRefusals.{unknown_first, unknown_next, forward_first, forward_next, layers_first, layers_next, repeats_first, repeats_next}
use Rattle.network_checks.proofs.checks.known_ends.Goals as goal

pub returns-in_err-ends-clause-fault : goal.returns-in_err-ends-clause-fault
returns-in_err-ends-clause-fault c =
    let r = rows_of c.args.parts.now in
    handed r c.from_residual.result c.in_err-ends.field-0.0 c.from_residual.ensures.1 (unknown_first r _ c.requires.clear c.in_err-ends.ensures.first)

pub returns-in_err-check_forward-clause-fault : goal.returns-in_err-check_forward-clause-fault
returns-in_err-check_forward-clause-fault c =
    let r = rows_of c.args.parts.now in
    let are = c.in_ok-ends.ensures.ends in
    let one = unknown_next r _ are c.requires.clear in
    handed r c.from_residual-in_err-check_forward.result c.in_err-check_forward.field-0.0 c.from_residual-in_err-check_forward.ensures.1
    (forward_first r _ _ _ c.deref.ensures.value c.requires.distinct are one c.in_err-check_forward.ensures.first)

pub returns-in_err-check_layers-clause-fault : goal.returns-in_err-check_layers-clause-fault
returns-in_err-check_layers-clause-fault c =
    let r = rows_of c.args.parts.now in
    let are = c.in_ok-ends.ensures.ends in
    let two = forward_next r _ _ c.deref.ensures.value c.requires.distinct are (unknown_next r _ are c.requires.clear) c.in_ok-check_forward.ensures.none in
    handed r c.from_residual-in_err-check_layers.result c.in_err-check_layers.field-0.0 c.from_residual-in_err-check_layers.ensures.1
    (layers_first r _ _ _ c.deref-2.ensures.value c.requires.distinct are two c.in_err-check_layers.ensures.first)

pub returns-in_err-check_repeats-clause-fault : goal.returns-in_err-check_repeats-clause-fault
returns-in_err-check_repeats-clause-fault c =
    let r = rows_of c.args.parts.now in
    let are = c.in_ok-ends.ensures.ends in
    let two = forward_next r _ _ c.deref.ensures.value c.requires.distinct are (unknown_next r _ are c.requires.clear) c.in_ok-check_forward.ensures.none in
    let three = layers_next r _ _ c.deref-2.ensures.value c.requires.distinct are two c.in_ok-check_layers.ensures.none in
    handed r c.from_residual-in_err-check_repeats.result c.in_err-check_repeats.field-0.0 c.from_residual-in_err-check_repeats.ensures.1
    (repeats_first r _ _ _ c.deref-3.ensures.value c.requires.distinct are three c.in_err-check_repeats.ensures.first)

pub returns-clause-clear : goal.returns-clause-clear
returns-clause-clear c =
    let r = rows_of c.args.parts.now in
    let are = c.in_ok-ends.ensures.ends in
    let two = forward_next r _ _ c.deref.ensures.value c.requires.distinct are (unknown_next r _ are c.requires.clear) c.in_ok-check_forward.ensures.none in
    let three = layers_next r _ _ c.deref-2.ensures.value c.requires.distinct are two c.in_ok-check_layers.ensures.none in
    repeats_next r _ _ c.deref-3.ensures.value are three c.in_ok-check_repeats.ensures.none
