use Rattle.std.proofs.Common.{◌≡◌, length, arith}
use Rattle.std.proofs.lemmas.List.{length-map}
use Rattle.network_parts.specs.Parts.{rows_of, pool_row}
use Rattle.network_checks.proofs.Refusals.{handed}
use Rattle.network_checks.proofs.ArcRefusals.{inputs_first, inputs_next, outputs_first, outputs_next, many_paths_first, few_paths_next}
use Rattle.network_checks.proofs.checks.check_arcs.Goals as goal

pub returns-in_err-check_inputs-clause-fault : goal.returns-in_err-check_inputs-clause-fault
returns-in_err-check_inputs-clause-fault c =
    let r = rows_of c.args.parts.now in
    let arcs = c.args.arcs.now in
    let count : c.len-pools.result ≡ length (rows_of c.args.parts.now).pools = omega (arith, c.len-pools.ensures, length-map c.args.parts.now.pools.items pool_row) in
    handed r c.from_residual.result c.in_err-check_inputs.field-0.0 c.from_residual.ensures.1
    (inputs_first r arcs _ _ _ count c.deref.ensures.value c.requires.found c.requires.clear c.in_err-check_inputs.ensures.first)

pub returns-in_err-check_outputs-clause-fault : goal.returns-in_err-check_outputs-clause-fault
returns-in_err-check_outputs-clause-fault c =
    let r = rows_of c.args.parts.now in
    let arcs = c.args.arcs.now in
    let count : c.len-pools.result ≡ length (rows_of c.args.parts.now).pools = omega (arith, c.len-pools.ensures, length-map c.args.parts.now.pools.items pool_row) in
    let one = inputs_next r arcs _ _ count c.deref.ensures.value c.requires.found c.requires.clear c.in_ok-check_inputs.ensures.none in
    handed r c.from_residual-in_err-check_outputs.result c.in_err-check_outputs.field-0.0 c.from_residual-in_err-check_outputs.ensures.1
    (outputs_first r arcs _ _ _ count c.deref-2.ensures.value c.requires.found one c.in_err-check_outputs.ensures.first)

pub returns-in_err-check_paths-clause-fault : goal.returns-in_err-check_paths-clause-fault
returns-in_err-check_paths-clause-fault c =
    let r = rows_of c.args.parts.now in
    let arcs = c.args.arcs.now in
    let count : c.len-pools.result ≡ length (rows_of c.args.parts.now).pools = omega (arith, c.len-pools.ensures, length-map c.args.parts.now.pools.items pool_row) in
    let one = inputs_next r arcs _ _ count c.deref.ensures.value c.requires.found c.requires.clear c.in_ok-check_inputs.ensures.none in
    let two = outputs_next r arcs _ _ count c.deref-2.ensures.value c.requires.found one c.in_ok-check_outputs.ensures.none in
    handed r c.from_residual-in_err-check_paths.result c.in_err-check_paths.field-0.0 c.from_residual-in_err-check_paths.ensures.1
    (many_paths_first r arcs _ _ c.deref-3.ensures.value c.requires.found two c.in_err-check_paths.ensures.many)

pub returns-clause-clear : goal.returns-clause-clear
returns-clause-clear c =
    let r = rows_of c.args.parts.now in
    let arcs = c.args.arcs.now in
    let count : c.len-pools.result ≡ length (rows_of c.args.parts.now).pools = omega (arith, c.len-pools.ensures, length-map c.args.parts.now.pools.items pool_row) in
    let one = inputs_next r arcs _ _ count c.deref.ensures.value c.requires.found c.requires.clear c.in_ok-check_inputs.ensures.none in
    let two = outputs_next r arcs _ _ count c.deref-2.ensures.value c.requires.found one c.in_ok-check_outputs.ensures.none in
    few_paths_next r arcs _ c.deref-3.ensures.value c.requires.found two c.in_ok-check_paths.ensures.few
