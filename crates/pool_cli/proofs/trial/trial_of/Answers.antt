use Rattle.std.proofs.Common.{FitsSigned, rules, sym, ap, subst, ◌∙◌}
use Rattle.std.proofs.lemmas.Int.{to_z-of_z}
use mir.Syntax.{w128}
use Rattle.pool_model.specs.Network.{net_of}
use Rattle.cert_checker.specs.Answers.{IsAccepted}
use Rattle.pool_model.specs.Claim.{Claimed}
use Rattle.plan_core.specs.Views.{shown_plan}
use Rattle.cert_format.specs.Views.{shown_cert, shown_claim}
use Rattle.cert_format.specs.Text.{text_of}
use Rattle.search_run.specs.declared.orders.Orders.{Orders}
use Rattle.solve_command.specs.Solution.{IsSolution, status_of}
use Rattle.run_status.specs.Messages.{code_of}
use Rattle.pool_cli.proofs.Trials.{planned-gap, solution-planned, told-of}
use Rattle.pool_cli.proofs.trial.trial_of.Goals as goal

pub unreachable-requires : goal.unreachable-requires
unreachable-requires c =
    let n = net_of c.args.network.now in
    let s = c.in_ok-solution.solution in
    planned-gap (shown_cert s.certificate).claim c.in_ok-cost.field-0 (solution-planned n c.orders.result (status_of s.ended)
    (shown_cert s.certificate) c.requires c.in_ok-solution.ensures.solved) c.in_ok-cost.ensures.numbers c.in-Bound.is

pub returns : goal.returns
returns c =
    let n = net_of c.args.network.now in
    let s = c.in_ok-solution.solution in
    let claim = (shown_cert s.certificate).claim in
    let cost : FitsSigned w128 c.in-Gap.cost = search rules in
    let bound : FitsSigned w128 c.in-Gap.bound = search rules in
    let gap : FitsSigned w128 c.in-Gap.gap = search rules in
    simp to_z-of_z
    (record {
      tried = record {
        status = status_of s.ended;
        certificate = shown_cert s.certificate;
        solution = subst (λ (o : Orders). IsSolution n o (status_of s.ended) (shown_cert s.certificate)) c.orders.ensures.orders c.in_ok-solution.ensures.solved;
        accepted = subst (λ (x : Claimed). IsAccepted n (text_of (shown_cert s.certificate)) x) c.in_ok-cost.ensures.numbers c.in_ok-cost.ensures.accepted;
        told = told-of (status_of s.ended) claim (shown_plan c.in-Gap.plan) c.in-Gap.cost c.in-Gap.bound c.in-Gap.gap c.in-Gap.base c.code.result
            (sym (ap shown_claim c.in-Gap.is) ∙ c.in_ok-cost.ensures.numbers) (c.code.ensures ∙ ap code_of c.ended_status.ensures);
      };
    })
