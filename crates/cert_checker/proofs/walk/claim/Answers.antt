-- The numbers of a claim, one after another.
use Rattle.std.proofs.Common.{◌∷◌, [], sym, ap, subst, ◌∙◌, rules, FitsSigned, to_z-of_z}
use mir.Syntax.{w128}
use Rattle.std.proofs.lemmas.Result.{err_from_is_err_and}
use Rattle.pool_model.specs.Claim.{no_plan}
use Rattle.cert_items.specs.declared.items.State.{State}
use Rattle.cert_items.specs.declared.items.State.TheVariants as states
use Rattle.cert_stream.specs.Items.{cost_is, bound_is, gap_is, claim_state}
use Rattle.cert_checker.specs.declared.opening.Opening.{Opening}
use Rattle.proof_lines.specs.Grammar.{behind_item, gap_item}
use Rattle.cert_checker.specs.Parts.{IsClaimOf, opening_kind}
use Rattle.proof_lines.specs.Runs.{Moment, moment, Run, IsReady}
use Rattle.cert_checker.proofs.Claiming.{claims-gap}
use Rattle.proof_lines.proofs.Running.{failed-then, run-then, run-none}
use Rattle.cert_checker.proofs.walk.claim.Goals as goal

pub returns-in_err-bound-in-Gap : goal.returns-in_err-bound-in-Gap
returns-in_err-bound-in-Gap g c =
    let m : Moment = moment c.args.reader.now (g.S.Shelf.told c.args.shelf.now) in
    let k : Moment = moment c.cost_pair.new.reader (g.S.Shelf.told c.cost_pair.new.shelf) in
    let l : Moment = moment c.bound_number.new.reader (g.S.Shelf.told c.bound_number.new.shelf) in
    let p = err_from_is_err_and c.from_residual-in_err-bound-in-Gap.result c.from_residual-in_err-bound-in-Gap.ensures.1 in
    rw (p.1, p.2) (failed-then m k l _ c.in_err-bound-in-Gap.field-0.0 c.in_ok-cost-in-Gap.ensures.0 c.in_err-bound-in-Gap.ensures)

pub returns-in_err-gap-in-Gap : goal.returns-in_err-gap-in-Gap
returns-in_err-gap-in-Gap g c =
    let m : Moment = moment c.args.reader.now (g.S.Shelf.told c.args.shelf.now) in
    let k : Moment = moment c.cost_pair.new.reader (g.S.Shelf.told c.cost_pair.new.shelf) in
    let l : Moment = moment c.bound_number.new.reader (g.S.Shelf.told c.bound_number.new.shelf) in
    let j : Moment = moment c.gap_number.new.reader (g.S.Shelf.told c.gap_number.new.shelf) in
    let p = err_from_is_err_and c.from_residual-in_err-gap-in-Gap.result c.from_residual-in_err-gap-in-Gap.ensures.1 in
    rw (p.1, p.2) (failed-then m l j _ c.in_err-gap-in-Gap.field-0.0 (run-then m k l _ _ c.in_ok-cost-in-Gap.ensures.0 c.in_ok-bound-in-Gap.ensures.0) c.in_err-gap-in-Gap.ensures)

pub returns-in_ok-gap-in-Gap : goal.returns-in_ok-gap-in-Gap
returns-in_ok-gap-in-Gap g c =
    let m : Moment = moment c.args.reader.now (g.S.Shelf.told c.args.shelf.now) in
    let k : Moment = moment c.cost_pair.new.reader (g.S.Shelf.told c.cost_pair.new.shelf) in
    let l : Moment = moment c.bound_number.new.reader (g.S.Shelf.told c.bound_number.new.shelf) in
    let j : Moment = moment c.gap_number.new.reader (g.S.Shelf.told c.gap_number.new.shelf) in
    let run = run-then m k j _ _ c.in_ok-cost-in-Gap.ensures.0 (run-then k l j _ _ c.in_ok-bound-in-Gap.ensures.0 c.in_ok-gap-in-Gap.ensures.0) in
    let n = c.in_ok-cost-in-Gap.cost in
    let b = c.in_ok-cost-in-Gap.base in
    let f : FitsSigned w128 n = search rules in
    let h : FitsSigned w128 c.in_ok-bound-in-Gap.bound = search rules in
    let x : FitsSigned w128 c.in_ok-gap-in-Gap.gap = search rules in
    let s0 = c.requires.ready.at ∙ ap (λ (o : Opening). claim_state (opening_kind o)) c.in-Gap.is in
    let s1 = c.in_ok-cost-in-Gap.ensures.1.at ∙ ap (λ (s : State). behind_item s (cost_is n b)) s0 in
    let s2 = c.in_ok-bound-in-Gap.ensures.1.at ∙ ap (λ (s : State). behind_item s (bound_is c.in_ok-bound-in-Gap.bound)) s1 in
    let s3 = ap (λ (s : State). behind_item s (gap_item s c.in_ok-gap-in-Gap.gap)) s2 in
    let all : Run m j (cost_is n b ∷ bound_is c.in_ok-bound-in-Gap.bound ∷ gap_is c.in_ok-gap-in-Gap.gap b ∷ []) =
    subst (λ (s : State). Run m j (cost_is n b ∷ bound_is c.in_ok-bound-in-Gap.bound ∷ gap_item s c.in_ok-gap-in-Gap.gap ∷ [])) s2 run in
    let ready : IsReady j states.End = subst (IsReady j) s3 c.in_ok-gap-in-Gap.ensures.1 in
    simp to_z-of_z (claims-gap c.args.opening c.in-Gap.plan c.in-Gap.field-1 m j n b c.in_ok-bound-in-Gap.bound c.in_ok-gap-in-Gap.gap c.in-Gap.is all ready)

pub returns-in-NoPlan : goal.returns-in-NoPlan
returns-in-NoPlan g c =
    let m : Moment = moment c.args.reader.now (g.S.Shelf.told c.args.shelf.now) in
    record {
      run = run-none m c.requires.ready.used_up;
      ready = subst (λ (o : Opening). IsReady m (claim_state (opening_kind o))) c.in-NoPlan.is c.requires.ready;
      is = subst (λ (o : Opening). IsClaimOf o no_plan) (sym c.in-NoPlan.is) tt;
    }
