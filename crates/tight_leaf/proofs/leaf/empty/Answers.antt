use Rattle.std.proofs.Common.{◌≡◌, ℕ, ◌<◌, ℤ, pos, ◌<ℤ◌, inr, sym, subst}
use Rattle.std.proofs.lemmas.Result.{err_from_is_err_and}
use Rattle.pool_model.specs.Network.{net_of}
use Rattle.box_space.specs.Views.{shown_box, shown_proof}
use Rattle.exact_num.specs.Fraction.{Fraction}
use Rattle.exact_run.specs.Runs.{IsEmptyMultiplier}
use Rattle.exact_pivots.specs.Views.{program_of, state_of}
use Rattle.common_denominators.specs.Multiples.{IsCoarseIn}
use Rattle.tight_leaf.specs.Causes.{EndsEmpty}
use Rattle.tight_leaf.specs.Proofs.{IsBareProof, IsMultiplierPast}
use Rattle.tight_leaf.proofs.EndMarks.{bare-none}
use Rattle.tight_leaf.proofs.LeafStops.{coarse-stop}
use Rattle.tight_leaf.proofs.Ordered.{program-proper}
use Rattle.tight_leaf.proofs.SolvedEnd.{empty-mult, empty-named, empty-number, empty-order, empty-over}
use Rattle.tight_leaf.proofs.leaf.empty.Goals as goal

pub returns-in_err-proof-clause-stop : goal.returns-in_err-proof-clause-stop
returns-in_err-proof-clause-stop c =
    let p = program_of c.args.leaf.now.program in
    let s = state_of c.args.tableau.now in
    let place = c.args.leaving.place in
    let side = c.args.leaving.side in
    let ends : EndsEmpty p c.args.pivots s place side =
    record { comes = (c.requires.comes.steps, c.requires.comes.few, c.requires.comes.reaches); end = c.args.leaving.end; empty = c.requires.empty } in
    let exit = err_from_is_err_and c.from_residual.result c.from_residual.ensures.1 in
    rw (exit.1, exit.2)
    (coarse-stop (net_of c.args.net.now) c.args.form (shown_box c.args.v.now) p c.args.pivots (IsCoarseIn (IsMultiplierPast p s place side)) (λ times x h. inr (s, place, side, ends, h))
    c.in_err-proof.field-0.0 c.in_err-proof.ensures.stop)

pub is_narrow-requires-clause-order : goal.is_narrow-requires-clause-order
is_narrow-requires-clause-order c =
    let n = net_of c.args.net.now in
    let b = shown_box c.args.v.now in
    let p = program_of c.args.leaf.now.program in
    let s = state_of c.args.tableau.now in
    let place = c.args.leaving.place in
    let side = c.args.leaving.side in
    let proof = shown_proof c.in_ok-proof.proof in
    let bare : IsBareProof n c.args.form (IsMultiplierPast p s place side) proof = c.in_ok-proof.ensures.proof n c.args.form c.requires.rows in
    let one : (r : ℕ) (x y : Fraction) → r < p.rows → IsEmptyMultiplier p s place side r x → IsEmptyMultiplier p s place side r y → x ≡ y =
    λ r x y lt h k. c.empty_law.ensures.one p s place side r x y lt h k in
    empty-order n c.args.form b p c.requires.program s place side one proof bare
    (c.empty_law.ensures.signed p c.requires.comes.steps s place side c.args.leaving.end bare.times (empty-mult n c.args.form b p c.requires.program s place side one proof bare)
    c.requires.comes.reaches c.requires.empty bare.least.positive (empty-over n c.args.form b p c.requires.program s place side one proof bare))

pub is_narrow-requires-clause-shows : goal.is_narrow-requires-clause-shows
is_narrow-requires-clause-shows c = λ none.
    let n = net_of c.args.net.now in
    let b = shown_box c.args.v.now in
    let p = program_of c.args.leaf.now.program in
    let s = state_of c.args.tableau.now in
    let place = c.args.leaving.place in
    let side = c.args.leaving.side in
    let proof = shown_proof c.in_ok-proof.proof in
    let bare : IsBareProof n c.args.form (IsMultiplierPast p s place side) proof = c.in_ok-proof.ensures.proof n c.args.form c.requires.rows in
    let one : (r : ℕ) (x y : Fraction) → r < p.rows → IsEmptyMultiplier p s place side r x → IsEmptyMultiplier p s place side r y → x ≡ y =
    λ r x y lt h k. c.empty_law.ensures.one p s place side r x y lt h k in
    subst (λ (z : ℤ). pos 0 <ℤ z) (sym (empty-number n c.args.form b p c.requires.program s place side one proof bare))
    (c.empty_law.ensures.number p c.requires.comes.steps s place side c.args.leaving.end bare.times (empty-mult n c.args.form b p c.requires.program s place side one proof bare)
    (program-proper n b c.requires.view.proper c.args.form p c.requires.program) c.requires.comes.reaches c.requires.empty bare.least.positive
    (empty-over n c.args.form b p c.requires.program s place side one proof bare))

pub returns-then-is_narrow-clause-mark : goal.returns-then-is_narrow-clause-mark
returns-then-is_narrow-clause-mark c = λ bound.
    let n = net_of c.args.net.now in
    let b = shown_box c.args.v.now in
    let p = program_of c.args.leaf.now.program in
    let s = state_of c.args.tableau.now in
    let place = c.args.leaving.place in
    let side = c.args.leaving.side in
    let proof = shown_proof c.in_ok-proof.proof in
    let bare : IsBareProof n c.args.form (IsMultiplierPast p s place side) proof = c.in_ok-proof.ensures.proof n c.args.form c.requires.rows in
    let one : (r : ℕ) (x y : Fraction) → r < p.rows → IsEmptyMultiplier p s place side r x → IsEmptyMultiplier p s place side r y → x ≡ y =
    λ r x y lt h k. c.empty_law.ensures.one p s place side r x y lt h k in
    record {
      named = empty-named n c.args.form b p c.requires.program s place side one proof bare;
      ordered = c.is_narrow.ensures.narrow c.if-is_narrow.true;
      shows = bare-none n b proof bare.scale;
    }
