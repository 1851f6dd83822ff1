use Rattle.std.proofs.Common.{◌≡◌, ◌∙◌, ℕ, ◌<◌, inl, inr, ℤ, pos, ◌*ℤ◌, FitsSigned, rules, sym, subst}
use Rattle.std.proofs.lemmas.Int.{to_z-of_z}
use mir.Syntax.{w128}
use Rattle.std.specs.Int.{int_div_euclid}
use Rattle.std.proofs.lemmas.Result.{err_from_is_err_and}
use Rattle.pool_model.specs.Network.{net_of}
use Rattle.row_model.specs.Multipliers.{number}
use Rattle.box_space.specs.Views.{shown_box, shown_proof}
use Rattle.exact_num.specs.Fraction.{Fraction}
use Rattle.exact_run.specs.Runs.{IsSolvedMultiplier}
use Rattle.exact_pivots.specs.Views.{program_of, state_of}
use Rattle.common_denominators.specs.Multiples.{IsCoarseIn}
use Rattle.relaxation_points.specs.Points.{IsLight, IsWitness, Meets, cost_value}
use Rattle.relaxation_points.specs.Views.{HasShape, shown_point}
use Rattle.tight_leaf.specs.Causes.{EndsSolved}
use Rattle.tight_leaf.specs.Points.{IsCoarseValue, IsPointOf}
use Rattle.tight_leaf.specs.Proofs.{IsMultiplier, IsScaledProof}
use Rattle.tight_leaf.proofs.EndMarks.{is-raised, scaled-shows}
use Rattle.tight_leaf.proofs.LeafComes.{not_both}
use Rattle.tight_leaf.proofs.LeafStops.{coarse-stop}
use Rattle.tight_leaf.proofs.Ordered.{program-proper}
use Rattle.tight_leaf.proofs.SolvedEnd.{point-meets, solved-adds, solved-mult, solved-named, solved-order, solved-over, values-over}
use Rattle.tight_leaf.proofs.leaf.solved.Goals as goal

pub returns-in_err-point-clause-stop : goal.returns-in_err-point-clause-stop
returns-in_err-point-clause-stop c =
    let p = program_of c.args.leaf.now.program in
    let s = state_of c.args.tableau.now in
    let ends : EndsSolved p c.args.pivots s = record { comes = (c.requires.comes.steps, c.requires.comes.few, c.requires.comes.reaches); solved = c.requires.solved } in
    let exit = err_from_is_err_and c.from_residual.result c.from_residual.ensures.1 in
    rw (exit.1, exit.2)
    (coarse-stop (net_of c.args.net.now) c.args.form (shown_box c.args.v.now) p c.args.pivots (IsCoarseValue p s) (λ times x h. inl (s, ends, inl h)) c.in_err-point.field-0.0
    c.in_err-point.ensures.stop)

pub returns-in_err-proof-clause-stop : goal.returns-in_err-proof-clause-stop
returns-in_err-proof-clause-stop c =
    let p = program_of c.args.leaf.now.program in
    let s = state_of c.args.tableau.now in
    let ends : EndsSolved p c.args.pivots s = record { comes = (c.requires.comes.steps, c.requires.comes.few, c.requires.comes.reaches); solved = c.requires.solved } in
    let exit = err_from_is_err_and c.from_residual-in_err-proof.result c.from_residual-in_err-proof.ensures.1 in
    rw (exit.1, exit.2)
    (coarse-stop (net_of c.args.net.now) c.args.form (shown_box c.args.v.now) p c.args.pivots (IsCoarseIn (IsMultiplier p s)) (λ times x h. inl (s, ends, inr h)) c.in_err-proof.field-0.0
    c.in_err-proof.ensures.stop)

pub is_narrow-requires-clause-order : goal.is_narrow-requires-clause-order
is_narrow-requires-clause-order c =
    let n = net_of c.args.net.now in
    let p = program_of c.args.leaf.now.program in
    let s = state_of c.args.tableau.now in
    let proof = shown_proof c.in_ok-proof.proof in
    let scaled : IsScaledProof n c.args.form (IsMultiplier p s) proof = c.in_ok-proof.ensures.proof n c.args.form c.requires.rows in
    let one : (r : ℕ) (x y : Fraction) → r < p.rows → IsSolvedMultiplier p s r x → IsSolvedMultiplier p s r y → x ≡ y = λ r x y lt h k. c.multipliers_law.ensures.one p s r x y lt h k in
    solved-order n c.args.form (shown_box c.args.v.now) p c.requires.program s one proof scaled
    (c.multipliers_law.ensures.signed p c.requires.comes.steps s proof.scale (solved-mult n c.args.form (shown_box c.args.v.now) p c.requires.program s one proof scaled) c.requires.comes.reaches
    scaled.least.positive (solved-over n c.args.form (shown_box c.args.v.now) p c.requires.program s one proof scaled))

pub returns-then-is_narrow-clause-mark : goal.returns-then-is_narrow-clause-mark
returns-then-is_narrow-clause-mark c =
    let n = net_of c.args.net.now in
    let b = shown_box c.args.v.now in
    let form = c.args.form in
    let p = program_of c.args.leaf.now.program in
    let s = state_of c.args.tableau.now in
    let q = shown_point c.in_ok-point.point in
    let proof = shown_proof c.in_ok-proof.proof in
    let point : IsPointOf p s q = c.in_ok-point.ensures.point in
    let scaled : IsScaledProof n form (IsMultiplier p s) proof = c.in_ok-proof.ensures.proof n form c.requires.rows in
    let one : (r : ℕ) (x y : Fraction) → r < p.rows → IsSolvedMultiplier p s r x → IsSolvedMultiplier p s r y → x ≡ y = λ r x y lt h k. c.multipliers_law.ensures.one p s r x y lt h k in
    let proper = program-proper n b c.requires.view.proper form p c.requires.program in
    let values = values-over n form b p c.requires.program s q point in
    let met : Meets n form b q =
    point-meets n form b p c.requires.program s q point (c.point_law.ensures.meets p c.requires.comes.steps s q.base q.value proper c.requires.comes.reaches c.requires.solved point.base.positive values) in
    let adds : number n b proof *ℤ pos q.base ≡ pos proof.scale *ℤ cost_value n q =
    solved-adds n form b p c.requires.program s one proof scaled q
    (c.multipliers_law.ensures.number p c.requires.comes.steps s proof.scale q.base (solved-mult n form b p c.requires.program s one proof scaled) q.value proper c.requires.comes.reaches
    scaled.least.positive (solved-over n form b p c.requires.program s one proof scaled) point.base.positive values) in
    let light : IsLight n form b q = c.is_light.ensures.0 c.if-not-is_light.false in
    let shape : HasShape n c.in_ok-point.point = record { base = point.base.positive; values = c.in_ok-point.ensures.length ∙ c.requires.program.variables } in
    let wide : FitsSigned w128 c.args.bound = search rules in
    let none : ¬ IsWitness n form b c.args.bound q =
    λ h. not_both c.is_witness.result c.if-is_witness.false (c.is_witness.ensures.1 (shape, subst (λ (z : ℤ). IsWitness n form b z q) (sym (to_z-of_z w128 c.args.bound wide)) h)) in
    record {
      shape = shape;
      point = is-raised n form b proof q scaled.least.positive adds met light c.args.bound (int_div_euclid (number n b proof) (pos proof.scale)) none
          (solved-named n form b p c.requires.program s one proof scaled) (c.is_narrow.ensures.narrow c.if-is_narrow.true) (sym (scaled-shows n b proof scaled.least.positive));
    }

pub returns-else-is_narrow-clause-run : goal.returns-else-is_narrow-clause-run
returns-else-is_narrow-clause-run c =
    let p = program_of c.args.leaf.now.program in
    let s = state_of c.args.tableau.now in
    let ends : EndsSolved p c.args.pivots s = record { comes = (c.requires.comes.steps, c.requires.comes.few, c.requires.comes.reaches); solved = c.requires.solved } in
    inl (s, ends, c.in_ok-proof.ensures.proof (net_of c.args.net.now) c.args.form c.requires.rows)
