use Rattle.std.proofs.Common.{◌≡◌, ◌≢◌, ◌<◌, ℕ, inl, inr, Bool, List, map, pos, sym, ap, subst, refl, arith}
use Rattle.std.proofs.lemmas.Result.{err_from_is_err_and}
use Rattle.exact_num.specs.Fraction.{Fraction}
use Rattle.exact_num.specs.Views.{shown_frac}
use Rattle.exact_num.specs.declared.frac.Frac.{Frac}
use Rattle.exact_run.specs.Programs.{columns}
use Rattle.exact_pivots.specs.Factors.{factors_of}
use Rattle.exact_pivots.specs.Views.{Shown, line_at, program_of, shown_line, state_of}
use Rattle.exact_pivots.proofs.Memory.{state_low}
use Rattle.common_denominators.specs.Multiples.{IsCoarseIn, IsCommonOf, StandsIn}
use Rattle.tight_leaf.specs.Parts.{AreMultipliers, is_turned, shown_multipliers}
use Rattle.tight_leaf.specs.Proofs.{IsMultiplierPast}
use Rattle.tight_leaf.specs.declared.proof.Multipliers.{Multipliers}
use Rattle.tight_leaf.proofs.EndFactors.{past-has, past-none, past-only}
use Rattle.tight_leaf.proofs.Parts.{coarse-is, least-is, parts-are, same-count}
use Rattle.tight_leaf.proofs.Stops.{stops-coarse}
use Rattle.tight_leaf.proofs.proof.empty_proof.Goals as goal

-- the multipliers of the same factors, with the same sign
made-as : (numbers : List ℕ) (first : ℕ) (a b : Bool) (f g : ℕ → Fraction) (ms : Multipliers) → a ≡ b → f ≡ g → AreMultipliers numbers first a f ms → AreMultipliers numbers first b g ms
made-as numbers first a b f g ms e h made = subst (λ (k : Bool). AreMultipliers numbers first k g ms) e (subst (λ (k : ℕ → Fraction). AreMultipliers numbers first a k ms) h made)

pub listed-requires-clause-under : goal.listed-requires-clause-under
listed-requires-clause-under c = λ j nz.
    let p = program_of c.args.leaf.now.program in
    let s = state_of c.args.tableau.now in
    let place = c.args.leaving.place in
    let tidy = c.requires.fits.tidy in
    let there = c.requires.empty.leaves.place in
    let line : shown_line c.line-line.result.now ≡ line_at c.args.tableau.now.lines.items place = c.line-line.ensures in
    let other : (s.factor place j).num ≢ pos 0 = subst (λ (x : Shown). (x.factor j).num ≢ pos 0) line nz in
    elim (tidy.lines place j there other) [
      | inl fr ↦ fr.among
      | inr e ↦ subst (λ (k : ℕ). k < columns p) (sym e) (tidy.columns place there)
    ]

pub parts_over-requires-clause-common : goal.parts_over-requires-clause-common
parts_over-requires-clause-common c = subst (λ (fs : List Frac). IsCommonOf (map shown_frac fs) c.in_ok-common.common) c.as_slice.ensures.value c.in_ok-common.ensures.common

pub parts_over-requires-clause-rows : goal.parts_over-requires-clause-rows
parts_over-requires-clause-rows c =
    same-count c.args.leaf.now.rows.items (program_of c.args.leaf.now.program).variables c.is_turned-turned.result (factors_of c.line-line.result.now.factors) c.in_ok-multipliers.multipliers
    c.in_ok-multipliers.ensures

pub returns-in_err-common-clause-stop : goal.returns-in_err-common-clause-stop
returns-in_err-common-clause-stop c =
    let p = program_of c.args.leaf.now.program in
    let s = state_of c.args.tableau.now in
    let tidy = c.requires.fits.tidy in
    let low = state_low c.args.tableau.now in
    let place = c.args.leaving.place in
    let side = c.args.leaving.side in
    let there = c.requires.empty.leaves.place in
    let ms = c.in_ok-multipliers.multipliers in
    let line : shown_line c.line-line.result.now ≡ line_at c.args.tableau.now.lines.items place = c.line-line.ensures in
    let made : AreMultipliers c.args.leaf.now.rows.items p.variables (is_turned side) (s.factor place) ms =
    made-as c.args.leaf.now.rows.items p.variables c.is_turned-turned.result (is_turned side) (factors_of c.line-line.result.now.factors) (s.factor place) ms
    c.is_turned-turned.ensures (ap (λ (x : Shown). x.factor) line) c.in_ok-multipliers.ensures in
    let e = c.in_err-common.field-0.0 in
    let exit = err_from_is_err_and c.from_residual-in_err-common.result c.from_residual-in_err-common.ensures.1 in
    let known : IsCoarseIn (StandsIn (shown_multipliers ms)) e.times (shown_frac e.fraction) =
    subst (λ (fs : List Frac). IsCoarseIn (StandsIn (map shown_frac fs)) e.times (shown_frac e.fraction)) c.as_slice.ensures.value c.in_err-common.ensures.listed in
    rw (exit.1, exit.2) (
      c.in_err-common.ensures.coarse,
      coarse-is c.args.leaf.now.rows.items p.variables (is_turned side) (s.factor place) ms (IsMultiplierPast p s place side) made
          (λ r lt nz. past-has p s tidy low place side there r (omega (arith, lt, c.requires.rows)) nz)
          (λ r x h nz. let o = past-only p s tidy low place side there r x h nz in (omega (arith, o.0, c.requires.rows), o.1, o.2))
          (past-none p s tidy low place side there) e.times (shown_frac e.fraction) known,
    )

pub returns-in_err-parts-clause-stop : goal.returns-in_err-parts-clause-stop
returns-in_err-parts-clause-stop c =
    let p = program_of c.args.leaf.now.program in
    let s = state_of c.args.tableau.now in
    let tidy = c.requires.fits.tidy in
    let low = state_low c.args.tableau.now in
    let place = c.args.leaving.place in
    let side = c.args.leaving.side in
    let there = c.requires.empty.leaves.place in
    let ms = c.in_ok-multipliers.multipliers in
    let line : shown_line c.line-line.result.now ≡ line_at c.args.tableau.now.lines.items place = c.line-line.ensures in
    let made : AreMultipliers c.args.leaf.now.rows.items p.variables (is_turned side) (s.factor place) ms =
    made-as c.args.leaf.now.rows.items p.variables c.is_turned-turned.result (is_turned side) (factors_of c.line-line.result.now.factors) (s.factor place) ms
    c.is_turned-turned.ensures (ap (λ (x : Shown). x.factor) line) c.in_ok-multipliers.ensures in
    let exit = err_from_is_err_and c.from_residual-in_err-parts.result c.from_residual-in_err-parts.ensures.1 in
    rw (exit.1, exit.2)
    (stops-coarse (IsCoarseIn (StandsIn (shown_multipliers ms))) (IsCoarseIn (IsMultiplierPast p s place side))
    (λ times x known.
    coarse-is c.args.leaf.now.rows.items p.variables (is_turned side) (s.factor place) ms (IsMultiplierPast p s place side) made
    (λ r lt nz. past-has p s tidy low place side there r (omega (arith, lt, c.requires.rows)) nz)
    (λ r x h nz. let o = past-only p s tidy low place side there r x h nz in (omega (arith, o.0, c.requires.rows), o.1, o.2))
    (past-none p s tidy low place side there) times x known)
    c.in_err-parts.field-0.0 c.in_err-parts.ensures.stop)

pub returns-clause-proof : goal.returns-clause-proof
returns-clause-proof c n form is =
    let p = program_of c.args.leaf.now.program in
    let s = state_of c.args.tableau.now in
    let tidy = c.requires.fits.tidy in
    let low = state_low c.args.tableau.now in
    let place = c.args.leaving.place in
    let side = c.args.leaving.side in
    let there = c.requires.empty.leaves.place in
    let ms = c.in_ok-multipliers.multipliers in
    let line : shown_line c.line-line.result.now ≡ line_at c.args.tableau.now.lines.items place = c.line-line.ensures in
    let made : AreMultipliers c.args.leaf.now.rows.items p.variables (is_turned side) (s.factor place) ms =
    made-as c.args.leaf.now.rows.items p.variables c.is_turned-turned.result (is_turned side) (factors_of c.line-line.result.now.factors) (s.factor place) ms
    c.is_turned-turned.ensures (ap (λ (x : Shown). x.factor) line) c.in_ok-multipliers.ensures in
    let common : IsCommonOf (shown_multipliers ms) c.in_ok-common.common =
    subst (λ (fs : List Frac). IsCommonOf (map shown_frac fs) c.in_ok-common.common) c.as_slice.ensures.value c.in_ok-common.ensures.common in
    record {
      scale = refl;
      times = c.in_ok-common.common;
      least = least-is c.args.leaf.now.rows.items p.variables (is_turned side) (s.factor place) ms (IsMultiplierPast p s place side) made
          (λ r lt nz. past-has p s tidy low place side there r (omega (arith, lt, c.requires.rows)) nz)
          (λ r x h nz. let o = past-only p s tidy low place side there r x h nz in (omega (arith, o.0, c.requires.rows), o.1, o.2))
          (past-none p s tidy low place side there) c.in_ok-common.common common;
      parts = parts-are c.args.leaf.now.rows.items p.variables (is_turned side) (s.factor place) ms (IsMultiplierPast p s place side) made
          (λ r lt nz. past-has p s tidy low place side there r (omega (arith, lt, c.requires.rows)) nz)
          (λ r x h nz. let o = past-only p s tidy low place side there r x h nz in (omega (arith, o.0, c.requires.rows), o.1, o.2))
          (past-none p s tidy low place side there) n form is c.in_ok-common.common c.in_ok-parts.parts.items c.in_ok-parts.ensures.parts 0;
    }
