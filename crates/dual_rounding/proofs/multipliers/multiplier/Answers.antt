use Rattle.std.proofs.Common.{rules, ◌∙◌, FitsSigned}
use Rattle.std.proofs.lemmas.Int.{to_z-of_z}
use Rattle.std.specs.Int.{int_shr}
use mir.Syntax.{w64, w128}
use Rattle.dual_rounding.proofs.Scaled.{multiplier-fits, multiplier-wide, shr-fits}
use Rattle.dual_rounding.proofs.multipliers.multiplier.Goals as goal

pub returns-in-Ok : goal.returns-in-Ok
returns-in-Ok c =
    let result : FitsSigned w64 c.signed.result = search rules in
    let mult : FitsSigned w64 c.in-Ok.mult = search rules in
    let dual : FitsSigned w128 c.args.dual = search rules in
    let shifted : FitsSigned w128 (int_shr c.args.dual c.args.shift) = shr-fits c.args.dual c.args.shift dual in
    simp to_z-of_z (
    (simp to_z-of_z at c.signed.ensures)
    ∙ multiplier-fits c.args.shift c.args.is_equal c.args.dual c.in-Ok.mult c.requires (simp to_z-of_z at (c.in-Ok.ensures.0)) (simp to_z-of_z at (c.in-Ok.ensures.1))
    )

pub returns-in-Err : goal.returns-in-Err
returns-in-Err c =
    let dual : FitsSigned w128 c.args.dual = search rules in
    let shifted : FitsSigned w128 (int_shr c.args.dual c.args.shift) = shr-fits c.args.dual c.args.shift dual in
    multiplier-wide c.args.shift c.args.is_equal c.args.dual c.requires (simp to_z-of_z at c.in-Err.ensures)
