use Rattle.std.proofs.Common.{◌≡◌, rules, pos, ◌+ℤ◌, FitsSigned, to_z, of_z, to_z-of_z, arith, refl, ◌∙◌}
use Rattle.std.proofs.lemmas.Int.{ints}
use mir.Syntax.{w128}
use Rattle.search_core.proofs.Nearness.{passes-all, far-above, near-from, near-to}
use Rattle.search_core.proofs.cases.is_near.Goals as goal

pub returns-in-None : goal.returns-in-None
returns-in-None c =
    let f : FitsSigned w128 c.args.cost.num = search rules in
    let out : ¬ FitsSigned w128 (c.args.bound +ℤ c.args.gap) = search rules in
    let p = passes-all c.args.cost.num c.args.bound c.args.gap f c.ranges.bound c.requires.gap out in
    (λ _. far-above c.args.cost.num c.args.bound c.args.gap (pos c.args.cost.base) p.0 p.1 (omega (arith, ints, c.requires.base)), λ _. refl)

pub returns-in-Some : goal.returns-in-Some
returns-in-Some c =
    let base = pos c.args.cost.base in
    let fits : FitsSigned w128 c.in-Some.most = search rules in
    let sum : c.in-Some.most ≡ c.args.bound +ℤ c.args.gap = search rules in
    let most = to_z w128 (of_z w128 c.in-Some.most) in
    let is = to_z-of_z fits ∙ sum in (
      λ t. near-from c.args.cost.num c.args.bound c.args.gap base most is (c.is_at_most.ensures.0 t),
      λ near. c.is_at_most.ensures.1 (near-to c.args.cost.num c.args.bound c.args.gap base most is near),
    )
