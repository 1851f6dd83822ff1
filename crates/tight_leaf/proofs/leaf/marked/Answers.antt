use Rattle.std.proofs.Common.{Option, Some, None, ℤ, sym, subst, option_map, IfOk, IfErr, Bor, FitsSigned, to_z, of_z, rules}
use Rattle.std.proofs.lemmas.Int.{to_z-of_z}
use Rattle.std.proofs.lemmas.Result.{IfErr-weaker, IfOk-weaker}
use mir.Syntax.{w128}
use Rattle.pool_model.specs.Network.{net_of}
use Rattle.box_space.specs.Views.{shown_box}
use Rattle.plan_core.specs.Views.{shown_plan}
use Rattle.plan_core.specs.declared.plan.WrittenPlan.{WrittenPlan}
use Rattle.tight_leaf.specs.Ends.{ComesOf, IsBoxMark, IsBoxStop, IsPlanAnswer, IsStop}
use Rattle.leaf_marks.specs.declared.mark.Mark.TheVariants.{Tight}
use Rattle.tight_leaf.proofs.LeafComes.{comes-decided, comes-run, stop-run}
use Rattle.tight_leaf.proofs.leaf.marked.Goals.{in-Some+in_ok-point+in_default-2, in_default}
use Rattle.tight_leaf.proofs.leaf.marked.Goals as goal

pub returns-in-Some-2-clause-comes : goal.returns-in-Some-2-clause-comes
returns-in-Some-2-clause-comes c =
    let n = net_of c.args.net.now in
    let b = shown_box c.args.v.now in
    let form = c.args.form in
    let p = shown_plan c.in-Some.plan.now in
    let point = c.in-Some-2.point in
    let wide : FitsSigned w128 c.args.bound = search rules in
    let found : IsPlanAnswer n form b (to_z w128 (of_z w128 c.args.bound)) p (Some point) =
    subst (IsPlanAnswer n form b (to_z w128 (of_z w128 c.args.bound)) p) c.in-Some-2.is c.in_ok-point.ensures in
    let answer : IsPlanAnswer n form b c.args.bound p (Some point) = subst (λ (z : ℤ). IsPlanAnswer n form b z p (Some point)) (to_z-of_z w128 c.args.bound wide) found in
    subst (λ (o : Option (Bor WrittenPlan)). ComesOf n form b c.args.bound (option_map (λ w. shown_plan w.now) o) c.args.pivots (Tight point)) (sym c.in-Some.is)
    (comes-decided n form b c.args.bound p c.args.pivots point answer)

pub returns-clause-comes : goal.returns-clause-comes
returns-clause-comes c =
    let n = net_of c.args.net.now in
    let b = shown_box c.args.v.now in
    let form = c.args.form in
    let wide : FitsSigned w128 c.args.bound = search rules in
    elim c.match-plan.branch [
      | in-Some+in_ok-point+in_default-2 w ↦
          let p = shown_plan w.in-Some.plan.now in
          let found : IsPlanAnswer n form b (to_z w128 (of_z w128 c.args.bound)) p None =
          subst (IsPlanAnswer n form b (to_z w128 (of_z w128 c.args.bound)) p) w.in_default-2.is w.in_ok-point.ensures in
          let none : IsPlanAnswer n form b c.args.bound p None = subst (λ (z : ℤ). IsPlanAnswer n form b z p None) (to_z-of_z w128 c.args.bound wide) found in
          subst (λ (o : Option (Bor WrittenPlan)). IfOk c.by_run.result (ComesOf n form b c.args.bound (option_map (λ w. shown_plan w.now) o) c.args.pivots)) (sym w.in-Some.is)
          (IfOk-weaker c.by_run.result (IsBoxMark n form b c.args.pivots) (ComesOf n form b c.args.bound (Some p) c.args.pivots)
          (λ mark h. comes-run n form b c.args.bound p c.args.pivots mark none h) c.by_run.ensures.comes)
      | in_default w ↦
          subst (λ (o : Option (Bor WrittenPlan)). IfOk c.by_run.result (ComesOf n form b c.args.bound (option_map (λ w. shown_plan w.now) o) c.args.pivots)) (sym w.in_default.is) c.by_run.ensures.comes
    ]

pub returns-clause-stop : goal.returns-clause-stop
returns-clause-stop c =
    let n = net_of c.args.net.now in
    let b = shown_box c.args.v.now in
    let form = c.args.form in
    let wide : FitsSigned w128 c.args.bound = search rules in
    elim c.match-plan.branch [
      | in-Some+in_ok-point+in_default-2 w ↦
          let p = shown_plan w.in-Some.plan.now in
          let found : IsPlanAnswer n form b (to_z w128 (of_z w128 c.args.bound)) p None =
          subst (IsPlanAnswer n form b (to_z w128 (of_z w128 c.args.bound)) p) w.in_default-2.is w.in_ok-point.ensures in
          let none : IsPlanAnswer n form b c.args.bound p None = subst (λ (z : ℤ). IsPlanAnswer n form b z p None) (to_z-of_z w128 c.args.bound wide) found in
          subst (λ (o : Option (Bor WrittenPlan)). IfErr c.by_run.result (IsStop n form b c.args.bound (option_map (λ w. shown_plan w.now) o) c.args.pivots)) (sym w.in-Some.is)
          (IfErr-weaker c.by_run.result (IsBoxStop n form b c.args.pivots) (IsStop n form b c.args.bound (Some p) c.args.pivots)
          (λ stop h. stop-run n form b c.args.bound p c.args.pivots stop none h) c.by_run.ensures.stop)
      | in_default w ↦
          subst (λ (o : Option (Bor WrittenPlan)). IfErr c.by_run.result (IsStop n form b c.args.bound (option_map (λ w. shown_plan w.now) o) c.args.pivots)) (sym w.in_default.is) c.by_run.ensures.stop
    ]
