use Rattle.std.proofs.Common.{◌≢◌, ◌<◌, pos, ◌*ℤ◌, length, arith, rules, ap, ◌∙◌, below_more, get_or-set_same, get_or-set_other, FitsSigned}
use Rattle.std.proofs.lemmas.Int.{to_z-of_z}
use mir.Syntax.{w64, w128}
use Rattle.row_book.proofs.multiplying.fill_costs.Goals as goal

pub loop-var-preserved : goal.loop-var-preserved
loop-var-preserved c =
    let cost : FitsSigned w64 c.var_cost.result = search rules in
    let value : FitsSigned w128 c.scaled.result = search rules in
    let lt : c.loop-var.var < length c.loop-var.rests = omega (arith, c.requires.places, c.flows-var-end.ensures.count, c.flows-var-end.ensures.among) in
    record {
      costs = below_more _ _
          (λ k h. let ne : k ≢ c.loop-var.var = omega arith in rw get_or-set_other (c.loop-var.invariant.costs k h))
          (rw get_or-set_same (simp to_z-of_z (simp to_z-of_z at c.scaled.ensures.value ∙ ap (λ z. pos c.args.scale *ℤ z) c.var_cost.ensures.cost)));
      small = below_more _ _
          (λ k h. let ne : k ≢ c.loop-var.var = omega arith in rw get_or-set_other (c.loop-var.invariant.small k h))
          (rw get_or-set_same (simp to_z-of_z c.scaled.ensures.small));
      zero = λ k past inside. let ne : k ≢ c.loop-var.var = omega arith in rw get_or-set_other (c.loop-var.invariant.zero k (omega arith) inside);
    }
