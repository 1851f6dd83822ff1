use Rattle.std.proofs.Common.{◌≡◌, map, get_or, None, Some, FitsSigned, rules}
use Rattle.std.proofs.lemmas.Int.{to_z-of_z}
use mir.Syntax.{w64}
use Rattle.blend_network.specs.Views.{shown_limit}
use Rattle.blend_network.proofs.LimitLists.{limit_more, limit_none}
use Rattle.blend_network.proofs.network.limits.add_limits.Goals as goal
use Rattle.blend_network.proofs.network.limits.add_limits.Goals.{in-Some+in_ok-push, in_default}

pub loop-quality-preserved : goal.loop-quality-preserved
loop-quality-preserved c =
    let old = map shown_limit c.args.limits.now.items in
    elim c.match-values-quality.branch [
      | in-Some+in_ok-push w ↦
          let fits : FitsSigned w64 w.in-Some.limit = search rules in
          let set : get_or c.args.values.now c.loop-quality.quality None ≡ Some w.in-Some.limit = search rules in
          rw w.limits-is (limit_more c.args.values.now c.args.product c.loop-quality.quality w.in-Some.limit
          c.loop-quality.limits.items w.push.new.self.items old c.loop-quality.invariant set
          (simp to_z-of_z at w.in_ok-push.ensures.items))
      | in_default w ↦ rw w.limits-is (limit_none c.args.values.now c.args.product c.loop-quality.quality c.loop-quality.limits.items old c.loop-quality.invariant (search rules))
    ]
