-- One node more, which no line names.
use Rattle.std.proofs.Common.{◌≡◌, ◌<◌, ◌+◌, ℕ, length, sym, ap, subst, ◌∙◌, arith, rules, FitsSigned, to_z-of_z}
use mir.Syntax.{w128}
use Rattle.proof_lines.specs.Judging.{AreJudged}
use Rattle.proof_lines.specs.Refusals.{node_at}
use Rattle.proof_lines.proofs.Going.{goes-on, added-long}
use Rattle.proof_lines.proofs.judge.Judge.go_on.Goals as goal

pub loop-at-preserved : goal.loop-at-preserved
loop-at-preserved c =
    let inv = c.loop-at.invariant in
    let added = c.in_ok-add.ensures.added in
    let lt : c.loop-at.at < c.args.node = omega (arith, c.loop-at-test.true) in (
      added-long c.args.tree.now.list _ _ c.loop-at.self c.add.new.self added ∙ ap (λ (i : ℕ). i + 1) inv.0,
      omega (arith, lt),
      c.add.ensures.next ∙ inv.2,
      c.add.ensures.scratch ∙ inv.3,
      λ n all is r rising judged above.
          goes-on n c.args.tree.now all c.loop-at.at _ c.loop-at.self c.add.new.self is (omega (arith, lt, c.requires.there)) r rising (inv.4 n all is r rising judged above)
          (λ h. let up = above (subst (λ (i : ℕ). i < length all) inv.2 h) in subst (λ (i : ℕ). c.loop-at.at < node_at all i) (sym inv.2) (omega (arith, up, lt)))
          added c.add.ensures.next c.add.ensures.scratch,
    )

pub returns-clause-judged : goal.returns-clause-judged
returns-clause-judged c = λ n all is r rising judged above.
    let inv = c.loop-at.invariant in
    let f : FitsSigned w128 c.args.reach = search rules in
    let last : c.loop-at.at ≡ c.args.node = omega (arith, inv.1, c.loop-at-test.false) in
    subst (λ (i : ℕ). AreJudged n c.args.tree.now.list all i c.loop-at.self) last (inv.4 n all is (to_z-of_z f ∙ r) rising judged above)
