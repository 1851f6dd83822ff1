use Rattle.std.proofs.Common.{◌+◌}
use Rattle.exact_num.specs.Views.{shown_frac}
use Rattle.exact_pivots.specs.Entries.{factor_at}
use Rattle.exact_pivots.proofs.Entries.{below-more, next-is, next-none}
use Rattle.exact_pivots.proofs.Merged.{merged-step, merged-end}
use Rattle.exact_pivots.proofs.Told.{set_as}
use Rattle.exact_pivots.proofs.factors.Factors.changed.Goals as goal

pub push_changed-requires : goal.push_changed-requires
push_changed-requires c =
    let m = c.loop-column.invariant in
    let n = next-is c.loop-column.left.now c.loop-column.right.now m.0 c.in-Some.column m.1.left_rising m.1.right_rising c.in-Some.ensures in
    below-more c.loop-column.changed.entries.items m.0 c.in-Some.column n.least m.1.under

pub loop-column-preserved : goal.loop-column-preserved
loop-column-preserved c =
    let m = c.loop-column.invariant in
    let left = c.loop-column.left.now in
    let right = c.loop-column.right.now in
    let column = c.in-Some.column in
    let done = c.push_changed.new.self.entries.items in (
      column + 1,
      merged-step c.args.self.now.entries.items c.args.own.now.entries.items (shown_frac c.args.scale) c.args.entering left right c.loop-column.changed.entries.items
          c.taken.result.1.now c.taken-in-Some.result.1.now done m.0 column m.1
          (next-is left right m.0 column m.1.left_rising m.1.right_rising c.in-Some.ensures)
          c.taken.ensures.rising c.taken.ensures.rest c.taken-in-Some.ensures.rising c.taken-in-Some.ensures.rest
          c.in_ok-push_changed.ensures.under c.in_ok-push_changed.ensures.others c.in_ok-push_changed.ensures.entering
          (λ ne. set_as c.added.result (shown_frac c.taken.result.0) (shown_frac c.args.scale) (shown_frac c.taken-in-Some.result.0) (factor_at left column) (factor_at right column)
          (factor_at done column) (c.in_ok-push_changed.ensures.factor ne) c.added.ensures.sum c.taken.ensures.factor c.taken-in-Some.ensures.factor),
    )

pub returns-clause-others : goal.returns-clause-others
returns-clause-others c =
    let m = c.loop-column.invariant in
    let ends = next-none c.loop-column.left.now c.loop-column.right.now c.in_default.ensures in
    λ j ne. merged-end c.args.self.now.entries.items c.args.own.now.entries.items (shown_frac c.args.scale) c.args.entering c.loop-column.left.now c.loop-column.right.now
    c.loop-column.changed.entries.items m.0 m.1 ends.0 ends.1 j ne
