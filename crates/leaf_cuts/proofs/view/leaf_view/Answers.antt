use Rattle.std.proofs.Common.{◌≡◌, ℕ, ◌+◌, ◌<◌, List, map, sym, subst, rules}
use Rattle.std.specs.Prelude.{filter}
use Rattle.integers.specs.Numbers.{tabulate}
use Rattle.pool_model.specs.Network.{net_of}
use Rattle.row_model.specs.Boxes.{coords}
use Rattle.branching.specs.declared.view.CoordRow.{CoordRow}
use Rattle.leaf_cuts.specs.Views.{AreRowsOf}
use Rattle.leaf_cuts.proofs.FormCoords.{cuts_at, AreSoFar, so_far-push, so_far-pass, cut-off}
use Rattle.leaf_cuts.proofs.view.leaf_view.Goals as goal
use Rattle.leaf_cuts.proofs.view.leaf_view.Goals.{then-of_form+in_ok-push, else-of_form}

pub loop-coord-preserved : goal.loop-coord-preserved
loop-coord-preserved c =
    let n = net_of c.args.net.now in
    let splits = c.args.tree.now.kept.splits.list in
    let e = c.args.leaf.now.ends in
    let coord = c.loop-coord.coord in
    let rows = c.loop-coord.rows.items in
    elim c.if-of_form.branch [
      | then-of_form+in_ok-push w ↦
          rw w.rows-is (subst (λ (xs : List CoordRow). AreSoFar n c.args.form splits e (coord + 1) xs) (sym w.in_ok-push.ensures.items)
          (so_far-push n c.args.form splits e coord rows w.row_of.result c.loop-coord.invariant (c.of_form.ensures.0 w.if-of_form.true).1 w.row_of.ensures.coord w.row_of.ensures.row w.row_of.ensures.ends))
      | else-of_form w ↦
          let same : c.if-of_form.rows.items ≡ rows = cc in
          let there : coord < coords n = search rules in
          subst (λ (xs : List CoordRow). AreSoFar n c.args.form splits e (coord + 1) xs) (sym same)
          (so_far-pass n c.args.form splits e coord rows c.loop-coord.invariant (cut-off n c.args.form coord c.of_form.result there c.of_form.ensures w.if-of_form.false))
    ]

pub returns : goal.returns
returns c = λ b is.
    let n = net_of c.args.net.now in
    let splits = c.args.tree.now.kept.splits.list in
    let rows = c.loop-coord.rows.items in
    let so = c.loop-coord.invariant in
    let all : c.loop-coord.coord ≡ coords n = search rules in
    record {
      node = c.new.ensures.node;
      rows = subst (λ (xs : List CoordRow). AreRowsOf n c.args.form splits b xs) (sym c.new.ensures.rows) record {
        coords = subst (λ (k : ℕ). map (λ (r : CoordRow). r.coord) rows ≡ filter (cuts_at n c.args.form) (tabulate (λ i. i) k)) all so.coords;
        ends = λ i d h. so.ends i d h b is;
      };
    }
