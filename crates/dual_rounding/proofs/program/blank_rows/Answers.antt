use Rattle.std.proofs.Common.{◌≡◌, ℕ, ◌<◌, ◌∷◌, ◌++◌, [], List, Vec, Global, map, true, arith, ap, ◌∙◌, sym}
use Rattle.std.proofs.lemmas.List.{map-append}
use Rattle.pool_model.specs.Network.{net_of}
use Rattle.row_model.specs.Catalogue.{rows}
use Rattle.linear_program.specs.declared.lp.LpRow.{LpRow}
use Rattle.dual_rounding.specs.Programs.{has_row}
use Rattle.dual_rounding.proofs.FormRows.{has_row-yes, has_row-no, passes_more, fails_more}
use Rattle.dual_rounding.proofs.program.blank_rows.Goals as goal
use Rattle.dual_rounding.proofs.program.blank_rows.Goals.{then-in_form+in_ok-push, else-in_form}

pub loop-id-preserved : goal.loop-id-preserved
loop-id-preserved c =
    let n = net_of c.args.net.now in
    let form = c.args.form in
    let id = c.loop-id.id in
    let lt : id < rows n = omega (arith, c.rows-id-end.ensures.count) in
    let numbers = λ (v : Vec LpRow Global). map (λ (r : LpRow). r.id) v.items in
    elim c.if-in_form.branch [
      | then-in_form+in_ok-push w ↦ ap numbers w.blanks-is
          ∙ ap (map (λ (r : LpRow). r.id)) w.in_ok-push.ensures.items
          ∙ map-append (λ (r : LpRow). r.id) c.loop-id.blanks.items _
          ∙ ap (λ (ids : List ℕ). ids ++ id ∷ []) c.loop-id.invariant
          ∙ sym (passes_more (has_row n form) id (has_row-yes n form id (c.in_form.ensures.0 w.if-in_form.true).1))
      | else-in_form w ↦ ap numbers w.blanks-is
          ∙ c.loop-id.invariant
          ∙ sym (fails_more (has_row n form) id (has_row-no n form id (λ t. let yes : c.in_form.result ≡ true = c.in_form.ensures.1 (lt, t) in cc)))
    ]
