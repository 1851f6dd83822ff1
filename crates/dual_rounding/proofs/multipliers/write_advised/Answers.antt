use Rattle.std.proofs.Common.{rules, ◌≡◌, ◌+◌, ◌∷◌, ◌++◌, [], length, List, ℤ, FitsSigned, arith, ap, ◌∙◌, sym}
use Rattle.std.specs.Slice.Iter.{iter_rest}
use Rattle.std.specs.Iterator.Adapters.{zip_first, zip_second}
use Rattle.std.proofs.lemmas.List.{length-append}
use Rattle.std.proofs.lemmas.Slice.Zip.{zip_turn, zip_end, length-zip}
use Rattle.std.proofs.lemmas.Int.{to_z-of_z}
use mir.Syntax.{w64, w128}
use Rattle.row_model.specs.Multipliers.{Part}
use Rattle.dual_rounding.specs.Price.{nonzero}
use Rattle.dual_rounding.specs.Tried.{multiplier}
use Rattle.dual_rounding.proofs.Advised.{parts_before, parts-more, parts-all}
use Rattle.dual_rounding.proofs.multipliers.write_advised.Goals as goal

pub loop-row-preserved : goal.loop-row-preserved
loop-row-preserved c =
    let rows = c.args.lp.now.rows.items in
    let duals = c.args.advice.now.duals.items in
    let k = length c.loop-row.yielded in
    let row = c.in-Some.row.now in
    let dual = c.in-Some.dual.now in
    let fits : FitsSigned w128 dual = search rules in
    let mult_fits : FitsSigned w64 c.multiplier-mult.result = search rules in
    let turn = zip_turn rows duals c.loop-row.yielded c.into_iter-row-iterator.result c.loop-row.row-iterator c.next.new.self c.next.result
    (ap (λ s. iter_rest (zip_first s)) c.into_iter-row-iterator.ensures.into_iter_gives ∙ ap iter_rest c.zip-row-items.ensures.first ∙ c.iter.ensures.rest ∙ c.deref.ensures.value)
    (ap (λ s. iter_rest (zip_second s)) c.into_iter-row-iterator.ensures.into_iter_gives ∙ c.zip-row-items.ensures.second.0)
    c.loop-row.yielded_by (c.in-Some.row, c.in-Some.dual) c.in-Some.is c.next.ensures.steps in
    let long : length (c.loop-row.yielded ++ (c.in-Some.row, c.in-Some.dual) ∷ []) ≡ k + 1 = omega (arith, length-append c.loop-row.yielded ((c.in-Some.row, c.in-Some.dual) ∷ [])) in
    let mult : c.multiplier-mult.result ≡ multiplier c.args.scale row.equal dual =
    (simp to_z-of_z at c.multiplier-mult.ensures) ∙ ap (λ s. multiplier s row.equal dual) (sym c.requires.scale) in
    record {
      scale = c.loop-row.invariant.scale;
      parts = (simp to_z-of_z at c.in_ok-add_part.ensures)
          ∙ ap (λ (ps : List Part). ps ++ nonzero (record { row = row.id; mult = c.multiplier-mult.result } ∷ [])) c.loop-row.invariant.parts
          ∙ ap (λ (z : ℤ). parts_before c.args.scale rows duals k ++ nonzero (record { row = row.id; mult = z } ∷ [])) mult
          ∙ sym (ap (parts_before c.args.scale rows duals) long ∙ parts-more c.args.scale rows duals k row dual turn.0 turn.1 (turn.2 row) (turn.3 dual));
    }

pub returns : goal.returns
returns c =
    let rows = c.args.lp.now.rows.items in
    let duals = c.args.advice.now.duals.items in
    let ended = zip_end rows duals c.loop-row.yielded c.into_iter-row-iterator.result c.loop-row.row-iterator c.next.new.self c.next.result
    (ap (λ s. iter_rest (zip_first s)) c.into_iter-row-iterator.ensures.into_iter_gives ∙ ap iter_rest c.zip-row-items.ensures.first ∙ c.iter.ensures.rest ∙ c.deref.ensures.value)
    (ap (λ s. iter_rest (zip_second s)) c.into_iter-row-iterator.ensures.into_iter_gives ∙ c.zip-row-items.ensures.second.0)
    c.loop-row.yielded_by c.in-None.is c.next.ensures.steps in
    let parts = c.loop-row.invariant.parts ∙ parts-all c.args.scale rows duals (length c.loop-row.yielded) (omega (arith, ended, length-zip rows duals)) in
    λ i. record { scale = c.loop-row.invariant.scale i; parts = parts i }
