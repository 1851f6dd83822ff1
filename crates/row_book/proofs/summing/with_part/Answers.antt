use Rattle.std.proofs.Common.{ℕ, ◌<◌, length, get_or, pos, ◌+ℤ◌, ◌*ℤ◌, unsigned_abs, FitsSigned, arith, rules, ap, ◌∙◌}
use Rattle.std.proofs.lemmas.Int.{to_z-of_z}
use Rattle.std.proofs.lemmas.Result.{err_from_is_err_and, IfOk-at_ok}
use mir.Syntax.{w64, w128}
use Rattle.integers.proofs.Ring.{additive}
use Rattle.pool_model.specs.Network.{net_of}
use Rattle.row_model.specs.Variables.{variables}
use Rattle.box_space.specs.Views.{shown_box}
use Rattle.row_book.specs.Passing.{HasRoom}
use Rattle.row_book.specs.Sizes.{coef_in, size_in}
use Rattle.row_book.proofs.Written.{written-known, written-small, written-coef, written-size, written-weight}
use Rattle.row_book.proofs.Parts.{size64, part_room, rest_small}
use Rattle.row_book.proofs.summing.with_part.Goals as goal

pub add_row-requires-clause-known : goal.add_row-requires-clause-known
add_row-requires-clause-known c = written-known (net_of c.args.net.now) (shown_box c.args.v.now) c.args.part.row c.args.row.now c.requires.written

pub add_row-requires-clause-small : goal.add_row-requires-clause-small
add_row-requires-clause-small c = written-small (net_of c.args.net.now) (shown_box c.args.v.now) c.args.part.row c.args.row.now c.requires.written

pub returns-in_err-add_row : goal.returns-in_err-add_row
returns-in_err-add_row c =
    let exit = err_from_is_err_and c.from_residual-in_err-add_row.result c.from_residual-in_err-add_row.ensures.1 in
    let mult : FitsSigned w64 c.args.part.mult = search rules in
    rw (c.in_ok-sums.was, exit.1) (omega (
      arith,
      simp to_z-of_z at c.in_err-add_row.ensures.wide,
      written-weight (net_of c.args.net.now) (shown_box c.args.v.now) c.args.part.row c.args.row.now c.requires.written c.args.part.mult,
    ))

pub add_row-requires-clause-room : goal.add_row-requires-clause-room
add_row-requires-clause-room c =
    let n = net_of c.args.net.now in
    let mult : FitsSigned w64 c.args.part.mult = search rules in
    let room = IfOk-at_ok (HasRoom n c.args.rests.now) c.in_ok-sums.was c.requires.room in
    simp to_z-of_z (λ i lt.
    let inside : i < variables n = omega (arith, c.requires.places) in
    part_room (unsigned_abs (get_or c.args.rests.now i (pos 0))) (unsigned_abs c.args.part.mult) (size_in c.args.row.now.terms i)
    (room.rests i inside) (size64 c.args.part.mult mult)
    (written-size n (shown_box c.args.v.now) c.args.part.row c.args.row.now c.requires.written i inside))

pub returns : goal.returns
returns c =
    let n = net_of c.args.net.now in
    let b = shown_box c.args.v.now in
    let q = c.args.part in
    let sums = c.in_ok-sums.sums in
    let mult : FitsSigned w64 q.mult = search rules in
    let constant : FitsSigned w128 c.constant.result = search rules in
    let kept : FitsSigned w128 sums.constants = search rules in
    let result : FitsSigned w128 c.more_product.result = search rules in
    let coef = written-coef n b q.row c.args.row.now c.requires.written in
    let place : (v : ℕ) → v < variables n → v < length c.args.rests.now = λ v lt. omega (arith, c.requires.places) in
    let taken = simp to_z-of_z at c.in_ok-add_row.ensures.taken in
    rw c.in_ok-sums.was (record {
      weight = omega (arith, simp to_z-of_z at c.in_ok-add_row.ensures.added, written-weight n b q.row c.args.row.now c.requires.written q.mult);
      narrow = c.in_ok-add_row.ensures.narrow;
      constants = simp to_z-of_z (simp to_z-of_z at c.more_product.ensures
          ∙ ap (λ z. sums.constants +ℤ q.mult *ℤ z) (c.constant.ensures ∙ c.requires.written.constant));
      rests = λ v lt. omega (arith, additive, taken v (place v lt), ap (λ z. q.mult *ℤ z) (coef v lt));
      small = λ v lt. rest_small _ (get_or c.args.rests.now v (pos 0)) q.mult (coef_in c.args.row.now.terms v) (taken v (place v lt)) (size64 q.mult mult)
          (omega (arith, ap unsigned_abs (coef v lt), c.requires.written.small v lt));
    })
